use Rattle.std.proofs.Common.{ap, ◌∙◌}
use Rattle.jsonpath_base.specs.Prelude.{value_tree, without}
use Rattle.jsonpath_base.proofs.removal.remove_all.Goals as goal

pub returns-clause-removed : goal.returns-clause-removed
returns-clause-removed c = c.remove_from.ensures.removed ∙ ap (λ s. without s (value_tree c.args.value.now)) c.in_ok-removal.ensures.set
