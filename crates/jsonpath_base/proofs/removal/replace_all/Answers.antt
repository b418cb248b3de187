use Rattle.std.proofs.Common.{ap, ◌∙◌}
use Rattle.jsonpath_base.specs.Prelude.{overwritten, value_tree}
use Rattle.jsonpath_base.proofs.removal.replace_all.Goals as goal

pub returns-clause-replaced : goal.returns-clause-replaced
returns-clause-replaced c =
    c.in_ok-replace_in.ensures.replaced ∙ ap (λ s. overwritten s (value_tree c.args.new.now) (value_tree c.args.value.now)) c.in_ok-removal.ensures.set
