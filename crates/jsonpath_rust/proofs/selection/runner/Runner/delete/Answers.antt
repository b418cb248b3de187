use Rattle.std.proofs.Common.{ap, ◌∙◌, rules}
use Rattle.jsonpath_base.specs.Prelude.Documents.{value_tree, without}
use Rattle.jsonpath_rust.proofs.selection.runner.Runner.delete.Goals as goal

pub returns-clause-deleted : goal.returns-clause-deleted
returns-clause-deleted g c =
    let removed = c.remove_from.ensures.removed ∙ ap (λ s. without s (value_tree c.args.value.now)) c.in_ok-marked.ensures.set in
    record { outcome = record { removed = removed; counted = c.count.ensures ∙ c.in_ok-marked.ensures.count }; refused = tt; same = search rules }
