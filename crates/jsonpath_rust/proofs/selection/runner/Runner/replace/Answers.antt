use Rattle.std.proofs.Common.{ap, ◌∙◌, rules}
use Rattle.jsonpath_base.specs.Prelude.Documents.{overwritten, value_document, value_tree}
use Rattle.jsonpath_rust.specs.Prelude.Selection.{runner_view}
use Rattle.jsonpath_rust.proofs.Stops.{memory_stops}
use Rattle.jsonpath_rust.proofs.selection.runner.Runner.replace.Goals as goal

pub returns-in-Ok-clause-replaced : goal.returns-in-Ok-clause-replaced
returns-in-Ok-clause-replaced g c =
    let replaced = c.in-Ok.ensures.replaced ∙ ap (λ s. overwritten s (value_tree c.args.new.now) (value_tree c.args.value.now)) c.in_ok-marked.ensures.set in
    record { outcome = record { replaced = replaced; counted = c.count.ensures ∙ c.in_ok-marked.ensures.count }; refused = tt; same = search rules }

pub returns-clause-replaced : goal.returns-clause-replaced
returns-clause-replaced g c =
    record { outcome = tt; refused = memory_stops g.L.Limit.counts g.L.Limit.stops (runner_view c.args.self.now) (value_document c.args.value.now) c.error.result c.error.ensures; same = search rules }
