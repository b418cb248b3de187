use Rattle.std.proofs.Common.{◌∙◌, rules}
use Rattle.jsonpath_base.specs.Prelude.Documents.{nodelist}
use Rattle.jsonpath_rust.specs.Prelude.Documents.{document_at}
use Rattle.jsonpath_rust.specs.Prelude.Selection.{runner_view}
use Rattle.jsonpath_rust.proofs.laws.selection.{given_values, values_answered}
use Rattle.jsonpath_rust.proofs.selection.runner.Runner.values.Goals as goal

pub returns : goal.returns
returns g c =
    let tree = g.T.Queryable.tree in
    let q = runner_view c.args.self.now in
    let doc = document_at c.args.value in
    let values = values_answered q doc _ (g.met.T.Queryable.distinct c.args.value.value.now c.args.value.whole) (c.into_values.ensures ∙ given_values (λ x. tree x.now) c.new.result.list.items _ (nodelist q doc) c.new.ensures c.in_ok-sink.ensures.outcome) in
    record { outcome = record { values = values; whole = search rules }; refused = tt; same = search rules }
