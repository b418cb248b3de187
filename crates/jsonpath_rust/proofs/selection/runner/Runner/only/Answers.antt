use Rattle.std.proofs.Common.{◌∙◌, rules}
use Rattle.jsonpath_base.specs.Prelude.Documents.{nodelist}
use Rattle.jsonpath_rust.specs.Prelude.Documents.{document_at}
use Rattle.jsonpath_rust.specs.Prelude.Selection.{runner_view}
use Rattle.jsonpath_rust.proofs.laws.selection.{given_few, only_answered}
use Rattle.jsonpath_rust.proofs.selection.runner.Runner.only.Goals as goal

pub returns : goal.returns
returns g c =
    let tree = g.T.Queryable.tree in
    let q = runner_view c.args.self.now in
    let doc = document_at c.args.value in
    let nodes = c.into_nodes.ensures ∙ given_few _ _ 2 (nodelist q doc) c.first.ensures c.in_ok-sink.ensures.outcome in
    let only = only_answered tree q doc c.into_only.result _ (g.met.T.Queryable.distinct c.args.value.value.now c.args.value.whole) nodes c.into_only.ensures.complete in
    record { outcome = record { only = only; whole = search rules }; refused = tt; same = search rules }
