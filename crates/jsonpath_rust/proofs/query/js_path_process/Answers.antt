use Rattle.std.proofs.Common.{IfOk, subst, sym, ◌∙◌}
use Rattle.std.proofs.lemmas.Result.{IfOk-weaker}
use Rattle.jsonpath_base.specs.Prelude.Documents.{AllZip, AreNodes, document_of, IsNodeAt, query_view, selected, shown}
use Rattle.jsonpath_rust.proofs.laws.states.{typed-nodes}
use Rattle.jsonpath_rust.proofs.query.js_path_process.Goals as goal

pub returns-in_ok-prepared-clause-processed : goal.returns-in_ok-prepared-clause-processed
returns-in_ok-prepared-clause-processed g c =
    let tree = g.T.Queryable.tree in
    let q = query_view c.args.path.now in
    let doc = document_of tree g.T.Queryable.custom c.args.value.now in
    let outcome = subst (λ s. IfOk c.nodes.result (AreNodes g.T.Queryable doc s)) (c.runner.ensures ∙ c.in_ok-prepared.ensures.query) c.nodes.ensures.outcome in
    let nodes = IfOk-weaker c.nodes.result (AreNodes g.T.Queryable doc q) (λ v. AllZip (IsNodeAt doc) (selected q doc) (shown tree v.items)) (λ v h. h.nodes) outcome in
    typed-nodes (λ v. shown tree v.items) q doc c.nodes.result (g.met.T.Queryable.distinct c.args.value.now c.requires) (sym c.is_typed.ensures ∙ c.if-is_typed.true) nodes
