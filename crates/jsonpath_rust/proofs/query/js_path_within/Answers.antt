use Rattle.std.proofs.lemmas.Result.{err_from_is_err_and}
use Rattle.jsonpath_base.specs.Prelude.Documents.{document_of, shown}
use Rattle.jsonpath_rust.specs.Prelude.Selection.{prepared_view, runner_view}
use Rattle.jsonpath_rust.proofs.ByText.{by_text, by_refusal}
use Rattle.jsonpath_rust.proofs.NormalPaths.{only_node}
use Rattle.jsonpath_rust.proofs.query.js_path_within.Goals as goal

pub returns : goal.returns
returns g c =
    let tree = g.T.Queryable.tree in
    let doc = document_of tree g.T.Queryable.custom c.args.value.now in
    let q = runner_view c.runner.result in
    by_text _ c.args.path.now (prepared_view c.in_ok-query.query) q doc _ _ c.nodes.result c.runner.ensures c.in_ok-query.ensures.query c.in_ok-query.ensures.complete c.in_ok-query.ensures.normal (λ l x is same told. only_node l doc q c.args.path.now (shown tree x.items) is same told.nodes) c.nodes.ensures.outcome c.nodes.ensures.refused

pub returns-in_err-query : goal.returns-in_err-query
returns-in_err-query g c =
    let p = err_from_is_err_and c.from_residual.result c.from_residual.ensures.1 in
    rw (p.1, p.2) (by_refusal _ _ _ _ _ c.in_err-query.field-0.0 c.in_err-query.ensures.complete c.in_err-query.ensures.normal c.in_err-query.ensures.refused)
