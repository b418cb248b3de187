use Rattle.std.proofs.Common.{map}
use Rattle.std.proofs.lemmas.Result.{err_from_is_err_and}
use Rattle.jsonpath_base.specs.Prelude.Documents.{document_of}
use Rattle.jsonpath_rust.specs.Prelude.Selection.{prepared_view, runner_view}
use Rattle.jsonpath_rust.proofs.ByText.{by_text, by_refusal}
use Rattle.jsonpath_rust.proofs.NormalPaths.{only_value}
use Rattle.jsonpath_rust.proofs.query.js_path_vals.Goals as goal

pub returns : goal.returns
returns g c =
    let tree = g.T.Queryable.tree in
    let doc = document_of tree g.T.Queryable.custom c.args.value.now in
    let q = runner_view c.runner.result in
    by_text _ c.args.path.now (prepared_view c.in_ok-query.query) q doc _ _ c.values.result c.runner.ensures c.in_ok-query.ensures.query c.in_ok-query.ensures.complete (λ l is small deep. c.in_ok-query.ensures.normal l is small) (λ l x is same told. only_value l doc q (map (λ v. tree v.now) x.items) same told.values) c.values.ensures.outcome c.values.ensures.refused

pub returns-in_err-query : goal.returns-in_err-query
returns-in_err-query g c =
    let p = err_from_is_err_and c.from_residual.result c.from_residual.ensures.1 in
    rw (p.1, p.2) (by_refusal _ _ _ _ _ c.in_err-query.field-0.0 c.in_err-query.ensures.complete (λ l is small deep. c.in_err-query.ensures.normal l is small) c.in_err-query.ensures.refused)
