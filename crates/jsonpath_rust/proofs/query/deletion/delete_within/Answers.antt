use Rattle.std.proofs.lemmas.Result.{err_from_is_err_and}
use Rattle.jsonpath_base.specs.Prelude.Documents.{value_document, value_tree}
use Rattle.jsonpath_rust.specs.Prelude.Selection.{prepared_view, runner_view}
use Rattle.jsonpath_base.proofs.Views.{whole_distinct}
use Rattle.jsonpath_rust.proofs.ByText.{by_text, by_refusal}
use Rattle.jsonpath_rust.proofs.NormalChanges.{normal_deleted}
use Rattle.jsonpath_rust.proofs.query.deletion.delete_within.Goals as goal

pub returns-clause-deleted : goal.returns-clause-deleted
returns-clause-deleted c =
    let done = c.delete in
    let doc = value_document c.args.value.now in
    let q = runner_view c.runner.result in
    by_text _ c.args.path.now (prepared_view c.in_ok-query.query) q doc _ _ done.result c.runner.ensures c.in_ok-query.ensures.query c.in_ok-query.ensures.complete c.in_ok-query.ensures.normal
    (λ l n is same told. normal_deleted l q doc (value_tree done.new.value) n (whole_distinct c.args.value.now c.requires) same told) done.ensures.deleted.outcome done.ensures.deleted.refused

pub returns-in_err-query-clause-deleted : goal.returns-in_err-query-clause-deleted
returns-in_err-query-clause-deleted c =
    let p = err_from_is_err_and c.from_residual.result c.from_residual.ensures.1 in
    rw (p.1, p.2) (by_refusal _ _ _ _ _ c.in_err-query.field-0.0 c.in_err-query.ensures.complete c.in_err-query.ensures.normal c.in_err-query.ensures.refused)
