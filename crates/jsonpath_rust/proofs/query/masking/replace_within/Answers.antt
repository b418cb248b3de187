use Rattle.std.proofs.lemmas.Result.{err_from_is_err_and}
use Rattle.jsonpath_base.specs.Prelude.Documents.{value_document, value_tree}
use Rattle.jsonpath_rust.specs.Prelude.Selection.{prepared_view, runner_view}
use Rattle.jsonpath_base.proofs.Views.{whole_distinct}
use Rattle.jsonpath_rust.proofs.ByText.{by_text, by_refusal}
use Rattle.jsonpath_rust.proofs.NormalChanges.{normal_replaced}
use Rattle.jsonpath_rust.proofs.query.masking.replace_within.Goals as goal

pub returns-clause-replaced : goal.returns-clause-replaced
returns-clause-replaced c =
    let done = c.replace in
    let doc = value_document c.args.value.now in
    let q = runner_view c.runner.result in
    by_text _ c.args.path.now (prepared_view c.in_ok-query.query) q doc _ _ done.result c.runner.ensures c.in_ok-query.ensures.query c.in_ok-query.ensures.complete c.in_ok-query.ensures.normal
    (λ l n is same told. normal_replaced l q doc (value_tree c.args.new.now) (value_tree done.new.value) n (whole_distinct c.args.value.now c.requires.value_whole) same told) done.ensures.replaced.outcome done.ensures.replaced.refused

pub returns-in_err-query-clause-replaced : goal.returns-in_err-query-clause-replaced
returns-in_err-query-clause-replaced c =
    let p = err_from_is_err_and c.from_residual.result c.from_residual.ensures.1 in
    rw (p.1, p.2) (by_refusal _ _ _ _ _ c.in_err-query.field-0.0 c.in_err-query.ensures.complete c.in_err-query.ensures.normal c.in_err-query.ensures.refused)
