use Rattle.std.proofs.Common.{IfOk, map, subst, sym, ◌∙◌}
use Rattle.std.proofs.lemmas.Result.{IfOk-weaker}
use Rattle.jsonpath_base.specs.Prelude.Documents.{AllZip, AreValues, document_of, IsValueAt, query_view, selected}
use Rattle.jsonpath_rust.proofs.laws.states.{typed-values}
use Rattle.jsonpath_rust.proofs.query.js_path_process_vals.Goals as goal

pub returns-in_ok-prepared-clause-processed : goal.returns-in_ok-prepared-clause-processed
returns-in_ok-prepared-clause-processed g c =
    let tree = g.T.Queryable.tree in
    let q = query_view c.args.query.now in
    let doc = document_of tree g.T.Queryable.custom c.args.value.now in
    let outcome = subst (λ s. IfOk c.values.result (AreValues g.T.Queryable doc s)) (c.runner.ensures ∙ c.in_ok-prepared.ensures.query) c.values.ensures.outcome in
    let values = IfOk-weaker c.values.result (AreValues g.T.Queryable doc q) (λ v. AllZip (IsValueAt doc) (selected q doc) (map (λ x. tree x.now) v.items)) (λ v h. h.values) outcome in
    typed-values (λ v. map (λ x. tree x.now) v.items) q doc c.values.result (g.met.T.Queryable.distinct c.args.value.now c.requires) (sym c.is_typed.ensures ∙ c.if-is_typed.true) values
