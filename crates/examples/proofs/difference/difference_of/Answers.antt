use Rattle.std.proofs.Common.{map, subst, ◌∙◌}
use Rattle.std.specs.List.{AllZip}
use Rattle.jsonpath_rust.specs.Answer.{IsValueAt}
use Rattle.jsonpath_rust.specs.View.{query_view}
use Rattle.jsonpath_rust.specs.Document.{document_of}
use Rattle.jsonpath_rust.specs.Meaning.{selected}
use Rattle.examples.specs.Difference.{values_of}
use Rattle.examples.proofs.Differing.{values_lent, same_as, different_as, no_difference}
use Rattle.examples.proofs.difference.difference_of.Goals as goal

pub returns-clause-same : goal.returns-clause-same
returns-clause-same g c =
    let tree = g.T.Queryable.tree in
    let q = c.args.query.now in let doc = document_of tree g.T.Queryable.custom c.args.document.value.now in
    let p = c.args.other_query.now in let other = document_of tree g.T.Queryable.custom c.args.other.value.now in
    let values = subst (λ s. AllZip (IsValueAt doc) (selected s doc) (map (λ v. tree v.now) c.in_ok-values.values.items)) (c.runner.ensures ∙ c.in_ok-prepared.ensures.query) c.in_ok-values.ensures.outcome.values in
    let others = subst (λ s. AllZip (IsValueAt other) (selected s other) (map (λ v. tree v.now) c.in_ok-others.others.items)) (c.runner-2.ensures ∙ c.in_ok-other_prepared.ensures.query) c.in_ok-others.ensures.outcome.values in
    let left = values_lent (λ v. tree v.now) doc (selected (query_view q) doc) c.in_ok-values.values.items c.deref.result.now values c.deref.ensures.value in
    let right = values_lent (λ v. tree v.now) other (selected (query_view p) other) c.in_ok-others.others.items c.deref-2.result.now others c.deref-2.ensures.value in
    (same_as (values_of q doc) (values_of p other) (map (λ v. tree v.now) c.deref.result.now) (map (λ v. tree v.now) c.deref-2.result.now) c.first_difference.result left right c.first_difference.ensures.same)

pub returns-clause-different : goal.returns-clause-different
returns-clause-different g c =
    let tree = g.T.Queryable.tree in
    let q = c.args.query.now in let doc = document_of tree g.T.Queryable.custom c.args.document.value.now in
    let p = c.args.other_query.now in let other = document_of tree g.T.Queryable.custom c.args.other.value.now in
    let values = subst (λ s. AllZip (IsValueAt doc) (selected s doc) (map (λ v. tree v.now) c.in_ok-values.values.items)) (c.runner.ensures ∙ c.in_ok-prepared.ensures.query) c.in_ok-values.ensures.outcome.values in
    let others = subst (λ s. AllZip (IsValueAt other) (selected s other) (map (λ v. tree v.now) c.in_ok-others.others.items)) (c.runner-2.ensures ∙ c.in_ok-other_prepared.ensures.query) c.in_ok-others.ensures.outcome.values in
    let left = values_lent (λ v. tree v.now) doc (selected (query_view q) doc) c.in_ok-values.values.items c.deref.result.now values c.deref.ensures.value in
    let right = values_lent (λ v. tree v.now) other (selected (query_view p) other) c.in_ok-others.others.items c.deref-2.result.now others c.deref-2.ensures.value in
    (different_as (values_of q doc) (values_of p other) (map (λ v. tree v.now) c.deref.result.now) (map (λ v. tree v.now) c.deref-2.result.now) c.first_difference.result left right c.first_difference.ensures.different)

pub returns-clause-complete : goal.returns-clause-complete
returns-clause-complete g c alike =
    let tree = g.T.Queryable.tree in
    let doc = document_of tree g.T.Queryable.custom c.args.document.value.now in let other = document_of tree g.T.Queryable.custom c.args.other.value.now in
    no_difference (values_of c.args.query.now doc) (values_of c.args.other_query.now other) c.first_difference.result (returns-clause-different g c) alike
