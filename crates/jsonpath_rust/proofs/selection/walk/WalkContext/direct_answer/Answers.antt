use Rattle.std.proofs.Common.{Some, ap, sym, ◌∙◌}
use Rattle.jsonpath_base.specs.Prelude.Documents.{answer, count_call, length_call, length_of, value_call}
use Rattle.jsonpath_rust.specs.Prelude.Documents.{tree_of}
use Rattle.jsonpath_rust.specs.Prelude.Selection.{call_view, Single}
use Rattle.jsonpath_rust.proofs.laws.selection.{call_view-Count, call_view-Length, call_view-Value, looked_up, query_count}
use Rattle.jsonpath_rust.proofs.selection.walk.WalkContext.direct_answer.Goals as goal

pub returns-in_ok-direct_length-in-Some-clause-value : goal.returns-in_ok-direct_length-in-Some-clause-value
returns-in_ok-direct_length-in-Some-clause-value g c = λ constants d n e.
    let is = ap (call_view constants) c.in-Length.is ∙ call_view-Length constants c.in-Length.arg ∙ ap length_call (c.in-Some.ensures constants Single) in
    let found = looked_up c.in-Some.steps.now d n (tree_of c.args.at) e in
    c.in_ok-direct_length-in-Some.ensures.value ∙ sym (ap (λ f. answer f d n) is ∙ ap length_of found)

pub returns-in_ok-found-in-Some-lookup_in-clause-value : goal.returns-in_ok-found-in-Some-lookup_in-clause-value
returns-in_ok-found-in-Some-lookup_in-clause-value g c = λ constants d n e.
    let is = ap (call_view constants) c.in-Value.is ∙ call_view-Value constants c.in-Value.arg ∙ ap value_call (c.in-Some-lookup_in.ensures constants Single) in
    let found = looked_up c.in-Some-lookup_in.steps.now d n (tree_of c.args.at) e in
    c.from_ref.ensures ∙ c.in_ok-found-in-Some-lookup_in.ensures.value ∙ sym (ap (λ f. answer f d n) is ∙ found)

pub returns-in_ok-count-in-Some-children_in-clause-value : goal.returns-in_ok-count-in-Some-children_in-clause-value
returns-in_ok-count-in-Some-children_in-clause-value g c = λ constants d n e.
    let is = ap (call_view constants) c.in-Count.is ∙ call_view-Count constants c.in-Count.arg ∙ ap count_call (c.in-Some-children_in.ensures constants) in
    ap Some c.count_scalar.ensures ∙ query_count _ d n _ (c.in_ok-count-in-Some-children_in.ensures.count d n e) ∙ sym (ap (λ f. answer f d n) is)
