use Rattle.std.proofs.Common.{List, map, ap, sym, ◌∙◌}
use Rattle.jsonpath_base.specs.Prelude.Documents.{call, SingularQuerySegment, step_view, test_argument, value_at, value_of}
use Rattle.jsonpath_rust.specs.Prelude.Documents.{filter_ref_tree, tree_of}
use Rattle.jsonpath_rust.specs.Prelude.Selection.{call_view, document, constants_of, Single, expr_view}
use Rattle.jsonpath_rust.proofs.laws.selection.{at_hand_as, looked_up, expr_view-Call, expr_view-Lookup}
use Rattle.jsonpath_rust.proofs.selection.walk.WalkContext.borrowed_value.Goals as goal

pub returns-in_ok-node-in-Lookup-clause-value : goal.returns-in_ok-node-in-Lookup-clause-value
returns-in_ok-node-in-Lookup-clause-value g c = λ n e.
    let constants = constants_of c.args.self.now in
    let d = document c.args.self.now in
    let is = ap (λ p. expr_view constants p Single) c.in-Lookup.is ∙ expr_view-Lookup constants c.in-Lookup.steps Single in
    let found = looked_up c.in-Lookup.steps.items d n (tree_of c.args.at) e in
    c.from_ref.ensures ∙ c.in_ok-node-in-Lookup.ensures.value ∙ ap (λ (ss : List SingularQuerySegment). value_at (map step_view ss) (tree_of c.args.at)) c.deref-in-Lookup.ensures.value ∙ sym (ap (λ x. value_of x d n) is ∙ found)

pub returns-in-Call-clause-value : goal.returns-in-Call-clause-value
returns-in-Call-clause-value g c = λ n e.
    let constants = constants_of c.args.self.now in
    let d = document c.args.self.now in
    let is = ap (λ p. expr_view constants p Single) c.in-Call.is ∙ expr_view-Call constants c.in-Call.call Single ∙ ap (λ x. test_argument (call (call_view constants x))) (sym c.deref-in-Call.ensures) in
    at_hand_as filter_ref_tree c.direct_answer.result _ _ (c.direct_answer.ensures.value constants d n e) (sym (ap (λ x. value_of x d n) is))
