use Rattle.std.proofs.Common.{◌≡◌, ap, ◌∙◌}
use Rattle.jsonpath_base.specs.Prelude.Documents.{compares, operator_view, value_of}
use Rattle.jsonpath_rust.specs.Prelude.Documents.{filter_ref_tree}
use Rattle.jsonpath_rust.specs.Prelude.Selection.{document, constants_of, Single, expr_view}
use Rattle.jsonpath_rust.proofs.laws.selection.{of_some}
use Rattle.jsonpath_rust.proofs.selection.walk.WalkContext.compare_borrowed.Goals as goal

pub returns-clause-holds : goal.returns-clause-holds
returns-clause-holds g c = λ n e.
    let d = document c.args.self.now in
    let op = operator_view c.args.comparison.operator in
    let constants = constants_of c.args.self.now in
    let left = value_of (expr_view constants c.args.comparison.left.now Single) d n in
    let right = value_of (expr_view constants c.args.comparison.right.now Single) d n in
    let first = of_some (λ s. filter_ref_tree s ≡ left) _ _ c.in-Some.is (c.in_ok-left.ensures.value n e) in
    let second = of_some (λ s. filter_ref_tree s ≡ right) _ _ c.in-Some-2.is (c.in_ok-right.ensures.value n e) in
    c.in_ok-held.ensures.holds ∙ ap (λ o. compares op o (filter_ref_tree c.in-Some-2.right)) first ∙ ap (compares op left) second
