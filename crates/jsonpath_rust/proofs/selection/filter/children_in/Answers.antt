use Rattle.std.proofs.Common.{List, map, ap, sym, ◌∙◌}
use Rattle.jsonpath_base.specs.Prelude.Documents.{relative, SingularQuerySegment, step_view, test_argument}
use Rattle.jsonpath_rust.specs.Prelude.Selection.{children_query, Count, expr_view}
use Rattle.jsonpath_rust.proofs.laws.selection.{expr_view-Children}
use Rattle.jsonpath_rust.proofs.selection.filter.children_in.Goals as goal

pub returns-in-Children : goal.returns-in-Children
returns-in-Children c = λ constants.
    let steps = ap (λ (ss : List SingularQuerySegment). test_argument (relative (children_query (map step_view ss)))) c.deref.ensures.value in
    ap (λ p. expr_view constants p Count) c.in-Children.is ∙ expr_view-Children constants c.in-Children.steps Count ∙ sym steps
