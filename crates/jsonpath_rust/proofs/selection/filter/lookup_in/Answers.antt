use Rattle.std.proofs.Common.{List, map, ap, sym, ◌∙◌}
use Rattle.jsonpath_base.specs.Prelude.Documents.{relative, SingularQuerySegment, step_view, test_argument}
use Rattle.jsonpath_rust.specs.Prelude.Selection.{expr_view, steps_query}
use Rattle.jsonpath_rust.proofs.laws.selection.{expr_view-Lookup}
use Rattle.jsonpath_rust.proofs.selection.filter.lookup_in.Goals as goal

pub returns-in-Lookup : goal.returns-in-Lookup
returns-in-Lookup c = λ constants w.
    let steps = ap (λ (ss : List SingularQuerySegment). test_argument (relative (steps_query (map step_view ss)))) c.deref.ensures.value in
    ap (λ p. expr_view constants p w) c.in-Lookup.is ∙ expr_view-Lookup constants c.in-Lookup.steps w ∙ sym steps
