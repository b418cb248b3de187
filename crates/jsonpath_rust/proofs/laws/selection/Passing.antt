-- Segments that go to each child.
use Rattle.std.proofs.Common.{◌≡◌, arith, sym, ◌∙◌, ap}
use Rattle.jsonpath_base.specs.Prelude.Documents.{children, one, replaced, Segment, segment_effort, segment_patterns, wildcard}
use Rattle.jsonpath_rust.specs.Prelude.Selection.{Constants, GoesToEachChild}
use Rattle.jsonpath_rust.proofs.laws.selection.Walks.{flat_map-alone}
use Rattle.jsonpath_rust.specs.declared.selection.walk.Visit.TheVariants as visit

pub wildcard_goes : (constants : Constants) (g : Segment) → g ≡ one wildcard → GoesToEachChild constants g visit.Continue
wildcard_goes constants g e = record {
  makes = λ d n. flat_map-alone (children n) ∙ sym (ap (λ s. replaced s d n) e);
  patterns = sym (ap segment_patterns e);
  lighter = λ r. omega (arith, ap (segment_effort r) e);
}
