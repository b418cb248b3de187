use Rattle.std.proofs.Common.{◌++◌, ◌∙◌, sym, refl, rules, ap, codes, w64, SFits}
use Rattle.std.proofs.lemmas.Int.{to_z-of_z}
use Rattle.jsonpath_parser.specs.Prelude.{argument_shown, argument_view, concat, filter_shown, filter_view, segment_shown, segment_view, segments_shown, selector_shown, selector_view}
use Rattle.std.proofs.Output.{has_written_append, has_written_of_eq}
use Rattle.jsonpath_parser.proofs.laws.tree.Joined.{segments_joined, selectors_joined, filters_joined, arguments_joined, called, slice_parts}
use Rattle.jsonpath_parser.proofs.laws.tree.ViewEquations.{segment_view-Selectors, selector_view-Slice, filter_view-Or, filter_view-And, test_view-RelQuery, query_view-segments, call_view-Custom}
use Rattle.jsonpath_parser.proofs.tree.model.display.+display.Goals as goal

pub SegmentDisplay::fmt-returns-in-Selectors-clause-writes : goal.SegmentDisplay::fmt-returns-in-Selectors-clause-writes
SegmentDisplay::fmt-returns-in-Selectors-clause-writes g t c plain ok =
    has_written_of_eq _ _ _ _ _ (rw (c.in-Selectors.is, segment_view-Selectors c.in-Selectors.selectors) (selectors_joined c.in-Selectors.selectors)) (c.write_joined.ensures (λ x. selector_shown (selector_view x)) (λ x. refl) plain ok)

pub FilterDisplay::fmt-returns-in-Or-clause-writes : goal.FilterDisplay::fmt-returns-in-Or-clause-writes
FilterDisplay::fmt-returns-in-Or-clause-writes g t c plain ok =
    has_written_of_eq _ _ _ _ _ (rw (c.in-Or.is, filter_view-Or c.in-Or.parts) (filters_joined (codes " || ") c.in-Or.parts)) (c.write_joined.ensures (λ x. filter_shown (filter_view x)) (λ x. refl) plain ok)

pub FilterDisplay::fmt-returns-in-And-clause-writes : goal.FilterDisplay::fmt-returns-in-And-clause-writes
FilterDisplay::fmt-returns-in-And-clause-writes g t c plain ok =
    has_written_of_eq _ _ _ _ _ (rw (c.in-And.is, filter_view-And c.in-And.parts) (filters_joined (codes " && ") c.in-And.parts)) (c.write_joined-in-And.ensures (λ x. filter_shown (filter_view x)) (λ x. refl) plain ok)

pub TestDisplay::fmt-returns-in-RelQuery-clause-writes : goal.TestDisplay::fmt-returns-in-RelQuery-clause-writes
TestDisplay::fmt-returns-in-RelQuery-clause-writes g t c plain ok =
    has_written_of_eq _ _ _ _ _ (rw (c.in-RelQuery.is, test_view-RelQuery c.in-RelQuery.segments) (segments_joined c.in-RelQuery.segments)) (c.write_joined.ensures (λ x. segment_shown (segment_view x)) (λ x. refl) plain ok)

pub JpQueryDisplay::fmt-returns-clause-writes : goal.JpQueryDisplay::fmt-returns-clause-writes
JpQueryDisplay::fmt-returns-clause-writes g t c plain ok =
    let root = c.write_str.ensures.writes plain (search rules) in
    let segments = c.write_joined.ensures (λ x. segment_shown (segment_view x)) (λ x. refl) root.plain ok in
    has_written_of_eq _ _ _ _ _ (ap (λ r. codes "$" ++ r) (segments_joined c.args.self.now.segments ∙ ap (λ gs. concat (segments_shown gs)) (sym (query_view-segments c.args.self.now)))) (has_written_append _ _ _ _ _ _ root segments)

pub TestFunctionDisplay::fmt-returns-in_ok-write_joined-in-Custom-clause-writes : goal.TestFunctionDisplay::fmt-returns-in_ok-write_joined-in-Custom-clause-writes
TestFunctionDisplay::fmt-returns-in_ok-write_joined-in-Custom-clause-writes g t c plain ok =
    let name = c.write.ensures.writes plain (search rules) in
    let arguments = c.write_joined.ensures (λ x. argument_shown (argument_view x)) (λ x. refl) name.plain (search rules) in
    let end = c.write_str.ensures.writes arguments.plain ok in
    has_written_of_eq _ _ _ _ _ (rw (c.in-Custom.is, call_view-Custom c.in-Custom.name c.in-Custom.args) (called _ _ _ (arguments_joined c.in-Custom.args))) (has_written_append _ _ _ _ _ _ (has_written_append _ _ _ _ _ _ name arguments) end)

pub SelectorDisplay::fmt-returns-in-Slice-clause-writes : goal.SelectorDisplay::fmt-returns-in-Slice-clause-writes
SelectorDisplay::fmt-returns-in-Slice-clause-writes g t c plain ok =
    let start : SFits w64 c.unwrap_or-start.result = search rules in
    let end : SFits w64 c.unwrap_or-end.result = search rules in
    let step : SFits w64 c.unwrap_or-step.result = search rules in
    let parts = slice_parts c.in-Slice.start c.in-Slice.end c.in-Slice.step _ _ _ (to_z-of_z w64 c.unwrap_or-start.result start ∙ c.unwrap_or-start.ensures) (to_z-of_z w64 c.unwrap_or-end.result end ∙ c.unwrap_or-end.ensures) (to_z-of_z w64 c.unwrap_or-step.result step ∙ c.unwrap_or-step.ensures) in
    has_written_of_eq _ _ _ _ _ (rw (c.in-Slice.is, selector_view-Slice c.in-Slice.start c.in-Slice.end c.in-Slice.step) parts) (c.write-in-Slice.ensures.writes plain ok)
