use Rattle.std.proofs.Common.{arith, sym, ◌∙◌, ap}
use Rattle.jsonpath_base.specs.Prelude.Documents.{children, holds, one, replaced, segment_effort, segment_patterns}
use Rattle.jsonpath_rust.specs.Prelude.Selection.{filter_view, segment_view, selector_view}
use Rattle.jsonpath_rust.proofs.laws.selection.{flat_map-filter, segment_view-Selector, selector_view-Filter, selector_view-Wildcard}
use Rattle.jsonpath_rust.proofs.laws.selection.Passing.{wildcard_goes}
use Rattle.jsonpath_rust.proofs.selection.walk.of_each_child.Goals as goal

pub returns-in-Wildcard : goal.returns-in-Wildcard
returns-in-Wildcard c = λ constants.
    let s = ap (selector_view constants) c.in-Wildcard.is ∙ selector_view-Wildcard constants in
    wildcard_goes constants _ (ap (segment_view constants) c.in-Selector.is ∙ segment_view-Selector constants c.in-Selector.selector ∙ ap one s)

pub returns-in-Filter : goal.returns-in-Filter
returns-in-Filter c = λ constants.
    let s = ap (selector_view constants) c.in-Filter.is ∙ selector_view-Filter constants c.in-Filter.filter in
    let e = ap (segment_view constants) c.in-Selector.is ∙ segment_view-Selector constants c.in-Selector.selector ∙ ap one s in
    record {
      makes = λ d n. flat_map-filter (holds (filter_view constants c.in-Filter.filter) d) (children n) ∙ sym (ap (λ g. replaced g d n) e);
      patterns = sym (ap segment_patterns e);
      lighter = λ r. omega (arith, ap (segment_effort r) e);
    }
