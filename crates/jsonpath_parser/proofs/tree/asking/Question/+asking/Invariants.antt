use Rattle.std.proofs.Common.{◌≡◌, map, drop}
use Rattle.jsonpath_parser.specs.Prelude.{argument_view, arguments_of, filter_view, filters_of, segment_view, segments_of, selector_view, selectors_of}
use Rattle.jsonpath_parser.specs.inner.Faults.{faults}
use Rattle.jsonpath_parser.specs.tree.Typing.{over_arguments, over_filters, over_segments, over_selectors}
use Rattle.jsonpath_parser.proofs.tree.asking.Question.+asking.Given as goal

-- In each loop the first fault of all parts is that of the parts that are left.

abbrev pub invariant-arguments-arguments : goal.invariant-arguments-arguments
invariant-arguments-arguments l = over_arguments (faults l.self) (arguments_of (map argument_view l.arguments)) ≡ over_arguments (faults l.self) (arguments_of (map argument_view (drop l.one-index l.arguments)))

abbrev pub invariant-filters-filters : goal.invariant-filters-filters
invariant-filters-filters l = over_filters (faults l.self) (filters_of (map filter_view l.filters)) ≡ over_filters (faults l.self) (filters_of (map filter_view (drop l.one-index l.filters)))

abbrev pub invariant-segments-segments : goal.invariant-segments-segments
invariant-segments-segments l = over_segments (faults l.self) (segments_of (map segment_view l.segments)) ≡ over_segments (faults l.self) (segments_of (map segment_view (drop l.one-index l.segments)))

abbrev pub invariant-selectors-selectors : goal.invariant-selectors-selectors
invariant-selectors-selectors l = over_selectors (faults l.self) (selectors_of (map selector_view l.selectors)) ≡ over_selectors (faults l.self) (selectors_of (map selector_view (drop l.one-index l.selectors)))
