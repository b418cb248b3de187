use Rattle.std.proofs.Common.{◌≡◌, map, take}
use Rattle.jsonpath_parser.specs.Prelude.{argument_view, filter_view, segment_view, selector_view}
use Rattle.jsonpath_parser.proofs.tree.model.+clones.Given as goal

abbrev pub invariant-clone::arguments-arguments : goal.invariant-clone::arguments-arguments
invariant-clone::arguments-arguments l = map argument_view l.copies.items ≡ map argument_view (take l.argument-index l.arguments)

abbrev pub invariant-clone::filters-filters : goal.invariant-clone::filters-filters
invariant-clone::filters-filters l = map filter_view l.copies.items ≡ map filter_view (take l.filter-index l.filters)

abbrev pub invariant-clone::segments-segments : goal.invariant-clone::segments-segments
invariant-clone::segments-segments l = map segment_view l.copies.items ≡ map segment_view (take l.segment-index l.segments)

abbrev pub invariant-clone::selectors-selectors : goal.invariant-clone::selectors-selectors
invariant-clone::selectors-selectors l = map selector_view l.copies.items ≡ map selector_view (take l.selector-index l.selectors)
