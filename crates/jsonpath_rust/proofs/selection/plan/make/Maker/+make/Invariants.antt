use Rattle.std.proofs.Common.{map, take}
use Rattle.jsonpath_base.specs.Prelude.Documents.{list_all}
use Rattle.jsonpath_rust.specs.Prelude.Selection.{argument_is_rooted, every, filter_is_rooted, filter_view, Made, expr_view, segment_view, selector_view, Values}
use Rattle.jsonpath_parser.specs.tree.View as tree
use Rattle.jsonpath_rust.proofs.selection.plan.make.Maker.+make.Given as goal

abbrev pub invariant-segments-segments : goal.invariant-segments-segments
invariant-segments-segments l = Made (list_all every) l.initial.self l.self (λ constants. map (segment_view constants) l.parts.items) (map tree.segment_view (take l.segment-index l.segments))

abbrev pub invariant-selectors-selectors : goal.invariant-selectors-selectors
invariant-selectors-selectors l = Made (list_all every) l.initial.self l.self (λ constants. map (selector_view constants) l.parts.items) (map tree.selector_view (take l.selector-index l.selectors))

abbrev pub invariant-filters-filters : goal.invariant-filters-filters
invariant-filters-filters l = Made (list_all filter_is_rooted) l.initial.self l.self (λ constants. map (filter_view constants) l.parts.items) (map tree.filter_view (take l.filter-index l.filters))

abbrev pub invariant-arguments-arguments : goal.invariant-arguments-arguments
invariant-arguments-arguments l = Made (list_all argument_is_rooted) l.initial.self l.self (λ constants. map (λ a. expr_view constants a Values) l.parts.items) (map tree.argument_view (take l.argument-index l.arguments))
