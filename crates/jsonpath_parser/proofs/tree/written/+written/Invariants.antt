use Rattle.std.proofs.Common.{◌≡◌, [], ◌++◌, map, drop, string_bytes}
use denote.Shadow.{shadow}
use denote.Text.{Utf8}
use Rattle.jsonpath_parser.specs.Prelude.{argument_view, arguments_of, arguments_text, filter_view, filters_of, filters_text, segment_view, segments_of, segments_text, selector_view, selectors_of, selectors_text}
use Rattle.jsonpath_parser.proofs.tree.written.+written.Given as goal

-- In each loop what is written, and then the parts that are left, are what was there and all parts.

abbrev pub invariant-arguments-arguments : goal.invariant-arguments-arguments
invariant-arguments-arguments l =
    shadow (Utf8 l.before)
    × (string_bytes l.text ++ arguments_text l.before (arguments_of (map argument_view (drop l.one-index l.arguments))) ≡ string_bytes l.fn.text ++ arguments_text [] (arguments_of (map argument_view l.arguments)))

abbrev pub invariant-filters-filters : goal.invariant-filters-filters
invariant-filters-filters l =
    shadow (Utf8 l.before)
    × (string_bytes l.text ++ filters_text l.between l.before (filters_of (map filter_view (drop l.one-index l.filters))) ≡ string_bytes l.fn.text ++ filters_text l.between [] (filters_of (map filter_view l.filters)))

abbrev pub invariant-segments-segments : goal.invariant-segments-segments
invariant-segments-segments l = string_bytes l.text ++ segments_text (segments_of (map segment_view (drop l.one-index l.segments))) ≡ string_bytes l.fn.text ++ segments_text (segments_of (map segment_view l.segments))

abbrev pub invariant-selectors-selectors : goal.invariant-selectors-selectors
invariant-selectors-selectors l =
    shadow (Utf8 l.before)
    × (string_bytes l.text ++ selectors_text l.before (selectors_of (map selector_view (drop l.one-index l.selectors))) ≡ string_bytes l.fn.text ++ selectors_text [] (selectors_of (map selector_view l.selectors)))
