use Rattle.std.proofs.Common.{◌≡◌, ◌≤◌, nat_lt, drop}
use Rattle.jsonpath_parser.specs.Prelude.{depth, depth_from, place_view}
use Rattle.jsonpath_parser.proofs.words.depth.nests_deeper.Given as goal

abbrev pub invariant-loop-byte : goal.invariant-loop-byte
invariant-loop-byte l =
    (l.nesting ≤ l.depth) × (nat_lt l.depth (depth_from (place_view l.place) l.nesting (drop l.byte-index l.text)) ≡ nat_lt l.depth (depth l.text))
