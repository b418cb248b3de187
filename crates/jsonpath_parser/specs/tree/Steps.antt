-- A location as a query: one name or one index for each step (RFC 9535, 2.7).
use Rattle.std.specs.Prelude.{◌^◌, ◌<◌, pos, [], ◌∷◌}
use Rattle.jsonpath_parser.specs.Location.{Step, name, index, Location}
use Rattle.jsonpath_parser.specs.tree.Syntax as syntax
use Rattle.jsonpath_parser.specs.tree.Syntax.{Segment, one, no_segments, segment, Query}

-- a child segment of this one selector
abbrev pub step_segment : Step → Segment
step_segment (name k) = one (syntax.Selector.name k)
step_segment (index i) = one (syntax.Selector.index (pos i))

abbrev pub steps_query : Location → Query
steps_query [] = no_segments
steps_query (s ∷ ss) = segment (step_segment s) (steps_query ss)

-- each index is one that a query may have: it lies below 2^53 (2.1)
abbrev pub HasIndexesInRange : Location → Type 0
HasIndexesInRange [] = Unit {0}
HasIndexesInRange (name k ∷ ss) = HasIndexesInRange ss
HasIndexesInRange (index i ∷ ss) = (i < 2 ^ 53) × HasIndexesInRange ss
