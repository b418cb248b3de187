-- The location with which a query begins, the same in every document.
use Rattle.std.specs.Prelude.{pos, [], ◌∷◌, Option, Some, None}
use Rattle.std.specs.Option.{option_map_or}
use Rattle.jsonpath_parser.specs.Location.{Step, name, index, Location}
use Rattle.jsonpath_parser.specs.tree.Syntax as syntax
use Rattle.jsonpath_parser.specs.tree.Syntax.{Segment, one, no_segments, segment, Query}

-- the step of a child segment with one selector, a name (RFC 9535, 2.3.1) or an index from 0 on (2.3.3)
abbrev pub fixed_step : Segment → Option Step
fixed_step (one (syntax.Selector.name k)) = Some (name k)
fixed_step (one (syntax.Selector.index (pos n))) = Some (index n)
fixed_step _ = None

-- the steps of the first segments, up to the first segment that is not a step (2.1.2)
abbrev pub constant_prefix : Query → Location
constant_prefix no_segments = []
constant_prefix (segment g gs) = option_map_or (λ s. s ∷ constant_prefix gs) (fixed_step g) []
