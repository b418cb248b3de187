-- Where reading of brackets stands, as the code has it.
use Rattle.jsonpath_parser.specs.words.Depth.{Place, outside, inside, escaped}
use Rattle.jsonpath_parser.specs.declared.words.depth.Place.{Place as CodePlace}
use Rattle.jsonpath_parser.specs.declared.words.depth.Place.TheVariants.{Outside, Inside, Escaped}

-- the place that the code's value stands for
abbrev pub place_view : CodePlace → Place
place_view Outside = outside
place_view (Inside q) = inside q
place_view (Escaped q) = escaped q
