-- How a number literal is taken (RFC 9535, 2.3.5.1): as its value.
use Rattle.std.specs.Prelude.{◌≡◌, ℕ, true, ℤ, List, Option, is_some}
use Rattle.jsonpath_parser.specs.words.Numbers.{SpellsNumber}

-- a number literal of this value; one without a value is none
abbrev pub IsValued : Option ℤ → List ℕ → Type 0
IsValued v text = SpellsNumber v text × (is_some v ≡ true)
