-- Where a number literal without a value stands in a text (RFC 9535, 2.3.5.1).
use Rattle.std.specs.Prelude.{◌≡◌, ◌⊎◌, ℕ, List, [], ◌++◌, None}
use Rattle.jsonpath_parser.specs.words.Numbers.{SpellsNumber}

-- what is said of a text is nothing, or a number literal without a value that stands in it
abbrev pub IsValuelessIn : List ℕ → List ℕ → Type 0
IsValuelessIn text said = (said ≡ []) ⊎ (SpellsNumber None said × ((before after : List ℕ) × (text ≡ before ++ (said ++ after))))
