-- Bytes, blanks, quotes and names in a query text (RFC 9535, 2.1.1, 2.3.1.1, 2.4 and 2.5.1.1).
--
-- A text is the list of its bytes in UTF-8. Each delimiter of the grammar is a byte below 128, and every character from U+0080 on may stand in a name, so a name byte may be any byte from 128 on.
use Rattle.std.specs.Prelude.{◌≡◌, ℕ, Bool, true, ◌&&◌, ◌||◌, ◌==◌, nat_le, List, [], ◌∷◌}
use Rattle.std.specs.Char.{is_ascii_digit}
use Rattle.std.specs.Str.{byte}

-- U+0020, U+0009, U+000A or U+000D
abbrev pub is_blank : ℕ → Bool
is_blank b = ((b == 32 || b == 9) || b == 10) || b == 13

-- `'` or `"`
abbrev pub is_quote : ℕ → Bool
is_quote b = b == byte "'" || b == byte "\""

-- an ASCII letter, `_`, or a byte of a character from U+0080 on
abbrev pub is_name_first : ℕ → Bool
is_name_first b = ((nat_le 128 b || b == byte "_") || (nat_le (byte "a") b && nat_le b (byte "z"))) || (nat_le (byte "A") b && nat_le b (byte "Z"))

abbrev pub is_name_byte : ℕ → Bool
is_name_byte b = is_name_first b || is_ascii_digit b

-- each byte passes
abbrev pub IsRun : (ℕ → Bool) → List ℕ → Type 0
IsRun p [] = Unit {0}
IsRun p (b ∷ s) = (p b ≡ true) × IsRun p s

-- blanks, perhaps none
abbrev pub IsBlank : List ℕ → Type 0
IsBlank text = IsRun is_blank text

-- a shorthand name
abbrev pub IsName : List ℕ → Type 0
IsName [] = ⊥
IsName (b ∷ s) = (is_name_first b ≡ true) × IsRun is_name_byte s

-- `a` to `z`
abbrev pub is_function_first : ℕ → Bool
is_function_first b = nat_le (byte "a") b && nat_le b (byte "z")

-- `a` to `z`, `_` or a digit
abbrev pub is_function_byte : ℕ → Bool
is_function_byte b = (is_function_first b || b == byte "_") || is_ascii_digit b

-- the name of a function (2.4)
abbrev pub IsFunctionName : List ℕ → Type 0
IsFunctionName [] = ⊥
IsFunctionName (b ∷ s) = (is_function_first b ≡ true) × IsRun is_function_byte s
