-- Quoted strings: which texts spell a value (RFC 9535, 2.3.1).
--
-- A text and a value are lists of bytes in UTF-8. A character from U+0080 on has bytes from 128 on alone, so one that stands for itself does so byte by byte.
use Rattle.std.specs.Prelude.{◌≡◌, ◌⊎◌, ℕ, ◌+◌, ◌-◌, ◌*◌, Bool, true, false, not, ◌&&◌, ◌||◌, ◌==◌, nat_le, nat_lt, if◌then◌else◌, List, [], ◌∷◌, ◌++◌, length, codes, Option, Some, None}
use Rattle.std.specs.Char.{is_digit, encode_utf8}
use Rattle.std.specs.List.{concat}
use Rattle.std.specs.Str.{byte}
use Rattle.std.specs.Str.Parse.{digits_value}
use Rattle.jsonpath_parser.specs.words.Lexical.{IsRun, is_quote}

-- what stands for itself between quotes q: from U+0020 on, neither the quote nor a backslash
abbrev pub is_plain : ℕ → ℕ → Bool
is_plain q b = (nat_le 32 b && not (b == q)) && not (b == byte "\\")

-- The character that a backslash and this byte stand for between quotes q: U+0008, U+000C, U+000A, U+000D and U+0009 for `b`, `f`, `n`, `r` and `t`; a slash, a backslash and the quote for themselves.
abbrev pub escaped : ℕ → ℕ → Option ℕ
escaped q b =
    if b == byte "b" then Some 8
    else (if b == byte "f" then Some 12
    else (if b == byte "n" then Some 10
    else (if b == byte "r" then Some 13
    else (if b == byte "t" then Some 9
    else (if (b == byte "/" || b == byte "\\") || b == q then Some b
    else None)))))

-- `0` to `9`, `a` to `f` or `A` to `F`
abbrev pub is_hex_digit : ℕ → Bool
is_hex_digit b = is_digit b 16

-- U+D800 to U+DBFF
abbrev pub is_high_surrogate : ℕ → Bool
is_high_surrogate u = nat_le 0xD800 u && nat_lt u 0xDC00

-- U+DC00 to U+DFFF
abbrev pub is_low_surrogate : ℕ → Bool
is_low_surrogate u = nat_le 0xDC00 u && nat_lt u 0xE000

-- the character of two surrogates
abbrev pub pair_code : ℕ → ℕ → ℕ
pair_code high low = 0x10000 + (high - 0xD800) * 0x400 + (low - 0xDC00)

-- a byte by itself
abbrev pub SpellsPlain : ℕ → List ℕ → List ℕ → Type 0
SpellsPlain q c text = (b : ℕ) × (is_plain q b ≡ true) × (c ≡ b ∷ []) × (text ≡ b ∷ [])

-- a character behind a backslash
abbrev pub SpellsEscaped : ℕ → List ℕ → List ℕ → Type 0
SpellsEscaped q c text = (b u : ℕ) × (escaped q b ≡ Some u) × (c ≡ u ∷ []) × (text ≡ codes "\\" ++ b ∷ [])

-- `\u` and the code in four hex digits
abbrev pub SpellsCode : ℕ → List ℕ → Type 0
SpellsCode u text = (digits : List ℕ) × (length digits ≡ 4) × IsRun is_hex_digit digits × (u ≡ digits_value 16 digits) × (text ≡ codes "\\u" ++ digits)

-- a character by its code
abbrev pub SpellsScalar : List ℕ → List ℕ → Type 0
SpellsScalar c text = (u : ℕ) × SpellsCode u text × (is_high_surrogate u ≡ false) × (is_low_surrogate u ≡ false) × (c ≡ encode_utf8 u)

-- a character by two surrogates
abbrev pub SpellsPair : List ℕ → List ℕ → Type 0
SpellsPair c text =
    (high low : ℕ) × (a b : List ℕ) × SpellsCode high a × SpellsCode low b × (is_high_surrogate high ≡ true) × (is_low_surrogate low ≡ true) × (c ≡ encode_utf8 (pair_code high low)) × (text ≡ a ++ b)

-- a character, or a byte of one, between quotes q
abbrev pub SpellsChar : ℕ → List ℕ → List ℕ → Type 0
SpellsChar q c text = SpellsPlain q c text ⊎ (SpellsEscaped q c text ⊎ (SpellsScalar c text ⊎ SpellsPair c text))

-- one after another
abbrev pub SpellsChars : ℕ → List (List ℕ) → List ℕ → Type 0
SpellsChars q [] text = text ≡ []
SpellsChars q (c ∷ cs) text = (a b : List ℕ) × SpellsChar q c a × SpellsChars q cs b × (text ≡ a ++ b)

-- characters between two `"` or two `'`
abbrev pub SpellsString : List ℕ → List ℕ → Type 0
SpellsString value text = (q : ℕ) × (cs : List (List ℕ)) × (a : List ℕ) × (is_quote q ≡ true) × SpellsChars q cs a × (value ≡ concat cs) × (text ≡ q ∷ (a ++ q ∷ []))
