-- What the reading functions of strings compute: a value and the text after it, or nothing. Only private contracts of this crate cite it; the laws of proofs/ join it to `SpellsString`, so a user need not believe it.
use Rattle.std.specs.Prelude.{ℕ, zero, suc, ◌&&◌, ◌==◌, if◌then◌else◌, List, [], ◌∷◌, ◌++◌, length, drop, slice_index, Option, Some, None}
use Rattle.std.specs.Char.{encode_utf8}
use Rattle.std.specs.Str.Parse.{digits_value}
use Rattle.jsonpath_parser.specs.words.Lexical.{is_quote}
use Rattle.jsonpath_parser.specs.words.inner.Reading.{Read, ◌>>=◌, first}
use Rattle.jsonpath_parser.specs.words.Strings.{is_plain, escaped, is_hex_digit, is_high_surrogate, is_low_surrogate, pair_code}

-- the code that four hex digits at the front spell
unfoldable pub code_value : List ℕ → Option ℕ
code_value text =
    if ((is_hex_digit (slice_index text 0) && is_hex_digit (slice_index text 1)) && is_hex_digit (slice_index text 2)) && is_hex_digit (slice_index text 3)
    then Some (digits_value 16 (slice_index text 0 ∷ slice_index text 1 ∷ slice_index text 2 ∷ slice_index text 3 ∷ []))
    else None

-- a low surrogate, behind a high one
unfoldable pub low_at : ℕ → List ℕ → Read ℕ
low_at high text =
    if first text == 92 && slice_index text 1 == 117
    then code_value (drop 2 text) >>= (λ low. if is_low_surrogate low then Some (pair_code high low, drop 4 (drop 2 text)) else None)
    else None

-- a character by its code, behind `\u`
unfoldable pub unicode_at : List ℕ → Read ℕ
unicode_at text =
    code_value text >>= (λ u. if is_high_surrogate u then low_at u (drop 4 text) else (if is_low_surrogate u then None else Some (u, drop 4 text)))

-- a character, behind a backslash
unfoldable pub escape_at : ℕ → List ℕ → Read ℕ
escape_at q text =
    if first text == 117 then unicode_at (drop 1 text)
    else escaped q (first text) >>= (λ u. Some (u, drop 1 text))

-- a character, or a byte of one
unfoldable pub char_at : ℕ → List ℕ → Read (List ℕ)
char_at q text =
    if is_plain q (first text) then Some (first text ∷ [], drop 1 text)
    else (if first text == 92 then escape_at q (drop 1 text) >>= (λ c. Some (encode_utf8 c.0, c.1)) else None)

-- the rest of a string up to its quote, in fewer than k characters, after those found
unfoldable pub chars_at : ℕ → ℕ → List ℕ → List ℕ → Read (List ℕ)
chars_at q zero found text = None
chars_at q (suc k) found text =
    if first text == q then Some (found, drop 1 text)
    else char_at q text >>= (λ c. chars_at q k (found ++ c.0) c.1)

-- a string
unfoldable pub string_at : List ℕ → Read (List ℕ)
string_at text =
    if is_quote (first text) then chars_at (first text) (suc (length (drop 1 text))) [] (drop 1 text) else None
