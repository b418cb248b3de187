-- What the reading functions compute: a tree and the text after it, or nothing. Only private contracts of this crate cite it; the laws of proofs/ join it to the grammar, so a user need not believe it.
use Rattle.std.specs.Prelude.{◌≡◌, ℕ, Bool, ◌&&◌, ◌||◌, ◌==◌, not, nat_le, ℤ, pos, neg_ℤ, if◌then◌else◌, List, length, take, drop, slice_index, Option, Some, None, option_and_then, Result, MatchResult}
use Rattle.std.specs.Borrow.{Bor}
use Rattle.std.specs.List.{prefix_len}
use Rattle.std.specs.Str.Parse.{digits_value}
use Rattle.std.specs.Char.{is_ascii_digit}
use Rattle.jsonpath_parser.specs.declared.words.parse_error.ParseError.{ParseError}
use Rattle.jsonpath_parser.specs.declared.words.parse_error.ParseError.TheVariants.{Memory}
use Rattle.jsonpath_parser.specs.words.Lexical.{is_blank, is_name_first, is_name_byte}

abbrev pub Read : Type 0 → Type 0
Read A = Option (A × List ℕ)

infixl 10 ◌>>=◌
abbrev pub ◌>>=◌ : {A B : Type 0} → Option A → (A → Option B) → Option B
o >>= f = option_and_then f o

-- the result is what reading gives, seen through f, unless memory ran out
abbrev pub Gives : {A B : Type 0} → (A → B) → Result A ParseError → Option B → Type 0
Gives f r expected = MatchResult r (λ a. expected ≡ Some (f a)) (λ e. (e ≡ Memory → ⊥) → expected ≡ None)

-- the same of a value and the text after it
abbrev pub Reads : {A B : Type 0} → (A → B) → Result (A × Bor (List ℕ)) ParseError → Read B → Type 0
Reads f r expected = Gives (λ p. (f p.0, p.1.now)) r expected

-- the longest front whose bytes pass, and the rest
abbrev pub split_while : (ℕ → Bool) → List ℕ → List ℕ × List ℕ
split_while p text = (take (prefix_len p text) text, drop (prefix_len p text) text)

-- after the blanks
unfoldable pub skip_blank : List ℕ → List ℕ
skip_blank text = (split_while is_blank text).1

-- the first byte, or 0
abbrev pub first : List ℕ → ℕ
first text = slice_index text 0

-- what follows this byte at the front
abbrev pub after_byte : ℕ → List ℕ → Option (List ℕ)
after_byte byte text = if first text == byte then Some (drop 1 text) else None

-- `0`, or digits that do not begin with 0, of a value up to 2^53 - 1
abbrev pub is_magnitude : List ℕ → Bool
is_magnitude digits = (nat_le 1 (length digits) && (not (first digits == 48) || nat_le (length digits) 1)) && nat_le (digits_value 10 digits) 9007199254740991

-- such digits at the front
unfoldable pub magnitude_at : List ℕ → Read ℕ
magnitude_at text =
    let p = split_while is_ascii_digit text in
    if is_magnitude p.0 then Some (digits_value 10 p.0, p.1) else None

-- the same, perhaps behind `-`, but not `-0`
unfoldable pub int_at : List ℕ → Read ℤ
int_at text =
    if first text == 45 then magnitude_at (drop 1 text) >>= (λ n. if n.0 == 0 then None else Some (neg_ℤ (pos n.0), n.1))
    else magnitude_at text >>= (λ n. Some (pos n.0, n.1))

-- the shorthand name at the front
unfoldable pub name_at : List ℕ → Read (List ℕ)
name_at text = if is_name_first (first text) then Some (split_while is_name_byte text) else None
