-- What the functions that read a number literal compute. Only private contracts of this crate cite it; the laws of proofs/ join it to the grammar, so a user need not believe it.
use Rattle.std.specs.Prelude.{◌≡◌, ◌≢◌, ℕ, ◌+◌, ◌*◌, ◌/◌, ◌%◌, ◌^◌, ◌<◌, Bool, true, false, ◌==◌, nat_lt, nat_le, ℤ, pos, neg_ℤ, if◌then◌else◌, Option, Some, None, List, [], ◌++◌, length, take, drop, unwrap_or}
use Rattle.std.specs.Str.Parse.{digits_value}
use Rattle.std.specs.Char.{is_ascii_digit}
use Rattle.jsonpath_parser.specs.declared.words.number.Exponent.{Exponent as CodeExponent}
use Rattle.jsonpath_parser.specs.declared.words.number.Mantissa.{Mantissa}
use Rattle.jsonpath_parser.specs.words.Numbers.{Exponent, raised, lowered, is_exponent_mark, up, down}
use Rattle.jsonpath_parser.specs.words.inner.Reading.{Read, ◌>>=◌, split_while, first}

-- the digits at the front, where there is one
unfoldable pub digits_at : List ℕ → Read (List ℕ)
digits_at text = if is_ascii_digit (first text) then Some (split_while is_ascii_digit text) else None

-- whether `-` stands at the front
unfoldable pub sign_at : List ℕ → Bool × List ℕ
sign_at text = if first text == 45 then (true, drop 1 text) else (false, text)

-- `0`, or digits that do not begin with 0
unfoldable pub whole_part_at : List ℕ → Read (List ℕ)
whole_part_at text = if first text == 48 then Some (take 1 text, drop 1 text) else digits_at text

-- the digits behind a point, if they are there
unfoldable pub fraction_at : List ℕ → List ℕ × List ℕ
fraction_at text = unwrap_or (if first text == 46 then digits_at (drop 1 text) else None) ([], text)

-- a sign, perhaps, and digits
unfoldable pub signed_digits_at : List ℕ → Read Exponent
signed_digits_at text =
    if first text == 45 then digits_at (drop 1 text) >>= (λ d. Some (lowered (digits_value 10 d.0), d.1))
    else digits_at (if first text == 43 then drop 1 text else text) >>= (λ d. Some (raised (digits_value 10 d.0), d.1))

-- an exponent, if it is there
unfoldable pub exponent_at : List ℕ → Exponent × List ℕ
exponent_at text = unwrap_or (if is_exponent_mark (first text) then signed_digits_at (drop 1 text) else None) (raised 0, text)

-- n with its sign, where it has 64 bits
unfoldable pub long_of : Bool → ℕ → Option ℤ
long_of false n = if nat_lt n (2 ^ 63) then Some (pos n) else None
long_of true n = if nat_le n (2 ^ 63) then Some (neg_ℤ (pos n)) else None

-- the value of the digits n with their sign, of which so many stand behind the point
unfoldable pub scaled_value : Bool → ℕ → ℕ → Exponent → Option ℤ
scaled_value minus n point e =
    if (n * 10 ^ up e) % 10 ^ (point + down e) == 0 then long_of minus (n * 10 ^ up e / 10 ^ (point + down e))
    else None

-- the number literal at the front, as long as it goes on
unfoldable pub number_at : List ℕ → Read (Option ℤ)
number_at text =
    whole_part_at (sign_at text).1 >>= (λ w.
    let f = fraction_at w.1 in
    let e = exponent_at f.1 in
    Some (scaled_value (sign_at text).0 (digits_value 10 (w.0 ++ f.0)) (length f.0) e.0, e.1))

-- the exponent that the code's value stands for
abbrev pub exponent_view : CodeExponent → Exponent
exponent_view e = if e.lowers then lowered (digits_value 10 e.digits.now) else raised (digits_value 10 e.digits.now)

-- the number that the code's value stands for
abbrev pub number_of : Mantissa → ℕ
number_of m = m.digits * 10 ^ m.zeros

-- its digits do not end in 0, unless they are 0
abbrev pub IsTrimmed : Mantissa → Type 0
IsTrimmed m = m.digits % 10 ≡ 0 → m.digits ≡ 0

-- no number of 64 bits with zeros behind it is n
abbrev pub IsUnheld : ℕ → Type 0
IsUnheld n = (v zeros : ℕ) → v < 2 ^ 64 → v * 10 ^ zeros ≢ n
