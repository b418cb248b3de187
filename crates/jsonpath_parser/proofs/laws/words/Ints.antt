-- Runs of digits, and what `parse` makes of them.
use Rattle.std.proofs.Common.{◌≡◌, ℕ, ◌^◌, ◌<◌, ◌≤◌, true, false, List, length, take, None, Result, Err, refl, subst, arith}
use Rattle.std.proofs.lemmas.Bool.Decides.{nat_tests}
use Rattle.std.proofs.lemmas.Bool.{false_from_ne_true}
use Rattle.std.proofs.lemmas.Str.Parse.{IsNumeralModel, numerals_by_value, parse_digits}
use Rattle.jsonpath_parser.specs.Prelude.{digits_value, first, is_ascii_digit, is_magnitude, IsRun, magnitude_at, ParsesUnsigned, prefix_len, split_while}
use Rattle.jsonpath_parser.proofs.laws.words.Fronts.{run_holds, front}

-- the digits lie from 48 to 57
digit_range : (c : ℕ) → is_ascii_digit c ≡ true → (48 ≤ c) × (c ≤ 57)
digit_range c h = grind (arith, nat_tests)

-- and are all that lie there
range_digit : (c : ℕ) → 48 ≤ c → c ≤ 57 → is_ascii_digit c ≡ true
range_digit c low high = grind (arith, nat_tests)

-- a run of digits is a numeral, in std's words
pub numeral : IsNumeralModel (λ ds. IsRun is_ascii_digit ds) (digits_value 10)
numeral = numerals_by_value _ (record { empty = tt; parts = λ c cs h. (digit_range c h.0, h.1); more = λ c cs r h. (range_digit c r.0 r.1, h) })

-- digits within the range of an index
pub magnitude_tells : (digits : List ℕ) → is_magnitude digits ≡ true → (0 < length digits) × (digits_value 10 digits ≤ 9007199254740991) × (first digits ≡ 48 → length digits ≤ 1)
magnitude_tells digits h = (grind (arith, nat_tests), grind (arith, nat_tests), λ z. grind (arith, nat_tests))

-- digits past the range
no_magnitude : (digits : List ℕ) → ¬ ((0 < length digits) × (digits_value 10 digits < 2 ^ 64)) → is_magnitude digits ≡ false
no_magnitude digits h = false_from_ne_true (is_magnitude digits) (λ e. let facts = magnitude_tells digits e in h (facts.0, omega (arith, facts.1)))

-- what `parse` refuses is no index
pub magnitude_refused : {E : Type 0} (text digits rest : List ℕ) (r : Result ℕ E) (e : E) → (digits, rest) ≡ split_while is_ascii_digit text → ParsesUnsigned 64 10 digits r → r ≡ Err e → magnitude_at text ≡ None
unfolding magnitude_at
magnitude_refused text digits rest r e parts h is =
    let d : take (prefix_len is_ascii_digit text) text ≡ digits = front is_ascii_digit text digits rest parts in
    let run : IsRun is_ascii_digit digits = subst (λ v. IsRun is_ascii_digit v) d (run_holds is_ascii_digit text).0 in
    let refused = rw is at (parse_digits numeral 64 digits r h run) in
    rw (d, no_magnitude digits refused) refl
