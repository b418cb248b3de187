-- What `parse` makes of a depth.
use Rattle.std.proofs.Common.{◌≡◌, ℕ, ◌^◌, ◌<◌, ◌≤◌, true, ◌&&◌, List, length, nat_le, Result, arith}
use Rattle.std.proofs.Math.Nat.{pow-le-pow_right}
use Rattle.std.proofs.lemmas.Bool.{and_parts}
use Rattle.std.proofs.lemmas.Bool.Decides.{nat_tests}
use Rattle.std.proofs.lemmas.Int.Digits.{digits_value-lt}
use Rattle.std.proofs.lemmas.Str.Parse.{IsNumeralModel, numerals_by_value, tells_all_ascii_digits, parse_gives}
use Rattle.std.specs.Result.{result_ok}
use Rattle.std.specs.Str.{all_ascii_digits}
use Rattle.std.specs.Str.Parse.{digits_value, ParsesUnsigned}
use Rattle.jpath.specs.Words.{is_depth, depth_of}

-- ASCII digits are a numeral, in std's words
digits : IsNumeralModel (λ ds. all_ascii_digits ds ≡ true) (digits_value 10)
digits = numerals_by_value _ tells_all_ascii_digits

-- three digits at most are below 2^64
small : (word : List ℕ) → all_ascii_digits word ≡ true → length word ≤ 3 → digits_value 10 word < 2 ^ 64
small word d short =
    let most : 10 ^ length word ≤ 10 ^ 3 = pow-le-pow_right (omega arith) short in
    omega (arith, digits_value-lt 10 word (digits.to word d), most)

-- a depth is parsed as its number
pub depth_of-parsed : {E : Type 0} (word : List ℕ) (r : Result ℕ E) → ParsesUnsigned 64 10 word r → is_depth word ≡ true → result_ok r ≡ depth_of word
depth_of-parsed word r h is =
    let parts = and_parts (nat_le 1 (length word) && nat_le (length word) 3) (all_ascii_digits word) is in
    let sizes = and_parts (nat_le 1 (length word)) (nat_le (length word) 3) parts.0 in
    let low : 0 < length word = grind (arith, nat_tests, sizes.0) in
    let short : length word ≤ 3 = grind (arith, nat_tests, sizes.1) in
    rw (parse_gives digits 64 word r h parts.1 low (small word parts.1 short), is)
