-- The value of a literal: what the code computes is the one value that the digits have.
use Rattle.std.proofs.Common.{◌≡◌, ◌≢◌, ℕ, zero, suc, ◌+◌, ◌*◌, ◌/◌, ◌%◌, ◌^◌, ◌<◌, ◌≤◌, Bool, true, false, ◌==◌, nat_lt, nat_le, ℤ, pos, negsuc, neg_ℤ, ◌*ℤ◌, List, length, Option, Some, None, Result, Err, refl, sym, ap, ◌∙◌, subst, ◌⊎◌, inl, inr, arith}
use Rattle.std.proofs.lemmas.Bool.{cases_lt}
use Rattle.std.proofs.lemmas.Bool.Decides.{nat_tests}
use Rattle.std.proofs.lemmas.Int.{ints, unsigned_abs-mul}
use Rattle.std.proofs.lemmas.Option.{cond_some}
use Rattle.std.specs.Int.RustNames.{unsigned_abs}
use Rattle.std.proofs.lemmas.Str.Parse.{parse_digits}
use Rattle.std.proofs.Math.Nat.{mul-mod_left, mul-div_cancel, mod-add-div'}
use Rattle.std.proofs.Math.IntN.{pos-*ℤ-pos, negsuc-*ℤ-pos}
use Rattle.jsonpath_parser.specs.Prelude.{digits_value, down, Exponent, is_ascii_digit, IsLong, IsRun, IsUnheld, IsValue, ParsesUnsigned, scaled_value, signed, up}
use Rattle.jsonpath_parser.specs.words.Numbers.{IsWhole}
use Rattle.jsonpath_parser.specs.words.inner.ReadingNumbers.{long_of}
use Rattle.jsonpath_parser.proofs.laws.words.Ints.{numeral}
use Rattle.jsonpath_parser.proofs.laws.words.NumberPowers.{cancel, positive, unheld_scaled}

-- digits that `parse` refuses are too large
pub parse_past : {E : Type 0} (digits : List ℕ) (r : Result ℕ E) (e : E) → IsRun is_ascii_digit digits → ParsesUnsigned 64 10 digits r → r ≡ Err e → (length digits == 0) ≡ false → 2 ^ 64 ≤ digits_value 10 digits
parse_past digits r e run h is some =
    let refused = rw is at (parse_digits numeral 64 digits r h run) in
    elim (cases_lt (digits_value 10 digits) (2 ^ 64)) [
      | inl small ↦ absurd (refused (grind (arith, nat_tests), small))
      | inr past ↦ past
    ]

-- a test by cases
abbrev IsTest : Bool → Type 0 → Type 0
IsTest b P = ((b ≡ true) × P) ⊎ ((b ≡ false) × (P → ⊥))

divides : (m t : ℕ) → IsTest (m % t == 0) (m % t ≡ 0)
divides m t = by_test (m % t == 0) refl
  where
    by_test : (v : Bool) → (m % t == 0) ≡ v → IsTest v (m % t ≡ 0)
    by_test true e = inl (refl, grind (arith, nat_tests))
    by_test false e = inr (refl, λ same. grind (arith, nat_tests))

-- past 2^63 nothing has 64 bits
long_past : (minus : Bool) (n : ℕ) → 2 ^ 63 < n → long_of minus n ≡ None
unfolding long_of
long_past false n past = let test : nat_lt n (2 ^ 63) ≡ false = grind (arith, nat_tests) in rw test refl
long_past true n past = let test : nat_le n (2 ^ 63) ≡ false = grind (arith, nat_tests) in rw test refl

-- the quotient of what divides
quotient : (m t : ℕ) → m % t ≡ 0 → m / t * t ≡ m
quotient m t none = omega (arith, mod-add-div' m t, none)

pub value_some : (minus : Bool) (n number point : ℕ) (e : Exponent) → n * 10 ^ (point + down e) ≡ number * 10 ^ up e → scaled_value minus number point e ≡ long_of minus n
unfolding scaled_value
value_some minus n number point e same =
    let t = 10 ^ (point + down e) in
    let none : (n * t) % t ≡ 0 = mul-mod_left n t in
    let test : ((n * t) % t == 0) ≡ true = grind (arith, nat_tests) in
    rw (← same) (rw (test, mul-div_cancel n (positive (point + down e))) refl)

pub value_none : (minus : Bool) (number point : ℕ) (e : Exponent) → ((n : ℕ) → n < 2 ^ 64 → n * 10 ^ (point + down e) ≢ number * 10 ^ up e) → scaled_value minus number point e ≡ None
unfolding scaled_value
value_none minus number point e none =
    let t : ℕ = 10 ^ (point + down e) in
    let m : ℕ = number * 10 ^ up e in
    elim (divides m t) [
      | inl even ↦ (
          let whole : m / t * t ≡ m = quotient m t even.1 in
          elim (cases_lt (m / t) (2 ^ 64)) [
            | inl fits ↦ absurd (none (m / t) fits whole)
            | inr past ↦ rw (even.0) (long_past minus (m / t) (omega arith))
          ])
      | inr uneven ↦ rw (uneven.0) refl
    ]

value_uneven : (minus : Bool) (number point : ℕ) (e : Exponent) → ((number * 10 ^ up e) % 10 ^ (point + down e) == 0) ≡ false → scaled_value minus number point e ≡ None
unfolding scaled_value
value_uneven minus number point e test = rw test refl

pub value_unheld : (minus : Bool) (number point : ℕ) (e : Exponent) → IsUnheld number → scaled_value minus number point e ≡ None
value_unheld minus number point e none = value_none minus number point e (λ n fits. unheld_scaled n number (up e) (point + down e) none fits)

-- the sign of a product
signed_times : (minus : Bool) (a t : ℕ) → signed minus a *ℤ pos t ≡ signed minus (a * t)
signed_times false a t = pos-*ℤ-pos a t
signed_times true zero t = let none : 0 * t ≡ 0 = omega arith in pos-*ℤ-pos 0 t ∙ ap pos none ∙ ap (λ n. neg_ℤ (pos n)) (sym none)
signed_times true (suc a) t = negsuc-*ℤ-pos a t

-- and the number behind a sign
signed_size : (minus : Bool) (a : ℕ) → unsigned_abs (signed minus a) ≡ a
signed_size false a = refl
signed_size true zero = refl
signed_size true (suc a) = refl

-- no number below 0 is one from 0 on
apart : (x y : ℕ) → 0 < y → pos x ≡ neg_ℤ (pos y) → ⊥
apart x zero some e = omega arith
apart x (suc y) some e = cc

some_product : (a t : ℕ) → 0 < t → 0 < suc a * t
some_product a t some = omega arith

-- a factor that is not 0
cancel_signed : (v w : ℤ) (t : ℕ) → 0 < t → v *ℤ pos t ≡ w *ℤ pos t → v ≡ w
cancel_signed (pos a) (pos b) t some e =
    let same : pos (a * t) ≡ pos (b * t) = sym (pos-*ℤ-pos a t) ∙ e ∙ pos-*ℤ-pos b t in
    ap pos (cancel a b t some (ap unsigned_abs same))
cancel_signed (pos a) (negsuc b) t some e = absurd (apart (a * t) (suc b * t) (some_product b t some) (sym (pos-*ℤ-pos a t) ∙ e ∙ negsuc-*ℤ-pos b t))
cancel_signed (negsuc a) (pos b) t some e = absurd (apart (b * t) (suc a * t) (some_product a t some) (sym (pos-*ℤ-pos b t) ∙ sym e ∙ negsuc-*ℤ-pos a t))
cancel_signed (negsuc a) (negsuc b) t some e =
    let same : neg_ℤ (pos (suc a * t)) ≡ neg_ℤ (pos (suc b * t)) = sym (negsuc-*ℤ-pos a t) ∙ e ∙ negsuc-*ℤ-pos b t in
    let sizes : suc a * t ≡ suc b * t = sym (signed_size true (suc a * t)) ∙ ap unsigned_abs same ∙ signed_size true (suc b * t) in
    let less : a ≡ b = omega (arith, cancel (suc a) (suc b) t some sizes) in
    ap negsuc less

-- a number of 64 bits
long_some : (minus : Bool) (n : ℕ) (v : ℤ) → long_of minus n ≡ Some v → (v ≡ signed minus n) × IsLong v
unfolding long_of
long_some false n v e =
    let (test, same) = cond_some (nat_lt n (2 ^ 63)) (pos n) v e in
    let small : n < 2 ^ 63 = grind (arith, nat_tests) in
    (sym same, subst IsLong same (omega (arith, ints), omega (arith, ints)))
long_some true n v e =
    let (test, same) = cond_some (nat_le n (2 ^ 63)) (neg_ℤ (pos n)) v e in
    let small : n ≤ 2 ^ 63 = grind (arith, nat_tests) in
    (sym same, subst IsLong same (omega (arith, ints), omega (arith, ints)))

-- and one of more
long_none : (minus : Bool) (n : ℕ) → long_of minus n ≡ None → IsLong (signed minus n) → ⊥
unfolding long_of
long_none false n e long =
    let small : n < 2 ^ 63 = omega (arith, ints, long.1) in
    let test : nat_lt n (2 ^ 63) ≡ true = grind (arith, nat_tests) in
    let other = rw test at e in
    cc
long_none true n e long =
    let small : n ≤ 2 ^ 63 = omega (arith, ints, long.0) in
    let test : nat_le n (2 ^ 63) ≡ true = grind (arith, nat_tests) in
    let other = rw test at e in
    cc

-- a literal has one whole number at most
only_whole : (m : ℤ) (point : ℕ) (e : Exponent) (v w : ℤ) → IsWhole m point e v → IsWhole m point e w → v ≡ w
only_whole m point e v w a b = cancel_signed v w (10 ^ (point + down e)) (positive (point + down e)) (a ∙ sym b)

-- a literal has one value
pub one_value : (m : ℤ) (point : ℕ) (e : Exponent) (a b : Option ℤ) → IsValue m point e a → IsValue m point e b → a ≡ b
one_value m point e (Some v) (Some w) a b = ap Some (only_whole m point e v w a.1 b.1)
one_value m point e (Some v) None a b = absurd (b v a.0 a.1)
one_value m point e None (Some w) a b = absurd (a w b.0 b.1)
one_value m point e None None a b = refl

-- a whole number with its sign
whole_signed : (minus : Bool) (n number point : ℕ) (e : Exponent) → n * 10 ^ (point + down e) ≡ number * 10 ^ up e → IsWhole (signed minus number) point e (signed minus n)
whole_signed minus n number point e same = signed_times minus n (10 ^ (point + down e)) ∙ ap (signed minus) same ∙ sym (signed_times minus number (10 ^ up e))

-- and without it
whole_size : (minus : Bool) (number point : ℕ) (e : Exponent) (v : ℤ) → IsWhole (signed minus number) point e v → unsigned_abs v * 10 ^ (point + down e) ≡ number * 10 ^ up e
whole_size minus number point e v whole =
    sym (unsigned_abs-mul v (pos (10 ^ (point + down e)))) ∙ ap unsigned_abs whole ∙ unsigned_abs-mul (signed minus number) (pos (10 ^ up e)) ∙ ap (λ n. n * 10 ^ up e) (signed_size minus number)

-- where the number is whole
long_value : (minus : Bool) (n number point : ℕ) (e : Exponent) (o : Option ℤ) → n * 10 ^ (point + down e) ≡ number * 10 ^ up e → long_of minus n ≡ o → IsValue (signed minus number) point e o
long_value minus n number point e (Some v) same is =
    let (value, long) = long_some minus n v is in
    (long, rw value (whole_signed minus n number point e same))
long_value minus n number point e None same is =
    λ v long whole. long_none minus n is (subst IsLong (only_whole (signed minus number) point e v (signed minus n) whole (whole_signed minus n number point e same)) long)

-- what is computed is the value
pub sound_value : (minus : Bool) (number point : ℕ) (e : Exponent) → IsValue (signed minus number) point e (scaled_value minus number point e)
sound_value minus number point e =
    let t : ℕ = 10 ^ (point + down e) in
    let m : ℕ = number * 10 ^ up e in
    elim (divides m t) [
      | inl even ↦ (
          let whole : m / t * t ≡ m = quotient m t even.1 in
          long_value minus (m / t) number point e (scaled_value minus number point e) whole (sym (value_some minus (m / t) number point e whole)))
      | inr uneven ↦ (
          let none : scaled_value minus number point e ≡ None = value_uneven minus number point e uneven.0 in
          subst (IsValue (signed minus number) point e) (sym none)
          (λ v long whole. uneven.1 (ap (λ x. x % t) (sym (whole_size minus number point e v whole)) ∙ mul-mod_left (unsigned_abs v) t)))
    ]
