-- Powers of ten, and numbers that digits grow into.
use Rattle.std.proofs.Common.{◌≡◌, ◌≢◌, ℕ, zero, suc, ◌+◌, ◌-◌, ◌*◌, ◌/◌, ◌%◌, ◌^◌, ◌<◌, ◌≤◌, min, true, List, [], ◌∷◌, ◌++◌, length, Option, Some, None, IfSome, IfNone, get_or, drop, refl, sym, ap, ◌∙◌, subst, ◌⊎◌, inl, inr, lit<, add-one, drop-cons, arith}
use Rattle.std.proofs.lemmas.Bool.{cases_lt}
use Rattle.std.proofs.lemmas.Bool.Decides.{nat_tests}
use Rattle.std.proofs.lemmas.Nat.{pow-add}
use Rattle.std.proofs.Math.Nat.{pow-suc, mul_assoc, one-le-pow, pow-le-pow_right, mul-le-mul_left, mul-le-mul_right, mul-div_cancel, one-mul}
use Rattle.jsonpath_parser.specs.Prelude.{digit_value, digits_value_after, is_ascii_digit, IsRun, IsUnheld}

pub positive : (k : ℕ) → 0 < 10 ^ k
positive k = one-le-pow k 10 (lit< tt)

-- a factor that is not 0
pub cancel : (a b t : ℕ) → 0 < t → a * t ≡ b * t → a ≡ b
cancel a b t some e = sym (mul-div_cancel a some) ∙ ap (λ x. x / t) e ∙ mul-div_cancel b some

-- one more zero
one_more_suc : (n k : ℕ) → n * 10 ^ suc k ≡ n * 10 ^ k * 10
one_more_suc n k = ap (λ x. n * x) (pow-suc 10 k) ∙ sym (mul_assoc n (10 ^ k) 10)

pub one_more : (n k : ℕ) → n * 10 ^ (k + 1) ≡ n * 10 ^ k * 10
one_more n k = rw add-one (one_more_suc n k)

-- zeros in two parts
split : (n i j : ℕ) → n * 10 ^ (i + j) ≡ n * 10 ^ i * 10 ^ j
split n i j = ap (λ x. n * x) (pow-add 10 i j) ∙ sym (mul_assoc n (10 ^ i) (10 ^ j))

-- zeros make no number smaller
pub padded-ge : (n k : ℕ) → n ≤ n * 10 ^ k
padded-ge n k = let grown : n * 1 ≤ n * 10 ^ k = mul-le-mul_left n (positive k) in omega (arith, grown)

-- and twenty are too many
pub padded_far : (n k : ℕ) → n ≢ 0 → 20 ≤ k → 2 ^ 64 ≤ n * 10 ^ k
padded_far n k some far =
    let power : 10 ^ 20 ≤ 10 ^ k = pow-le-pow_right (lit< tt) far in
    let one : 1 ≤ n = omega arith in
    let grown : 1 * 10 ^ k ≤ n * 10 ^ k = mul-le-mul_right (10 ^ k) one in
    omega (arith, one-mul (10 ^ k))

-- more zeros than are taken off
pub raises : (n number up down : ℕ) → down ≤ up → n ≡ number * 10 ^ (up - down) → n * 10 ^ down ≡ number * 10 ^ up
raises n number up down le e =
    let sum : up - down + down ≡ up = omega arith in
    ap (λ x. x * 10 ^ down) e ∙ sym (split number (up - down) down) ∙ ap (λ k. number * 10 ^ k) sum

pub raises_only : (n number up down : ℕ) → down ≤ up → n * 10 ^ down ≡ number * 10 ^ up → n ≡ number * 10 ^ (up - down)
raises_only n number up down le e =
    let sum : up ≡ up - down + down = omega arith in
    cancel n (number * 10 ^ (up - down)) (10 ^ down) (positive down) (e ∙ ap (λ k. number * 10 ^ k) sum ∙ split number (up - down) down)

-- fewer zeros than are taken off
pub lowers_none : (n number up down : ℕ) → up < down → number % 10 ≢ 0 → n * 10 ^ down ≢ number * 10 ^ up
lowers_none n number up down less ends e =
    let k = down - (up + 1) in
    let sum : up + (k + 1) ≡ down = omega arith in
    let swap : k + 1 + up ≡ down = omega arith in
    let apart : n * 10 ^ (k + 1) * 10 ^ up ≡ number * 10 ^ up = sym (split n (k + 1) up) ∙ ap (λ x. n * 10 ^ x) swap ∙ e in
    let whole : n * 10 ^ (k + 1) ≡ number = cancel (n * 10 ^ (k + 1)) number (10 ^ up) (positive up) apart in
    ends (omega (arith, whole, one_more n k))

-- so many zeros that no number of 64 bits is left
pub raises_far : (n number up down : ℕ) → number ≢ 0 → down + 20 ≤ up → n < 2 ^ 64 → n * 10 ^ down ≢ number * 10 ^ up
raises_far n number up down some far fits e =
    let le : down ≤ up = omega arith in
    let more : 20 ≤ up - down = omega arith in
    omega (arith, raises_only n number up down le e, padded_far number (up - down) some more)

-- a digit other than 0 behind what is too large
unheld_over : (n d : ℕ) → d < 10 → d ≢ 0 → 2 ^ 64 ≤ n * 10 + d → IsUnheld (n * 10 + d)
unheld_over n d small some over v zero fits e = omega (arith, e)
unheld_over n d small some over v (suc k) fits e = some (omega (arith, e, one_more_suc v k))

unheld_digit : (n d : ℕ) → d < 10 → IsUnheld n → IsUnheld (n * 10 + d)
unheld_digit n d small none v zero fits e = none n 0 (omega (arith, e)) (omega arith)
unheld_digit n d small none v (suc k) fits e = none v k fits (omega (arith, e, one_more_suc v k))

-- a digit
pub digit_small : (c : ℕ) → is_ascii_digit c ≡ true → (digit_value c < 10) × (48 ≤ c) × (c - 48 ≡ digit_value c)
digit_small c h = (grind (arith, nat_tests), grind (arith, nat_tests), grind (arith, nat_tests))

-- further digits hold no number that is too large
pub unheld_after : (n : ℕ) (digits : List ℕ) → IsRun is_ascii_digit digits → IsUnheld n → IsUnheld (digits_value_after 10 n digits)
unheld_after n [] run none = none
unheld_after n (c ∷ cs) run none = unheld_after (n * 10 + digit_value c) cs run.1 (unheld_digit n (digit_value c) (digit_small c run.0).0 none)

-- what is too large stays so at any power of ten
pub unheld_scaled : (n number up down : ℕ) → IsUnheld number → n < 2 ^ 64 → n * 10 ^ down ≢ number * 10 ^ up
unheld_scaled n number up down none fits e = elim (cases_lt up down) [
  | inl less ↦ (
      let k = down - up in
      let sum : k + up ≡ down = omega arith in
      none n k fits (cancel (n * 10 ^ k) number (10 ^ up) (positive up) (sym (split n k up) ∙ ap (λ x. n * 10 ^ x) sum ∙ e)))
  | inr le ↦ none number 0 (omega (arith, raises_only n number up down le e, padded-ge number (up - down))) (omega arith)
]

-- the next digit of a run
pub next_digit : (digits : List ℕ) (i : ℕ) → i < length digits → IsRun is_ascii_digit (drop i digits) → (is_ascii_digit (get_or digits i 0) ≡ true) × IsRun is_ascii_digit (drop (i + 1) digits)
next_digit digits i within run = let parts = rw (drop-cons digits i 0) at run in rw add-one parts

pub next_value : (n : ℕ) (digits : List ℕ) (i : ℕ) → i < length digits → digits_value_after 10 n (drop i digits) ≡ digits_value_after 10 (n * 10 + digit_value (get_or digits i 0)) (drop (i + 1) digits)
next_value n digits i within = rw (add-one, drop-cons digits i 0) refl

-- a digit that does not fit
pub unheld_turn : (start n d : ℕ) (digits : List ℕ) (i : ℕ) → i < length digits → IsRun is_ascii_digit (drop i digits) → d ≡ digit_value (get_or digits i 0) → d ≢ 0 → 2 ^ 64 ≤ n * 10 + d
    → digits_value_after 10 n (drop i digits) ≡ digits_value_after 10 start digits → IsUnheld (digits_value_after 10 start digits)
unheld_turn start n d digits i within run is some over same =
    let parts = next_digit digits i within run in
    let small : d < 10 = rw is (digit_small (get_or digits i 0) parts.0).0 in
    let grown : IsUnheld (digits_value_after 10 (n * 10 + d) (drop (i + 1) digits)) = unheld_after (n * 10 + d) (drop (i + 1) digits) parts.1 (unheld_over n d small some over) in
    let turned : digits_value_after 10 (n * 10 + d) (drop (i + 1) digits) ≡ digits_value_after 10 start digits =
    ap (λ v. digits_value_after 10 (n * 10 + v) (drop (i + 1) digits)) is ∙ sym (next_value n digits i within) ∙ same in
    subst IsUnheld turned grown

-- a fact on the value, if there is one
pub if_some : (r : Option ℕ) (P Q : ℕ → Type 0) → ((n : ℕ) → P n → Q n) → IfSome r P → IfSome r Q
if_some None P Q f h = tt
if_some (Some n) P Q f h = f n h

-- a fact where there is none
pub if_none : (r : Option ℕ) (P Q : Type 0) → (P → Q) → IfNone r P → IfNone r Q
if_none None P Q f h = f h
if_none (Some n) P Q f h = tt

-- an exponent below 0 that is cut off at the greatest number of 64 bits
pub cut_below : (number trail point x cut : ℕ) → trail < 2 ^ 63 → cut ≡ min (point + min x 18446744073709551615) 18446744073709551615 → number % 10 ≢ 0 →
    (cut ≡ point + x) ⊎ ((n : ℕ) → (n * 10 ^ cut ≢ number * 10 ^ trail) × (n * 10 ^ (point + x) ≢ number * 10 ^ trail))
cut_below number trail point x cut small is ends = elim (cases_lt 18446744073709551615 (point + x)) [
  | inl far ↦ (
      let a : trail < cut = omega arith in
      let b : trail < point + x = omega arith in
      inr (λ n. (lowers_none n number trail cut a ends, lowers_none n number trail (point + x) b ends)))
  | inr near ↦ inl (omega arith)
]

-- and one above 0
pub cut_above : (number trail point x cut : ℕ) → point < 2 ^ 63 → cut ≡ min (trail + min x 18446744073709551615) 18446744073709551615 → number ≢ 0 →
    (cut ≡ trail + x) ⊎ ((n : ℕ) → n < 2 ^ 64 → (n * 10 ^ point ≢ number * 10 ^ cut) × (n * 10 ^ point ≢ number * 10 ^ (trail + x)))
cut_above number trail point x cut small is some = elim (cases_lt 18446744073709551615 (trail + x)) [
  | inl far ↦ (
      let a : point + 20 ≤ cut = omega arith in
      let b : point + 20 ≤ trail + x = omega arith in
      inr (λ n fits. (raises_far n number cut point some a fits, raises_far n number (trail + x) point some b fits)))
  | inr near ↦ inl (omega arith)
]

-- n over 10 ^ down is the number times 10 ^ up
abbrev IsScaled : ℕ → ℕ → ℕ → ℕ → Type 0
IsScaled number up down n = n * 10 ^ down ≡ number * 10 ^ up

-- no number of 64 bits is
abbrev IsUnscaled : ℕ → ℕ → ℕ → Type 0
IsUnscaled number up down = (n : ℕ) → n < 2 ^ 64 → n * 10 ^ down ≢ number * 10 ^ up

-- the zeros of the number and those of the exponent are one power of ten
joined : (number trail up down n : ℕ) → IsScaled number (trail + up) down n → IsScaled (number * 10 ^ trail) up down n
joined number trail up down n e = e ∙ split number trail up

parted : (number trail up down n : ℕ) → IsScaled (number * 10 ^ trail) up down n → IsScaled number (trail + up) down n
parted number trail up down n e = e ∙ sym (split number trail up)

-- no more zeros
none_more : (number trail : ℕ) → number * 10 ^ trail * 10 ^ 0 ≡ number * 10 ^ trail
none_more number trail = omega arith

pub below_some : (r : Option ℕ) (number trail point x cut : ℕ) → trail < 2 ^ 63 → cut ≡ min (point + min x 18446744073709551615) 18446744073709551615 → number % 10 ≢ 0 →
    IfSome r (IsScaled number trail cut) → IfSome r (IsScaled (number * 10 ^ trail) 0 (point + x))
below_some r number trail point x cut small is ends = if_some r _ _ (λ n e. elim (cut_below number trail point x cut small is ends) [
  | inl same ↦ ap (λ k. n * 10 ^ k) (sym same) ∙ e ∙ sym (none_more number trail)
  | inr none ↦ absurd ((none n).0 e)
])

pub below_none : (r : Option ℕ) (number trail point x cut : ℕ) → trail < 2 ^ 63 → cut ≡ min (point + min x 18446744073709551615) 18446744073709551615 → number % 10 ≢ 0 →
    IfNone r (IsUnscaled number trail cut) → IfNone r (IsUnscaled (number * 10 ^ trail) 0 (point + x))
below_none r number trail point x cut small is ends = if_none r _ _ (λ h n fits e. elim (cut_below number trail point x cut small is ends) [
  | inl same ↦ h n fits (ap (λ k. n * 10 ^ k) same ∙ e ∙ none_more number trail)
  | inr none ↦ (none n).1 (e ∙ none_more number trail)
])

pub above_some : (r : Option ℕ) (number trail point x cut : ℕ) → point < 2 ^ 63 → cut ≡ min (trail + min x 18446744073709551615) 18446744073709551615 → number ≢ 0 →
    IfSome r (λ n. n < 2 ^ 64) → IfSome r (IsScaled number cut point) → IfSome r (IsScaled (number * 10 ^ trail) x (point + 0))
above_some None number trail point x cut small is some fits h = tt
above_some (Some n) number trail point x cut small is some fits h = elim (cut_above number trail point x cut small is some) [
  | inl same ↦ (let bare : point + 0 ≡ point = omega arith in rw bare (joined number trail x point n (h ∙ ap (λ k. number * 10 ^ k) same)))
  | inr none ↦ absurd ((none n fits).0 h)
]

pub above_none : (r : Option ℕ) (number trail point x cut : ℕ) → point < 2 ^ 63 → cut ≡ min (trail + min x 18446744073709551615) 18446744073709551615 → number ≢ 0 →
    IfNone r (IsUnscaled number cut point) → IfNone r (IsUnscaled (number * 10 ^ trail) x (point + 0))
above_none r number trail point x cut small is some = if_none r _ _ (λ h n fits e.
    let bare : point ≡ point + 0 = omega arith in
    let at : IsScaled number (trail + x) point n = parted number trail x point n (ap (λ k. n * 10 ^ k) bare ∙ e) in
    elim (cut_above number trail point x cut small is some) [
      | inl same ↦ h n fits (at ∙ ap (λ k. number * 10 ^ k) (sym same))
      | inr none ↦ (none n fits).1 at
    ])

-- digits behind digits
pub digits_value_after-append : (n : ℕ) (a b : List ℕ) → digits_value_after 10 n (a ++ b) ≡ digits_value_after 10 (digits_value_after 10 n a) b
digits_value_after-append n [] b = refl
digits_value_after-append n (c ∷ a) b = digits_value_after-append (n * 10 + digit_value c) a b
