-- Where runs of bytes end.
use Rattle.std.proofs.Common.{◌≡◌, ℕ, zero, suc, ◌<◌, Bool, true, false, List, length, get_or, IsUtf8, refl, subst, inl, inr, arith, add-one}
use Rattle.std.proofs.lemmas.Bool.{cases_lt}
use Rattle.std.proofs.lemmas.Bool.Decides.{nat_tests}
use Rattle.std.proofs.lemmas.List.{get_or_past}
use Rattle.std.proofs.lemmas.List.Sums.{prefix_len-le-length, prefix_len_passes, prefix_len_stops}
use Rattle.std.proofs.lemmas.Str.{IsCharBoundary-start, IsCharBoundary-end, IsCharBoundary-before_ascii, IsCharBoundary-after_ascii}
use Rattle.jsonpath_parser.specs.Prelude.{is_ascii_digit, is_blank, is_function_byte, is_name_byte, IsCharBoundary, prefix_len}

-- a byte that is not 0 was read inside the text
pub within_from_byte : (xs : List ℕ) (i : ℕ) → 0 < get_or xs i 0 → i < length xs
within_from_byte xs i h = elim (cases_lt i (length xs)) [ inl within ↦ within | inr past ↦ absurd (omega (arith, get_or_past xs i 0 past)) ]

-- a run of n ASCII bytes ends where a character does
after_ascii_run : (p : ℕ → Bool) (bs : List ℕ) (n : ℕ) → prefix_len p bs ≡ n → IsUtf8 bs → ((c : ℕ) → p c ≡ true → c < 128) → IsCharBoundary bs n
after_ascii_run p bs zero e utf8 ascii = IsCharBoundary-start bs utf8
after_ascii_run p bs (suc k) e utf8 ascii =
    rw (← add-one) (IsCharBoundary-after_ascii bs k utf8 (omega (arith, prefix_len-le-length p bs)) (ascii _ (prefix_len_passes p bs k 0 (omega arith))))

-- a run of ASCII bytes ends where a character does
ascii_boundary : (p : ℕ → Bool) (bs : List ℕ) → IsUtf8 bs → ((c : ℕ) → p c ≡ true → c < 128) → IsCharBoundary bs (prefix_len p bs)
ascii_boundary p bs = after_ascii_run p bs _ refl

-- and so does a run that only an ASCII byte stops
pub wide_boundary : (p : ℕ → Bool) (bs : List ℕ) → ((c : ℕ) → p c ≡ false → c < 128) → IsCharBoundary bs (prefix_len p bs)
wide_boundary p bs ascii =
    elim (cases_lt (prefix_len p bs) (length bs)) [
      | inl within ↦ IsCharBoundary-before_ascii bs _ within (ascii _ (prefix_len_stops p bs 0 within))
      | inr past ↦ subst (IsCharBoundary bs) (omega (arith, prefix_len-le-length p bs)) (IsCharBoundary-end bs)
    ]

-- blanks end where a character does
pub blank_boundary : (bs : List ℕ) → IsUtf8 bs → IsCharBoundary bs (prefix_len is_blank bs)
blank_boundary bs utf8 = ascii_boundary is_blank bs utf8 (λ c e. grind (arith, nat_tests))

-- so does a name
pub name_boundary : (bs : List ℕ) → IsUtf8 bs → IsCharBoundary bs (prefix_len is_name_byte bs)
name_boundary bs utf8 = wide_boundary is_name_byte bs (λ c e. grind (arith, nat_tests))

-- and digits
pub digit_boundary : (bs : List ℕ) → IsUtf8 bs → IsCharBoundary bs (prefix_len is_ascii_digit bs)
digit_boundary bs utf8 = ascii_boundary is_ascii_digit bs utf8 (λ c e. grind (arith, nat_tests))

-- and the name of a function
pub function_boundary : (bs : List ℕ) → IsUtf8 bs → IsCharBoundary bs (prefix_len is_function_byte bs)
function_boundary bs utf8 = ascii_boundary is_function_byte bs utf8 (λ c e. grind (arith, nat_tests))
