-- A number literal is read whole, with its one value, where the text after it cannot continue it.
use Rattle.std.proofs.Common.{◌≡◌, ℕ, ◌≤◌, Bool, true, false, ◌||◌, ◌==◌, ℤ, List, [], ◌∷◌, ◌++◌, length, Option, Some, refl, ap, ◌∙◌, inl, inr, append_assoc, arith}
use Rattle.std.proofs.lemmas.Bool.Decides.{nat_tests}
use Rattle.jsonpath_parser.specs.Prelude.{digits_at, digits_value, Exponent, exponent_at, first, fraction_at, is_ascii_digit, is_exponent_mark, is_int_first, IsDigits, IsRun, IsWholePart, lowered, number_at, raised, scaled_value, sign_at, signed, signed_digits_at, SpellsExponent, SpellsFraction, SpellsNumber, SpellsSign, split_while, whole_part_at}
use Rattle.jsonpath_parser.proofs.laws.words.Fronts.{run_over}
use Rattle.jsonpath_parser.proofs.laws.words.NumberValues.{one_value, sound_value}

-- a byte that may continue a number literal: a digit, `.`, `e` or `E`
abbrev pub continues_number : ℕ → Bool
continues_number b = (is_ascii_digit b || b == 46) || is_exponent_mark b

-- the text does not continue a number literal
abbrev pub EndsNumber : List ℕ → Type 0
EndsNumber more = continues_number (first more) ≡ false

-- digits are the run at the front
digits_read : (text : List ℕ) (parts : List ℕ × List ℕ) → is_ascii_digit (first text) ≡ true → split_while is_ascii_digit text ≡ parts → digits_at text ≡ Some parts
unfolding digits_at
digits_read text parts h e = rw h (ap Some e)

-- digits, up to a byte that is none
digits_over : (digits more : List ℕ) → IsDigits digits → is_ascii_digit (first more) ≡ false → digits_at (digits ++ more) ≡ Some (digits, more)
digits_over [] more h stop = absurd (omega (arith, h.1))
digits_over (d ∷ ds) more h stop = digits_read ((d ∷ ds) ++ more) (d ∷ ds, more) h.0.0 (run_over is_ascii_digit (d ∷ ds) more h.0 stop refl)

-- how digits begin
digits_start : (digits more : List ℕ) → IsDigits digits → is_ascii_digit (first (digits ++ more)) ≡ true
digits_start [] more h = absurd (omega (arith, h.1))
digits_start (d ∷ ds) more h = h.0.0

-- digits behind the mark of an exponent
signed_plain : (text digits more : List ℕ) → is_ascii_digit (first text) ≡ true → digits_at text ≡ Some (digits, more) → signed_digits_at text ≡ Some (raised (digits_value 10 digits), more)
unfolding signed_digits_at
signed_plain text digits more start read =
    let minus : (first text == 45) ≡ false = grind (arith, nat_tests) in
    let plus : (first text == 43) ≡ false = grind (arith, nat_tests) in
    rw (minus, plus, read) refl

signed_plus : (text digits more : List ℕ) → digits_at text ≡ Some (digits, more) → signed_digits_at (43 ∷ text) ≡ Some (raised (digits_value 10 digits), more)
unfolding signed_digits_at
signed_plus text digits more read = rw read refl

signed_minus : (text digits more : List ℕ) → digits_at text ≡ Some (digits, more) → signed_digits_at (45 ∷ text) ≡ Some (lowered (digits_value 10 digits), more)
unfolding signed_digits_at
signed_minus text digits more read = rw read refl

-- a mark and what follows it
exponent_read : (mark : ℕ) (text more : List ℕ) (x : Exponent) → is_exponent_mark mark ≡ true → signed_digits_at text ≡ Some (x, more) → exponent_at (mark ∷ text) ≡ (x, more)
unfolding exponent_at
exponent_read mark text more x marked read = rw (marked, read) refl

exponent_none : (more : List ℕ) → is_exponent_mark (first more) ≡ false → exponent_at more ≡ (raised 0, more)
unfolding exponent_at
exponent_none more stop = rw stop refl

-- no digit, no mark
ends : (b : ℕ) → continues_number b ≡ false → (is_ascii_digit b ≡ false) × ((b == 46) ≡ false) × (is_exponent_mark b ≡ false)
ends b h = (grind (arith, nat_tests), grind (arith, nat_tests), grind (arith, nat_tests))

-- an exponent
exponent_over : (x : Exponent) (c more : List ℕ) → SpellsExponent x c → EndsNumber more → exponent_at (c ++ more) ≡ (x, more)
exponent_over (raised x) c more h stop = elim h [
  | inl none ↦ rw (none.0, none.1) (exponent_none more (ends (first more) stop).2)
  | inr some ↦ (
      let (mark, sign, digits, marked, signs, run, value, e) = some in
      let read = digits_over digits more run (ends (first more) stop).0 in
      elim signs [
        | inl plain ↦ rw (e, plain, value) (exponent_read mark (digits ++ more) more (raised (digits_value 10 digits)) marked (signed_plain (digits ++ more) digits more (digits_start digits more run) read))
        | inr plus ↦ rw (e, plus, value) (exponent_read mark (43 ∷ (digits ++ more)) more (raised (digits_value 10 digits)) marked (signed_plus (digits ++ more) digits more read))
      ])
]
exponent_over (lowered x) c more h stop =
    let (mark, digits, marked, run, value, e) = h in
    let read = digits_over digits more run (ends (first more) stop).0 in
    rw (e, value) (exponent_read mark (45 ∷ (digits ++ more)) more (lowered (digits_value 10 digits)) marked (signed_minus (digits ++ more) digits more read))

-- an exponent, or the end, is neither a digit nor a point
exponent_start : (x : Exponent) (c more : List ℕ) → SpellsExponent x c → EndsNumber more → (is_ascii_digit (first (c ++ more)) ≡ false) × ((first (c ++ more) == 46) ≡ false)
exponent_start (raised x) c more h stop = elim h [
  | inl none ↦ (let facts = ends (first more) stop in rw (none.0) (facts.0, facts.1))
  | inr some ↦ (let (mark, sign, digits, marked, signs, run, value, e) = some in rw e (marked_other mark marked))
]
  where
    marked_other : (mark : ℕ) → is_exponent_mark mark ≡ true → (is_ascii_digit mark ≡ false) × ((mark == 46) ≡ false)
    marked_other mark marked = (grind (arith, nat_tests), grind (arith, nat_tests))
exponent_start (lowered x) c more h stop = let (mark, digits, marked, run, value, e) = h in rw e (grind (arith, nat_tests), grind (arith, nat_tests))

-- a point and digits
fraction_read : (text digits more : List ℕ) → digits_at text ≡ Some (digits, more) → fraction_at (46 ∷ text) ≡ (digits, more)
unfolding fraction_at
fraction_read text digits more read = rw read refl

fraction_over : (digits b more : List ℕ) → SpellsFraction digits b → is_ascii_digit (first more) ≡ false → (first more == 46) ≡ false → fraction_at (b ++ more) ≡ (digits, more)
unfolding fraction_at
fraction_over [] b more h stop other = rw (h, other) refl
fraction_over (d ∷ ds) b more h stop other = rw (h.1) (fraction_read ((d ∷ ds) ++ more) (d ∷ ds) more (digits_over (d ∷ ds) more (h.0, omega arith) stop))

-- it begins with no digit
fraction_start : (digits b more : List ℕ) → SpellsFraction digits b → is_ascii_digit (first more) ≡ false → is_ascii_digit (first (b ++ more)) ≡ false
fraction_start [] b more h stop = rw h stop
fraction_start (d ∷ ds) b more h stop = rw (h.1) refl

-- the digits before the point
whole_plain : (text digits more : List ℕ) → (first text == 48) ≡ false → digits_at text ≡ Some (digits, more) → whole_part_at text ≡ Some (digits, more)
unfolding whole_part_at
whole_plain text digits more other read = rw (other, read) refl

whole_zero : (more : List ℕ) → whole_part_at (48 ∷ more) ≡ Some (48 ∷ [], more)
unfolding whole_part_at
whole_zero more = refl

whole_over : (w more : List ℕ) → IsWholePart w → is_ascii_digit (first more) ≡ false → whole_part_at (w ++ more) ≡ Some (w, more)
whole_over w more h stop = elim h [ inl lead ↦ rw lead (whole_zero more) | inr other ↦ from_digits w other stop ]
  where
    from_digits : (w : List ℕ) → IsRun is_ascii_digit w × (49 ≤ first w) → is_ascii_digit (first more) ≡ false → whole_part_at (w ++ more) ≡ Some (w, more)
    from_digits [] h stop = absurd (omega (arith, h.1))
    from_digits (d ∷ ds) h stop =
        let high : 49 ≤ d = h.1 in
        whole_plain ((d ∷ ds) ++ more) (d ∷ ds) more (grind (arith, nat_tests)) (digits_over (d ∷ ds) more (h.0, omega arith) stop)

-- they begin with a digit
whole_start : (w more : List ℕ) → IsWholePart w → is_ascii_digit (first (w ++ more)) ≡ true
whole_start w more h = elim h [ inl lead ↦ rw lead refl | inr other ↦ from_digits w other ]
  where
    from_digits : (w : List ℕ) → IsRun is_ascii_digit w × (49 ≤ first w) → is_ascii_digit (first (w ++ more)) ≡ true
    from_digits [] h = absurd (omega (arith, h.1))
    from_digits (d ∷ ds) h = h.0.0

-- a sign
sign_over : (minus : Bool) (a more : List ℕ) → SpellsSign minus a → is_ascii_digit (first more) ≡ true → sign_at (a ++ more) ≡ (minus, more)
unfolding sign_at
sign_over false a more h digit = let other : (first more == 45) ≡ false = grind (arith, nat_tests) in rw (h, other) refl
sign_over true a more h digit = rw h refl

-- the parts of a text
number_read : (text t1 t2 t3 rest w f : List ℕ) (minus : Bool) (x : Exponent) → sign_at text ≡ (minus, t1) → whole_part_at t1 ≡ Some (w, t2) → fraction_at t2 ≡ (f, t3) → exponent_at t3 ≡ (x, rest)
    → number_at text ≡ Some (scaled_value minus (digits_value 10 (w ++ f)) (length f) x, rest)
unfolding number_at
number_read text t1 t2 t3 rest w f minus x e1 e2 e3 e4 = rw (e1, e2, e3, e4) refl

-- four pieces and a rest
regroup : (a w b c more : List ℕ) → (a ++ (w ++ (b ++ c))) ++ more ≡ a ++ (w ++ (b ++ (c ++ more)))
regroup a w b c more = simp append_assoc

-- A number literal begins with a digit or `-`.
pub number_start : (v : Option ℤ) (a more : List ℕ) → SpellsNumber v a → is_int_first (first (a ++ more)) ≡ true
number_start v text more h =
    let later = h.fraction_text ++ (h.exponent_text ++ more) in
    rw (h.spelled, regroup h.sign_text h.integer h.fraction_text h.exponent_text more) (behind_sign h.minus h.sign_text (h.integer ++ later) h.sign_spelled (whole_start h.integer later h.is_whole_part))
  where
    behind_sign : (minus : Bool) (a rest : List ℕ) → SpellsSign minus a → is_ascii_digit (first rest) ≡ true → is_int_first (first (a ++ rest)) ≡ true
    behind_sign false a rest h digit = rw (h, digit) refl
    behind_sign true a rest h digit = rw h refl

-- A number literal is read whole, with its value.
pub complete_number : (v : Option ℤ) (a more : List ℕ) → SpellsNumber v a → EndsNumber more → number_at (a ++ more) ≡ Some (v, more)
complete_number v text more h stop =
    let a = h.sign_text in
    let w = h.integer in
    let b = h.fraction_text in
    let c = h.exponent_text in
    let start = exponent_start h.exponent c more h.exponent_spelled stop in
    let behind = fraction_start h.fraction b (c ++ more) h.fraction_spelled start.0 in
    let digit = whole_start w (b ++ (c ++ more)) h.is_whole_part in
    let read = number_read (a ++ (w ++ (b ++ (c ++ more)))) (w ++ (b ++ (c ++ more))) (b ++ (c ++ more)) (c ++ more) more w h.fraction h.minus h.exponent
    (sign_over h.minus a (w ++ (b ++ (c ++ more))) h.sign_spelled digit)
    (whole_over w (b ++ (c ++ more)) h.is_whole_part behind)
    (fraction_over h.fraction b (c ++ more) h.fraction_spelled start.0 start.1)
    (exponent_over h.exponent c more h.exponent_spelled stop) in
    let n = digits_value 10 (w ++ h.fraction) in
    let same = one_value (signed h.minus n) (length h.fraction) h.exponent _ v (sound_value h.minus n (length h.fraction) h.exponent) h.is_value in
    rw (h.spelled, regroup a w b c more) (read ∙ ap (λ o. Some (o, more)) same)
