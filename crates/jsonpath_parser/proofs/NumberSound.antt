-- What is read as a number literal is one, of the value that is read.
use Rattle.std.proofs.Common.{◌≡◌, ℕ, suc, ◌≤◌, Bool, true, false, cond, ◌==◌, ℤ, List, [], ◌∷◌, ◌++◌, length, take, drop, Option, Some, None, unwrap_or, refl, sym, ap, ◌∙◌, subst, ◌⊎◌, inl, inr, append_assoc, arith}
use Rattle.std.proofs.lemmas.Bool.Decides.{nat_tests}
use Rattle.std.proofs.lemmas.Option.{cond_some}
use Rattle.jsonpath_parser.specs.Prelude.{digits_at, digits_value, Exponent, exponent_at, first, fraction_at, is_ascii_digit, is_exponent_mark, IsDigits, IsRun, IsValue, IsWholePart, lowered, number_at, prefix_len, raised, scaled_value, sign_at, signed, signed_digits_at, SpellsExponent, SpellsFraction, SpellsNumber, SpellsSign, split_while, whole_part_at}
use Rattle.jsonpath_parser.proofs.laws.words.Fronts.{run_holds}
use Rattle.jsonpath_parser.proofs.laws.words.NumberValues.{sound_value}
use Rattle.jsonpath_parser.proofs.SoundParts.{bind_ok, chosen, at_front}

-- the parts of a pair in an option
some_left : (x y s t : List ℕ) → ◌≡◌ {A = Option (List ℕ × List ℕ)} (Some (x, s)) (Some (y, t)) → x ≡ y
some_left x y s t e = let p : ◌≡◌ {A = List ℕ × List ℕ} (x, s) (y, t) = cc in ap (λ (q : List ℕ × List ℕ). q.0) p

some_right : (x y s t : List ℕ) → ◌≡◌ {A = Option (List ℕ × List ℕ)} (Some (x, s)) (Some (y, t)) → s ≡ t
some_right x y s t e = let p : ◌≡◌ {A = List ℕ × List ℕ} (x, s) (y, t) = cc in ap (λ (q : List ℕ × List ℕ). q.1) p

-- digits that are read
digits_sound : (text digits rest : List ℕ) → digits_at text ≡ Some (digits, rest) → IsDigits digits × (text ≡ digits ++ rest)
unfolding digits_at
digits_sound [] digits rest e = absurd (cc)
digits_sound (b ∷ s) digits rest e =
    let (start, parts) = cond_some (is_ascii_digit b) (split_while is_ascii_digit (b ∷ s)) (digits, rest) e in
    let some : prefix_len is_ascii_digit (b ∷ s) ≡ suc (prefix_len is_ascii_digit s) = rw start (omega arith) in
    let whole = run_holds is_ascii_digit (b ∷ s) in
    let left : take (prefix_len is_ascii_digit (b ∷ s)) (b ∷ s) ≡ digits = ap (λ (q : List ℕ × List ℕ). q.0) parts in
    let right : drop (prefix_len is_ascii_digit (b ∷ s)) (b ∷ s) ≡ rest = ap (λ (q : List ℕ × List ℕ). q.1) parts in
    let same : b ∷ take (prefix_len is_ascii_digit s) s ≡ digits = ap (λ k. take k (b ∷ s)) (sym some) ∙ left in
    let size : length (b ∷ take (prefix_len is_ascii_digit s) s) ≡ length digits = ap length same in
    ((subst (λ v. IsRun is_ascii_digit v) left whole.0, omega arith), whole.1 ∙ ap (λ v. v ++ drop (prefix_len is_ascii_digit (b ∷ s)) (b ∷ s)) left ∙ ap (λ v. digits ++ v) right)

-- digits that do not begin with 0
no_lead : (digits text rest : List ℕ) → IsDigits digits → text ≡ digits ++ rest → (first text == 48) ≡ false → 49 ≤ first digits
no_lead [] text rest h e other = absurd (omega (arith, h.1))
no_lead (d ∷ ds) text rest h e other =
    let front : first text ≡ d = ap first e in
    let digit : is_ascii_digit d ≡ true = h.0.0 in
    grind (arith, nat_tests)

-- the digits before the point
whole_part_sound : (text digits rest : List ℕ) → whole_part_at text ≡ Some (digits, rest) → IsWholePart digits × (text ≡ digits ++ rest)
unfolding whole_part_at
whole_part_sound text digits rest e = elim (chosen (first text == 48) _ _ _ e) [
  | inl zero_digit ↦ (
      let front = at_front text 48 zero_digit.0 (omega arith) in
      let left : take 1 text ≡ digits = some_left (take 1 text) digits (drop 1 text) rest zero_digit.1 in
      let right : drop 1 text ≡ rest = some_right (take 1 text) digits (drop 1 text) rest zero_digit.1 in
      let is : digits ≡ 48 ∷ [] = sym left ∙ ap (take 1) front in
      (inl is, front ∙ ap (λ v. 48 ∷ v) right ∙ ap (λ v. v ++ rest) (sym is)))
  | inr other ↦ (
      let (run, spelled) = digits_sound text digits rest other.1 in
      (inr (run.0, no_lead digits text rest run spelled other.0), spelled))
]

-- a sign
sign_sound : (text : List ℕ) → (a : List ℕ) × SpellsSign (sign_at text).0 a × (text ≡ a ++ (sign_at text).1)
unfolding sign_at
sign_sound text = by_test (first text == 45) refl
  where
    by_test : (v : Bool) → (first text == 45) ≡ v → (a : List ℕ) × SpellsSign (sign_at text).0 a × (text ≡ a ++ (sign_at text).1)
    by_test true e = rw e (45 ∷ [], refl, at_front text 45 e (omega arith))
    by_test false e = rw e ([], refl, refl)

-- a point and digits
point_spells : (digits : List ℕ) → IsDigits digits → SpellsFraction digits (46 ∷ digits)
point_spells [] h = absurd (omega (arith, h.1))
point_spells (d ∷ ds) h = (h.0, refl)

-- what a choice with a default gives
either : {A : Type 0} (o : Option A) (d : A) → ((a : A) × (o ≡ Some a) × (unwrap_or o d ≡ a)) ⊎ (unwrap_or o d ≡ d)
either (Some a) d = inl (a, refl, refl)
either None d = inr refl

-- the digits behind the point
fraction_sound : (text digits rest : List ℕ) → fraction_at text ≡ (digits, rest) → (a : List ℕ) × SpellsFraction digits a × (text ≡ a ++ rest)
unfolding fraction_at
fraction_sound text digits rest e = elim (either {A = List ℕ × List ℕ} (cond (first text == 46) (digits_at (drop 1 text)) None) ([], text)) [
  | inl given ↦ (
      let (test, read) = cond_digits given.1 in
      let (run, spelled) = digits_sound (drop 1 text) digits rest (read ∙ ap Some (sym given.2 ∙ e)) in
      (46 ∷ digits, point_spells digits run, at_front text 46 test (omega arith) ∙ ap (λ v. 46 ∷ v) spelled))
  | inr none ↦ (
      let same : ([], text) ≡ (digits, rest) = sym none ∙ e in
      let left : [] ≡ digits = ap (λ (q : List ℕ × List ℕ). q.0) same in
      let right : text ≡ rest = ap (λ (q : List ℕ × List ℕ). q.1) same in
      rw (← left) ([], refl, right))
]
  where
    cond_digits : {p : List ℕ × List ℕ} → cond (first text == 46) (digits_at (drop 1 text)) None ≡ Some p → ((first text == 46) ≡ true) × (digits_at (drop 1 text) ≡ Some p)
    cond_digits {p} h = elim (chosen (first text == 46) _ _ _ h) [ inl go ↦ go | inr stop ↦ absurd (cc) ]

-- a value and a rest, each by itself
same_parts : {A : Type 0} (x y : A) (s t : List ℕ) → ◌≡◌ {A = Option (A × List ℕ)} (Some (x, s)) (Some (y, t)) → (x ≡ y) × (s ≡ t)
same_parts {A} x y s t e =
    let p : ◌≡◌ {A = A × List ℕ} (x, s) (y, t) = cc in
    (ap (λ (q : A × List ℕ). q.0) p, ap (λ (q : A × List ℕ). q.1) p)

-- what may stand behind the mark of an exponent
signed_digits_sound : (mark : ℕ) (x : Exponent) (text rest : List ℕ) → is_exponent_mark mark ≡ true → signed_digits_at text ≡ Some (x, rest)
    → (a : List ℕ) × SpellsExponent x (mark ∷ a) × (text ≡ a ++ rest)
unfolding signed_digits_at
signed_digits_sound mark x text rest marked e = elim (chosen (first text == 45) _ _ _ e) [
  | inl minus ↦ (
      let (d, read, e2) = bind_ok _ (digits_at (drop 1 text)) _ minus.1 in
      let (same, after) = same_parts (lowered (digits_value 10 d.0)) x d.1 rest e2 in
      let (run, spelled) = digits_sound (drop 1 text) d.0 d.1 read in (
        45 ∷ d.0,
        subst (λ v. SpellsExponent v (mark ∷ 45 ∷ d.0)) same (mark, d.0, marked, run, refl, refl),
        at_front text 45 minus.0 (omega arith) ∙ ap (λ v. 45 ∷ v) (spelled ∙ ap (λ v. d.0 ++ v) after),
      ))
  | inr other ↦ (
      let (d, read, e2) = bind_ok _ (digits_at (cond (first text == 43) (drop 1 text) text)) _ other.1 in
      let (same, after) = same_parts (raised (digits_value 10 d.0)) x d.1 rest e2 in
      by_sign (first text == 43) d.0 d.1 refl read same after)
]
  where
    by_sign : (v : Bool) (digits more : List ℕ) → (first text == 43) ≡ v → digits_at (cond (first text == 43) (drop 1 text) text) ≡ Some (digits, more) → raised (digits_value 10 digits) ≡ x → more ≡ rest
        → (a : List ℕ) × SpellsExponent x (mark ∷ a) × (text ≡ a ++ rest)
    by_sign true digits more test read same after =
        let (run, spelled) = digits_sound (drop 1 text) digits more (rw test at read) in (
          43 ∷ digits,
          subst (λ v. SpellsExponent v (mark ∷ 43 ∷ digits)) same (inr (mark, 43 ∷ [], digits, marked, inr refl, run, refl, refl)),
          at_front text 43 test (omega arith) ∙ ap (λ v. 43 ∷ v) (spelled ∙ ap (λ v. digits ++ v) after),
        )
    by_sign false digits more test read same after =
        let (run, spelled) = digits_sound text digits more (rw test at read) in
        (digits, subst (λ v. SpellsExponent v (mark ∷ digits)) same (inr (mark, [], digits, marked, inl refl, run, refl, refl)), spelled ∙ ap (λ v. digits ++ v) after)

-- a mark at the front
marked_front : (text : List ℕ) → is_exponent_mark (first text) ≡ true → text ≡ first text ∷ drop 1 text
marked_front [] e = absurd (cc)
marked_front (b ∷ s) e = refl

-- an exponent
exponent_sound : (x : Exponent) (text rest : List ℕ) → exponent_at text ≡ (x, rest) → (a : List ℕ) × SpellsExponent x a × (text ≡ a ++ rest)
unfolding exponent_at
exponent_sound x text rest e = elim (either {A = Exponent × List ℕ} (cond (is_exponent_mark (first text)) (signed_digits_at (drop 1 text)) None) (raised 0, text)) [
  | inl given ↦ (
      let (test, read) = cond_digits given.1 in
      let (a, ha, ea) = signed_digits_sound (first text) x (drop 1 text) rest test (read ∙ ap Some (sym given.2 ∙ e)) in
      (first text ∷ a, ha, marked_front text test ∙ ap (λ v. first text ∷ v) ea))
  | inr none ↦ (
      let same : (raised 0, text) ≡ (x, rest) = sym none ∙ e in
      let left : raised 0 ≡ x = ap (λ (q : Exponent × List ℕ). q.0) same in
      let right : text ≡ rest = ap (λ (q : Exponent × List ℕ). q.1) same in
      ([], subst (λ v. SpellsExponent v []) left (inl (refl, refl)), right))
]
  where
    cond_digits : {p : Exponent × List ℕ} → cond (is_exponent_mark (first text)) (signed_digits_at (drop 1 text)) None ≡ Some p → (is_exponent_mark (first text) ≡ true) × (signed_digits_at (drop 1 text) ≡ Some p)
    cond_digits {p} h = elim (chosen (is_exponent_mark (first text)) _ _ _ h) [ inl go ↦ go | inr stop ↦ absurd (cc) ]

-- the pieces of a literal
pieces : (text t1 t2 t3 t4 rest a w b c : List ℕ) → text ≡ a ++ t1 → t1 ≡ w ++ t2 → t2 ≡ b ++ t3 → t3 ≡ c ++ t4 → t4 ≡ rest → text ≡ (a ++ (w ++ (b ++ c))) ++ rest
pieces text t1 t2 t3 t4 rest a w b c e e1 e2 e3 e4 = rw (e, e1, e2, e3, e4) (sym (simp append_assoc))

-- A number that is read is a number literal at the front, of the value that is read.
pub sound_number : (v : Option ℤ) (text rest : List ℕ) → number_at text ≡ Some (v, rest) → (a : List ℕ) × SpellsNumber v a × (text ≡ a ++ rest)
unfolding number_at
sound_number v text rest e =
    let (w, read, e2) = bind_ok _ (whole_part_at (sign_at text).1) _ e in
    let minus = (sign_at text).0 in
    let f : List ℕ × List ℕ = fraction_at w.1 in
    let x : Exponent × List ℕ = exponent_at f.1 in
    let (value, after) = same_parts (scaled_value minus (digits_value 10 (w.0 ++ f.0)) (length f.0) x.0) v x.1 rest e2 in
    let (a, ha, ea) = sign_sound text in
    let (hw, ew) = whole_part_sound (sign_at text).1 w.0 w.1 read in
    let (b, hb, eb) = fraction_sound w.1 f.0 f.1 refl in
    let (c, hc, ec) = exponent_sound x.0 f.1 x.1 refl in (
      a ++ (w.0 ++ (b ++ c)),
      record {
        minus = minus;
        integer = w.0;
        fraction = f.0;
        exponent = x.0;
        sign_text = a;
        fraction_text = b;
        exponent_text = c;
        sign_spelled = ha;
        is_whole_part = hw;
        fraction_spelled = hb;
        exponent_spelled = hc;
        is_value = subst (IsValue (signed minus (digits_value 10 (w.0 ++ f.0))) (length f.0) x.0) value (sound_value minus (digits_value 10 (w.0 ++ f.0)) (length f.0) x.0);
        spelled = refl;
      },
      pieces text (sign_at text).1 w.1 f.1 x.1 rest a w.0 b c ea ew eb ec after,
    )
