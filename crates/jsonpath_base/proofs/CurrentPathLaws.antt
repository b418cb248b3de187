-- What is spelled of a way, as steps come and go.
use Rattle.std.proofs.Common.{◌≡◌, ℕ, zero, suc, ◌+◌, ◌<◌, ◌≤◌, List, [], ◌∷◌, ◌++◌, length, take, get_or, append-nil, append_assoc, refl, sym, ◌∙◌, ap, arith, inl, inr, ◌⊎◌, Option, Some, None, option_to_list}
use Rattle.std.proofs.Math.Seq.{take-append_seam, take-length, get_or-append_seam}
use Rattle.std.proofs.lemmas.List.{length-append, take-append-le, take_more, get_or_append_left}
use Rattle.std.proofs.lemmas.Str.{IsCharBoundary-before_ascii}
use Rattle.jsonpath_base.specs.Prelude.{index, IsSpelled, IsSplitPoint, lent_step, name, Step, step_text, StepRef}
use Rattle.jsonpath_base.specs.inner.CurrentPath.{spelled}

spelled-append : (ss ts : List StepRef) → spelled (ss ++ ts) ≡ spelled ss ++ spelled ts
spelled-append [] ts = refl
spelled-append (s ∷ ss) ts = ap (λ x. step_text (lent_step s) ++ x) (spelled-append ss ts) ∙ sym (append_assoc (step_text (lent_step s)) (spelled ss) (spelled ts))

pub at_most_one : {A : Type 0} (o : Option A) → length (option_to_list o) ≤ 1
at_most_one None = omega arith
at_most_one (Some x) = omega arith

-- the last step is spelled: what the text is, and where that step begins
last_text : (ss now more : List StepRef) (is bs : List ℕ) → ss ≡ now ++ more → length ss ≤ length is → IsSpelled ss is bs → bs ≡ spelled now ++ spelled more
last_text ss now more is bs e le h =
    let n : length is ≡ length ss = omega (arith, le, h.within) in
    h.text ∙ ap (λ k. spelled (take k ss)) n ∙ ap spelled (take-length ss) ∙ ap spelled e ∙ spelled-append now more

last_begins : (ss now more : List StepRef) (is was bs : List ℕ) (i : ℕ) → ss ≡ now ++ more → is ≡ was ++ i ∷ [] → length was ≡ length now → IsSpelled ss is bs → i ≡ length (spelled now)
last_begins ss now more is was bs i e f n h =
    let lt : length was < length is = omega (arith, ap length f, length-append was (i ∷ [])) in
    sym (get_or-append_seam was i [] 0) ∙ ap (λ z. get_or z (length was) 0) (sym f) ∙ h.begins (length was) lt
    ∙ ap (λ k. length (spelled (take k ss))) n ∙ ap (λ z. length (spelled (take (length now) z))) e ∙ ap (λ z. length (spelled z)) (take-append_seam now more)

same_length : (ss now more : List StepRef) (is was : List ℕ) (i : ℕ) → ss ≡ now ++ more → length more ≤ 1 → is ≡ was ++ i ∷ [] → length now < length is → length is ≤ length ss → length was ≡ length now
same_length ss now more is was i e one f lt le = omega (arith, ap length e, length-append now more, one, ap length f, length-append was (i ∷ []), lt, le)

-- without it
pub spelled_back : (ss now more : List StepRef) (is was bs : List ℕ) (i : ℕ) → ss ≡ now ++ more → length more ≤ 1 → is ≡ was ++ i ∷ [] → length now < length is → IsSpelled ss is bs → IsSpelled now was (take i bs)
spelled_back ss now more is was bs i e one f lt h =
    let n = same_length ss now more is was i e one f lt h.within in
    let at = last_begins ss now more is was bs i e f n h in
    let all : length ss ≤ length is = omega (arith, ap length e, length-append now more, one, lt) in
    record {
      within = omega (arith, n);
      text = ap (λ k. take k bs) at ∙ ap (take (length (spelled now))) (last_text ss now more is bs e all h) ∙ take-append_seam (spelled now) (spelled more) ∙ ap spelled (sym (take-length now)) ∙ ap (λ k. spelled (take k now)) (sym n);
      begins = λ k less. sym (get_or_append_left was (i ∷ []) 0 k less) ∙ ap (λ z. get_or z k 0) (sym f) ∙ h.begins k (omega (arith, less, ap length f, length-append was (i ∷ []))) ∙ ap (λ z. length (spelled (take k z))) e ∙ ap (λ z. length (spelled z)) (take-append-le k now more (omega (arith, less, n)));
    }

-- ---- the text may be cut there

bracket : (s : Step) → (x : List ℕ) × (step_text s ≡ 91 ∷ x)
bracket (name k) = (_, refl)
bracket (index i) = (_, refl)

cut_before : (xs ys bs : List ℕ) (i : ℕ) → bs ≡ xs ++ 91 ∷ ys → i ≡ length xs → IsSplitPoint bs i
cut_before xs ys bs i e f =
    let byte : get_or bs i 0 ≡ 91 = ap (λ z. get_or z i 0) e ∙ ap (λ k. get_or (xs ++ 91 ∷ ys) k 0) f ∙ get_or-append_seam xs 91 ys 0 in
    let cut = IsCharBoundary-before_ascii bs i (omega (arith, ap length e, length-append xs (91 ∷ ys), f)) (omega (arith, byte)) in
    (cut.0, λ _. cut.1)

cut_at : (ss now more : List StepRef) (is bs : List ℕ) (i : ℕ) → ss ≡ now ++ more → length now < length ss → bs ≡ spelled now ++ spelled more → i ≡ length (spelled now) → IsSplitPoint bs i
cut_at ss now [] is bs i e lt t f = absurd (omega (arith, ap length e, length-append now [], lt))
cut_at ss now (s ∷ more) is bs i e lt t f =
    let b = bracket (lent_step s) in
    cut_before (spelled now) (b.0 ++ spelled more) bs i (t ∙ ap (λ x. spelled now ++ (x ++ spelled more)) b.1) f

pub may_cut : (ss now more : List StepRef) (is was bs : List ℕ) (i : ℕ) → ss ≡ now ++ more → length more ≤ 1 → is ≡ was ++ i ∷ [] → length now < length is → IsSpelled ss is bs → IsSplitPoint bs i
may_cut ss now more is was bs i e one f lt h =
    let n = same_length ss now more is was i e one f lt h.within in
    let all : length ss ≤ length is = omega (arith, ap length e, length-append now more, one, lt) in
    cut_at ss now more is bs i e (omega (arith, lt, h.within)) (last_text ss now more is bs e all h) (last_begins ss now more is was bs i e f n h)

-- ---- the next step is spelled

next_begins : (ss : List StepRef) (is bs : List ℕ) (k : ℕ) → IsSpelled ss is bs → (k < length is) ⊎ (k ≡ length is) → get_or (is ++ length bs ∷ []) k 0 ≡ length (spelled (take k ss))
next_begins ss is bs k h (inl lt) = get_or_append_left is (length bs ∷ []) 0 k lt ∙ h.begins k lt
next_begins ss is bs k h (inr e) = ap (λ j. get_or (is ++ length bs ∷ []) j 0) e ∙ get_or-append_seam is (length bs) [] 0 ∙ ap length h.text ∙ ap (λ j. length (spelled (take j ss))) (sym e)

less_or_last : (k n : ℕ) → k < suc n → (k < n) ⊎ (k ≡ n)
less_or_last zero zero h = inr refl
less_or_last zero (suc n) h = inl (omega arith)
less_or_last (suc k) zero h = absurd (omega (arith, h))
less_or_last (suc k) (suc n) h = up (less_or_last k n (omega (arith, h)))
  where
    up : (k < n) ⊎ (k ≡ n) → (suc k < suc n) ⊎ (suc k ≡ suc n)
    up (inl lt) = inl (omega (arith, lt))
    up (inr e) = inr (ap suc e)

pub spelled_next : (ss : List StepRef) (is bs js cs : List ℕ) (s : StepRef) (n : ℕ) → n ≡ length is → n < length ss → s ≡ get_or ss n s → js ≡ is ++ length bs ∷ [] → cs ≡ bs ++ step_text (lent_step s) → IsSpelled ss is bs → IsSpelled ss js cs
spelled_next ss is bs js cs s n e lt at f g h =
    let len : length js ≡ length is + 1 = ap length f ∙ length-append is (length bs ∷ []) in
    let front : take (length js) ss ≡ take (length is) ss ++ s ∷ [] = ap (λ k. take k ss) len ∙ take_more ss (length is) s (omega (arith, e, lt)) ∙ ap (λ x. take (length is) ss ++ x ∷ []) (ap (λ k. get_or ss k s) (sym e) ∙ sym at) in
    record {
      within = omega (arith, len, e, lt);
      text = g ∙ ap (λ x. x ++ step_text (lent_step s)) h.text ∙ ap (λ x. spelled (take (length is) ss) ++ x) (sym (append-nil (step_text (lent_step s)))) ∙ sym (spelled-append (take (length is) ss) (s ∷ [])) ∙ ap spelled (sym front);
      begins = λ k less. ap (λ z. get_or z k 0) f ∙ next_begins ss is bs k h (less_or_last k (length is) (omega (arith, less, len)));
    }
