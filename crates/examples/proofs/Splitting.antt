-- A path at its last `/`, and whether one begins with another.
use Rattle.std.proofs.Common.{◌≡◌, ◌≢◌, ℕ, zero, suc, ◌+◌, ◌-◌, ◌<◌, ◌≤◌, List, length, get_or, take, drop, Bool, true, false, true≢false, ◌&&◌, ◌==◌, eqb, Option, Some, None, MatchOption, Decides, option_map, Bor, ⊎_elim, refl, sym, ap, subst, ◌∙◌, arith, ne_eqb, eq-eqb, length-drop, get_or-drop}
use Rattle.std.proofs.lemmas.Bool.{cases_eq, cond-true, cond-false}
use Rattle.std.proofs.lemmas.Str.{len_utf8_ascii}
use Rattle.std.proofs.lemmas.Str.Pattern.{NoCharPasses-char, starts_text}
use Rattle.std.specs.List.{starts_with}
use Rattle.std.specs.Path.{rfind_below, rsplit_once}
use Rattle.std.specs.Str.{IsCharBoundary}
use Rattle.std.specs.Str.Pattern.{FindsTextPrefix, RFindsChar, StripsPrefix}
use Rattle.examples.specs.Patch.{is_inside}

-- none is found, where none stands
last_none : (c : ℕ) (text : List ℕ) (n : ℕ) → ((i : ℕ) → i < n → get_or text i 0 ≢ c) → rfind_below c text n ≡ None
last_none c text zero lacks = refl
last_none c text (suc n) lacks = cond-false _ _ _ (ne_eqb _ c (lacks n (omega arith))) ∙ last_none c text n (λ i l. lacks i (omega arith))

-- the last one is
last_some : (c : ℕ) (text : List ℕ) (k n : ℕ) → k < n → get_or text k 0 ≡ c → ((i : ℕ) → k < i → i < n → get_or text i 0 ≢ c) → rfind_below c text n ≡ Some k
last_some c text k zero within there later = absurd (omega arith)
last_some c text k (suc n) within there later =
    ⊎_elim
    (λ e. cond-true _ _ _ (eq-eqb _ c (ap (λ j. get_or text j 0) (sym e) ∙ there)) ∙ ap (λ j. Some j) (sym e))
    (λ other. cond-false _ _ _ (ne_eqb _ c (later n (omega arith) (omega arith))) ∙ last_some c text k n (omega arith) there (λ i a b. later i a (omega arith)))
    (cases_eq k n)

-- what `rsplit_once` answers at an ASCII character, by its clause
pub rsplit_parts : (c : ℕ) (text : List ℕ) (r : Option (Bor (List ℕ) × Bor (List ℕ)))
    → MatchOption r (RFindsChar c text None) (λ x. (i : ℕ) × (j : ℕ) × RFindsChar c text (Some (i, j)) × (x.0.now ≡ take i text) × (x.1.now ≡ drop j text) × (i ≤ j) × (length x.0.now ≡ i) × (length x.1.now + j ≡ length text))
    → c < 128 → option_map (λ x. (x.0.now, x.1.now)) r ≡ rsplit_once c text
unfolding rsplit_once
rsplit_parts c text None h low = sym (ap (option_map (λ i. (take i text, drop (i + 1) text))) (last_none c text (length text) (λ i. NoCharPasses-char c text i h low)))
rsplit_parts c text (Some x) h low =
    let i = h.0 in
    let j = h.1 in
    let next : j ≡ i + 1 = omega (arith, h.2.1.ends, len_utf8_ascii c low) in
    let later : (k : ℕ) → i < k → k < length text → get_or text k 0 ≢ c = λ k a l e.
    let back : j + (k - j) ≡ k = omega arith in
    NoCharPasses-char c (drop j text) (k - j) h.2.0 low (omega (arith, length-drop j text)) (get_or-drop j text (k - j) 0 ∙ ap (λ n. get_or text n 0) back ∙ e) in
    let found = last_some c text i (length text) (omega (arith, h.7)) (h.2.1.byte low) later in
    let second = h.4 ∙ ap (λ n. drop n text) next in
    (λ t. Some (h.3 t, second t)) ∙ sym (ap (option_map (λ k. (take k text, drop (k + 1) text))) found)

-- ---- whether a path leads inside another

-- a test that decides an equality of numbers is their `==`
decided : (a b : ℕ) (r : Bool) → Decides r (a ≡ b) → r ≡ (a == b)
decided a b true h = sym (eq-eqb a b (h.0 refl))
decided a b false h = sym (ne_eqb a b (λ e. true≢false (sym (h.1 e))))

pub inside : (path from rest : List ℕ) (r : Bool) → StripsPrefix (FindsTextPrefix from) path rest → Decides r (get_or rest 0 0 ≡ 47) → r ≡ is_inside path from
inside path from rest r h slash =
    let begins : true ≡ starts_with eqb path from = starts_text true from path (h.0, h.1, subst (IsCharBoundary path) (sym h.1.0) h.1.2) in
    let first : get_or rest 0 0 ≡ get_or path (length from) 0 = ap (λ xs. get_or xs 0 0) h.2 ∙ get_or-drop h.0 path 0 0 ∙ ap (λ n. get_or path n 0) {x = h.0 + 0} {y = length from} (omega (arith, h.1.0)) in
    decided (get_or rest 0 0) 47 r slash ∙ ap (λ n. n == 47) first ∙ ap (λ b. b && (get_or path (length from) 0 == 47)) begins

pub outside : (path from : List ℕ) → FindsTextPrefix from path None → false ≡ is_inside path from
outside path from h = ap (λ b. b && (get_or path (length from) 0 == 47)) (starts_text false from path h)
