-- The location that was marked last, as another one is.
use Rattle.std.proofs.Common.{◌≡◌, ◌<◌, ℕ, suc, ◌+◌, ◌-◌, List, [], ◌∷◌, ◌++◌, length, set, get_or, take, zero, Vec, String, Global, Bool, true, rules, refl, sym, ap, ◌∙◌, subst, arith}
use Rattle.std.proofs.Math.Seq.{get_or-append_seam}
use Rattle.std.proofs.lemmas.List.{length-append}
use Rattle.jsonpath_base.specs.Prelude.{AddsIn, EndsWith, index, lent_location, LevelEnds, listed, Location, LocationTrie, name, out-LocationTrie, Step, StepRef, the_lemmas, to_member}
use Rattle.jsonpath_base.specs.inner.LocationTries.{EndsIn, Adds}
use Rattle.jsonpath_base.proofs.Marking.{rolled, also_here, also_member, also_element, also_set, also_push}

-- fewer of its first steps
pub ends_less : (l more : Location) (m : LocationTrie) → EndsWith (l ++ more) m → EndsWith l m
ends_less [] more m h = tt
ends_less (name k ∷ l) more m h = record { front = h.front; key = h.key; below = h.below; all = h.all; step = h.step; further = ends_less l more h.below h.further }
ends_less (index i ∷ l) more m h = record { front = h.front; key = h.key; below = h.below; all = h.all; step = h.step; further = ends_less l more h.below h.further }

-- ---- the last entry

last_is : {A : Type 0} (es front : List A) (x e : A) (k : ℕ) → es ≡ front ++ x ∷ [] → k + 1 ≡ length es → e ≡ get_or es k e → e ≡ x
last_is es front x e k all at read =
    let here : k ≡ length front = omega (arith, at, ap length all, length-append front (x ∷ [])) in
    read ∙ ap (λ ys. get_or ys k e) all ∙ ap (λ j. get_or (front ++ x ∷ []) j e) here ∙ get_or-append_seam front x [] e

-- it is of the first step, which is settled or was compared
pub last_key : {K : Type 0} (to : K → Step) (shared_len : ℕ) (s : Step) (l : Location) (es : List (K × LocationTrie)) (e : K × LocationTrie) (k : ℕ) → (shared_len ≡ 0 → to e.0 ≡ s) → k + 1 ≡ length es → e ≡ get_or es k e → LevelEnds to (take shared_len (s ∷ l)) es → to e.0 ≡ s
last_key to zero s l es e k compared at read h = compared refl
last_key {K} to (suc n) s l es e k compared at read h = ap (λ (x : K × LocationTrie). to x.0) (last_is es h.front (h.key, h.below) e k h.all at read) ∙ h.step

-- below it the others that are settled lead on
pub last_further : {K : Type 0} (to : K → Step) (shared_len less : ℕ) (s : Step) (l : Location) (es : List (K × LocationTrie)) (e : K × LocationTrie) (k : ℕ) → less ≡ shared_len - 1 → k + 1 ≡ length es → e ≡ get_or es k e → LevelEnds to (take shared_len (s ∷ l)) es → EndsWith (take less l) e.1
last_further to zero less s l es e k is at read h =
    let none : less ≡ 0 = omega (arith, is) in
    subst (λ n. EndsWith (take n l) e.1) (sym none) tt
last_further {K} to (suc n) less s l es e k is at read h =
    let all : less ≡ n = omega (arith, is) in
    let this : e ≡ (h.key, h.below) = last_is es h.front (h.key, h.below) e k h.all at read in
    subst (λ i. EndsWith (take i l) e.1) (sym all) (subst (EndsWith (take n l)) (sym (ap (λ (x : K × LocationTrie). x.1) this)) h.further)

set_last : {A : Type 0} (es : List A) (k : ℕ) (x : A) → k + 1 ≡ length es → set es k x ≡ take k es ++ x ∷ []
set_last [] k x at = absurd (omega (arith, at))
set_last (e ∷ []) zero x at = refl
set_last (e ∷ f ∷ es) zero x at = absurd (omega (arith, at))
set_last (e ∷ es) (suc k) x at = ap (λ ys. e ∷ ys) (set_last es k x (omega (arith, at)))

-- ---- one location more

-- in the last entry
pub adds_set : {K : Type 0} (to : K → Step) (es : List (K × LocationTrie)) (k : ℕ) (e : K × LocationTrie) (w : LocationTrie) (s : Step) (rest : Location) → k < length es → k + 1 ≡ length es → e ≡ get_or es k e → to e.0 ≡ s → Adds e.1 rest w → AddsIn to es (s ∷ rest) (set es k (e.0, w))
adds_set to es k e w s rest within at read is h = record {
  also = also_set to es k e w s rest within read is h.also;
  ends = record { front = take k es; key = e.0; below = w; all = set_last es k (e.0, w) at; step = is; further = h.ends };
}

-- in one entry more
pub adds_push : {K : Type 0} (to : K → Step) (es fs : List (K × LocationTrie)) (k : K) (empty w : LocationTrie) (s : Step) (rest : Location) → fs ≡ es ++ (k, w) ∷ [] → listed empty ≡ [] → to k ≡ s → Adds empty rest w → AddsIn to es (s ∷ rest) fs
adds_push to es fs k empty w s rest now none is h = record {
  also = also_push to es fs k empty w s rest now none is h.also;
  ends = record { front = es; key = k; below = w; all = now; step = is; further = h.ends };
}

-- with no step
pub adds_here : (m : LocationTrie) (steps : List StepRef) → length steps ≡ 0 → Adds m (lent_location steps) (rolled true (out-LocationTrie m).names (out-LocationTrie m).indexes)
adds_here m [] e = record { also = also_here m [] refl; ends = tt }
adds_here m (s ∷ steps) e = absurd (omega (arith, e))

rolled_names : (b : Bool) (ns : Vec (String Global × LocationTrie) Global) (is : Vec (ℕ × LocationTrie) Global) → (out-LocationTrie (rolled b ns is)).names ≡ ns
rolled_names b ns is = search (rules, the_lemmas)

rolled_indexes : (b : Bool) (ns : Vec (String Global × LocationTrie) Global) (is : Vec (ℕ × LocationTrie) Global) → (out-LocationTrie (rolled b ns is)).indexes ≡ is
rolled_indexes b ns is = search (rules, the_lemmas)

ends_member : (b : Bool) (ns : Vec (String Global × LocationTrie) Global) (is : Vec (ℕ × LocationTrie) Global) (k : List ℕ) (rest : Location) → LevelEnds to_member (name k ∷ rest) ns.items → EndsWith (name k ∷ rest) (rolled b ns is)
ends_member b ns is k rest h = subst (λ (v : Vec (String Global × LocationTrie) Global). EndsIn to_member (name k) (EndsWith rest) v.items) (sym (rolled_names b ns is)) h

ends_element : (b : Bool) (ns : Vec (String Global × LocationTrie) Global) (is : Vec (ℕ × LocationTrie) Global) (i : ℕ) (rest : Location) → LevelEnds index (index i ∷ rest) is.items → EndsWith (index i ∷ rest) (rolled b ns is)
ends_element b ns is i rest h = subst (λ (v : Vec (ℕ × LocationTrie) Global). EndsIn index (index i) (EndsWith rest) v.items) (sym (rolled_indexes b ns is)) h

-- below a member, below an element
pub adds_member : (m : LocationTrie) (ns : Vec (String Global × LocationTrie) Global) (k : List ℕ) (rest at : Location) → at ≡ name k ∷ rest → AddsIn to_member (out-LocationTrie m).names.items (name k ∷ rest) ns.items → Adds m at (rolled (out-LocationTrie m).is_marked ns (out-LocationTrie m).indexes)
adds_member m ns k rest at e h = record { also = also_member m ns k rest at e h.also; ends = subst (λ l. EndsWith l (rolled (out-LocationTrie m).is_marked ns (out-LocationTrie m).indexes)) (sym e) (ends_member (out-LocationTrie m).is_marked ns (out-LocationTrie m).indexes k rest h.ends) }

pub adds_element : (m : LocationTrie) (is : Vec (ℕ × LocationTrie) Global) (i : ℕ) (rest at : Location) → at ≡ index i ∷ rest → AddsIn index (out-LocationTrie m).indexes.items (index i ∷ rest) is.items → Adds m at (rolled (out-LocationTrie m).is_marked (out-LocationTrie m).names is)
adds_element m is i rest at e h = record { also = also_element m is i rest at e h.also; ends = subst (λ l. EndsWith l (rolled (out-LocationTrie m).is_marked (out-LocationTrie m).names is)) (sym e) (ends_element (out-LocationTrie m).is_marked (out-LocationTrie m).names is i rest h.ends) }

pub at_members : (m : LocationTrie) (shared_len : ℕ) (k : List ℕ) (rest at : Location) → at ≡ name k ∷ rest → EndsWith (take shared_len at) m → LevelEnds to_member (take shared_len (name k ∷ rest)) (out-LocationTrie m).names.items
at_members m shared_len k rest at e h = level shared_len (subst (λ l. EndsWith (take shared_len l) m) e h)
  where
    level : (n : ℕ) → EndsWith (take n (name k ∷ rest)) m → LevelEnds to_member (take n (name k ∷ rest)) (out-LocationTrie m).names.items
    level zero h = tt
    level (suc n) h = h

pub at_elements : (m : LocationTrie) (shared_len : ℕ) (i : ℕ) (rest at : Location) → at ≡ index i ∷ rest → EndsWith (take shared_len at) m → LevelEnds index (take shared_len (index i ∷ rest)) (out-LocationTrie m).indexes.items
at_elements m shared_len i rest at e h = level shared_len (subst (λ l. EndsWith (take shared_len l) m) e h)
  where
    level : (n : ℕ) → EndsWith (take n (index i ∷ rest)) m → LevelEnds index (take n (index i ∷ rest)) (out-LocationTrie m).indexes.items
    level zero h = tt
    level (suc n) h = h
