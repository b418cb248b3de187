-- How many distinct locations lists and marks have.
use Rattle.std.proofs.Common.{◌≡◌, ℕ, suc, ◌+◌, List, [], ◌∷◌, ◌++◌, map, Bool, true, false, true≢false, not, ◌&&◌, ◌||◌, if◌then◌else◌, None, String, Global, refl, sym, ap, ap₂, ◌∙◌, arith}
use Rattle.jsonpath_base.specs.Prelude.{counted_with, distinct_count, HasAlso, index, is_among, is_key, is_location, is_same_step, listed, listed_in, Location, lookup, marked_in, LocationTrie, name, Step, to_member}
use Rattle.std.proofs.lemmas.Bool.{or_parts}
use Rattle.jsonpath_base.proofs.Marking.{step_itself, among_append, among_under, in_here, no_member, no_element, parts, AreKeys, not_held, same_step}
use Rattle.jsonpath_base.proofs.Removed.{same_location, location_itself, location_back}

-- ---- the count is that of the set

abbrev except : Location → List Location → List Location
except x [] = []
except x (y ∷ ys) = if is_location y x then except x ys else y ∷ except x ys

among_except : (x : Location) (ys : List Location) (l : Location) → is_among (except x ys) l ≡ (not (is_location x l) && is_among ys l)
among_except x [] l = none (is_location x l)
  where
    none : (b : Bool) → false ≡ (not b && false)
    none true = refl
    none false = refl
among_except x (y ∷ ys) l = pick (is_location y x) refl (is_location x l) refl (among_except x ys l)
  where
    pick : (b : Bool) → is_location y x ≡ b → (c : Bool) → is_location x l ≡ c → is_among (except x ys) l ≡ (not (is_location x l) && is_among ys l)
        → is_among (if b then except x ys else y ∷ except x ys) l ≡ (not c && is_among (y ∷ ys) l)
    pick true e true f more = more ∙ rw f
    pick true e false f more =
        let other : is_location y l ≡ false = ap (λ z. is_location z l) (same_location y x e) ∙ f in
        more ∙ rw (f, other)
    pick false e true f more =
        let other : is_location y l ≡ false = ap (is_location y) (sym (same_location x l f)) ∙ e in
        rw (other, more, f)
    pick false e false f more = rw (more, f)

except_none : (x : Location) (ys : List Location) → is_among ys x ≡ false → except x ys ≡ ys
except_none x [] h = refl
except_none x (y ∷ ys) h = let both = or_parts (is_location y x) (is_among ys x) h in rw both.0 (ap (λ zs. y ∷ zs) (except_none x ys both.1))

except_count : (x : Location) (ys : List Location) → is_among ys x ≡ true → distinct_count ys ≡ suc (distinct_count (except x ys))
except_count x [] h = absurd (true≢false (sym h))
except_count x (y ∷ ys) h = pick (is_location y x) refl h (except_count x ys)
  where
    here : (b : Bool) → is_among ys x ≡ b → (is_among ys x ≡ true → distinct_count ys ≡ suc (distinct_count (except x ys))) → (if b then distinct_count ys else suc (distinct_count ys)) ≡ suc (distinct_count (except x ys))
    here true e more = more e
    here false e more = ap (λ zs. suc (distinct_count zs)) (sym (except_none x ys e))

    apart : (b : Bool) (n m : ℕ) → n ≡ suc m → (if b then n else suc n) ≡ suc (if b then m else suc m)
    apart true n m e = e
    apart false n m e = ap suc e

    pick : (b : Bool) → is_location y x ≡ b → (b || is_among ys x) ≡ true → (is_among ys x ≡ true → distinct_count ys ≡ suc (distinct_count (except x ys)))
        → distinct_count (y ∷ ys) ≡ suc (distinct_count (if b then except x ys else y ∷ except x ys))
    pick true e among more =
        let same : is_among ys y ≡ is_among ys x = ap (is_among ys) (same_location y x e) in
        rw same (here (is_among ys x) refl more)
    pick false e among more =
        let other : is_among (except x ys) y ≡ is_among ys y = among_except x ys y ∙ ap (λ b. not b && is_among ys y) (location_back y x false e) in
        rw other (apart (is_among ys y) (distinct_count ys) (distinct_count (except x ys)) (more among))

pub same_count : (xs ys : List Location) → ((l : Location) → is_among xs l ≡ is_among ys l) → distinct_count xs ≡ distinct_count ys
same_count [] [] h = refl
same_count [] (y ∷ ys) h = absurd (true≢false (sym (h y ∙ ap (λ b. b || is_among ys y) (location_itself y))))
same_count (x ∷ xs) ys h = pick (is_among xs x) refl (same_count xs ys) (same_count xs (except x ys))
  where
    among : is_among ys x ≡ true
    among = sym (h x) ∙ ap (λ b. b || is_among xs x) (location_itself x)

    stays : is_among xs x ≡ true → (l : Location) (b : Bool) → is_location x l ≡ b → is_among xs l ≡ (b || is_among xs l)
    stays e l true f = ap (is_among xs) (sym (same_location x l f)) ∙ e
    stays e l false f = refl

    goes : is_among xs x ≡ false → (l : Location) (b : Bool) → is_location x l ≡ b → is_among xs l ≡ (not b && (b || is_among xs l))
    goes e l true f = ap (is_among xs) (sym (same_location x l f)) ∙ e
    goes e l false f = refl

    pick : (b : Bool) → is_among xs x ≡ b → (((l : Location) → is_among xs l ≡ is_among ys l) → distinct_count xs ≡ distinct_count ys)
        → (((l : Location) → is_among xs l ≡ is_among (except x ys) l) → distinct_count xs ≡ distinct_count (except x ys)) → (if b then distinct_count xs else suc (distinct_count xs)) ≡ distinct_count ys
    pick true e more less = more (λ l. stays e l (is_location x l) refl ∙ h l)
    pick false e more less =
        ap suc (less (λ l. goes e l (is_location x l) refl ∙ ap (λ b. not (is_location x l) && b) (h l) ∙ sym (among_except x ys l))) ∙ sym (except_count x ys among)

-- one location more
pub also_counted : (old new : List Location) (at : Location) → HasAlso (is_among old) at (is_among new) → distinct_count new ≡ counted_with at (is_among old) (distinct_count old)
also_counted old new at h = same_count new (at ∷ old) h.each

-- ---- parts that have none in common

pub append_count : (xs ys : List Location) → ((l : Location) → is_among xs l ≡ true → is_among ys l ≡ false) → distinct_count (xs ++ ys) ≡ distinct_count xs + distinct_count ys
append_count [] ys h = omega arith
append_count (x ∷ xs) ys h =
    rw (among_append xs ys x, h x (ap (λ b. b || is_among xs x) (location_itself x))) (pick (is_among xs x) _ _ _ (append_count xs ys (λ l e. h l (later (is_location x l) (is_among xs l) e))))
  where
    later : (a b : Bool) → b ≡ true → (a || b) ≡ true
    later true b e = refl
    later false b e = e

    pick : (b : Bool) (n m k : ℕ) → n ≡ m + k → (if b || false then n else suc n) ≡ (if b then m else suc m) + k
    pick true n m k e = e
    pick false n m k e = omega (arith, e)

under_count : (r : Step) (ms : List Location) → distinct_count (map (λ m. r ∷ m) ms) ≡ distinct_count ms
under_count r [] = refl
under_count r (m ∷ ms) = rw (among_under r r ms m, step_itself r, under_count r ms)

-- of each entry, one after the other
abbrev pub counts : {K : Type 0} → List (K × LocationTrie) → ℕ
counts [] = 0
counts (e ∷ es) = distinct_count (listed e.1) + counts es

apart_from : {K : Type 0} (to : K → Step) (e : K × LocationTrie) (es : List (K × LocationTrie)) → lookup (is_key to (to e.0)) es ≡ None → (l : Location) → is_among (map (λ m. to e.0 ∷ m) (listed e.1)) l ≡ true → marked_in to es l ≡ false
apart_from to e es none [] h = in_here to es
apart_from to e es none (s ∷ l) h = pick (is_same_step (to e.0) s) refl (sym (among_under (to e.0) s (listed e.1) l) ∙ h)
  where
    pick : (b : Bool) → is_same_step (to e.0) s ≡ b → (b && is_among (listed e.1) l) ≡ true → marked_in to es (s ∷ l) ≡ false
    pick true same f = ap (λ r. marked_in to es (r ∷ l)) (sym (same_step (to e.0) s same)) ∙ not_held to es (to e.0) l none
    pick false other f = absurd (true≢false (sym f))

pub level_count : {K : Type 0} (to : K → Step) (es : List (K × LocationTrie)) → AreKeys to es → distinct_count (listed_in to es) ≡ counts es
level_count to [] h = refl
level_count to (e ∷ es) h =
    append_count (map (λ m. to e.0 ∷ m) (listed e.1)) (listed_in to es) (apart_from to e es h.0) ∙ ap₂ (λ a b. a + b) (under_count (to e.0) (listed e.1)) (level_count to es h.1)

names_apart : (ns : List (String Global × LocationTrie)) (is : List (ℕ × LocationTrie)) (l : Location) → marked_in to_member ns l ≡ true → marked_in index is l ≡ false
names_apart ns is [] h = in_here index is
names_apart ns is (name k ∷ l) h = no_member is k l
names_apart ns is (index i ∷ l) h = absurd (true≢false (sym h ∙ no_element ns i l))

pub parts_count : (b : Bool) (ns : List (String Global × LocationTrie)) (is : List (ℕ × LocationTrie)) → distinct_count (parts b ns is) ≡ (if b then 1 else 0) + (distinct_count (listed_in to_member ns) + distinct_count (listed_in index is))
parts_count b ns is = pick b
  where
    both : distinct_count (listed_in to_member ns ++ listed_in index is) ≡ distinct_count (listed_in to_member ns) + distinct_count (listed_in index is)
    both = append_count (listed_in to_member ns) (listed_in index is) (names_apart ns is)

    none : is_among (listed_in to_member ns ++ listed_in index is) [] ≡ false
    none = among_append (listed_in to_member ns) (listed_in index is) [] ∙ rw (in_here to_member ns, in_here index is)

    pick : (b : Bool) → distinct_count (parts b ns is) ≡ (if b then 1 else 0) + (distinct_count (listed_in to_member ns) + distinct_count (listed_in index is))
    pick true = rw none (omega (arith, both))
    pick false = both ∙ omega arith
