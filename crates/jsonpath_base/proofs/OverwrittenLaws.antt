-- Laws of a tree with another at a set of locations.
use Rattle.std.proofs.Common.{◌≡◌, ◌≤◌, ℕ, zero, suc, ◌+◌, List, [], ◌∷◌, ◌++◌, map, Bool, true, false, not, ◌&&◌, ◌||◌, if◌then◌else◌, cond, Option, Some, None, option_map, option_and_then, nat_eq, bytes_eq, eq-eqb, ne_eqb, refl, sym, ap, ap₂, ◌∙◌, arith}
use Rattle.std.proofs.lemmas.Bool.{and_parts, or_parts}
use Rattle.std.proofs.lemmas.Slice.Eq.{bytes_eq-Decides}
use Rattle.jsonpath_base.specs.Prelude.{are_distinct, at, child, elements_overwritten, find, has_distinct_names, index, is_among, is_location, item_at, list, list_any, Location, member, Members, members_distinct, name, no_members, no_trees, null, number, object, overwritten, overwritten_below, OverwrittenAtOneIsPut, OverwrittenForgets, OverwrittenIsSeen, OverwrittenLeavesTheRest, pairs, put, Step, text, Tree, tree, Trees, trees_distinct, truth, with_child, with_element, with_member}
use Rattle.jsonpath_base.specs.Overwritten.{members_overwritten}
use Rattle.jsonpath_base.proofs.PutLaws.{longer}

-- ---- what the set holds nothing of stays

mutual
  below_none : (u t : Tree) → overwritten_below (λ l. false) u t ≡ t
  below_none u null = refl
  below_none u (truth b) = refl
  below_none u (number n) = refl
  below_none u (text s) = refl
  below_none u (list ts) = ap list (elements_none u 0 ts)
  below_none u (object ms) = ap object (members_none u ms)

  elements_none : (u : Tree) (i : ℕ) (ts : Trees) → elements_overwritten (λ l. false) u i ts ≡ ts
  elements_none u i no_trees = refl
  elements_none u i (tree t ts) = ap₂ tree (below_none u t) (elements_none u (suc i) ts)

  members_none : (u : Tree) (ms : Members) → members_overwritten (λ l. false) u ms ≡ ms
  members_none u no_members = refl
  members_none u (member k t ms) = ap₂ (member k) (below_none u t) (members_none u ms)

stays : (set : Location → Bool) (u t : Tree) → ((l : Location) → set l ≡ false) → overwritten set u t ≡ t
stays set u t none = let same : set ≡ (λ l. false) = λ i l. none l i in ap (λ s. overwritten s u t) same ∙ below_none u t

-- the elements from one on
elements_stay : (set : Location → Bool) (u : Tree) (i : ℕ) (ts : Trees) → ((j : ℕ) (l : Location) → i ≤ j → set (index j ∷ l) ≡ false) → elements_overwritten set u i ts ≡ ts
elements_stay set u i no_trees none = refl
elements_stay set u i (tree t ts) none =
    ap₂ tree (stays (λ l. set (index i ∷ l)) u t (λ l. none i l (omega arith))) (elements_stay set u (suc i) ts (λ j l le. none j l (omega (arith, le))))

members_stay : (set : Location → Bool) (u : Tree) (ms : Members) → ((k : List ℕ) (l : Location) → set (name k ∷ l) ≡ false) → members_overwritten set u ms ≡ ms
members_stay set u no_members none = refl
members_stay set u (member k t ms) none = ap₂ (member k) (stays (λ l. set (name k ∷ l)) u t (λ l. none k l)) (members_stay set u ms none)

-- ---- at one location

abbrev names : Members → List (List ℕ)
names ms = map (λ m. m.0) (pairs ms)

-- below one child it is a write
abbrev IsPut : Location → Tree → Type 0
IsPut l u = (t : Tree) → has_distinct_names t ≡ true → overwritten (is_location l) u t ≡ put l u t

one_element : (i : ℕ) (l : Location) (u : Tree) → IsPut l u → (n c : ℕ) (ts : Trees) → i ≡ c + n → trees_distinct ts ≡ true → elements_overwritten (is_location (index i ∷ l)) u c ts ≡ with_element n (put l u) ts
one_element i l u below n c no_trees at distinct = refl
one_element i l u below zero c (tree t ts) at distinct =
    let parts = and_parts (has_distinct_names t) (trees_distinct ts) distinct in
    let here : nat_eq i c ≡ true = eq-eqb i c (omega (arith, at)) in
    let same : (λ (m : Location). is_location (index i ∷ l) (index c ∷ m)) ≡ is_location l = λ j m. ap (λ b. b && is_location l m) here j in
    let apart : (j : ℕ) (m : Location) → suc c ≤ j → is_location (index i ∷ l) (index j ∷ m) ≡ false = λ j m le. ap (λ b. b && is_location l m) (ne_eqb i j (λ e. omega (arith, at, le, e))) in
    ap₂ tree (ap (λ s. overwritten s u t) same ∙ below t parts.0) (elements_stay (is_location (index i ∷ l)) u (suc c) ts apart)
one_element i l u below (suc n) c (tree t ts) at distinct =
    let parts = and_parts (has_distinct_names t) (trees_distinct ts) distinct in
    let other : nat_eq i c ≡ false = ne_eqb i c (λ e. omega (arith, at, e)) in
    ap₂ tree (stays (λ m. is_location (index i ∷ l) (index c ∷ m)) u t (λ m. ap (λ b. b && is_location l m) other)) (one_element i l u below n (suc c) ts (omega (arith, at)) parts.1)

-- no member has the name
others_stay : (k : List ℕ) (l : Location) (u : Tree) (ms : Members) → list_any (bytes_eq k) (names ms) ≡ false → members_overwritten (is_location (name k ∷ l)) u ms ≡ ms
others_stay k l u no_members none = refl
others_stay k l u (member n t ms) none =
    let parts = or_parts (bytes_eq k n) (list_any (bytes_eq k) (names ms)) none in
    ap₂ (member n) (stays (λ m. is_location (name k ∷ l) (name n ∷ m)) u t (λ m. ap (λ b. b && is_location l m) parts.0)) (others_stay k l u ms parts.1)

not_false : (b : Bool) → not b ≡ true → b ≡ false
not_false true h = sym h
not_false false h = refl

one_member : (k : List ℕ) (l : Location) (u : Tree) → IsPut l u → (ms : Members) → are_distinct (names ms) ≡ true → members_distinct ms ≡ true → members_overwritten (is_location (name k ∷ l)) u ms ≡ with_member k (put l u) ms
one_member k l u below no_members once distinct = refl
one_member k l u below (member n t ms) once distinct =
    let apart = and_parts (not (list_any (bytes_eq n) (names ms))) (are_distinct (names ms)) once in
    let parts = and_parts (has_distinct_names t) (members_distinct ms) distinct in
    pick (bytes_eq k n) refl (one_member k l u below ms apart.1 parts.1) (not_false _ apart.0) parts.0
  where
    pick : (b : Bool) → bytes_eq k n ≡ b → members_overwritten (is_location (name k ∷ l)) u ms ≡ with_member k (put l u) ms → list_any (bytes_eq n) (names ms) ≡ false → has_distinct_names t ≡ true
        → members_overwritten (is_location (name k ∷ l)) u (member n t ms) ≡ with_member k (put l u) (member n t ms)
    pick true same more none whole =
        let is : k ≡ n = (bytes_eq-Decides k n).0 same in
        let here : (λ (m : Location). is_location (name k ∷ l) (name n ∷ m)) ≡ is_location l = λ j m. ap (λ b. b && is_location l m) same j in
        let rest : members_overwritten (is_location (name k ∷ l)) u ms ≡ ms = others_stay k l u ms (ap (λ x. list_any (bytes_eq x) (names ms)) is ∙ none) in
        ap₂ (member n) (ap (λ s. overwritten s u t) here ∙ below t whole) rest ∙ sym (ap (λ b. if b then member n (put l u t) ms else member n t (with_member k (put l u) ms)) same)
    pick false other more none whole =
        ap₂ (member n) (stays (λ m. is_location (name k ∷ l) (name n ∷ m)) u t (λ m. ap (λ b. b && is_location l m) other)) more
        ∙ sym (ap (λ b. if b then member n (put l u t) ms else member n t (with_member k (put l u) ms)) other)

one_child : (s : Step) (l : Location) (u : Tree) → IsPut l u → (t : Tree) → has_distinct_names t ≡ true → overwritten_below (is_location (s ∷ l)) u t ≡ with_child s (put l u) t
one_child (index i) l u below (list ts) h = ap list (one_element i l u below i 0 ts (omega arith) h)
one_child (name k) l u below (list ts) h = ap list (elements_stay (is_location (name k ∷ l)) u 0 ts (λ j m le. refl))
one_child (name k) l u below (object ms) h = let parts = and_parts (are_distinct (names ms)) (members_distinct ms) h in ap object (one_member k l u below ms parts.0 parts.1)
one_child (index i) l u below (object ms) h = ap object (members_stay (is_location (index i ∷ l)) u ms (λ k m. refl))
one_child (index i) l u below null h = refl
one_child (index i) l u below (truth b) h = refl
one_child (index i) l u below (number n) h = refl
one_child (index i) l u below (text k) h = refl
one_child (name k) l u below null h = refl
one_child (name k) l u below (truth b) h = refl
one_child (name k) l u below (number n) h = refl
one_child (name k) l u below (text k') h = refl

one_location : (l : Location) (u t : Tree) → has_distinct_names t ≡ true → overwritten (is_location l) u t ≡ put l u t
one_location [] u t h = refl
one_location (s ∷ l) u t h = one_child s l u (λ x g. one_location l u x g) t h

or_none : (b : Bool) → (b || false) ≡ b
or_none true = refl
or_none false = refl

pub at_one_is_put : OverwrittenAtOneIsPut
at_one_is_put l u t h = let one : is_among (l ∷ []) ≡ is_location l = λ i m. or_none (is_location l m) i in ap (λ s. overwritten s u t) one ∙ one_location l u t h

-- ---- what is seen at a location

element_seen : (set : Location → Bool) (u : Tree) (n c j : ℕ) (ts : Trees) → j ≡ c + n → item_at n (elements_overwritten set u c ts) ≡ option_map (overwritten (λ m. set (index j ∷ m)) u) (item_at n ts)
element_seen set u n c j no_trees at = refl
element_seen set u zero c j (tree t ts) at = let same : c ≡ j = omega (arith, at) in ap (λ i. Some (overwritten (λ m. set (index i ∷ m)) u t)) same
element_seen set u (suc n) c j (tree t ts) at = element_seen set u n (suc c) j ts (omega (arith, at))

member_seen : (set : Location → Bool) (u : Tree) (k : List ℕ) (ms : Members) → find k (pairs (members_overwritten set u ms)) ≡ option_map (overwritten (λ m. set (name k ∷ m)) u) (find k (pairs ms))
member_seen set u k no_members = refl
member_seen set u k (member n t ms) = pick (bytes_eq k n) refl (member_seen set u k ms)
  where
    pick : (b : Bool) → bytes_eq k n ≡ b → find k (pairs (members_overwritten set u ms)) ≡ option_map (overwritten (λ m. set (name k ∷ m)) u) (find k (pairs ms))
        → find k (pairs (members_overwritten set u (member n t ms))) ≡ option_map (overwritten (λ m. set (name k ∷ m)) u) (find k (pairs (member n t ms)))
    pick true same more =
        let is : n ≡ k = sym ((bytes_eq-Decides k n).0 same) in
        ap (λ b. cond b (Some (overwritten (λ m. set (name n ∷ m)) u t)) (find k (pairs (members_overwritten set u ms)))) same
        ∙ ap (λ i. Some (overwritten (λ m. set (name i ∷ m)) u t)) is
        ∙ sym (ap (λ b. option_map (overwritten (λ m. set (name k ∷ m)) u) (cond b (Some t) (find k (pairs ms)))) same)
    pick false other more =
        ap (λ b. cond b (Some (overwritten (λ m. set (name n ∷ m)) u t)) (find k (pairs (members_overwritten set u ms)))) other
        ∙ more
        ∙ sym (ap (λ b. option_map (overwritten (λ m. set (name k ∷ m)) u) (cond b (Some t) (find k (pairs ms)))) other)

child_seen : (s : Step) (set : Location → Bool) (u t : Tree) → child s (overwritten_below set u t) ≡ option_map (overwritten (λ m. set (s ∷ m)) u) (child s t)
child_seen (index i) set u (list ts) = element_seen set u i 0 i ts (omega arith)
child_seen (name k) set u (list ts) = refl
child_seen (name k) set u (object ms) = member_seen set u k ms
child_seen (index i) set u (object ms) = refl
child_seen (index i) set u null = refl
child_seen (index i) set u (truth b) = refl
child_seen (index i) set u (number n) = refl
child_seen (index i) set u (text k) = refl
child_seen (name k) set u null = refl
child_seen (name k) set u (truth b) = refl
child_seen (name k) set u (number n) = refl
child_seen (name k) set u (text k') = refl

pub is_seen : OverwrittenIsSeen
is_seen set [] u t none = refl
is_seen set (s ∷ l) u t none =
    let here : set [] ≡ false = none [] (s ∷ l, refl) (λ e. absurd cc) in
    ap (λ b. at (s ∷ l) (if b then u else overwritten_below set u t)) here
    ∙ ap (option_and_then (at l)) (child_seen s set u t)
    ∙ below (child s t) (λ c. is_seen (λ m. set (s ∷ m)) l u c (λ m b other. none (s ∷ m) (longer s s m l refl b) (λ e. other (rest m e))))
  where
    rest : (m : Location) → s ∷ m ≡ s ∷ l → m ≡ l
    rest m e = cc

    below : (o : Option Tree) → ((c : Tree) → at l (overwritten (λ m. set (s ∷ m)) u c) ≡ option_map (overwritten (λ m. set (s ∷ (l ++ m))) u) (at l c))
        → option_and_then (at l) (option_map (overwritten (λ m. set (s ∷ m)) u) o) ≡ option_map (overwritten (λ m. set (s ∷ (l ++ m))) u) (option_and_then (at l) o)
    below None more = refl
    below (Some c) more = more c

not_true : (b : Bool) → (b ≡ true → ⊥) → b ≡ false
not_true true other = absurd (other refl)
not_true false other = refl

pub leaves_the_rest : OverwrittenLeavesTheRest
leaves_the_rest set l u t apart = is_seen set l u t (λ m b other. not_true (set m) (λ h. (apart m h).0 b)) ∙ kept (at l t)
  where
    kept : (o : Option Tree) → option_map (overwritten (λ m. set (l ++ m)) u) o ≡ o
    kept None = refl
    kept (Some c) = ap Some (stays (λ m. set (l ++ m)) u c (λ m. not_true (set (l ++ m)) (λ h. (apart (l ++ m) h).1 (m, refl))))

-- ---- it forgets

forget_if : (b : Bool) (u v x y : Tree) (f : Tree → Tree) → f x ≡ y → (if b then u else f (if b then v else x)) ≡ (if b then u else y)
forget_if true u v x y f e = refl
forget_if false u v x y f e = e

forget : (set : Location → Bool) (u v t : Tree) → overwritten_below set u (overwritten_below set v t) ≡ overwritten_below set u t → overwritten set u (overwritten set v t) ≡ overwritten set u t
forget set u v t = forget_if (set []) u v (overwritten_below set v t) (overwritten_below set u t) (overwritten_below set u)

mutual
  below_forgets : (set : Location → Bool) (u v t : Tree) → overwritten_below set u (overwritten_below set v t) ≡ overwritten_below set u t
  below_forgets set u v null = refl
  below_forgets set u v (truth b) = refl
  below_forgets set u v (number n) = refl
  below_forgets set u v (text s) = refl
  below_forgets set u v (list ts) = ap list (elements_forget set u v 0 ts)
  below_forgets set u v (object ms) = ap object (members_forget set u v ms)

  elements_forget : (set : Location → Bool) (u v : Tree) (i : ℕ) (ts : Trees) → elements_overwritten set u i (elements_overwritten set v i ts) ≡ elements_overwritten set u i ts
  elements_forget set u v i no_trees = refl
  elements_forget set u v i (tree t ts) =
      ap₂ tree (forget (λ l. set (index i ∷ l)) u v t (below_forgets (λ l. set (index i ∷ l)) u v t)) (elements_forget set u v (suc i) ts)

  members_forget : (set : Location → Bool) (u v : Tree) (ms : Members) → members_overwritten set u (members_overwritten set v ms) ≡ members_overwritten set u ms
  members_forget set u v no_members = refl
  members_forget set u v (member k t ms) =
      ap₂ (member k) (forget (λ l. set (name k ∷ l)) u v t (below_forgets (λ l. set (name k ∷ l)) u v t)) (members_forget set u v ms)

pub forgets : OverwrittenForgets
forgets set u v t = forget set u v t (below_forgets set u v t)
