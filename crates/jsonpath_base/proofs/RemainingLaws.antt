-- What is seen of a tree without a set of locations, child by child.
use Rattle.std.proofs.Common.{◌≡◌, ◌≤◌, ◌<◌, ◌+◌, ◌⊎◌, inl, inr, eq-or-lt_of_le, ℕ, zero, suc, List, [], ◌∷◌, ◌++◌, Bool, true, false, if◌then◌else◌, cond, bytes_eq, Option, Some, None, option_map, option_and_then, refl, sym, ap, ◌∙◌, arith}
use Rattle.std.proofs.lemmas.Slice.Eq.{bytes_eq-Decides}
use Rattle.jsonpath_base.specs.Prelude.{at, child, elements_thinned, find, index, item_at, list, Location, member, Members, name, no_members, no_trees, null, number, object, pairs, RemovedMemberIsGone, StayingKeepsIndexes, Step, text, thinned, Tree, tree, Trees, truth, without, WithoutIsSeen, WithoutLeavesTheRest}
use Rattle.jsonpath_base.specs.Remaining.{StaysInPlace, KeepsItsIndexes}
use Rattle.jsonpath_base.specs.Without.{members_thinned}
use Rattle.jsonpath_base.proofs.Removed.{without_alike}
use Rattle.jsonpath_base.proofs.WithoutLaws.{thinned_none}

-- ---- a member

apart : (k n : List ℕ) (t : Tree) (rest : Members) (b : Bool) → bytes_eq k n ≡ false → find k (pairs (if b then rest else member n t rest)) ≡ find k (pairs rest)
apart k n t rest true other = refl
apart k n t rest false other = ap (λ c. cond c (Some t) (find k (pairs rest))) other

member_seen : (gone : Location → Bool) (k : List ℕ) (ms : Members) → gone (name k ∷ []) ≡ false → find k (pairs (members_thinned gone ms)) ≡ option_map (thinned (λ m. gone (name k ∷ m))) (find k (pairs ms))
member_seen gone k no_members stays = refl
member_seen gone k (member n t ms) stays = pick (bytes_eq k n) refl (member_seen gone k ms stays)
  where
    pick : (b : Bool) → bytes_eq k n ≡ b → find k (pairs (members_thinned gone ms)) ≡ option_map (thinned (λ m. gone (name k ∷ m))) (find k (pairs ms))
        → find k (pairs (members_thinned gone (member n t ms))) ≡ option_map (thinned (λ m. gone (name k ∷ m))) (find k (pairs (member n t ms)))
    pick true same more =
        let is : k ≡ n = (bytes_eq-Decides k n).0 same in
        let here : gone (name n ∷ []) ≡ false = ap (λ i. gone (name i ∷ [])) (sym is) ∙ stays in
        ap (λ b. find k (pairs (if b then members_thinned gone ms else member n (thinned (λ m. gone (name n ∷ m)) t) (members_thinned gone ms)))) here
        ∙ ap (λ b. cond b (Some (thinned (λ m. gone (name n ∷ m)) t)) (find k (pairs (members_thinned gone ms)))) same
        ∙ ap (λ i. Some (thinned (λ m. gone (name i ∷ m)) t)) (sym is)
        ∙ sym (ap (λ b. option_map (thinned (λ m. gone (name k ∷ m))) (cond b (Some t) (find k (pairs ms)))) same)
    pick false other more =
        apart k n (thinned (λ m. gone (name n ∷ m)) t) (members_thinned gone ms) (gone (name n ∷ [])) other ∙ more
        ∙ sym (ap (λ b. option_map (thinned (λ m. gone (name k ∷ m))) (cond b (Some t) (find k (pairs ms)))) other)

member_gone : (gone : Location → Bool) (k : List ℕ) (ms : Members) → gone (name k ∷ []) ≡ true → find k (pairs (members_thinned gone ms)) ≡ None
member_gone gone k no_members goes = refl
member_gone gone k (member n t ms) goes = pick (bytes_eq k n) refl (member_gone gone k ms goes)
  where
    pick : (b : Bool) → bytes_eq k n ≡ b → find k (pairs (members_thinned gone ms)) ≡ None → find k (pairs (members_thinned gone (member n t ms))) ≡ None
    pick true same more =
        let here : gone (name n ∷ []) ≡ true = ap (λ i. gone (name i ∷ [])) (sym ((bytes_eq-Decides k n).0 same)) ∙ goes in
        ap (λ b. find k (pairs (if b then members_thinned gone ms else member n (thinned (λ m. gone (name n ∷ m)) t) (members_thinned gone ms)))) here ∙ more
    pick false other more = apart k n (thinned (λ m. gone (name n ∷ m)) t) (members_thinned gone ms) (gone (name n ∷ [])) other ∙ more

-- ---- an element

element_seen : (gone : Location → Bool) (n c j : ℕ) (ts : Trees) → j ≡ c + n → ((i : ℕ) → c ≤ i → i ≤ j → gone (index i ∷ []) ≡ false)
    → item_at n (elements_thinned gone c ts) ≡ option_map (thinned (λ m. gone (index j ∷ m))) (item_at n ts)
element_seen gone n c j no_trees at stay = refl
element_seen gone zero c j (tree t ts) at stay =
    let same : c ≡ j = omega (arith, at) in
    ap (λ b. item_at zero (if b then elements_thinned gone (suc c) ts else tree (thinned (λ m. gone (index c ∷ m)) t) (elements_thinned gone (suc c) ts))) (stay c (omega arith) (omega (arith, at)))
    ∙ ap (λ i. Some (thinned (λ m. gone (index i ∷ m)) t)) same
element_seen gone (suc n) c j (tree t ts) at stay =
    ap (λ b. item_at (suc n) (if b then elements_thinned gone (suc c) ts else tree (thinned (λ m. gone (index c ∷ m)) t) (elements_thinned gone (suc c) ts))) (stay c (omega arith) (omega (arith, at)))
    ∙ element_seen gone n (suc c) j ts (omega (arith, at)) (λ i low high. stay i (omega (arith, low)) high)

-- ---- a child

named_seen : (gone : Location → Bool) (k : List ℕ) (t : Tree) → gone (name k ∷ []) ≡ false → child (name k) (thinned gone t) ≡ option_map (thinned (λ m. gone (name k ∷ m))) (child (name k) t)
named_seen gone k null stays = refl
named_seen gone k (truth b) stays = refl
named_seen gone k (number n) stays = refl
named_seen gone k (text s) stays = refl
named_seen gone k (list ts) stays = refl
named_seen gone k (object ms) stays = member_seen gone k ms stays

named_gone : (gone : Location → Bool) (k : List ℕ) (t : Tree) → gone (name k ∷ []) ≡ true → child (name k) (thinned gone t) ≡ None
named_gone gone k null goes = refl
named_gone gone k (truth b) goes = refl
named_gone gone k (number n) goes = refl
named_gone gone k (text s) goes = refl
named_gone gone k (list ts) goes = refl
named_gone gone k (object ms) goes = member_gone gone k ms goes

numbered_seen : (gone : Location → Bool) (i : ℕ) (t : Tree) → ((j : ℕ) → j ≤ i → gone (index j ∷ []) ≡ false) → child (index i) (thinned gone t) ≡ option_map (thinned (λ m. gone (index i ∷ m))) (child (index i) t)
numbered_seen gone i null stay = refl
numbered_seen gone i (truth b) stay = refl
numbered_seen gone i (number n) stay = refl
numbered_seen gone i (text s) stay = refl
numbered_seen gone i (list ts) stay = element_seen gone i 0 i ts (omega arith) (λ j low high. stay j high)
numbered_seen gone i (object ms) stay = refl

-- ---- a location

here_stays : (gone : Location → Bool) (l : Location) → StaysInPlace gone l → gone [] ≡ false
here_stays gone [] h = h
here_stays gone (name k ∷ l) h = h.0
here_stays gone (index i ∷ l) h = h.0

upto : (gone : Location → Bool) (i : ℕ) → gone (index i ∷ []) ≡ false → ((j : ℕ) → j < i → gone (index j ∷ []) ≡ false) → (j : ℕ) → j ≤ i → gone (index j ∷ []) ≡ false
upto gone i here before j le = by (eq-or-lt_of_le le)
  where
    by : (j ≡ i) ⊎ (j < i) → gone (index j ∷ []) ≡ false
    by (inl e) = ap (λ n. gone (index n ∷ [])) e ∙ here
    by (inr lt) = before j lt

as_thinned : (gone : Location → Bool) (t : Tree) → gone [] ≡ false → without gone t ≡ thinned gone t
as_thinned gone t stays = ap (λ b. if b then null else thinned gone t) stays

down : (s : Step) (l : Location) (gone : Location → Bool) (t : Tree) → gone [] ≡ false → gone (s ∷ []) ≡ false → child s (thinned gone t) ≡ option_map (thinned (λ m. gone (s ∷ m))) (child s t)
    → ((c : Tree) → at l (without (λ m. gone (s ∷ m)) c) ≡ option_map (without (λ m. gone (s ∷ (l ++ m)))) (at l c)) → at (s ∷ l) (without gone t) ≡ option_map (without (λ m. gone (s ∷ (l ++ m)))) (at (s ∷ l) t)
down s l gone t here next seen more = ap (at (s ∷ l)) (as_thinned gone t here) ∙ ap (option_and_then (at l)) seen ∙ below (child s t)
  where
    below : (o : Option Tree) → option_and_then (at l) (option_map (thinned (λ m. gone (s ∷ m))) o) ≡ option_map (without (λ m. gone (s ∷ (l ++ m)))) (option_and_then (at l) o)
    below None = refl
    below (Some c) = ap (at l) (sym (as_thinned (λ m. gone (s ∷ m)) c next)) ∙ more c

pub is_seen : WithoutIsSeen
is_seen gone [] t h = refl
is_seen gone (name k ∷ l) t h =
    let next = here_stays (λ m. gone (name k ∷ m)) l h.1 in
    down (name k) l gone t h.0 next (named_seen gone k t next) (λ c. is_seen (λ m. gone (name k ∷ m)) l c h.1)
is_seen gone (index i ∷ l) t h =
    let next : gone (index i ∷ []) ≡ false = here_stays (λ m. gone (index i ∷ m)) l h.2 in
    down (index i) l gone t h.0 next (numbered_seen gone i t (upto gone i next h.1)) (λ c. is_seen (λ m. gone (index i ∷ m)) l c h.2)

-- ---- a member that was removed

none_below : (p : Location) (thin : Tree → Tree) (old new : Option Tree) → new ≡ option_map thin old → ((c : Tree) → at p (thin c) ≡ None) → option_and_then (at p) new ≡ None
none_below p thin None new e none = ap (option_and_then (at p)) e
none_below p thin (Some c) new e none = ap (option_and_then (at p)) e ∙ none c

member_thinned : (gone : Location → Bool) (l : Location) (k : List ℕ) (t : Tree) → KeepsItsIndexes gone l → gone (l ++ name k ∷ []) ≡ true → at (l ++ name k ∷ []) (thinned gone t) ≡ None
member_thinned gone [] k t h goes = ap (option_and_then (at [])) (named_gone gone k t goes)
member_thinned gone (name j ∷ l) k t h goes = by (gone (name j ∷ [])) refl (λ c stays. member_thinned (λ m. gone (name j ∷ m)) l k c (h stays) goes)
  where
    by : (b : Bool) → gone (name j ∷ []) ≡ b → ((c : Tree) → gone (name j ∷ []) ≡ false → at (l ++ name k ∷ []) (thinned (λ m. gone (name j ∷ m)) c) ≡ None) → at (name j ∷ (l ++ name k ∷ [])) (thinned gone t) ≡ None
    by true is below = ap (option_and_then (at (l ++ name k ∷ []))) (named_gone gone j t is)
    by false is below = none_below (l ++ name k ∷ []) (thinned (λ m. gone (name j ∷ m))) (child (name j) t) _ (named_seen gone j t is) (λ c. below c is)
member_thinned gone (index i ∷ l) k t h goes =
    none_below (l ++ name k ∷ []) (thinned (λ m. gone (index i ∷ m))) (child (index i) t) _ (numbered_seen gone i t h.0) (λ c. member_thinned (λ m. gone (index i ∷ m)) l k c h.1 goes)

pub member_is_gone : RemovedMemberIsGone
member_is_gone gone l k t h goes = by (gone []) refl (member_thinned gone l k t h goes)
  where
    in_null : (p : Location) → at (p ++ name k ∷ []) null ≡ None
    in_null [] = refl
    in_null (name j ∷ p) = refl
    in_null (index i ∷ p) = refl

    by : (b : Bool) → gone [] ≡ b → at (l ++ name k ∷ []) (thinned gone t) ≡ None → at (l ++ name k ∷ []) (without gone t) ≡ None
    by true is below = ap (λ b. at (l ++ name k ∷ []) (if b then null else thinned gone t)) is ∙ in_null l
    by false is below = ap (at (l ++ name k ∷ [])) (as_thinned gone t is) ∙ below

pub staying_keeps_indexes : StayingKeepsIndexes
staying_keeps_indexes gone [] h = tt
staying_keeps_indexes gone (name k ∷ l) h = λ stays. staying_keeps_indexes (λ m. gone (name k ∷ m)) l h.1
staying_keeps_indexes gone (index i ∷ l) h = (upto gone i (here_stays (λ m. gone (index i ∷ m)) l h.2) h.1, staying_keeps_indexes (λ m. gone (index i ∷ m)) l h.2)

pub leaves_the_rest : WithoutLeavesTheRest
leaves_the_rest gone l t h none = is_seen gone l t h ∙ below (at l t)
  where
    below : (o : Option Tree) → option_map (without (λ m. gone (l ++ m))) o ≡ o
    below None = refl
    below (Some c) = ap Some (without_alike (λ m. gone (l ++ m)) (λ m. false) none c ∙ thinned_none c)
