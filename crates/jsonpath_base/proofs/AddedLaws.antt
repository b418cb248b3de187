-- What is there after a value was added.
use Rattle.std.proofs.Common.{◌≡◌, ℕ, zero, suc, ◌<◌, ◌≤◌, List, [], ◌∷◌, ◌++◌, inl, inr, length, nat_lt, Bool, true, false, true≢false, if◌then◌else◌, cond, Ordering, Less, Equal, Greater, nat_cmp, is_eq, Option, Some, None, option_map, option_and_then, unwrap_or, refl, sym, ap, ◌∙◌, arith}
use Rattle.std.proofs.lemmas.Bool.Decides.{nat_tests}
use Rattle.std.proofs.lemmas.Map.Text.{is_eq-slice_cmp}
use Rattle.std.proofs.lemmas.Slice.Eq.{bytes_eq-Decides}
use Rattle.jsonpath_base.specs.Prelude.{added, AddedIndexMovesLater, AddedIsThere, AddedLeavesTheRest, AddedNameLeavesSiblings, at, bytes_eq, child, elements, find, index, item_at, list, Location, match_ordering, member, Members, name, no_members, no_trees, null, number, object, pairs, slice_cmp, Step, takes, text, Tree, tree, Trees, truth, with_child, with_new, with_new_element, with_new_member}
use Rattle.jsonpath_base.proofs.PutLaws.{IsWritten, child_written, child_same, behind_same, longer}

-- ---- the child

element_there : (i : ℕ) (u : Tree) (ts : Trees) → i ≤ length (elements ts) → item_at i (with_new_element i u ts) ≡ Some u
element_there zero u no_trees h = refl
element_there zero u (tree t ts) h = refl
element_there (suc i) u no_trees h = absurd (omega (arith, h))
element_there (suc i) u (tree t ts) h = element_there i u ts (omega (arith, h))

same_name : (k : List ℕ) → bytes_eq k k ≡ true
same_name k = (bytes_eq-Decides k k).1 refl

member_there : (k : List ℕ) (u : Tree) (ms : Members) → find k (pairs (with_new_member k u ms)) ≡ Some u
member_there k u no_members = rw (same_name k)
member_there k u (member l t ms) = by (slice_cmp nat_cmp k l) (is_eq-slice_cmp k l) (member_there k u ms)
  where
    by : (o : Ordering) → is_eq o ≡ bytes_eq k l → find k (pairs (with_new_member k u ms)) ≡ Some u
        → find k (pairs (match_ordering o (member k u (member l t ms)) (member l u ms) (member l t (with_new_member k u ms)))) ≡ Some u
    by Less e more = rw (same_name k)
    by Equal e more = ap (λ b. cond b (Some u) (find k (pairs ms))) (sym e)
    by Greater e more = ap (λ b. cond b (Some t) (find k (pairs (with_new_member k u ms)))) (sym e) ∙ more

pub child_there : (s : Step) (u t : Tree) → takes s t ≡ true → child s (with_new s u t) ≡ Some u
child_there (index i) u (list ts) h = element_there i u ts (grind (arith, nat_tests, h))
child_there (index i) u null h = absurd (true≢false (sym h))
child_there (index i) u (truth b) h = absurd (true≢false (sym h))
child_there (index i) u (number n) h = absurd (true≢false (sym h))
child_there (index i) u (text k) h = absurd (true≢false (sym h))
child_there (index i) u (object ms) h = absurd (true≢false (sym h))
child_there (name k) u (object ms) h = member_there k u ms
child_there (name k) u null h = absurd (true≢false (sym h))
child_there (name k) u (truth b) h = absurd (true≢false (sym h))
child_there (name k) u (number n) h = absurd (true≢false (sym h))
child_there (name k) u (text j) h = absurd (true≢false (sym h))
child_there (name k) u (list ts) h = absurd (true≢false (sym h))

-- ---- its siblings

member_stays : (j k : List ℕ) (u : Tree) (ms : Members) → bytes_eq j k ≡ false → find j (pairs (with_new_member k u ms)) ≡ find j (pairs ms)
member_stays j k u no_members other = ap (λ b. cond b (Some u) None) other
member_stays j k u (member l t ms) other = by (slice_cmp nat_cmp k l) (is_eq-slice_cmp k l) (member_stays j k u ms other)
  where
    by : (o : Ordering) → is_eq o ≡ bytes_eq k l → find j (pairs (with_new_member k u ms)) ≡ find j (pairs ms)
        → find j (pairs (match_ordering o (member k u (member l t ms)) (member l u ms) (member l t (with_new_member k u ms)))) ≡ find j (pairs (member l t ms))
    by Less e more = ap (λ b. cond b (Some u) (find j (pairs (member l t ms)))) other
    by Equal e more =
        let apart : bytes_eq j l ≡ false = ap (bytes_eq j) (sym ((bytes_eq-Decides k l).0 (sym e))) ∙ other in
        ap (λ b. cond b (Some u) (find j (pairs ms))) apart ∙ sym (ap (λ b. cond b (Some t) (find j (pairs ms))) apart)
    by Greater e more = ap (cond (bytes_eq j l) (Some t)) more

pub sibling_stays : (j k : List ℕ) (u t : Tree) → bytes_eq j k ≡ false → child (name j) (with_new (name k) u t) ≡ child (name j) t
sibling_stays j k u null other = refl
sibling_stays j k u (truth b) other = refl
sibling_stays j k u (number n) other = refl
sibling_stays j k u (text s) other = refl
sibling_stays j k u (list ts) other = refl
sibling_stays j k u (object ms) other = member_stays j k u ms other

-- where the element that stood at j is, after one was added at i
abbrev pub moved : ℕ → ℕ → ℕ
moved i j = if nat_lt j i then j else suc j

element_before : (i j : ℕ) (u : Tree) (ts : Trees) → j < i → i ≤ length (elements ts) → item_at j (with_new_element i u ts) ≡ item_at j ts
element_before zero j u ts before h = absurd (omega (arith, before))
element_before (suc i) j u no_trees before h = absurd (omega (arith, h))
element_before (suc i) zero u (tree t ts) before h = refl
element_before (suc i) (suc j) u (tree t ts) before h = element_before i j u ts (omega (arith, before)) (omega (arith, h))

element_behind : (i j : ℕ) (u : Tree) (ts : Trees) → i ≤ j → i ≤ length (elements ts) → item_at (suc j) (with_new_element i u ts) ≡ item_at j ts
element_behind zero j u ts behind h = refl
element_behind (suc i) j u no_trees behind h = absurd (omega (arith, h))
element_behind (suc i) zero u (tree t ts) behind h = absurd (omega (arith, behind))
element_behind (suc i) (suc j) u (tree t ts) behind h = element_behind i j u ts (omega (arith, behind)) (omega (arith, h))

element_moves : (i j : ℕ) (u : Tree) (ts : Trees) (b : Bool) → nat_lt j i ≡ b → i ≤ length (elements ts) → item_at (if b then j else suc j) (with_new_element i u ts) ≡ item_at j ts
element_moves i j u ts true e h = element_before i j u ts (grind (arith, nat_tests, e)) h
element_moves i j u ts false e h = element_behind i j u ts (grind (arith, nat_tests, e)) h

pub element_goes : (i j : ℕ) (u t : Tree) → takes (index i) t ≡ true → child (index (moved i j)) (with_new (index i) u t) ≡ child (index j) t
element_goes i j u (list ts) h = element_moves i j u ts (nat_lt j i) refl (grind (arith, nat_tests, h))
element_goes i j u null h = refl
element_goes i j u (truth b) h = refl
element_goes i j u (number n) h = refl
element_goes i j u (text s) h = refl
element_goes i j u (object ms) h = refl

-- ---- at a location

-- what stands there takes the child
inside : (l m : Location) (s : Step) (u t : Tree) → at (l ++ m) (added l s u t) ≡ option_and_then (λ c. at m (with_new s u c)) (at l t)
inside [] m s u t = refl
inside (r ∷ l) m s u t = ap (option_and_then (at (l ++ m))) (child_same r (added l s u) t) ∙ below (child r t) (λ c. inside l m s u c)
  where
    below : (o : Option Tree) → ((c : Tree) → at (l ++ m) (added l s u c) ≡ option_and_then (λ d. at m (with_new s u d)) (at l c))
        → option_and_then (at (l ++ m)) (option_map (added l s u) o) ≡ option_and_then (λ d. at m (with_new s u d)) (option_and_then (at l) o)
    below None more = refl
    below (Some c) more = more c

pub at_both : (l m : Location) (t : Tree) → at (l ++ m) t ≡ option_and_then (at m) (at l t)
at_both [] m t = refl
at_both (r ∷ l) m t = below (child r t) (at_both l m)
  where
    below : (o : Option Tree) → ((c : Tree) → at (l ++ m) c ≡ option_and_then (at m) (at l c)) → option_and_then (at (l ++ m)) o ≡ option_and_then (at m) (option_and_then (at l) o)
    below None more = refl
    below (Some c) more = more c

pub added_is_there : AddedIsThere
added_is_there l m s u t taken = inside l (s ∷ m) s u t ∙ by (at l t) taken
  where
    by : (o : Option Tree) → unwrap_or (option_map (takes s) o) false ≡ true → option_and_then (λ c. at (s ∷ m) (with_new s u c)) o ≡ at m u
    by None h = absurd (true≢false (sym h))
    by (Some c) h = ap (option_and_then (at m)) (child_there s u c h)

pub added_name_leaves_siblings : AddedNameLeavesSiblings
added_name_leaves_siblings l m j k u t other = inside l (name j ∷ m) (name k) u t ∙ by (at l t) ∙ sym (at_both l (name j ∷ m) t)
  where
    apart : (b : Bool) → bytes_eq j k ≡ b → b ≡ false
    apart true e = absurd (other ((bytes_eq-Decides j k).0 e))
    apart false e = refl

    by : (o : Option Tree) → option_and_then (λ c. at (name j ∷ m) (with_new (name k) u c)) o ≡ option_and_then (at (name j ∷ m)) o
    by None = refl
    by (Some c) = ap (option_and_then (at m)) (sibling_stays j k u c (apart (bytes_eq j k) refl))

pub added_index_moves_later : AddedIndexMovesLater
added_index_moves_later l m i j u t taken = inside l (index (moved i j) ∷ m) (index i) u t ∙ by (at l t) taken ∙ sym (at_both l (index j ∷ m) t)
  where
    by : (o : Option Tree) → unwrap_or (option_map (takes (index i)) o) false ≡ true → option_and_then (λ c. at (index (moved i j) ∷ m) (with_new (index i) u c)) o ≡ option_and_then (at (index j ∷ m)) o
    by None h = refl
    by (Some c) h = ap (option_and_then (at m)) (element_goes i j u c h)

pub added_leaves_the_rest : AddedLeavesTheRest
added_leaves_the_rest [] m s u t above below = absurd (above (m, refl))
added_leaves_the_rest (p ∷ l) [] s u t above below = absurd (below (p ∷ l, refl))
added_leaves_the_rest (p ∷ l) (r ∷ m) s u t above below = step (child_written p r (added l s u) t) (λ e x. added_leaves_the_rest l m s u x (λ b. above (longer p r l m e b)) (λ b. below (longer r p m l (sym e) b)))
  where
    step : IsWritten p r (added l s u) (child r t) (child r (with_child p (added l s u) t)) → (p ≡ r → (x : Tree) → at m (added l s u x) ≡ at m x) → at (r ∷ m) (added (p ∷ l) s u t) ≡ at (r ∷ m) t
    step (inl (e, h)) more = ap (option_and_then (at m)) h ∙ behind_same (added l s u) (at m) (more e) (child r t)
    step (inr h) more = ap (option_and_then (at m)) h
