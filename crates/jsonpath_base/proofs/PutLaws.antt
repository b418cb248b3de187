-- What a write at a location leaves.
use Rattle.std.proofs.Common.{◌≡◌, ℕ, zero, suc, List, [], ◌∷◌, ◌++◌, ◌⊎◌, inl, inr, Bool, true, false, cond, Option, Some, None, option_map, option_and_then, refl, sym, ap, ◌∙◌}
use Rattle.std.proofs.lemmas.Slice.Eq.{bytes_eq-Decides}
use Rattle.jsonpath_base.specs.Prelude.{at, Begins, bytes_eq, child, find, index, item_at, list, Location, member, Members, name, no_members, no_trees, null, number, object, pairs, put, PutIsSeenAbove, PutIsThere, PutLeavesTheRest, PutNowhere, Step, text, Tree, tree, Trees, truth, with_child, with_element, with_member}

-- the child at r, where the child at s is written: it is the one that was written, or it is as it was
abbrev pub IsWritten : Step → Step → (Tree → Tree) → Option Tree → Option Tree → Type 0
IsWritten s r f old new = ((s ≡ r) × (new ≡ option_map f old)) ⊎ (new ≡ old)

-- ---- elements

later : (i j : ℕ) (f : Tree → Tree) (old new : Option Tree) → IsWritten (index i) (index j) f old new → IsWritten (index (suc i)) (index (suc j)) f old new
later i j f old new (inl (e, h)) = let same : i ≡ j = cc in inl (ap (λ k. index (suc k)) same, h)
later i j f old new (inr h) = inr h

element_written : (i j : ℕ) (f : Tree → Tree) (ts : Trees) → IsWritten (index i) (index j) f (item_at j ts) (item_at j (with_element i f ts))
element_written i j f no_trees = inr refl
element_written zero zero f (tree t ts) = inl (refl, refl)
element_written zero (suc j) f (tree t ts) = inr refl
element_written (suc i) zero f (tree t ts) = inr refl
element_written (suc i) (suc j) f (tree t ts) = later i j f (item_at j ts) (item_at j (with_element i f ts)) (element_written i j f ts)

-- ---- members

member_same : (k : List ℕ) (f : Tree → Tree) (ms : Members) → find k (pairs (with_member k f ms)) ≡ option_map f (find k (pairs ms))
member_same k f no_members = refl
member_same k f (member n t ms) = pick (bytes_eq k n) refl (member_same k f ms)
  where
    pick : (b : Bool) → bytes_eq k n ≡ b → find k (pairs (with_member k f ms)) ≡ option_map f (find k (pairs ms))
        → find k (pairs (with_member k f (member n t ms))) ≡ option_map f (find k (pairs (member n t ms)))
    pick true same more = rw (same, same) refl
    pick false other more = rw (other, other) more

member_other : (k j : List ℕ) (f : Tree → Tree) (ms : Members) → bytes_eq j k ≡ false → find j (pairs (with_member k f ms)) ≡ find j (pairs ms)
member_other k j f no_members d = refl
member_other k j f (member n t ms) d = pick (bytes_eq k n) refl (member_other k j f ms d)
  where
    pick : (b : Bool) → bytes_eq k n ≡ b → find j (pairs (with_member k f ms)) ≡ find j (pairs ms)
        → find j (pairs (with_member k f (member n t ms))) ≡ find j (pairs (member n t ms))
    pick true same more =
        let differs : bytes_eq j n ≡ false = ap (bytes_eq j) (sym ((bytes_eq-Decides k n).0 same)) ∙ d in
        rw (same, differs) refl
    pick false other more = rw other (ap (cond (bytes_eq j n) (Some t)) more)

member_written : (k j : List ℕ) (f : Tree → Tree) (ms : Members) → IsWritten (name k) (name j) f (find j (pairs ms)) (find j (pairs (with_member k f ms)))
member_written k j f ms = pick (bytes_eq j k) refl
  where
    pick : (b : Bool) → bytes_eq j k ≡ b → IsWritten (name k) (name j) f (find j (pairs ms)) (find j (pairs (with_member k f ms)))
    pick true same =
        let is : j ≡ k = (bytes_eq-Decides j k).0 same in
        inl (ap name (sym is), ap (λ n. find n (pairs (with_member k f ms))) is ∙ member_same k f ms ∙ ap (λ n. option_map f (find n (pairs ms))) (sym is))
    pick false other = inr (member_other k j f ms other)

-- ---- a step down

pub child_written : (s r : Step) (f : Tree → Tree) (t : Tree) → IsWritten s r f (child r t) (child r (with_child s f t))
child_written (index i) (index j) f (list ts) = element_written i j f ts
child_written (index i) (name k) f (list ts) = inr refl
child_written (name k) r f (list ts) = inr refl
child_written (name k) (name j) f (object ms) = member_written k j f ms
child_written (name k) (index i) f (object ms) = inr refl
child_written (index i) r f (object ms) = inr refl
child_written (index i) r f null = inr refl
child_written (index i) r f (truth b) = inr refl
child_written (index i) r f (number n) = inr refl
child_written (index i) r f (text k) = inr refl
child_written (name k) r f null = inr refl
child_written (name k) r f (truth b) = inr refl
child_written (name k) r f (number n) = inr refl
child_written (name k) r f (text k') = inr refl

-- ---- the law

pub behind_same : {A B : Type 0} (f : A → A) (g : A → Option B) → ((x : A) → g (f x) ≡ g x) → (o : Option A) → option_and_then g (option_map f o) ≡ option_and_then g o
behind_same f g h None = refl
behind_same f g h (Some x) = h x

pub longer : (s r : Step) (l m : Location) → s ≡ r → Begins l m → Begins (s ∷ l) (r ∷ m)
longer s r l m e (rest, is) = (rest, ap (λ z. z ∷ m) (sym e) ∙ ap (λ z. s ∷ z) is)

pub put_leaves_the_rest : PutLeavesTheRest
put_leaves_the_rest [] m u t above inside = absurd (above (m, refl))
put_leaves_the_rest (s ∷ l) [] u t above inside = absurd (inside (s ∷ l, refl))
put_leaves_the_rest (s ∷ l) (r ∷ m) u t above inside = step (child_written s r (put l u) t) (λ e x. put_leaves_the_rest l m u x (λ b. above (longer s r l m e b)) (λ b. inside (longer r s m l (sym e) b)))
  where
    step : IsWritten s r (put l u) (child r t) (child r (with_child s (put l u) t)) → (s ≡ r → (x : Tree) → at m (put l u x) ≡ at m x) → at (r ∷ m) (put (s ∷ l) u t) ≡ at (r ∷ m) t
    step (inl (e, h)) more = ap (option_and_then (at m)) h ∙ behind_same (put l u) (at m) (more e) (child r t)
    step (inr h) more = ap (option_and_then (at m)) h

-- ---- the written child

element_same : (i : ℕ) (f : Tree → Tree) (ts : Trees) → item_at i (with_element i f ts) ≡ option_map f (item_at i ts)
element_same i f no_trees = refl
element_same zero f (tree t ts) = refl
element_same (suc i) f (tree t ts) = element_same i f ts

-- it is the one that was there, written
pub child_same : (s : Step) (f : Tree → Tree) (t : Tree) → child s (with_child s f t) ≡ option_map f (child s t)
child_same (index i) f (list ts) = element_same i f ts
child_same (name k) f (list ts) = refl
child_same (name k) f (object ms) = member_same k f ms
child_same (index i) f (object ms) = refl
child_same (index i) f null = refl
child_same (index i) f (truth b) = refl
child_same (index i) f (number n) = refl
child_same (index i) f (text k) = refl
child_same (name k) f null = refl
child_same (name k) f (truth b) = refl
child_same (name k) f (number n) = refl
child_same (name k) f (text k') = refl

-- ---- what is there after a write

pub put_is_there : PutIsThere
put_is_there [] m u t = refl
put_is_there (s ∷ l) m u t = ap (option_and_then (at (l ++ m))) (child_same s (put l u) t) ∙ below (child s t) (λ c. put_is_there l m u c)
  where
    below : (o : Option Tree) → ((c : Tree) → at (l ++ m) (put l u c) ≡ option_and_then (λ d. at m u) (at l c)) → option_and_then (at (l ++ m)) (option_map (put l u) o) ≡ option_and_then (λ c. at m u) (option_and_then (at l) o)
    below None more = refl
    below (Some c) more = more c

pub put_is_seen_above : PutIsSeenAbove
put_is_seen_above [] m u t = refl
put_is_seen_above (s ∷ l) m u t = ap (option_and_then (at l)) (child_same s (put (l ++ m) u) t) ∙ below (child s t) (λ c. put_is_seen_above l m u c)
  where
    below : (o : Option Tree) → ((c : Tree) → at l (put (l ++ m) u c) ≡ option_map (put m u) (at l c)) → option_and_then (at l) (option_map (put (l ++ m) u) o) ≡ option_map (put m u) (option_and_then (at l) o)
    below None more = refl
    below (Some c) more = more c

-- ---- where nothing is there, nothing is written

abbrev Keeps : (Tree → Tree) → Option Tree → Type 0
Keeps f o = (c : Tree) → o ≡ Some c → f c ≡ c

element_as_it_was : (i : ℕ) (f : Tree → Tree) (ts : Trees) → Keeps f (item_at i ts) → with_element i f ts ≡ ts
element_as_it_was i f no_trees h = refl
element_as_it_was zero f (tree t ts) h = ap (λ u. tree u ts) (h t refl)
element_as_it_was (suc i) f (tree t ts) h = ap (tree t) (element_as_it_was i f ts h)

member_as_it_was : (k : List ℕ) (f : Tree → Tree) (ms : Members) → Keeps f (find k (pairs ms)) → with_member k f ms ≡ ms
member_as_it_was k f no_members h = refl
member_as_it_was k f (member n t ms) h = pick (bytes_eq k n) refl (member_as_it_was k f ms)
  where
    pick : (b : Bool) → bytes_eq k n ≡ b → (Keeps f (find k (pairs ms)) → with_member k f ms ≡ ms) → with_member k f (member n t ms) ≡ member n t ms
    pick true same more = rw same (ap (λ u. member n u ms) (h t (ap (λ b. cond b (Some t) (find k (pairs ms))) same)))
    pick false other more = rw other (ap (member n t) (more (λ c e. h c (ap (λ b. cond b (Some t) (find k (pairs ms))) other ∙ e))))

child_as_it_was : (s : Step) (f : Tree → Tree) (t : Tree) → Keeps f (child s t) → with_child s f t ≡ t
child_as_it_was (index i) f (list ts) h = ap list (element_as_it_was i f ts h)
child_as_it_was (name k) f (list ts) h = refl
child_as_it_was (name k) f (object ms) h = ap object (member_as_it_was k f ms h)
child_as_it_was (index i) f (object ms) h = refl
child_as_it_was (index i) f null h = refl
child_as_it_was (index i) f (truth b) h = refl
child_as_it_was (index i) f (number n) h = refl
child_as_it_was (index i) f (text k) h = refl
child_as_it_was (name k) f null h = refl
child_as_it_was (name k) f (truth b) h = refl
child_as_it_was (name k) f (number n) h = refl
child_as_it_was (name k) f (text k') h = refl

-- a write where nothing is changes nothing
pub put_nowhere : PutNowhere
put_nowhere [] u t none = absurd cc
put_nowhere (s ∷ l) u t none = child_as_it_was s (put l u) t (λ c is. put_nowhere l u c (sym (ap (option_and_then (at l)) is) ∙ none))
