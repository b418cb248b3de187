-- Every node of a nodelist is in the document: the value at its location is its tree.
use Rattle.std.proofs.Common.{◌≡◌, ℕ, zero, suc, ◌+◌, ◌<◌, ℤ, List, [], ◌∷◌, ◌++◌, map, cond, length, get_or, refl, sym, ◌∙◌, ap, arith, Bool, true, false, not, ◌||◌, ◌≤◌, filter, subst, Option, Some, None, option_and_then, option_to_list, IsTrue}
use Rattle.std.proofs.lemmas.Bool.{false≢true, and_parts}
use Rattle.std.proofs.lemmas.Slice.Eq.{bytes_eq-Decides}
use Rattle.jsonpath_base.specs.Prelude.Documents.{all_applied, all_pick, AllByRecursion, are_distinct, as_list, as_members, at, below, bytes_eq, child, children, children_at, descendant, Document, element, element_nodes, element_of, elements, find, flat_map, get, has_distinct_names, holds, index, indexed, item_at, list, list_any, Location, member_nodes, Members, members_distinct, members_size, name, no_members, no_segments, no_selectors, no_trees, Node, nodelist, null, number, object, one, pairs, picks, Query, replaced, root_node, Segment, segment, Segments, Selector, selector, Selectors, several, size, slice, slice_of, sliced, Step, subtree, subtree_at, text, Tree, Trees, trees_distinct, trees_size, truth, wildcard}
use Rattle.jsonpath_parser.specs.tree.Syntax as syntax
use Rattle.jsonpath_base.specs.Tree as base
use Rattle.jsonpath_base.proofs.lemmas.documents.Trees.{subtree-children}

-- ---- what holds of each element

pub each-append : {A : Type 0} (P : A → Type 0) (xs ys : List A) → AllByRecursion P xs → AllByRecursion P ys → AllByRecursion P (xs ++ ys)
each-append P [] ys h k = k
each-append P (x ∷ xs) ys h k = (h.0, each-append P xs ys h.1 k)

pub each-flat_map : {A B : Type 0} (P : A → Type 0) (Q : B → Type 0) (f : A → List B) → ((x : A) → P x → AllByRecursion Q (f x)) → (xs : List A) → AllByRecursion P xs → AllByRecursion Q (flat_map f xs)
each-flat_map P Q f k [] h = tt
each-flat_map P Q f k (x ∷ xs) h = each-append Q (f x) (flat_map f xs) (k x h.0) (each-flat_map P Q f k xs h.1)

each_weaker : {A : Type 0} (P Q : A → Type 0) → ((x : A) → P x → Q x) → (xs : List A) → AllByRecursion P xs → AllByRecursion Q xs
each_weaker P Q k [] h = tt
each_weaker P Q k (x ∷ xs) h = (k x h.0, each_weaker P Q k xs h.1)

-- ---- one step below a place

through_option : {A : Type 0} (f g h : A → Option A) → ((x : A) → f x ≡ option_and_then g (h x)) → (o : Option A) → option_and_then f o ≡ option_and_then g (option_and_then h o)
through_option f g h k None = refl
through_option f g h k (Some x) = k x

pub at-append : (l m : Location) (t : Tree) → at (l ++ m) t ≡ option_and_then (at m) (at l t)
at-append [] m t = refl
at-append (s ∷ l) m t = through_option (at (l ++ m)) (at m) (at l) (λ u. at-append l m u) (child s t)

alone : {A : Type 0} (o : Option A) → option_and_then (λ x. Some x) o ≡ o
alone None = refl
alone (Some x) = refl

pub at-below : (l : Location) (s : Step) (doc t : Tree) → at l doc ≡ Some t → at (l ++ s ∷ []) doc ≡ child s t
at-below l s doc t h = at-append l (s ∷ []) doc ∙ ap (option_and_then (at (s ∷ []))) h ∙ alone (child s t)

-- ---- names

distinct_as : (t u : Tree) → Some t ≡ Some u → IsTrue (has_distinct_names t) → IsTrue (has_distinct_names u)
distinct_as t u e h =
    let same : t ≡ u = cc in
    ap has_distinct_names (sym same) ∙ h

item-distinct : (i : ℕ) (ts : Trees) (u : Tree) → item_at i ts ≡ Some u → IsTrue (trees_distinct ts) → IsTrue (has_distinct_names u)
item-distinct i no_trees u e h = cc
item-distinct zero (base.tree t ts) u e h = distinct_as t u e (and_parts (has_distinct_names t) (trees_distinct ts) h).0
item-distinct (suc i) (base.tree t ts) u e h = item-distinct i ts u e (and_parts (has_distinct_names t) (trees_distinct ts) h).1

found-distinct : (b : Bool) (t u : Tree) (rest : Option Tree) → (rest ≡ Some u → IsTrue (has_distinct_names u)) → cond b (Some t) rest ≡ Some u → IsTrue (has_distinct_names t) → IsTrue (has_distinct_names u)
found-distinct true t u rest k e h = distinct_as t u e h
found-distinct false t u rest k e h = k e

find-distinct : (k : List ℕ) (ms : Members) (u : Tree) → find k (pairs ms) ≡ Some u → IsTrue (members_distinct ms) → IsTrue (has_distinct_names u)
find-distinct k no_members u e h = cc
find-distinct k (base.member n t ms) u e h = found-distinct (bytes_eq k n) t u (find k (pairs ms)) (λ r. find-distinct k ms u r (and_parts (has_distinct_names t) (members_distinct ms) h).1) e (and_parts (has_distinct_names t) (members_distinct ms) h).0

-- a child of a tree with distinct names has distinct names
child-distinct : (s : Step) (t u : Tree) → child s t ≡ Some u → IsTrue (has_distinct_names t) → IsTrue (has_distinct_names u)
child-distinct (name k) (object ms) u e h = find-distinct k ms u e (and_parts (are_distinct (map (λ m. m.0) (pairs ms))) (members_distinct ms) h).1
child-distinct (name k) (list ts) u e h = cc
child-distinct (name k) null u e h = cc
child-distinct (name k) (truth b) u e h = cc
child-distinct (name k) (number n) u e h = cc
child-distinct (name k) (text s) u e h = cc
child-distinct (index i) (list ts) u e h = item-distinct i ts u e h
child-distinct (index i) (object ms) u e h = cc
child-distinct (index i) null u e h = cc
child-distinct (index i) (truth b) u e h = cc
child-distinct (index i) (number n) u e h = cc
child-distinct (index i) (text s) u e h = cc

not_or : (a b : Bool) → IsTrue (not (a || b)) → (a ≡ false) × IsTrue (not b)
not_or true b h = absurd (false≢true h)
not_or false b h = (refl, h)

differs_as : (k m : List ℕ) (b : Bool) → bytes_eq m k ≡ b → bytes_eq k m ≡ false → b ≡ false
differs_as k m true e h = absurd (false≢true (sym h ∙ (bytes_eq-Decides k m).1 (sym ((bytes_eq-Decides m k).0 e))))
differs_as k m false e h = refl

-- none of the names is k
differ : (k : List ℕ) (ks : List (List ℕ)) → IsTrue (not (list_any (bytes_eq k) ks)) → AllByRecursion (λ m. bytes_eq m k ≡ false) ks
differ k [] h = tt
differ k (m ∷ ms) h =
    let both = not_or (bytes_eq k m) (list_any (bytes_eq k) ms) h in
    (differs_as k m (bytes_eq m k) refl both.0, differ k ms both.1)

found_behind : (m : List ℕ × Tree) (all ms : List (List ℕ × Tree)) → AllByRecursion (λ k. bytes_eq k m.0 ≡ false) (map (λ p. p.0) ms) → AllByRecursion (λ p. find p.0 all ≡ Some p.1) ms → AllByRecursion (λ p. find p.0 (m ∷ all) ≡ Some p.1) ms
found_behind m all [] d h = tt
found_behind m all (p ∷ ps) d h = (ap (λ b. cond b (Some m.1) (find p.0 all)) d.0 ∙ h.0, found_behind m all ps d.1 h.1)

-- each pair is found by its name
pairs-found : (ms : List (List ℕ × Tree)) → IsTrue (are_distinct (map (λ m. m.0) ms)) → AllByRecursion (λ m. find m.0 ms ≡ Some m.1) ms
pairs-found [] h = tt
pairs-found (m ∷ ms) h =
    let first = not (list_any (bytes_eq m.0) (map (λ p. p.0) ms)) in
    let rest = are_distinct (map (λ p. p.0) ms) in
    (ap (λ b. cond b (Some m.1) (find m.0 ms)) ((bytes_eq-Decides m.0 m.0).1 refl), found_behind m ms ms (differ m.0 (map (λ p. p.0) ms) (and_parts first rest h).0) (pairs-found ms (and_parts first rest h).1))

-- ---- nodes

-- the node is in the document, and its objects have distinct names
pub record IsPositioned (doc : Tree) (n : Node) : Type 0 where
  pub there : at n.location doc ≡ Some n.tree
  pub distinct : IsTrue (has_distinct_names n.tree)

stands-below : (doc : Tree) (l : Location) (t : Tree) (s : Step) (u : Tree) → IsPositioned doc (record { location = l; tree = t }) → child s t ≡ Some u → IsPositioned doc (below l s u)
stands-below doc l t s u h e = record { there = at-below l s doc t h.there ∙ e; distinct = child-distinct s t u e h.distinct }

stands-option : (doc : Tree) (l : Location) (t : Tree) (s : Step) (o : Option Tree) → IsPositioned doc (record { location = l; tree = t }) → child s t ≡ o → AllByRecursion (IsPositioned doc) (map (below l s) (option_to_list o))
stands-option doc l t s None h e = tt
stands-option doc l t s (Some u) h e = (stands-below doc l t s u h e, tt)

stands-elements : (doc : Tree) (l : Location) (t : Tree) (k : ℕ) (ts : Trees) → IsPositioned doc (record { location = l; tree = t }) → ((i : ℕ) → child (index (k + i)) t ≡ item_at i ts) → AllByRecursion (IsPositioned doc) (element_nodes l k (elements ts))
stands-elements doc l t k no_trees h e = tt
stands-elements doc l t k (base.tree u ts) h e =
    (stands-below doc l t (index k) u h (ap (λ j. child (index j) t) (omega arith) ∙ e 0), stands-elements doc l t (suc k) ts h (λ i. ap (λ j. child (index j) t) (omega arith) ∙ e (suc i)))

stands-members : (doc : Tree) (l : Location) (t : Tree) (ms : List (List ℕ × Tree)) → IsPositioned doc (record { location = l; tree = t }) → AllByRecursion (λ m. get m.0 t ≡ Some m.1) ms → AllByRecursion (IsPositioned doc) (member_nodes l ms)
stands-members doc l t [] h e = tt
stands-members doc l t (m ∷ ms) h e = (stands-below doc l t (name m.0) m.1 h e.0, stands-members doc l t ms h e.1)

stands-children_at : (doc : Tree) (l : Location) (t : Tree) → IsPositioned doc (record { location = l; tree = t }) → AllByRecursion (IsPositioned doc) (children_at l t)
stands-children_at doc l (list ts) h = stands-elements doc l (list ts) 0 ts h (λ i. ap (λ j. item_at j ts) (omega arith))
stands-children_at doc l (object ms) h = stands-members doc l (object ms) (pairs ms) h (pairs-found (pairs ms) (and_parts (are_distinct (map (λ m. m.0) (pairs ms))) (members_distinct ms) h.distinct).0)
stands-children_at doc l null h = tt
stands-children_at doc l (truth b) h = tt
stands-children_at doc l (number n) h = tt
stands-children_at doc l (text s) h = tt

each_unit : {A : Type 0} (xs : List A) → AllByRecursion (λ _. Unit {0}) xs
each_unit [] = tt
each_unit (x ∷ xs) = (tt, each_unit xs)

pub stands-indexed : (i : ℤ) (doc : Tree) (n : Node) → IsPositioned doc n → AllByRecursion (IsPositioned doc) (indexed i n)
stands-indexed i doc n h =
    each-flat_map (λ _. Unit {0}) (IsPositioned doc) (λ k. element k n) (λ k _. stands-option doc n.location n.tree (index k) (child (index k) n.tree) h refl) (option_to_list (option_and_then (λ ts. element_of i (length ts)) (as_list n.tree))) (each_unit (option_to_list (option_and_then (λ ts. element_of i (length ts)) (as_list n.tree))))

stands-places : (is : List ℕ) (doc : Tree) (n : Node) → IsPositioned doc n → AllByRecursion (IsPositioned doc) (flat_map (λ k. element k n) is)
stands-places is doc n h = each-flat_map (λ _. Unit {0}) (IsPositioned doc) (λ k. element k n) (λ k _. stands-option doc n.location n.tree (index k) (child (index k) n.tree) h refl) is (each_unit is)

stands-sliced : (start end step : Option ℤ) (doc : Tree) (n : Node) → IsPositioned doc n → AllByRecursion (IsPositioned doc) (sliced start end step n)
stands-sliced start end step doc n h =
    each-flat_map (λ _. Unit {0}) (IsPositioned doc) (λ ts. flat_map (λ k. element k n) (slice_of start end step (length ts))) (λ ts _. stands-places (slice_of start end step (length ts)) doc n h) (option_to_list (as_list n.tree)) (each_unit (option_to_list (as_list n.tree)))

each-kept : {A : Type 0} (P : A → Type 0) (b : Bool) (x : A) (xs : List A) → P x → AllByRecursion P xs → AllByRecursion P (cond b (x ∷ xs) xs)
each-kept P true x xs h k = (h, k)
each-kept P false x xs h k = k

pub each-filter : {A : Type 0} (P : A → Type 0) (f : A → Bool) (xs : List A) → AllByRecursion P xs → AllByRecursion P (filter f xs)
each-filter P f [] h = tt
each-filter P f (x ∷ xs) h = each-kept P (f x) x (filter f xs) h.0 (each-filter P f xs h.1)

pub stands-picks : (s : Selector) (d : Document) (n : Node) → IsPositioned d.root n → AllByRecursion (IsPositioned d.root) (picks s d n)
stands-picks (syntax.Selector.name k) d n h = stands-option d.root n.location n.tree (name k) (child (name k) n.tree) h refl
stands-picks wildcard d n h = stands-children_at d.root n.location n.tree h
stands-picks (syntax.Selector.index i) d n h = stands-indexed i d.root n h
stands-picks (slice start end step) d n h = stands-sliced start end step d.root n h
stands-picks (syntax.Selector.filter f) d n h = each-filter (IsPositioned d.root) (holds f d) (children n) (stands-children_at d.root n.location n.tree h)

stands-all_pick : (ss : Selectors) (d : Document) (n : Node) → IsPositioned d.root n → AllByRecursion (IsPositioned d.root) (all_pick ss d n)
stands-all_pick no_selectors d n h = tt
stands-all_pick (selector s ss) d n h = each-append (IsPositioned d.root) (picks s d n) (all_pick ss d n) (stands-picks s d n h) (stands-all_pick ss d n h)

each_both : {A : Type 0} (P Q : A → Type 0) (xs : List A) → AllByRecursion P xs → AllByRecursion Q xs → AllByRecursion (λ x. P x × Q x) xs
each_both P Q [] h k = tt
each_both P Q (x ∷ xs) h k = ((h.0, k.0), each_both P Q xs h.1 k.1)

size_above : (t : Tree) → 1 ≤ size t
size_above null = omega arith
size_above (truth b) = omega arith
size_above (number n) = omega arith
size_above (text s) = omega arith
size_above (list ts) = omega arith
size_above (object ms) = omega arith

elements-smaller : (l : Location) (k : ℕ) (ts : Trees) (n : ℕ) → trees_size ts ≤ n → AllByRecursion (λ m. size m.tree ≤ n) (element_nodes l k (elements ts))
elements-smaller l k no_trees n h = tt
elements-smaller l k (base.tree t ts) n h = (omega (arith, h), elements-smaller l (suc k) ts n (omega (arith, h)))

members-smaller : (l : Location) (ms : Members) (n : ℕ) → members_size ms ≤ n → AllByRecursion (λ m. size m.tree ≤ n) (member_nodes l (pairs ms))
members-smaller l no_members n h = tt
members-smaller l (base.member k t ms) n h = (omega (arith, h), members-smaller l ms n (omega (arith, h)))

children-smaller : (l : Location) (t : Tree) (n : ℕ) → size t ≤ suc n → AllByRecursion (λ m. size m.tree ≤ n) (children_at l t)
children-smaller l (list ts) n h = elements-smaller l 0 ts n (omega (arith, h))
children-smaller l (object ms) n h = members-smaller l ms n (omega (arith, h))
children-smaller l null n h = tt
children-smaller l (truth b) n h = tt
children-smaller l (number k) n h = tt
children-smaller l (text s) n h = tt

-- each node below one that is in the document is in it too, by induction on the size
pub stands-subtree : (doc : Tree) (n : ℕ) (l : Location) (t : Tree) → size t ≤ n → IsPositioned doc (record { location = l; tree = t }) → AllByRecursion (IsPositioned doc) (subtree_at l t)
stands-subtree doc zero l t bound h = absurd (omega (arith, bound, size_above t))
stands-subtree doc (suc n) l t bound h =
    let here : AllByRecursion (IsPositioned doc) (record { location = l; tree = t } ∷ flat_map subtree (children_at l t)) = (h, each-flat_map (λ m. IsPositioned doc m × (size m.tree ≤ n)) (IsPositioned doc) subtree (λ m k. stands-subtree doc n m.location m.tree k.1 k.0) (children_at l t) (each_both (IsPositioned doc) (λ m. size m.tree ≤ n) (children_at l t) (stands-children_at doc l t h) (children-smaller l t n bound))) in
    let P : List Node → Type 0 = AllByRecursion (IsPositioned doc) in
    subst P (sym (subtree-children l t)) here

stands-replaced : (g : Segment) (d : Document) (n : Node) → IsPositioned d.root n → AllByRecursion (IsPositioned d.root) (replaced g d n)
stands-replaced (one s) d n h = stands-picks s d n h
stands-replaced (several ss) d n h = stands-all_pick ss d n h
stands-replaced (descendant g) d n h = each-flat_map (IsPositioned d.root) (IsPositioned d.root) (replaced g d) (λ m k. stands-replaced g d m k) (subtree n) (stands-subtree d.root (size n.tree) n.location n.tree (omega arith) h)

stands-all_applied : (gs : Segments) (d : Document) (ns : List Node) → AllByRecursion (IsPositioned d.root) ns → AllByRecursion (IsPositioned d.root) (all_applied gs d ns)
stands-all_applied no_segments d ns h = h
stands-all_applied (segment g gs) d ns h = stands-all_applied gs d (flat_map (replaced g d) ns) (each-flat_map (IsPositioned d.root) (IsPositioned d.root) (replaced g d) (λ n k. stands-replaced g d n k) ns h)

-- the value at each node's location is the node's tree
pub nodes_at : (q : Query) (d : Document) → IsTrue (has_distinct_names d.root) → AllByRecursion (λ n. at n.location d.root ≡ Some n.tree) (nodelist q d)
nodes_at q d h = each_weaker (IsPositioned d.root) (λ n. at n.location d.root ≡ Some n.tree) (λ n k. k.there) (nodelist q d) (stands-all_applied q d (root_node d.root ∷ []) (record { there = refl; distinct = h }, tt))

-- ---- where the steps of a walk lead

pub each_at : {X Y : Type 0} (P : Y → Type 0) (f : X → Y) (xs : List X) (i : ℕ) (x : X) → AllByRecursion P (map f xs) → i < length xs → x ≡ get_or xs i x → P (f x)
each_at P f [] i x h lt e = absurd (omega (arith, lt))
each_at P f (y ∷ ys) zero x h lt e = subst (λ z. P (f z)) (sym e) h.0
each_at P f (y ∷ ys) (suc i) x h lt e = each_at P f ys i x h.1 (omega (arith, lt)) e

members-found : (t : Tree) (ms : List (List ℕ × Tree)) → IsTrue (has_distinct_names t) → Some ms ≡ as_members t → AllByRecursion (λ m. get m.0 t ≡ Some m.1) ms
members-found (object us) ms h e =
    let P : List (List ℕ × Tree) → Type 0 = AllByRecursion (λ m. find m.0 (pairs us) ≡ Some m.1) in
    let same : pairs us ≡ ms = cc in
    subst P same (pairs-found (pairs us) (and_parts (are_distinct (map (λ m. m.0) (pairs us))) (members_distinct us) h).0)
members-found (list us) ms h e = cc
members-found null ms h e = cc
members-found (truth b) ms h e = cc
members-found (number n) ms h e = cc
members-found (text s) ms h e = cc

-- each pair of the list of members is found by its name
pub member_there : {M : Type 0} (pair : M → List ℕ × Tree) (t : Tree) (xs : List M) (i : ℕ) (x : M) → IsTrue (has_distinct_names t) → Some (map pair xs) ≡ as_members t → i < length xs → x ≡ get_or xs i x → get (pair x).0 t ≡ Some (pair x).1
member_there pair t xs i x distinct is_members h e = each_at (λ m. get m.0 t ≡ Some m.1) pair xs i x (members-found t (map pair xs) distinct is_members) h e
