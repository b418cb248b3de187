-- The children of a tree: which they are, and that each is smaller.
use Rattle.std.proofs.Common.{◌≡◌, ℕ, zero, suc, ◌+◌, ◌<◌, ◌≤◌, ℤ, List, [], ◌∷◌, ◌++◌, map, cond, length, get_or, refl, sym, ◌∙◌, ap, arith, Bool, true, false, Option, Some, None, option_map, option_and_then, option_to_list, All, subst}
use Rattle.std.proofs.lemmas.Option.{slice_get-map, slice_get_read}
use Rattle.std.proofs.lemmas.List.Elements.{All-get_or}
use Rattle.jsonpath_base.specs.Prelude.Documents.{as_list, as_members, below, bytes_eq, child, children_at, element, element_nodes, element_of, elements, find, flat_map, get, index, indexed, item_at, list, Location, member, member_nodes, member_subtrees, Members, members_size, name, named, no_members, no_trees, Node, null, number, object, pairs, size, slice_get, slice_of, sliced, stepped, subtree, subtree_at, subtrees_at, text, Tree, tree, Trees, trees_size, truth}
use Rattle.std.proofs.lemmas.List.{length-map, append-nil}
use Rattle.jsonpath_parser.specs.tree.Syntax as syntax

-- what all elements have, this one has
pub all_at : {X : Type 0} (P : X → Type 0) (xs : List X) (i : ℕ) (x : X) → All P xs → i < length xs → x ≡ get_or xs i x → P x
all_at P xs i x all h e = subst P (sym e) (All-get_or P xs i x h all)

-- ---- which children a tree has

pub children_at-none : (l : Location) (t : Tree) → None ≡ as_list t → None ≡ as_members t → children_at l t ≡ []
children_at-none l (list us) h k = cc
children_at-none l (object us) h k = cc
children_at-none l null h k = refl
children_at-none l (truth b) h k = refl
children_at-none l (number n) h k = refl
children_at-none l (text s) h k = refl

-- ---- the element of an index

pub item_at-elements : (k : ℕ) (us : Trees) → item_at k us ≡ slice_get (elements us) k
item_at-elements k no_trees = refl
item_at-elements zero (tree t ts) = refl
item_at-elements (suc n) (tree t ts) = item_at-elements n ts

child-list : (t : Tree) (ts : List Tree) (k : ℕ) → Some ts ≡ as_list t → child (index k) t ≡ slice_get ts k
child-list (list us) ts k h =
    let same : elements us ≡ ts = cc in
    item_at-elements k us ∙ ap (λ vs. slice_get vs k) same
child-list (object us) ts k h = cc
child-list null ts k h = cc
child-list (truth b) ts k h = cc
child-list (number n) ts k h = cc
child-list (text s) ts k h = cc

pub child_there : {A : Type 0} (tree_of : A → Tree) (t : Tree) (xs : List A) (k : ℕ) (x : A) → Some (map tree_of xs) ≡ as_list t → k < length xs → x ≡ get_or xs k x → child (index k) t ≡ Some (tree_of x)
child_there tree_of t xs k x is_list h e = child-list t (map tree_of xs) k is_list ∙ slice_get-map tree_of xs k ∙ ap (option_map tree_of) (slice_get_read xs (length xs) k x refl h e)

-- the element that stands at the place that the index means
pub indexed_some : {A : Type 0} (tree_of : A → Tree) (l : Location) (t : Tree) (xs : List A) (i : ℤ) (k : ℕ) (x : A) → Some (map tree_of xs) ≡ as_list t → Some k ≡ element_of i (length (map tree_of xs)) → k < length xs → x ≡ get_or xs k x → below l (index k) (tree_of x) ∷ [] ≡ indexed i (record { location = l; tree = t })
indexed_some tree_of l t xs i k x is_list is_place h e =
    let here = sym (child_there tree_of t xs k x is_list h e) in
    let n : Node = record { location = l; tree = t } in
    ap (λ o. map (below l (index k)) (option_to_list o)) here
    ∙ sym (◌∙◌ (ap (λ o. flat_map (λ j. map (below l (index j)) (option_to_list (child (index j) t))) (option_to_list (option_and_then (λ us. element_of i (length us)) o))) (sym is_list)) (ap (λ o. flat_map (λ j. map (below l (index j)) (option_to_list (child (index j) t))) (option_to_list o)) (sym is_place) ∙ append-nil (map (below l (index k)) (option_to_list (child (index k) t)))))

-- ---- sizes

abbrev pub total : List ℕ → ℕ
total [] = 0
total (n ∷ ns) = n + total ns

elements-size : (ts : Trees) → total (map size (elements ts)) ≡ trees_size ts
elements-size no_trees = refl
elements-size (tree t ts) = ap (λ k. size t + k) (elements-size ts)

pairs-size : (ms : Members) → total (map (λ m. size m.1) (pairs ms)) ≡ members_size ms
pairs-size no_members = refl
pairs-size (member n t ms) = ap (λ k. size t + k) (pairs-size ms)

list-size : (t : Tree) (ts : List Tree) → Some ts ≡ as_list t → total (map size ts) < size t
list-size (list us) ts h =
    let same : ts ≡ elements us = cc in
    omega (arith, ap (λ vs. total (map size vs)) same, elements-size us)
list-size (object us) ts h = cc
list-size null ts h = cc
list-size (truth b) ts h = cc
list-size (number n) ts h = cc
list-size (text s) ts h = cc

object-size : (t : Tree) (ms : List (List ℕ × Tree)) → Some ms ≡ as_members t → total (map (λ m. size m.1) ms) < size t
object-size (list us) ts h = cc
object-size (object us) ms h =
    let same : ms ≡ pairs us = cc in
    omega (arith, ap (λ vs. total (map (λ m. size m.1) vs)) same, pairs-size us)
object-size null ts h = cc
object-size (truth b) ts h = cc
object-size (number n) ts h = cc
object-size (text s) ts h = cc

pub sizes_at : {X Y : Type 0} (f : X → Y) (size_of : Y → ℕ) (xs : List X) (i : ℕ) (x : X) → i < length xs → x ≡ get_or xs i x → size_of (f x) ≤ total (map size_of (map f xs))
sizes_at f size_of [] i x h e = absurd (omega (arith, h))
sizes_at f size_of (y ∷ ys) zero x h e = omega (arith, ap (λ z. size_of (f z)) e)
sizes_at f size_of (y ∷ ys) (suc i) x h e = omega (arith, sizes_at f size_of ys i x (omega (arith, h)) e)

-- an element is smaller than its list
pub element_size : {A : Type 0} (tree_of : A → Tree) (t : Tree) (xs : List A) (i : ℕ) (x : A) → Some (map tree_of xs) ≡ as_list t → i < length xs → x ≡ get_or xs i x → size (tree_of x) < size t
element_size tree_of t xs i x s h e = omega (arith, list-size t (map tree_of xs) s, sizes_at tree_of size xs i x h e)

-- a member of the list of members is smaller than its object
pub pair_size : {M : Type 0} (pair : M → List ℕ × Tree) (t : Tree) (xs : List M) (i : ℕ) (x : M) → Some (map pair xs) ≡ as_members t → i < length xs → x ≡ get_or xs i x → size (pair x).1 < size t
pair_size pair t xs i x s h e = omega (arith, object-size t (map pair xs) s, sizes_at pair (λ m. size m.1) xs i x h e)

find-here : (b : Bool) (t c : Tree) (rest : Option Tree) (n : ℕ) → (Some c ≡ rest → size c ≤ n) → Some c ≡ cond b (Some t) rest → size c ≤ size t + n
find-here true t c rest n k e =
    let same : c ≡ t = cc in
    omega (arith, ap size same)
find-here false t c rest n k e = omega (arith, k e)

find-size : (key : List ℕ) (ms : List (List ℕ × Tree)) (c : Tree) → Some c ≡ find key ms → size c ≤ total (map (λ m. size m.1) ms)
find-size key [] c h = cc
find-size key (m ∷ ms) c h = find-here (bytes_eq key m.0) m.1 c (find key ms) _ (λ e. find-size key ms c e) h

-- the member of a name is smaller than its object
pub member_size : (key : List ℕ) (t c : Tree) → Some c ≡ get key t → size c < size t
member_size key (list us) c h = cc
member_size key (object us) c h = omega (arith, find-size key (pairs us) c h, pairs-size us)
member_size key null c h = cc
member_size key (truth b) c h = cc
member_size key (number n) c h = cc
member_size key (text s) c h = cc

-- ---- what is below a node

subtrees_at-elements : (l : Location) (k : ℕ) (ts : Trees) → subtrees_at l k ts ≡ flat_map subtree (element_nodes l k (elements ts))
subtrees_at-elements l k no_trees = refl
subtrees_at-elements l k (tree t ts) = ap (λ ns. subtree_at (l ++ index k ∷ []) t ++ ns) (subtrees_at-elements l (suc k) ts)

member_subtrees-pairs : (l : Location) (ms : Members) → member_subtrees l ms ≡ flat_map subtree (member_nodes l (pairs ms))
member_subtrees-pairs l no_members = refl
member_subtrees-pairs l (member k t ms) = ap (λ ns. subtree_at (l ++ name k ∷ []) t ++ ns) (member_subtrees-pairs l ms)

-- itself, and then what is below each child
pub subtree-children : (l : Location) (t : Tree) → subtree_at l t ≡ record { location = l; tree = t } ∷ flat_map subtree (children_at l t)
subtree-children l (list ts) = ap (λ ns. record { location = l; tree = list ts } ∷ ns) (subtrees_at-elements l 0 ts)
subtree-children l (object ms) = ap (λ ns. record { location = l; tree = object ms } ∷ ns) (member_subtrees-pairs l ms)
subtree-children l null = refl
subtree-children l (truth b) = refl
subtree-children l (number n) = refl
subtree-children l (text s) = refl

-- ---- the value of a step of a singular query

first_tree : List Node → Option Tree
first_tree [] = None
first_tree (n ∷ ns) = Some n.tree

first-option : (l : Location) (k : ℕ) (o : Option Tree) → first_tree (map (below l (index k)) (option_to_list o) ++ []) ≡ o
unfolding first_tree
first-option l k None = refl
first-option l k (Some t) = refl

first-place : (l : Location) (c : ℕ → Option Tree) (o : Option ℕ) → first_tree (flat_map (λ k. map (below l (index k)) (option_to_list (c k))) (option_to_list o)) ≡ option_and_then c o
unfolding first_tree
first-place l c None = refl
first-place l c (Some k) = first-option l k (c k)

first-list : (l : Location) (c : ℕ → Option Tree) (f : List Tree → Option ℕ) (o : Option (List Tree)) → first_tree (flat_map (λ k. map (below l (index k)) (option_to_list (c k))) (option_to_list (option_and_then f o))) ≡ option_and_then (λ ts. option_and_then c (f ts)) o
unfolding first_tree
first-list l c f None = refl
first-list l c f (Some ts) = first-place l c (f ts)

first-found : (l : Location) (o : Option (ℕ × Tree)) → first_tree (map (λ p. below l (index p.0) p.1) (option_to_list o)) ≡ option_map (λ p. p.1) o
unfolding first_tree
first-found l None = refl
first-found l (Some p) = refl

pub stepped-found : (i : ℤ) (t : Tree) (o : Option (ℕ × Tree)) → map (λ p. below [] (index p.0) p.1) (option_to_list o) ≡ indexed i (record { location = []; tree = t }) → option_map (λ p. p.1) o ≡ stepped (syntax.one (syntax.Selector.index i)) t
stepped-found i t o e = sym (first-found [] o) ∙ ap first_tree e ∙ first-list [] (λ k. child (index k) t) (λ ts. element_of i (length ts)) (as_list t)

-- ---- the elements that a slice picks

pub element_at : {A : Type 0} (tree_of : A → Tree) (l : Location) (t : Tree) (xs : List A) (k : ℕ) (x : A) → Some (map tree_of xs) ≡ as_list t → k < length xs → x ≡ get_or xs k x → below l (index k) (tree_of x) ∷ [] ≡ element k (record { location = l; tree = t })
element_at tree_of l t xs k x is_list h e = ap (λ o. map (below l (index k)) (option_to_list o)) (sym (child_there tree_of t xs k x is_list h e))

pub sliced-list : {A : Type 0} (tree_of : A → Tree) (n : Node) (xs : List A) (start end step : Option ℤ) → Some (map tree_of xs) ≡ as_list n.tree → flat_map (λ k. element k n) (slice_of start end step (length xs)) ≡ sliced start end step n
sliced-list tree_of n xs start end step h =
    ap (λ len. flat_map (λ k. element k n) (slice_of start end step len)) (sym (length-map xs tree_of)) ∙ sym (append-nil (flat_map (λ k. element k n) (slice_of start end step (length (map tree_of xs))))) ∙ ap (λ o. flat_map (λ ts. flat_map (λ k. element k n) (slice_of start end step (length ts))) (option_to_list o)) h

-- no member of a name
pub named_none : (l : Location) (k : List ℕ) (t : Tree) → None ≡ get k t → named k (record { location = l; tree = t }) ≡ []
named_none l k t h = sym (ap (λ o. map (below l (name k)) (option_to_list o)) h)
