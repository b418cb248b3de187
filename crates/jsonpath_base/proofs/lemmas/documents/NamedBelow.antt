-- What `$..name` selects.
use Rattle.std.proofs.Common.{◌≡◌, ℕ, zero, suc, ◌+◌, List, [], ◌∷◌, ◌++◌, map, cond, Bool, true, false, ◌&&◌, ◌||◌, Option, Some, None, option_map, option_and_then, option_to_list, is_some, IsSome, IfSome, if◌then◌else◌, append-nil, append_assoc, arith, refl, sym, ap, ap₂, ◌∙◌, subst}
use Rattle.std.proofs.lemmas.Bool.{and_parts, and_from}
use Rattle.std.proofs.lemmas.List.{map-append}
use Rattle.std.proofs.lemmas.Grind.{flat_map-append}
use Rattle.std.proofs.lemmas.List.Folds.{list_any-append}
use Rattle.std.proofs.lemmas.Slice.Eq.{bytes_eq-Decides}
use Rattle.jsonpath_base.specs.Prelude.Documents.{AllByRecursion, as_text, at, below, bytes_eq, child, Document, ends_in, find, flat_map, index, is_among, item_at, list, Location, member_subtrees, Members, name, named, named_anywhere, NamedBelow, NamedIsMasked, no_members, no_trees, Node, nodelist, null, number, object, overwritten, pairs, root_node, selected, Step, subtree, subtree_at, subtrees_at, text, Tree, Trees, truth}
use Rattle.jsonpath_base.specs.Overwritten.{overwritten_below}
use Rattle.jsonpath_base.specs.Tree as base
use Rattle.jsonpath_base.specs.Without.{is_location}
use Rattle.jsonpath_base.proofs.Marking.{same_step}
use Rattle.jsonpath_base.proofs.Removed.{location_itself, same_location}
use Rattle.jsonpath_base.proofs.lemmas.documents.Following.{node_at}
use Rattle.jsonpath_base.proofs.lemmas.documents.MaskedNodes.{child_overwritten}
use Rattle.jsonpath_base.proofs.lemmas.documents.NodesAt.{each-append, each-flat_map, nodes_at}

-- ---- the last step

ends_so : (k : List ℕ) (l : Location) → ends_in k (l ++ name k ∷ []) ≡ true
ends_so k [] = (bytes_eq-Decides k k).1 refl
ends_so k (r ∷ []) = (bytes_eq-Decides k k).1 refl
ends_so k (r ∷ q ∷ l) = ends_so k (q ∷ l)

-- the location before it
front_of : (k : List ℕ) (l : Location) → ends_in k l ≡ true → (m : Location) × (l ≡ m ++ name k ∷ [])
front_of k [] h = absurd cc
front_of k (s ∷ []) h = ([], ap (λ r. r ∷ []) (sym (same_step (name k) s h)))
front_of k (s ∷ r ∷ l) h = let more = front_of k (r ∷ l) h in (s ∷ more.0, ap (λ m. s ∷ m) more.1)

-- ---- what is selected is there, and ends so

abbrev places : List Node → List Location
places ns = map (λ n. n.location) ns

found_in : (P : Location → Type 0) (ns : List Node) (l : Location) → AllByRecursion (λ n. P n.location) ns → is_among (places ns) l ≡ true → P l
found_in P [] l all h = absurd cc
found_in P (n ∷ ns) l all h = pick (is_location n.location l) refl (found_in P ns l all.1) h
  where
    pick : (b : Bool) → is_location n.location l ≡ b → (is_among (places ns) l ≡ true → P l) → (b || is_among (places ns) l) ≡ true → P l
    pick true here more h = subst P (same_location n.location l here) all.0
    pick false here more h = more h

ends_option : (k : List ℕ) (l : Location) (o : Option Tree) → AllByRecursion (λ n. ends_in k n.location ≡ true) (map (below l (name k)) (option_to_list o))
ends_option k l None = tt
ends_option k l (Some t) = (ends_so k l, tt)

each_unit : (ns : List Node) → AllByRecursion (λ _. Unit {0}) ns
each_unit [] = tt
each_unit (n ∷ ns) = (tt, each_unit ns)

all_end : (k : List ℕ) (d : Document) → AllByRecursion (λ n. ends_in k n.location ≡ true) (nodelist (named_anywhere k) d)
all_end k d =
    let E : Node → Type 0 = λ n. ends_in k n.location ≡ true in
    each-append E (flat_map (named k) (subtree (root_node d.root))) []
    (each-flat_map (λ _. Unit {0}) E (named k) (λ n _. ends_option k n.location (child (name k) n.tree)) (subtree (root_node d.root)) (each_unit (subtree (root_node d.root)))) tt

each_meets : (k : List ℕ) (t : Tree) (ns : List Node) → AllByRecursion (λ n. ends_in k n.location ≡ true) ns → AllByRecursion (λ n. at n.location t ≡ Some n.tree) ns
    → AllByRecursion (λ n. (ends_in k n.location && is_some (at n.location t)) ≡ true) ns
each_meets k t [] h g = tt
each_meets k t (n ∷ ns) h g = (and_from (ends_in k n.location) (is_some (at n.location t)) h.0 (ap is_some g.0), each_meets k t ns h.1 g.1)

-- ---- what is there and ends so is selected

-- the location is that of a node that these lead to
abbrev leads : (Node → List Node) → List Node → Location → Bool
leads f ns l = is_among (places (flat_map f ns)) l

leads-append : (f : Node → List Node) (ns ms : List Node) (l : Location) → leads f (ns ++ ms) l ≡ (leads f ns l || leads f ms l)
leads-append f ns ms l =
    ap (λ ks. is_among (places ks) l) (flat_map-append f ns ms) ∙ ap (λ ls. is_among ls l) (map-append (λ (n : Node). n.location) (flat_map f ns) (flat_map f ms)) ∙ list_any-append (λ m. is_location m l) (places (flat_map f ns)) (places (flat_map f ms))

or_true : (b : Bool) → (b || true) ≡ true
or_true true = refl
or_true false = refl

by_first : (f : Node → List Node) (ns ms : List Node) (l : Location) → leads f ns l ≡ true → leads f (ns ++ ms) l ≡ true
by_first f ns ms l h = leads-append f ns ms l ∙ ap (λ b. b || leads f ms l) h

by_rest : (f : Node → List Node) (ns ms : List Node) (l : Location) → leads f ms l ≡ true → leads f (ns ++ ms) l ≡ true
by_rest f ns ms l h = leads-append f ns ms l ∙ ap (λ b. leads f ns l || b) h ∙ or_true (leads f ns l)

by_element : (f : Node → List Node) (p l : Location) (i c j : ℕ) (ts : Trees) (t : Tree) → j ≡ c + i → item_at i ts ≡ Some t → leads f (subtree_at (p ++ index j ∷ []) t) l ≡ true → leads f (subtrees_at p c ts) l ≡ true
by_element f p l i c j no_trees t e there h = absurd cc
by_element f p l zero c j (base.tree v ts) t e there h =
    let same : t ≡ v = cc in
    let place : j ≡ c = omega (arith, e) in
    by_first f (subtree_at (p ++ index c ∷ []) v) (subtrees_at p (suc c) ts) l (ap₂ (λ i w. leads f (subtree_at (p ++ index i ∷ []) w) l) (sym place) (sym same) ∙ h)
by_element f p l (suc i) c j (base.tree v ts) t e there h =
    by_rest f (subtree_at (p ++ index c ∷ []) v) (subtrees_at p (suc c) ts) l (by_element f p l i (suc c) j ts t (omega (arith, e)) there h)

by_member : (f : Node → List Node) (p l : Location) (k : List ℕ) (ms : Members) (t : Tree) → find k (pairs ms) ≡ Some t → leads f (subtree_at (p ++ name k ∷ []) t) l ≡ true → leads f (member_subtrees p ms) l ≡ true
by_member f p l k no_members t there h = absurd cc
by_member f p l k (base.member n v ms) t there h = pick (bytes_eq k n) refl (λ e. by_member f p l k ms t e h) there
  where
    pick : (b : Bool) → bytes_eq k n ≡ b → (find k (pairs ms) ≡ Some t → leads f (member_subtrees p ms) l ≡ true) → cond b (Some v) (find k (pairs ms)) ≡ Some t → leads f (subtree_at (p ++ name n ∷ []) v ++ member_subtrees p ms) l ≡ true
    pick true is more e =
        let same : t ≡ v = cc in
        by_first f (subtree_at (p ++ name n ∷ []) v) (member_subtrees p ms) l (ap₂ (λ i w. leads f (subtree_at (p ++ name i ∷ []) w) l) (sym ((bytes_eq-Decides k n).0 is)) (sym same) ∙ h)
    pick false is more e = by_rest f (subtree_at (p ++ name n ∷ []) v) (member_subtrees p ms) l (more e)

-- what a child leads to, the whole leads to
by_child : (f : Node → List Node) (p l : Location) (s : Step) (t c : Tree) → child s t ≡ Some c → leads f (subtree_at (p ++ s ∷ []) c) l ≡ true → leads f (subtree_at p t) l ≡ true
by_child f p l (index i) (list ts) c there h = by_rest f (node_at p (list ts) ∷ []) (subtrees_at p 0 ts) l (by_element f p l i 0 i ts c (omega arith) there h)
by_child f p l (name k) (object ms) c there h = by_rest f (node_at p (object ms) ∷ []) (member_subtrees p ms) l (by_member f p l k ms c there h)
by_child f p l (name k) (list ts) c there h = absurd cc
by_child f p l (index i) (object ms) c there h = absurd cc
by_child f p l (index i) null c there h = absurd cc
by_child f p l (index i) (truth b) c there h = absurd cc
by_child f p l (index i) (number n) c there h = absurd cc
by_child f p l (index i) (text x) c there h = absurd cc
by_child f p l (name k) null c there h = absurd cc
by_child f p l (name k) (truth b) c there h = absurd cc
by_child f p l (name k) (number n) c there h = absurd cc
by_child f p l (name k) (text x) c there h = absurd cc

-- the member itself
here_named : (k : List ℕ) (p : Location) (t : Tree) (o : Option Tree) → child (name k) t ≡ o → is_some o ≡ true → leads (named k) (node_at p t ∷ []) (p ++ name k ∷ []) ≡ true
here_named k p t None e h = absurd cc
here_named k p t (Some c) e h =
    ap (λ o. is_among (places (map (below p (name k)) (option_to_list o) ++ [])) (p ++ name k ∷ [])) e
    ∙ ap (λ b. b || false) (location_itself (p ++ name k ∷ []))

abbrev tail_of : Location → Tree → List Node
tail_of p (list ts) = subtrees_at p 0 ts
tail_of p (object ms) = member_subtrees p ms
tail_of p _ = []

split : (p : Location) (t : Tree) → subtree_at p t ≡ (node_at p t ∷ []) ++ tail_of p t
split p (list ts) = refl
split p (object ms) = refl
split p null = refl
split p (truth b) = refl
split p (number n) = refl
split p (text k) = refl

all_named : (k : List ℕ) (m p : Location) (t : Tree) → is_some (at (m ++ name k ∷ []) t) ≡ true → leads (named k) (subtree_at p t) (p ++ (m ++ name k ∷ [])) ≡ true
all_named k [] p t h =
    let found : is_some (child (name k) t) ≡ true = ap is_some (sym (only (child (name k) t))) ∙ h in
    ap (λ ns. leads (named k) ns (p ++ name k ∷ [])) (split p t) ∙ by_first (named k) (node_at p t ∷ []) (tail_of p t) (p ++ name k ∷ []) (here_named k p t (child (name k) t) refl found)
  where
    only : (o : Option Tree) → option_and_then (λ c. Some c) o ≡ o
    only None = refl
    only (Some c) = refl
all_named k (s ∷ m) p t h = below_it (child s t) refl h (λ c e. all_named k m (p ++ s ∷ []) c e)
  where
    below_it : (o : Option Tree) → child s t ≡ o → is_some (option_and_then (at (m ++ name k ∷ [])) o) ≡ true
        → ((c : Tree) → is_some (at (m ++ name k ∷ []) c) ≡ true → leads (named k) (subtree_at (p ++ s ∷ []) c) ((p ++ s ∷ []) ++ (m ++ name k ∷ [])) ≡ true)
        → leads (named k) (subtree_at p t) (p ++ (s ∷ (m ++ name k ∷ []))) ≡ true
    below_it None is there more = absurd cc
    below_it (Some c) is there more =
        ap (leads (named k) (subtree_at p t)) (sym (append_assoc p (s ∷ []) (m ++ name k ∷ [])))
        ∙ by_child (named k) p ((p ++ s ∷ []) ++ (m ++ name k ∷ [])) s t c is (more c there)

-- ---- the law

same_truth : (a b : Bool) → (a ≡ true → b ≡ true) → (b ≡ true → a ≡ true) → a ≡ b
same_truth true b to from = sym (to refl)
same_truth false true to from = from refl
same_truth false false to from = refl

pub named_below : NamedBelow
named_below k doc l distinct =
    let t = doc.root in
    let met = each_meets k t (nodelist (named_anywhere k) doc) (all_end k doc) (nodes_at (named_anywhere k) doc distinct) in
    same_truth (is_among (selected (named_anywhere k) doc) l) (ends_in k l && is_some (at l t))
    (found_in (λ m. (ends_in k m && is_some (at m t)) ≡ true) (nodelist (named_anywhere k) doc) l met)
    (λ h. let both = and_parts (ends_in k l) (is_some (at l t)) h in let front = front_of k l both.0 in
    ap (λ ns. is_among (places ns) l) (append-nil (flat_map (named k) (subtree (root_node t)))) ∙ ap (leads (named k) (subtree_at [] t)) front.1
    ∙ all_named k front.0 [] t (ap (λ m. is_some (at m t)) (sym front.1) ∙ both.1))

-- ---- after it is masked

ends_further : (k : List ℕ) (s : Step) (l : Location) → ends_in k l ≡ true → ends_in k (s ∷ l) ≡ true
ends_further k s [] h = absurd cc
ends_further k s (r ∷ l) h = h

-- a text has no parts
no_child : (s : Step) (u : Tree) → IsSome (as_text u) → child s u ≡ None
no_child (name k) (text x) h = refl
no_child (index i) (text x) h = refl
no_child s null h = absurd cc
no_child s (truth b) h = absurd cc
no_child s (number n) h = absurd cc
no_child s (list ts) h = absurd cc
no_child s (object ms) h = absurd cc

-- what is there is the mask
abbrev IsMasked : Tree → Option Tree → Type 0
IsMasked u o = IfSome o (λ t. t ≡ u)

-- one step down: into the mask, where nothing is, or into what is overwritten there
masked_below : (set : Location → Bool) (s : Step) (l : Location) (u t : Tree) → IsSome (as_text u) → ((c : Tree) → child s t ≡ Some c → IsMasked u (at l (overwritten (λ m. set (s ∷ m)) u c))) → IsMasked u (at (s ∷ l) (overwritten set u t))
masked_below set s l u t leaf more = pick (set []) refl
  where
    by_child : (o : Option Tree) → child s t ≡ o → IsMasked u (option_and_then (at l) (option_map (overwritten (λ m. set (s ∷ m)) u) o))
    by_child None is = tt
    by_child (Some c) is = more c is

    pick : (b : Bool) → set [] ≡ b → IsMasked u (at (s ∷ l) (overwritten set u t))
    pick true h =
        let mask : overwritten set u t ≡ u = ap (λ b. if b then u else overwritten_below set u t) h in
        subst (λ o. IsMasked u (option_and_then (at l) o)) (sym (ap (child s) mask ∙ no_child s u leaf)) tt
    pick false h = subst (λ o. IsMasked u (option_and_then (at l) o)) (sym (child_overwritten set s u t h)) (by_child (child s t) refl)

-- the set has each location of that name where something is
abbrev HasNamed : List ℕ → (Location → Bool) → Tree → Type 0
HasNamed k set t = (l : Location) → ends_in k l ≡ true → is_some (at l t) ≡ true → set l ≡ true

named_inside : (k : List ℕ) (set : Location → Bool) (s : Step) (t c : Tree) → HasNamed k set t → child s t ≡ Some c → HasNamed k (λ m. set (s ∷ m)) c
named_inside k set s t c has is l e there = has (s ∷ l) (ends_further k s l e) (ap (λ o. is_some (option_and_then (at l) o)) is ∙ there)

all_masked : (k : List ℕ) (l : Location) (set : Location → Bool) (u t : Tree) → IsSome (as_text u) → HasNamed k set t → ends_in k l ≡ true → IsMasked u (at l (overwritten set u t))
all_masked k [] set u t leaf has e = absurd cc
all_masked k (s ∷ []) set u t leaf has e =
    masked_below set s [] u t leaf (λ c is. ap (λ b. if b then u else overwritten_below (λ m. set (s ∷ m)) u c) (has (s ∷ []) e (ap (λ o. is_some (option_and_then (at []) o)) is)))
all_masked k (s ∷ r ∷ l) set u t leaf has e =
    masked_below set s (r ∷ l) u t leaf (λ c is. all_masked k (r ∷ l) (λ m. set (s ∷ m)) u c leaf (named_inside k set s t c has is) e)

pub named_is_masked : NamedIsMasked
named_is_masked k doc set u distinct all leaf l e =
    all_masked k l set u doc.root leaf (λ m h there. all m (named_below k doc m distinct ∙ and_from (ends_in k m) (is_some (at m doc.root)) h there)) e
