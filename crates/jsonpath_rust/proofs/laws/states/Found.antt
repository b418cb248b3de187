-- What is found below a pointer: the children of its value, and the lists and objects there and below.
use Rattle.std.proofs.Common.{◌≡◌, ℕ, suc, ◌+◌, ◌<◌, List, [], ◌∷◌, ◌++◌, map, filter, cond, length, get_or, append_assoc, append-nil, refl, sym, ◌∙◌, ap, arith, Bool, true, false, Option, Some, None}
use Rattle.std.proofs.lemmas.List.{map-append}
use Rattle.jsonpath_base.specs.Prelude.Documents.{as_list, children, children_at, element_nodes, elements, flat_map, index, list, Location, member_nodes, member_subtrees, Members, members_size, name, no_members, no_trees, Node, null, number, object, pairs, root_node, size, step_text, steps_text, subtree, subtree_at, subtrees_at, text, Tree, Trees, trees_size, truth}
use Rattle.jsonpath_rust.specs.Prelude.States.{found_from, has_parts, in_parts, lists_same, lists_targets, parents_in, parts_from, Pointer, refs, Target, target_of, under}
use Rattle.jsonpath_base.proofs.lemmas.documents.{filter_more, sizes_at, subtree-children, total}
use Rattle.jsonpath_base.specs.Tree as base

-- ---- the nodes of a subtree, from another path

abbrev pub shift : Location → Node → Node
shift l n = record { location = l ++ n.location; tree = n.tree }

mutual
  pub subtree-shift : (l m : Location) (t : Tree) → subtree_at (l ++ m) t ≡ map (shift l) (subtree_at m t)
  subtree-shift l m (list ts) = ap (λ ns. record { location = l ++ m; tree = list ts } ∷ ns) (subtrees-shift l m 0 ts)
  subtree-shift l m (object ms) = ap (λ ns. record { location = l ++ m; tree = object ms } ∷ ns) (members-shift l m ms)
  subtree-shift l m null = refl
  subtree-shift l m (truth b) = refl
  subtree-shift l m (number n) = refl
  subtree-shift l m (text s) = refl

  subtrees-shift : (l m : Location) (k : ℕ) (ts : Trees) → subtrees_at (l ++ m) k ts ≡ map (shift l) (subtrees_at m k ts)
  subtrees-shift l m k no_trees = refl
  subtrees-shift l m k (base.tree t ts) =
      ap (λ q. subtree_at q t ++ subtrees_at (l ++ m) (suc k) ts) (append_assoc l m (index k ∷ []))
      ∙ ap (λ ns. ns ++ subtrees_at (l ++ m) (suc k) ts) (subtree-shift l (m ++ index k ∷ []) t)
      ∙ ap (λ ns. map (shift l) (subtree_at (m ++ index k ∷ []) t) ++ ns) (subtrees-shift l m (suc k) ts)
      ∙ sym (map-append (shift l) (subtree_at (m ++ index k ∷ []) t) (subtrees_at m (suc k) ts))

  members-shift : (l m : Location) (ms : Members) → member_subtrees (l ++ m) ms ≡ map (shift l) (member_subtrees m ms)
  members-shift l m no_members = refl
  members-shift l m (base.member k t ms) =
      ap (λ q. subtree_at q t ++ member_subtrees (l ++ m) ms) (append_assoc l m (name k ∷ []))
      ∙ ap (λ ns. ns ++ member_subtrees (l ++ m) ms) (subtree-shift l (m ++ name k ∷ []) t)
      ∙ ap (λ ns. map (shift l) (subtree_at (m ++ name k ∷ []) t) ++ ns) (members-shift l m ms)
      ∙ sym (map-append (shift l) (subtree_at (m ++ name k ∷ []) t) (member_subtrees m ms))

pub steps_text-append : (l m : Location) → steps_text (l ++ m) ≡ steps_text l ++ steps_text m
steps_text-append [] m = refl
steps_text-append (s ∷ l) m = ap (λ x. step_text s ++ x) (steps_text-append l m) ∙ sym (append_assoc (step_text s) (steps_text l) (steps_text m))

under-shift : (path : List ℕ) (l : Location) (ns : List Node) → map (under path) (map (shift l) ns) ≡ map (under (path ++ steps_text l)) ns
under-shift path l [] = refl
under-shift path l (n ∷ ns) =
    ap (λ x. record { path = path ++ x; tree = n.tree } ∷ map (under path) (map (shift l) ns)) (steps_text-append l n.location)
    ∙ ap (λ x. record { path = x; tree = n.tree } ∷ map (under path) (map (shift l) ns)) (sym (append_assoc path (steps_text l) (steps_text n.location)))
    ∙ ap (λ qs. under (path ++ steps_text l) n ∷ qs) (under-shift path l ns)

-- the nodes below a node, from that node's own path
under-subtree : (path : List ℕ) (n : Node) → map (under path) (subtree n) ≡ found_from (under path n) subtree
under-subtree path n = ap (λ l. map (under path) (subtree_at l n.tree)) (sym (append-nil n.location)) ∙ ap (map (under path)) (subtree-shift n.location [] n.tree) ∙ under-shift path n.location (subtree_at [] n.tree)

filter-append : {A : Type 0} (h : A → Bool) (xs ys : List A) → filter h (xs ++ ys) ≡ filter h xs ++ filter h ys
filter-append h [] ys = refl
filter-append h (x ∷ xs) ys =
    filter_more h x (xs ++ ys) ∙ ap (λ zs. cond (h x) (x ∷ []) [] ++ zs) (filter-append h xs ys) ∙ sym (append_assoc (cond (h x) (x ∷ []) []) (filter h xs) (filter h ys)) ∙ ap (λ zs. zs ++ filter h ys) (sym (filter_more h x xs))

parents-below : (path : List ℕ) (ns : List Node) → filter (λ q. has_parts q.tree) (map (under path) (flat_map subtree ns)) ≡ flat_map parents_in (map (under path) ns)
parents-below path [] = refl
parents-below path (n ∷ ns) =
    let h : Target → Bool = λ q. has_parts q.tree in
    ap (filter h) (map-append (under path) (subtree n) (flat_map subtree ns)) ∙ filter-append h (map (under path) (subtree n)) (map (under path) (flat_map subtree ns))
    ∙ ap (λ qs. filter h qs ++ filter h (map (under path) (flat_map subtree ns))) (under-subtree path n) ∙ ap (λ qs. parents_in (under path n) ++ qs) (parents-below path ns)

-- it, if it has parts, and those below each part
parents-parts : (p : Target) → parents_in p ≡ cond (has_parts p.tree) (p ∷ []) [] ++ flat_map parents_in (found_from p children)
parents-parts p =
    let h : Target → Bool = λ q. has_parts q.tree in
    ap (λ ns. filter h (map (under p.path) ns)) (subtree-children [] p.tree)
    ∙ filter_more h (under p.path (root_node p.tree)) (map (under p.path) (flat_map subtree (children_at [] p.tree)))
    ∙ ap (λ x. cond (has_parts p.tree) (record { path = x; tree = p.tree } ∷ []) [] ++ filter h (map (under p.path) (flat_map subtree (children_at [] p.tree)))) (append-nil p.path)
    ∙ ap (λ qs. cond (has_parts p.tree) (p ∷ []) [] ++ qs) (parents-below p.path (children_at [] p.tree))

pub parents-some : (p : Target) (ps : List Target) → Some ps ≡ parts_from p → parents_in p ≡ p ∷ flat_map parents_in ps
parents-some p ps e = here (has_parts p.tree) refl
  where
    same_parts : (xs ys : List Target) → Some xs ≡ Some ys → flat_map parents_in ys ≡ flat_map parents_in xs
    same_parts xs ys h = sym (ap (λ o. flat_map parents_in (or_none o)) h)
      where
        or_none : Option (List Target) → List Target
        or_none None = []
        or_none (Some zs) = zs

    here : (b : Bool) → has_parts p.tree ≡ b → parents_in p ≡ p ∷ flat_map parents_in ps
    here true h = parents-parts p ∙ ap (λ b. cond b (p ∷ []) [] ++ flat_map parents_in (found_from p children)) h ∙ ap (λ qs. p ∷ qs) (same_parts ps (found_from p children) (e ∙ ap (λ b. cond b (Some (found_from p children)) None) h))
    here false h = cc

-- ---- each part is smaller

elements-total : (path : List ℕ) (k : ℕ) (ts : Trees) → total (map (λ (q : Target). size q.tree) (map (under path) (element_nodes [] k (elements ts)))) ≡ trees_size ts
elements-total path k no_trees = refl
elements-total path k (base.tree t ts) = ap (λ n. size t + n) (elements-total path (suc k) ts)

members-total : (path : List ℕ) (ms : Members) → total (map (λ (q : Target). size q.tree) (map (under path) (member_nodes [] (pairs ms)))) ≡ members_size ms
members-total path no_members = refl
members-total path (base.member k t ms) = ap (λ n. size t + n) (members-total path ms)

abbrev or_total : Option (List Target) → ℕ
or_total None = 0
or_total (Some ps) = total (map (λ q. size q.tree) ps)

parts-size : (path : List ℕ) (t : Tree) (ps : List Target) → Some ps ≡ parts_from (record { path = path; tree = t }) → total (map (λ q. size q.tree) ps) < size t
parts-size path (list us) ps h = omega (arith, ap or_total h, elements-total path 0 us)
parts-size path (object us) ps h = omega (arith, ap or_total h, members-total path us)
parts-size path null ps h = cc
parts-size path (truth b) ps h = cc
parts-size path (number n) ps h = cc
parts-size path (text s) ps h = cc

pub part_size : {A : Type 0} (seen : A → Target) (p : Target) (xs : List A) (i : ℕ) (x : A) → Some (map seen xs) ≡ parts_from p → i < length xs → x ≡ get_or xs i x → size (seen x).tree < size p.tree
part_size seen p xs i x h lt e = omega (arith, parts-size p.path p.tree (map seen xs) h, sizes_at seen (λ (q : Target). size q.tree) xs i x lt e)

-- the children that a test keeps
pub kept-parts : (h : Target → Bool) (p : Target) (ps : List Target) → Some ps ≡ parts_from p → refs (filter h ps) ≡ in_parts (has_parts p.tree) (filter h (found_from p children))
kept-parts h p ps e = here (has_parts p.tree) refl
  where
    or_none : Option (List Target) → List Target
    or_none None = []
    or_none (Some zs) = zs

    here : (b : Bool) → has_parts p.tree ≡ b → refs (filter h ps) ≡ in_parts (has_parts p.tree) (filter h (found_from p children))
    here true k = ap (λ o. refs (filter h (or_none o))) (e ∙ ap (λ b. cond b (Some (found_from p children)) None) k) ∙ ap (λ b. in_parts b (filter h (found_from p children))) (sym k)
    here false k = cc

-- ---- trees of targets

pub targets-trees : {A : Type 0} (tree : A → Tree) (ps : List (Pointer A)) → map (λ (q : Target). q.tree) (map (target_of tree) ps) ≡ map (λ p. tree p.inner.now) ps
targets-trees tree [] = refl
targets-trees tree (p ∷ ps) = ap (λ ts. tree p.inner.now ∷ ts) (targets-trees tree ps)

pub are_trees-list : (t : Tree) (ts : List Tree) (ps : List Target) → Some ts ≡ as_list t → lists_same ts (map (λ (q : Target). q.tree) ps) ≡ lists_targets t ps
are_trees-list (list us) ts ps h = ap (λ o. lists_same (or_none o) (map (λ (q : Target). q.tree) ps)) h
  where
    or_none : Option (List Tree) → List Tree
    or_none None = []
    or_none (Some zs) = zs
are_trees-list (object us) ts ps h = cc
are_trees-list null ts ps h = cc
are_trees-list (truth b) ts ps h = cc
are_trees-list (number n) ts ps h = cc
are_trees-list (text s) ts ps h = cc
