-- What a query without a filter selects in a document and in one that is overwritten at a set of locations: of those that do not lie inside one of the set, the same.
use Rattle.std.proofs.Common.{◌≡◌, ℕ, suc, ℤ, List, [], ◌∷◌, ◌++◌, length, map, filter, cond, Bool, true, false, not, ◌&&◌, ◌||◌, if◌then◌else◌, Option, Some, None, option_map, option_and_then, option_to_list, IsTrue, append-nil, refl, sym, ap, ap₂, ◌∙◌, subst}
use Rattle.std.proofs.lemmas.Bool.{and_parts, false≢true}
use Rattle.std.proofs.lemmas.List.{map-append}
use Rattle.std.proofs.lemmas.List.Elements.{filter-append}
use Rattle.jsonpath_base.specs.Prelude.Documents.{all_applied, all_pick, are_no_filters, as_list, at, Begins, below, child, children, children_at, descendant, Document, element, element_nodes, element_of, elements, flat_map, has_no_filter, index, is_among, is_no_filter, list, Location, member, member_nodes, member_subtrees, Members, name, no_members, no_segments, no_selectors, no_trees, Node, nodelist, null, number, object, one, overwritten, pairs, picks, Query, replaced, root_node, Segment, segment, segment_has_no_filter, Segments, selected, Selector, selector, Selectors, several, slice, slice_of, Step, subtree, subtree_at, subtrees_at, text, Tree, tree, Trees, truth, wildcard}
use Rattle.jsonpath_parser.specs.tree.Syntax as syntax
use Rattle.jsonpath_base.specs.Overwritten.{overwritten_below, elements_overwritten, members_overwritten}
use Rattle.jsonpath_base.specs.Without.{is_location}
use Rattle.jsonpath_base.proofs.OverwrittenLaws.{is_seen}
use Rattle.jsonpath_base.proofs.Removed.{same_location}
use Rattle.jsonpath_base.proofs.lemmas.documents.Following.{node_at}

-- ---- a set of locations, seen from one

-- none of the set lies strictly above
abbrev pub none_above : (Location → Bool) → Location → Bool
none_above set [] = true
none_above set (s ∷ l) = not (set []) && none_above (λ m. set (s ∷ m)) l

-- what of it lies there and below
abbrev set_at : (Location → Bool) → Location → Location → Bool
set_at set [] = set
set_at set (s ∷ l) = set_at (λ m. set (s ∷ m)) l

and_true : (b : Bool) → (b && true) ≡ b
and_true true = refl
and_true false = refl

and_false : (b : Bool) → (b && false) ≡ false
and_false true = refl
and_false false = refl

and_assoc : (a b c : Bool) → (a && (b && c)) ≡ ((a && b) && c)
and_assoc true b c = refl
and_assoc false b c = refl

above_step : (set : Location → Bool) (l : Location) (s : Step) → none_above set (l ++ s ∷ []) ≡ (none_above set l && not (set_at set l []))
above_step set [] s = and_true (not (set []))
above_step set (r ∷ l) s = ap (λ b. not (set []) && b) (above_step (λ m. set (r ∷ m)) l s) ∙ and_assoc (not (set [])) (none_above (λ m. set (r ∷ m)) l) (not (set_at (λ m. set (r ∷ m)) l []))

set_step : (set : Location → Bool) (l : Location) (s : Step) → set_at set (l ++ s ∷ []) ≡ (λ m. set_at set l (s ∷ m))
set_step set [] s = refl
set_step set (r ∷ l) s = set_step (λ m. set (r ∷ m)) l s

-- ---- what is seen of a tree that is overwritten below

and_some : (o : Option Tree) → option_and_then (λ t. Some t) o ≡ o
and_some None = refl
and_some (Some t) = refl

none_strictly : (set : Location → Bool) (s : Step) → set [] ≡ false → (m : Location) → Begins m (s ∷ []) → (m ≡ s ∷ [] → ⊥) → set m ≡ false
none_strictly set s h [] begun other = h
none_strictly set s h (r ∷ []) begun other =
    let e : s ∷ [] ≡ r ∷ begun.0 = begun.1 in
    let same : r ≡ s = cc in
    absurd (other (ap (λ q. q ∷ []) same))
none_strictly set s h (r ∷ q ∷ m) begun other = let e : s ∷ [] ≡ r ∷ q ∷ (m ++ begun.0) = begun.1 in absurd cc

pub child_overwritten : (set : Location → Bool) (s : Step) (u t : Tree) → set [] ≡ false → child s (overwritten set u t) ≡ option_map (overwritten (λ m. set (s ∷ m)) u) (child s t)
child_overwritten set s u t h =
    sym (and_some (child s (overwritten set u t))) ∙ is_seen set (s ∷ []) u t (λ m begun other. none_strictly set s h m begun other) ∙ ap (option_map (overwritten (λ m. set (s ∷ m)) u)) (and_some (child s t))

elements_length : (set : Location → Bool) (u : Tree) (i : ℕ) (ts : Trees) → length (elements (elements_overwritten set u i ts)) ≡ length (elements ts)
elements_length set u i no_trees = refl
elements_length set u i (tree t ts) = ap suc (elements_length set u (suc i) ts)

as_long : (set : Location → Bool) (u t : Tree) → option_map length (as_list (overwritten_below set u t)) ≡ option_map length (as_list t)
as_long set u (list ts) = ap Some (elements_length set u 0 ts)
as_long set u (object ms) = refl
as_long set u null = refl
as_long set u (truth b) = refl
as_long set u (number n) = refl
as_long set u (text k) = refl

opened : (set : Location → Bool) (u t : Tree) → set [] ≡ false → overwritten set u t ≡ overwritten_below set u t
opened set u t h = ap (λ b. if b then u else overwritten_below set u t) h

-- ---- nodes of a document, and those of the document that is overwritten at a set

-- the nodes below one, each before those below it
abbrev below_all : Location → Tree → List Node
below_all l (list ts) = subtrees_at l 0 ts
below_all l (object ms) = member_subtrees l ms
below_all l _ = []

subtree_first : (l : Location) (t : Tree) → subtree_at l t ≡ node_at l t ∷ below_all l t
subtree_first l (list ts) = refl
subtree_first l (object ms) = refl
subtree_first l null = refl
subtree_first l (truth b) = refl
subtree_first l (number n) = refl
subtree_first l (text k) = refl

module _ (set : Location → Bool) (u : Tree) where
  -- nothing of the set lies strictly above the node
  abbrev is_clear : Node → Bool
  is_clear n = none_above set n.location

  abbrev clear : List Node → List Node
  clear ns = filter is_clear ns

  -- the node at the same place where the document is overwritten
  abbrev masked : Node → Node
  masked n = record { location = n.location; tree = overwritten (set_at set n.location) u n.tree }

  -- Those above which nothing of the set lies are the same, but for what is overwritten.
  abbrev Alike : List Node → List Node → Type 0
  Alike ns ms = map masked (clear ns) ≡ clear ms

  alike_cons : (n : Node) (ns ms : List Node) → Alike ns ms → Alike (n ∷ ns) (masked n ∷ ms)
  alike_cons n ns ms h = pick (is_clear n)
    where
      pick : (b : Bool) → map masked (cond b (n ∷ clear ns) (clear ns)) ≡ cond b (masked n ∷ clear ms) (clear ms)
      pick true = ap (λ ks. masked n ∷ ks) h
      pick false = h

  alike_append : (ns ks ms hs : List Node) → Alike ns ms → Alike ks hs → Alike (ns ++ ks) (ms ++ hs)
  alike_append ns ks ms hs h k =
      ap (map masked) (filter-append is_clear ns ks) ∙ map-append masked (clear ns) (clear ks) ∙ ap₂ ◌++◌ h k ∙ sym (filter-append is_clear ms hs)

  nothing_joined : (ns ks : List Node) → clear ns ≡ [] → clear ks ≡ [] → clear (ns ++ ks) ≡ []
  nothing_joined ns ks h k = filter-append is_clear ns ks ∙ ap₂ ◌++◌ h k

  alike_none : (ns ms : List Node) → clear ns ≡ [] → clear ms ≡ [] → Alike ns ms
  alike_none ns ms h k = ap (map masked) h ∙ sym k

  -- what is not clear leads to nothing that is
  abbrev Closed : (Node → List Node) → Type 0
  Closed f = (n : Node) → is_clear n ≡ false → clear (f n) ≡ []

  clear_each : (f : Node → List Node) → Closed f → (ns : List Node) → clear (flat_map f ns) ≡ flat_map (λ n. clear (f n)) (clear ns)
  clear_each f closed [] = refl
  clear_each f closed (n ∷ ns) = filter-append is_clear (f n) (flat_map f ns) ∙ pick (is_clear n) refl (clear_each f closed ns)
    where
      pick : (b : Bool) → is_clear n ≡ b → clear (flat_map f ns) ≡ flat_map (λ m. clear (f m)) (clear ns) → clear (f n) ++ clear (flat_map f ns) ≡ flat_map (λ m. clear (f m)) (cond b (n ∷ clear ns) (clear ns))
      pick true is more = ap (λ ks. clear (f n) ++ ks) more
      pick false is more = ap (λ ks. ks ++ clear (flat_map f ns)) (closed n is) ∙ more

  each_alike : (f g : Node → List Node) → ((n : Node) → Alike (f n) (g (masked n))) → (ns : List Node) → map masked (flat_map (λ n. clear (f n)) ns) ≡ flat_map (λ n. clear (g n)) (map masked ns)
  each_alike f g same [] = refl
  each_alike f g same (n ∷ ns) = map-append masked (clear (f n)) (flat_map (λ m. clear (f m)) ns) ∙ ap₂ ◌++◌ (same n) (each_alike f g same ns)

  alike_each : (f g : Node → List Node) → Closed f → Closed g → ((n : Node) → Alike (f n) (g (masked n))) → (ns ms : List Node) → Alike ns ms → Alike (flat_map f ns) (flat_map g ms)
  alike_each f g fs gs same ns ms h =
      ap (map masked) (clear_each f fs ns) ∙ each_alike f g same (clear ns) ∙ ap (flat_map (λ n. clear (g n))) h ∙ sym (clear_each g gs ms)

  -- ---- where the set has a location at or above one, nothing below that is clear

  abbrev Shut : Location → Type 0
  Shut l = (s : Step) → none_above set (l ++ s ∷ []) ≡ false

  shut_below : (l : Location) → none_above set l ≡ false → Shut l
  shut_below l h s = above_step set l s ∙ ap (λ b. b && not (set_at set l [])) h

  shut_at : (l : Location) → set_at set l [] ≡ true → Shut l
  shut_at l h s = above_step set l s ∙ ap (λ b. none_above set l && not b) h ∙ and_false (none_above set l)

  dropped : (n : Node) (ns : List Node) → is_clear n ≡ false → clear ns ≡ [] → clear (n ∷ ns) ≡ []
  dropped n ns h more = ap (λ b. cond b (n ∷ clear ns) (clear ns)) h ∙ more

  none_option : (l : Location) (s : Step) (o : Option Tree) → Shut l → clear (map (below l s) (option_to_list o)) ≡ []
  none_option l s None h = refl
  none_option l s (Some t) h = dropped (below l s t) [] (h s) refl

  none_elements : (l : Location) (k : ℕ) (ts : List Tree) → Shut l → clear (element_nodes l k ts) ≡ []
  none_elements l k [] h = refl
  none_elements l k (t ∷ ts) h = dropped (below l (index k) t) (element_nodes l (suc k) ts) (h (index k)) (none_elements l (suc k) ts h)

  none_members : (l : Location) (ms : List (List ℕ × Tree)) → Shut l → clear (member_nodes l ms) ≡ []
  none_members l [] h = refl
  none_members l (m ∷ ms) h = dropped (below l (name m.0) m.1) (member_nodes l ms) (h (name m.0)) (none_members l ms h)

  none_children : (l : Location) (t : Tree) → Shut l → clear (children_at l t) ≡ []
  none_children l (list ts) h = none_elements l 0 (elements ts) h
  none_children l (object ms) h = none_members l (pairs ms) h
  none_children l null h = refl
  none_children l (truth b) h = refl
  none_children l (number n) h = refl
  none_children l (text k) h = refl

  none_places : (is : List ℕ) (n : Node) → Shut n.location → clear (flat_map (λ k. element k n) is) ≡ []
  none_places [] n h = refl
  none_places (i ∷ is) n h = nothing_joined (element i n) (flat_map (λ k. element k n) is) (none_option n.location (index i) (child (index i) n.tree) h) (none_places is n h)

  none_sliced : (start end step : Option ℤ) (n : Node) (o : Option (List Tree)) → Shut n.location → clear (flat_map (λ ts. flat_map (λ k. element k n) (slice_of start end step (length ts))) (option_to_list o)) ≡ []
  none_sliced start end step n None h = refl
  none_sliced start end step n (Some ts) h = nothing_joined (flat_map (λ k. element k n) (slice_of start end step (length ts))) [] (none_places (slice_of start end step (length ts)) n h) refl

  none_picks : (s : Selector) (d : Document) (n : Node) → IsTrue (is_no_filter s) → Shut n.location → clear (picks s d n) ≡ []
  none_picks (syntax.Selector.name k) d n ok h = none_option n.location (name k) (child (name k) n.tree) h
  none_picks wildcard d n ok h = none_children n.location n.tree h
  none_picks (syntax.Selector.index i) d n ok h = none_places (option_to_list (option_and_then (λ ts. element_of i (length ts)) (as_list n.tree))) n h
  none_picks (slice start end step) d n ok h = none_sliced start end step n (as_list n.tree) h
  none_picks (syntax.Selector.filter f) d n ok h = absurd (false≢true ok)

  none_all_pick : (ss : Selectors) (d : Document) (n : Node) → IsTrue (are_no_filters ss) → Shut n.location → clear (all_pick ss d n) ≡ []
  none_all_pick no_selectors d n ok h = refl
  none_all_pick (selector s ss) d n ok h =
      let both = and_parts (is_no_filter s) (are_no_filters ss) ok in
      nothing_joined (picks s d n) (all_pick ss d n) (none_picks s d n both.0 h) (none_all_pick ss d n both.1 h)

  mutual
    none_subtree : (l : Location) (t : Tree) → none_above set l ≡ false → clear (subtree_at l t) ≡ []
    none_subtree l (list ts) h = dropped (node_at l (list ts)) (subtrees_at l 0 ts) h (none_subtrees l 0 ts (shut_below l h))
    none_subtree l (object ms) h = dropped (node_at l (object ms)) (member_subtrees l ms) h (none_member_subtrees l ms (shut_below l h))
    none_subtree l null h = dropped (node_at l null) [] h refl
    none_subtree l (truth b) h = dropped (node_at l (truth b)) [] h refl
    none_subtree l (number n) h = dropped (node_at l (number n)) [] h refl
    none_subtree l (text k) h = dropped (node_at l (text k)) [] h refl

    none_subtrees : (l : Location) (k : ℕ) (ts : Trees) → Shut l → clear (subtrees_at l k ts) ≡ []
    none_subtrees l k no_trees h = refl
    none_subtrees l k (tree t ts) h = nothing_joined (subtree_at (l ++ index k ∷ []) t) (subtrees_at l (suc k) ts) (none_subtree (l ++ index k ∷ []) t (h (index k))) (none_subtrees l (suc k) ts h)

    none_member_subtrees : (l : Location) (ms : Members) → Shut l → clear (member_subtrees l ms) ≡ []
    none_member_subtrees l no_members h = refl
    none_member_subtrees l (member k t ms) h = nothing_joined (subtree_at (l ++ name k ∷ []) t) (member_subtrees l ms) (none_subtree (l ++ name k ∷ []) t (h (name k))) (none_member_subtrees l ms h)

  none_below : (l : Location) (t : Tree) → Shut l → clear (below_all l t) ≡ []
  none_below l (list ts) h = none_subtrees l 0 ts h
  none_below l (object ms) h = none_member_subtrees l ms h
  none_below l null h = refl
  none_below l (truth b) h = refl
  none_below l (number n) h = refl
  none_below l (text k) h = refl

  none_replaced : (g : Segment) (d : Document) → IsTrue (segment_has_no_filter g) → Closed (replaced g d)
  none_replaced (one s) d ok n h = none_picks s d n ok (shut_below n.location h)
  none_replaced (several ss) d ok n h = none_all_pick ss d n ok (shut_below n.location h)
  none_replaced (descendant g) d ok n h =
      clear_each (replaced g d) (none_replaced g d ok) (subtree n) ∙ ap (flat_map (λ m. clear (replaced g d m))) (none_subtree n.location n.tree h)

  -- ---- where it has none, the same children are there

  alike_below : (l : Location) (s : Step) (t : Tree) (ns ms : List Node) → Alike ns ms → Alike (below l s t ∷ ns) (below l s (overwritten (λ m. set_at set l (s ∷ m)) u t) ∷ ms)
  alike_below l s t ns ms h = subst (λ q. Alike (below l s t ∷ ns) (below l s (overwritten q u t) ∷ ms)) (set_step set l s) (alike_cons (below l s t) ns ms h)

  alike_option : (l : Location) (s : Step) (o : Option Tree) → Alike (map (below l s) (option_to_list o)) (map (below l s) (option_to_list (option_map (overwritten (λ m. set_at set l (s ∷ m)) u) o)))
  alike_option l s None = refl
  alike_option l s (Some t) = alike_below l s t [] [] refl

  alike_child : (l : Location) (s : Step) (t : Tree) → set_at set l [] ≡ false → Alike (map (below l s) (option_to_list (child s t))) (map (below l s) (option_to_list (child s (overwritten (set_at set l) u t))))
  alike_child l s t h =
      subst (λ o. Alike (map (below l s) (option_to_list (child s t))) (map (below l s) (option_to_list o))) (sym (child_overwritten (set_at set l) s u t h)) (alike_option l s (child s t))

  alike_elements : (l : Location) (k : ℕ) (ts : Trees) → Alike (element_nodes l k (elements ts)) (element_nodes l k (elements (elements_overwritten (set_at set l) u k ts)))
  alike_elements l k no_trees = refl
  alike_elements l k (tree t ts) = alike_below l (index k) t (element_nodes l (suc k) (elements ts)) (element_nodes l (suc k) (elements (elements_overwritten (set_at set l) u (suc k) ts))) (alike_elements l (suc k) ts)

  alike_members : (l : Location) (ms : Members) → Alike (member_nodes l (pairs ms)) (member_nodes l (pairs (members_overwritten (set_at set l) u ms)))
  alike_members l no_members = refl
  alike_members l (member k t ms) = alike_below l (name k) t (member_nodes l (pairs ms)) (member_nodes l (pairs (members_overwritten (set_at set l) u ms))) (alike_members l ms)

  alike_children : (l : Location) (t : Tree) → Alike (children_at l t) (children_at l (overwritten_below (set_at set l) u t))
  alike_children l (list ts) = alike_elements l 0 ts
  alike_children l (object ms) = alike_members l ms
  alike_children l null = refl
  alike_children l (truth b) = refl
  alike_children l (number n) = refl
  alike_children l (text k) = refl

  alike_places : (is : List ℕ) (n : Node) → set_at set n.location [] ≡ false → Alike (flat_map (λ k. element k n) is) (flat_map (λ k. element k (masked n)) is)
  alike_places [] n h = refl
  alike_places (i ∷ is) n h = alike_append (element i n) (flat_map (λ k. element k n) is) (element i (masked n)) (flat_map (λ k. element k (masked n)) is) (alike_child n.location (index i) n.tree h) (alike_places is n h)

  -- what is picked of a list by its length
  abbrev by_length : (ℕ → List ℕ) → Node → Option (List Tree) → List Node
  by_length f n o = flat_map (λ ts. flat_map (λ k. element k n) (f (length ts))) (option_to_list o)

  alike_by_length : (f : ℕ → List ℕ) (n : Node) (o p : Option (List Tree)) → option_map length p ≡ option_map length o → set_at set n.location [] ≡ false → Alike (by_length f n o) (by_length f (masked n) p)
  alike_by_length f n None None same h = refl
  alike_by_length f n None (Some ts) same h = absurd cc
  alike_by_length f n (Some ts) None same h = absurd cc
  alike_by_length f n (Some ts) (Some ss) same h =
      let equal : length ts ≡ length ss = cc in
      subst (λ k. Alike (flat_map (λ j. element j n) (f (length ts)) ++ []) (flat_map (λ j. element j (masked n)) (f k) ++ [])) equal
      (alike_append (flat_map (λ j. element j n) (f (length ts))) [] (flat_map (λ j. element j (masked n)) (f (length ts))) [] (alike_places (f (length ts)) n h) refl)

  -- what is indexed is so too
  indexed_by : (i : ℤ) (n : Node) (o : Option (List Tree)) → flat_map (λ k. element k n) (option_to_list (option_and_then (λ ts. element_of i (length ts)) o)) ≡ by_length (λ len. option_to_list (element_of i len)) n o
  indexed_by i n None = refl
  indexed_by i n (Some ts) = sym (append-nil (flat_map (λ k. element k n) (option_to_list (element_of i (length ts)))))

  list_length : (n : Node) → set_at set n.location [] ≡ false → option_map length (as_list (overwritten (set_at set n.location) u n.tree)) ≡ option_map length (as_list n.tree)
  list_length n h = ap (λ t. option_map length (as_list t)) (opened (set_at set n.location) u n.tree h) ∙ as_long (set_at set n.location) u n.tree

  open_picks : (s : Selector) (d e : Document) (n : Node) → IsTrue (is_no_filter s) → set_at set n.location [] ≡ false → Alike (picks s d n) (picks s e (masked n))
  open_picks (syntax.Selector.name k) d e n ok h = alike_child n.location (name k) n.tree h
  open_picks wildcard d e n ok h =
      subst (λ t. Alike (children n) (children_at n.location t)) (sym (opened (set_at set n.location) u n.tree h)) (alike_children n.location n.tree)
  open_picks (syntax.Selector.index i) d e n ok h =
      let f : ℕ → List ℕ = λ len. option_to_list (element_of i len) in
      let o = as_list n.tree in
      let p = as_list (overwritten (set_at set n.location) u n.tree) in
      ap (λ ns. map masked (clear ns)) (indexed_by i n o) ∙ alike_by_length f n o p (list_length n h) h ∙ sym (ap clear (indexed_by i (masked n) p))
  open_picks (slice start end step) d e n ok h =
      alike_by_length (slice_of start end step) n (as_list n.tree) (as_list (overwritten (set_at set n.location) u n.tree)) (list_length n h) h
  open_picks (syntax.Selector.filter f) d e n ok h = absurd (false≢true ok)

  alike_picks : (s : Selector) (d e : Document) (n : Node) → IsTrue (is_no_filter s) → Alike (picks s d n) (picks s e (masked n))
  alike_picks s d e n ok = pick (set_at set n.location []) refl
    where
      pick : (b : Bool) → set_at set n.location [] ≡ b → Alike (picks s d n) (picks s e (masked n))
      pick true h = alike_none (picks s d n) (picks s e (masked n)) (none_picks s d n ok (shut_at n.location h)) (none_picks s e (masked n) ok (shut_at n.location h))
      pick false h = open_picks s d e n ok h

  alike_all_pick : (ss : Selectors) (d e : Document) (n : Node) → IsTrue (are_no_filters ss) → Alike (all_pick ss d n) (all_pick ss e (masked n))
  alike_all_pick no_selectors d e n ok = refl
  alike_all_pick (selector s ss) d e n ok =
      let both = and_parts (is_no_filter s) (are_no_filters ss) ok in
      alike_append (picks s d n) (all_pick ss d n) (picks s e (masked n)) (all_pick ss e (masked n)) (alike_picks s d e n both.0) (alike_all_pick ss d e n both.1)

  -- a node and those below it, from those below it where the set does not have it
  alike_around : (l : Location) (t : Tree) → Alike (below_all l t) (below_all l (overwritten_below (set_at set l) u t)) → Alike (subtree_at l t) (subtree_at l (overwritten (set_at set l) u t))
  alike_around l t more =
      let v = overwritten (set_at set l) u t in
      ap (λ ns. map masked (clear ns)) (subtree_first l t) ∙ alike_cons (node_at l t) (below_all l t) (below_all l v) (pick (set_at set l []) refl) ∙ sym (ap clear (subtree_first l v))
    where
      pick : (b : Bool) → set_at set l [] ≡ b → Alike (below_all l t) (below_all l (overwritten (set_at set l) u t))
      pick true h = alike_none (below_all l t) (below_all l (overwritten (set_at set l) u t)) (none_below l t (shut_at l h)) (none_below l (overwritten (set_at set l) u t) (shut_at l h))
      pick false h = subst (λ v. Alike (below_all l t) (below_all l v)) (sym (opened (set_at set l) u t h)) more

  mutual
    alike_subtree : (l : Location) (t : Tree) → Alike (subtree_at l t) (subtree_at l (overwritten (set_at set l) u t))
    alike_subtree l (list ts) = alike_around l (list ts) (alike_subtrees l 0 ts)
    alike_subtree l (object ms) = alike_around l (object ms) (alike_member_subtrees l ms)
    alike_subtree l null = alike_around l null refl
    alike_subtree l (truth b) = alike_around l (truth b) refl
    alike_subtree l (number n) = alike_around l (number n) refl
    alike_subtree l (text k) = alike_around l (text k) refl

    alike_subtrees : (l : Location) (k : ℕ) (ts : Trees) → Alike (subtrees_at l k ts) (subtrees_at l k (elements_overwritten (set_at set l) u k ts))
    alike_subtrees l k no_trees = refl
    alike_subtrees l k (tree t ts) =
        alike_append (subtree_at (l ++ index k ∷ []) t) (subtrees_at l (suc k) ts) (subtree_at (l ++ index k ∷ []) (overwritten (λ m. set_at set l (index k ∷ m)) u t)) (subtrees_at l (suc k) (elements_overwritten (set_at set l) u (suc k) ts))
        (subst (λ q. Alike (subtree_at (l ++ index k ∷ []) t) (subtree_at (l ++ index k ∷ []) (overwritten q u t))) (set_step set l (index k)) (alike_subtree (l ++ index k ∷ []) t))
        (alike_subtrees l (suc k) ts)

    alike_member_subtrees : (l : Location) (ms : Members) → Alike (member_subtrees l ms) (member_subtrees l (members_overwritten (set_at set l) u ms))
    alike_member_subtrees l no_members = refl
    alike_member_subtrees l (member k t ms) =
        alike_append (subtree_at (l ++ name k ∷ []) t) (member_subtrees l ms) (subtree_at (l ++ name k ∷ []) (overwritten (λ m. set_at set l (name k ∷ m)) u t)) (member_subtrees l (members_overwritten (set_at set l) u ms))
        (subst (λ q. Alike (subtree_at (l ++ name k ∷ []) t) (subtree_at (l ++ name k ∷ []) (overwritten q u t))) (set_step set l (name k)) (alike_subtree (l ++ name k ∷ []) t))
        (alike_member_subtrees l ms)

  alike_replaced : (g : Segment) (d e : Document) (n : Node) → IsTrue (segment_has_no_filter g) → Alike (replaced g d n) (replaced g e (masked n))
  alike_replaced (one s) d e n ok = alike_picks s d e n ok
  alike_replaced (several ss) d e n ok = alike_all_pick ss d e n ok
  alike_replaced (descendant g) d e n ok =
      alike_each (replaced g d) (replaced g e) (none_replaced g d ok) (none_replaced g e ok) (λ m. alike_replaced g d e m ok) (subtree n) (subtree (masked n)) (alike_subtree n.location n.tree)

  alike_applied : (gs : Segments) (d e : Document) (ns ms : List Node) → IsTrue (has_no_filter gs) → Alike ns ms → Alike (all_applied gs d ns) (all_applied gs e ms)
  alike_applied no_segments d e ns ms ok h = h
  alike_applied (segment g gs) d e ns ms ok h =
      let both = and_parts (segment_has_no_filter g) (has_no_filter gs) ok in
      alike_applied gs d e (flat_map (replaced g d) ns) (flat_map (replaced g e) ms) both.1
      (alike_each (replaced g d) (replaced g e) (none_replaced g d both.0) (none_replaced g e both.0) (λ n. alike_replaced g d e n both.0) ns ms h)

  -- the document that is overwritten, and another with the same tree
  alike_nodes : (q : Query) (d e : Document) → IsTrue (has_no_filter q) → overwritten set u d.root ≡ e.root → Alike (nodelist q d) (nodelist q e)
  alike_nodes q d e ok same =
      alike_applied q d e (root_node d.root ∷ []) (root_node e.root ∷ []) ok (subst (λ t. Alike (root_node d.root ∷ []) (root_node t ∷ [])) same (alike_cons (root_node d.root) [] [] refl))

  -- ---- which of the locations are selected

  abbrev places : List Node → List Location
  places ns = map (λ n. n.location) ns

  clear_there : (n : Node) (l : Location) (b : Bool) → is_location n.location l ≡ b → is_clear n ≡ false → none_above set l ≡ true → b ≡ false
  clear_there n l true at h k = absurd (false≢true (sym h ∙ ap (none_above set) (same_location n.location l at) ∙ k))
  clear_there n l false at h k = refl

  clear_among : (ns : List Node) (l : Location) → none_above set l ≡ true → is_among (places (clear ns)) l ≡ is_among (places ns) l
  clear_among [] l h = refl
  clear_among (n ∷ ns) l h = pick (is_clear n) refl (clear_among ns l h)
    where
      pick : (b : Bool) → is_clear n ≡ b → is_among (places (clear ns)) l ≡ is_among (places ns) l → is_among (places (cond b (n ∷ clear ns) (clear ns))) l ≡ (is_location n.location l || is_among (places ns) l)
      pick true is more = ap (λ b. is_location n.location l || b) more
      pick false is more = more ∙ sym (ap (λ b. b || is_among (places ns) l) (clear_there n l (is_location n.location l) refl is h))

  places_masked : (ns : List Node) → places (map masked ns) ≡ places ns
  places_masked [] = refl
  places_masked (n ∷ ns) = ap (λ ls. n.location ∷ ls) (places_masked ns)

  pub selected_masked : (q : Query) (d e : Document) (l : Location) → IsTrue (has_no_filter q) → overwritten set u d.root ≡ e.root → none_above set l ≡ true → is_among (selected q d) l ≡ is_among (selected q e) l
  selected_masked q d e l ok same h =
      sym (clear_among (nodelist q d) l h) ∙ ap (λ ls. is_among ls l) (sym (places_masked (clear (nodelist q d)))) ∙ ap (λ ns. is_among (places ns) l) (alike_nodes q d e ok same) ∙ clear_among (nodelist q e) l h
