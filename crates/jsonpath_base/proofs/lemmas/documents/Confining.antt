-- Where what a query selects can lie, known before any document.
use Rattle.std.proofs.Common.{◌≡◌, ℕ, suc, ℤ, List, [], ◌∷◌, ◌++◌, length, map, true, false, ◌&&◌, ◌||◌, ◌⊎◌, inl, inr, Option, Some, None, option_and_then, option_to_list, IsTrue, All, append-nil, append_assoc, refl, sym, ap, ◌∙◌, subst}
use Rattle.std.proofs.lemmas.Bool.{and_parts, false≢true}
use Rattle.std.proofs.lemmas.List.Elements.{All-from_recursion, All-map, All-weaker, filter_agree}
use Rattle.jsonpath_base.specs.Prelude.Documents.{absolute, AgreeAt, all_applied, all_pick, all_trees, AllByRecursion, and, answer, argued, Argument, argument, Arguments, as_list, as_nodes, as_trees, as_truth, as_value, at, Begins, below, Call, call, child, children, children_at, compare, compares, count_call, count_of, custom_call, descendant, Document, each_holds, element, element_nodes, element_of, elements, Filter, filter_argument, filter_then, Filters, constant_prefix, fixed_step, flat_map, followed, group, holds, index, is_matched, length_call, length_of, list, literal_argument, LocalIsConfined, Location, match_call, member_nodes, member_subtrees, Members, name, negated, no_arguments, no_filters, no_members, no_segments, no_selectors, no_trees, Node, nodelist, null, number, object, of_nodes, of_value, one, only_value, option_map_or, or, pairs, picks, Query, relative, replaced, root_node, search_call, Segment, segment, Segments, selected, SelectedBeginsWithFixedPart, Selector, selector, Selectors, several, SingularSelectsOneAtMost, slice, slice_of, some_holds, Step, subtree, subtree_at, subtrees_at, Test, test, test_argument, tested, text, Tree, Trees, truth, value_call, wildcard}
use Rattle.jsonpath_parser.specs.tree.Reach.{is_local, locality}
use Rattle.jsonpath_parser.specs.tree.Typing.{over_argument, over_arguments, over_call, over_filter, over_filters, over_segment, over_selector, over_selectors, over_test}
use Rattle.jsonpath_parser.specs.tree.Syntax as syntax
use Rattle.jsonpath_base.specs.Tree as base
use Rattle.jsonpath_base.proofs.lemmas.documents.Following.{node_at, nodes_of, applied_to_none, selected_followed}
use Rattle.jsonpath_base.proofs.lemmas.documents.Locating.{step_is}
use Rattle.jsonpath_base.proofs.lemmas.documents.NodesAt.{each-append, each-flat_map, each-filter, at-append}
use Rattle.jsonpath_base.proofs.lemmas.documents.NormalSteps.{step-child}

-- ---- one location at most

one_at_most : (o : Option (Location × Tree)) → (map (λ (n : Node). n.location) (nodes_of o) ≡ []) ⊎ ((l : Location) × (map (λ (n : Node). n.location) (nodes_of o) ≡ l ∷ []))
one_at_most None = inl refl
one_at_most (Some p) = inr (p.0, refl)

pub singular_selects_one_at_most : SingularSelectsOneAtMost
singular_selects_one_at_most q doc h =
    subst (λ (ls : List Location). (ls ≡ []) ⊎ ((l : Location) × (ls ≡ l ∷ []))) (sym (selected_followed q doc h)) (one_at_most (followed q [] doc.root))

-- ---- nodes at a location or below it

abbrev IsIn : Location → Node → Type 0
IsIn part n = Begins part n.location

one_further : (part l : Location) (s : Step) → Begins part l → Begins part (l ++ s ∷ [])
one_further part l s h = (h.0 ++ s ∷ [], ap (λ k. k ++ s ∷ []) h.1 ∙ append_assoc part h.0 (s ∷ []))

in_option : (part l : Location) (s : Step) (o : Option Tree) → Begins part l → AllByRecursion (IsIn part) (map (below l s) (option_to_list o))
in_option part l s None h = tt
in_option part l s (Some t) h = (one_further part l s h, tt)

in_elements : (part l : Location) (k : ℕ) (ts : List Tree) → Begins part l → AllByRecursion (IsIn part) (element_nodes l k ts)
in_elements part l k [] h = tt
in_elements part l k (t ∷ ts) h = (one_further part l (index k) h, in_elements part l (suc k) ts h)

in_members : (part l : Location) (ms : List (List ℕ × Tree)) → Begins part l → AllByRecursion (IsIn part) (member_nodes l ms)
in_members part l [] h = tt
in_members part l (m ∷ ms) h = (one_further part l (name m.0) h, in_members part l ms h)

in_children : (part l : Location) (t : Tree) → Begins part l → AllByRecursion (IsIn part) (children_at l t)
in_children part l (list ts) h = in_elements part l 0 (elements ts) h
in_children part l (object ms) h = in_members part l (pairs ms) h
in_children part l null h = tt
in_children part l (truth b) h = tt
in_children part l (number n) h = tt
in_children part l (text s) h = tt

mutual
  in_subtree : (part l : Location) (t : Tree) → Begins part l → AllByRecursion (IsIn part) (subtree_at l t)
  in_subtree part l (list ts) h = (h, in_subtrees part l 0 ts h)
  in_subtree part l (object ms) h = (h, in_member_subtrees part l ms h)
  in_subtree part l null h = (h, tt)
  in_subtree part l (truth b) h = (h, tt)
  in_subtree part l (number n) h = (h, tt)
  in_subtree part l (text s) h = (h, tt)

  in_subtrees : (part l : Location) (k : ℕ) (ts : Trees) → Begins part l → AllByRecursion (IsIn part) (subtrees_at l k ts)
  in_subtrees part l k no_trees h = tt
  in_subtrees part l k (base.tree t ts) h = each-append (IsIn part) (subtree_at (l ++ index k ∷ []) t) (subtrees_at l (suc k) ts) (in_subtree part (l ++ index k ∷ []) t (one_further part l (index k) h)) (in_subtrees part l (suc k) ts h)

  in_member_subtrees : (part l : Location) (ms : Members) → Begins part l → AllByRecursion (IsIn part) (member_subtrees l ms)
  in_member_subtrees part l no_members h = tt
  in_member_subtrees part l (base.member k t ms) h = each-append (IsIn part) (subtree_at (l ++ name k ∷ []) t) (member_subtrees l ms) (in_subtree part (l ++ name k ∷ []) t (one_further part l (name k) h)) (in_member_subtrees part l ms h)

in_places : (part : Location) (is : List ℕ) (n : Node) → IsIn part n → AllByRecursion (IsIn part) (flat_map (λ k. element k n) is)
in_places part [] n h = tt
in_places part (i ∷ is) n h = each-append (IsIn part) (element i n) (flat_map (λ k. element k n) is) (in_option part n.location (index i) (child (index i) n.tree) h) (in_places part is n h)

in_sliced : (part : Location) (start end step : Option ℤ) (n : Node) (o : Option (List Tree)) → IsIn part n → AllByRecursion (IsIn part) (flat_map (λ ts. flat_map (λ k. element k n) (slice_of start end step (length ts))) (option_to_list o))
in_sliced part start end step n None h = tt
in_sliced part start end step n (Some ts) h = each-append (IsIn part) (flat_map (λ k. element k n) (slice_of start end step (length ts))) [] (in_places part (slice_of start end step (length ts)) n h) tt

in_picks : (part : Location) (s : Selector) (d : Document) (n : Node) → IsIn part n → AllByRecursion (IsIn part) (picks s d n)
in_picks part (syntax.Selector.name k) d n h = in_option part n.location (name k) (child (name k) n.tree) h
in_picks part wildcard d n h = in_children part n.location n.tree h
in_picks part (syntax.Selector.index i) d n h = in_places part (option_to_list (option_and_then (λ ts. element_of i (length ts)) (as_list n.tree))) n h
in_picks part (slice start end step) d n h = in_sliced part start end step n (as_list n.tree) h
in_picks part (syntax.Selector.filter f) d n h = each-filter (IsIn part) (holds f d) (children n) (in_children part n.location n.tree h)

in_all_pick : (part : Location) (ss : Selectors) (d : Document) (n : Node) → IsIn part n → AllByRecursion (IsIn part) (all_pick ss d n)
in_all_pick part no_selectors d n h = tt
in_all_pick part (selector s ss) d n h = each-append (IsIn part) (picks s d n) (all_pick ss d n) (in_picks part s d n h) (in_all_pick part ss d n h)

in_replaced : (part : Location) (g : Segment) (d : Document) (n : Node) → IsIn part n → AllByRecursion (IsIn part) (replaced g d n)
in_replaced part (one s) d n h = in_picks part s d n h
in_replaced part (several ss) d n h = in_all_pick part ss d n h
in_replaced part (descendant g) d n h = each-flat_map (IsIn part) (IsIn part) (replaced g d) (λ m k. in_replaced part g d m k) (subtree n) (in_subtree part n.location n.tree h)

in_all_applied : (part : Location) (gs : Segments) (d : Document) (ns : List Node) → AllByRecursion (IsIn part) ns → AllByRecursion (IsIn part) (all_applied gs d ns)
in_all_applied part no_segments d ns h = h
in_all_applied part (segment g gs) d ns h = in_all_applied part gs d (flat_map (replaced g d) ns) (each-flat_map (IsIn part) (IsIn part) (replaced g d) (λ n k. in_replaced part g d n k) ns h)

-- ---- the fixed part leads to one node, or to none

-- the segments behind the fixed part
abbrev behind : Segments → Segments
behind no_segments = no_segments
behind (segment g gs) = option_map_or (λ s. behind gs) (fixed_step g) (segment g gs)

abbrev nodes_at : Location → Option Tree → List Node
nodes_at l o = map (node_at l) (option_to_list o)

abbrev LeadsOn : Segments → Document → Node → Type 0
LeadsOn gs d n = all_applied gs d (n ∷ []) ≡ all_applied (behind gs) d (nodes_at (n.location ++ constant_prefix gs) (at (constant_prefix gs) n.tree))

leads_by : (g : Segment) (gs : Segments) (d : Document) (n : Node) (o : Option Step) → fixed_step g ≡ o → ((m : Node) → LeadsOn gs d m)
    → all_applied gs d (replaced g d n ++ []) ≡ all_applied (option_map_or (λ s. behind gs) o (segment g gs)) d (nodes_at (n.location ++ option_map_or (λ s. s ∷ constant_prefix gs) o []) (at (option_map_or (λ s. s ∷ constant_prefix gs) o []) n.tree))
leads_by g gs d n None is more = ap (λ l. all_applied (segment g gs) d (node_at l n.tree ∷ [])) (sym (append-nil n.location))
leads_by g gs d n (Some s) is more =
    ap (all_applied gs d) (append-nil (replaced g d n) ∙ ap (λ h. replaced h d n) (step_is g s is) ∙ step-child s d n) ∙ by_child (child s n.tree)
  where
    by_child : (o : Option Tree) → all_applied gs d (map (below n.location s) (option_to_list o)) ≡ all_applied (behind gs) d (nodes_at (n.location ++ s ∷ constant_prefix gs) (option_and_then (at (constant_prefix gs)) o))
    by_child None = applied_to_none gs d ∙ sym (applied_to_none (behind gs) d)
    by_child (Some t) = more (below n.location s t) ∙ ap (λ l. all_applied (behind gs) d (nodes_at l (at (constant_prefix gs) t))) (append_assoc n.location (s ∷ []) (constant_prefix gs))

leads : (gs : Segments) (d : Document) (n : Node) → LeadsOn gs d n
leads no_segments d n = ap (λ l. node_at l n.tree ∷ []) (sym (append-nil n.location))
leads (segment g gs) d n = leads_by g gs d n (fixed_step g) refl (λ m. leads gs d m)

in_nodes_at : (l : Location) (o : Option Tree) → AllByRecursion (IsIn l) (nodes_at l o)
in_nodes_at l None = tt
in_nodes_at l (Some t) = (([], sym (append-nil l)), tt)

in_fixed_part : (q : Query) (d : Document) → AllByRecursion (IsIn (constant_prefix q)) (nodelist q d)
in_fixed_part q d =
    let P : List Node → Type 0 = AllByRecursion (IsIn (constant_prefix q)) in
    subst P (sym (leads q d (root_node d.root))) (in_all_applied (constant_prefix q) (behind q) d (nodes_at (constant_prefix q) (at (constant_prefix q) d.root)) (in_nodes_at (constant_prefix q) (at (constant_prefix q) d.root)))

pub selected_begins_with_fixed_part : SelectedBeginsWithFixedPart
selected_begins_with_fixed_part q d =
    All-map (Begins (constant_prefix q)) (λ (n : Node). n.location) (nodelist q d) (All-from_recursion (IsIn (constant_prefix q)) (nodelist q d) (in_fixed_part q d))

-- ---- what is local depends on the node and on the custom functions alone

flat_map_agree : {A B : Type 0} (f g : A → List B) → ((x : A) → f x ≡ g x) → (xs : List A) → flat_map f xs ≡ flat_map g xs
flat_map_agree f g same [] = refl
flat_map_agree f g same (x ∷ xs) = ap (λ ys. ys ++ flat_map f xs) (same x) ∙ ap (λ ys. g x ++ ys) (flat_map_agree f g same xs)

abbrev SameCustom : Document → Document → Type 0
SameCustom d e = d.custom ≡ e.custom

mutual
  applied_alike : (gs : Segments) (d e : Document) (ns : List Node) → SameCustom d e → IsTrue (is_local gs) → all_applied gs d ns ≡ all_applied gs e ns
  applied_alike no_segments d e ns same h = refl
  applied_alike (segment g gs) d e ns same h =
      let both = and_parts (over_segment locality g) (is_local gs) h in
      ap (all_applied gs d) (flat_map_agree (replaced g d) (replaced g e) (λ n. replaced_alike g d e n same both.0) ns) ∙ applied_alike gs d e (flat_map (replaced g e) ns) same both.1

  replaced_alike : (g : Segment) (d e : Document) (n : Node) → SameCustom d e → IsTrue (over_segment locality g) → replaced g d n ≡ replaced g e n
  replaced_alike (one s) d e n same h = picks_alike s d e n same h
  replaced_alike (several ss) d e n same h = all_pick_alike ss d e n same h
  replaced_alike (descendant g) d e n same h = flat_map_agree (replaced g d) (replaced g e) (λ m. replaced_alike g d e m same h) (subtree n)

  picks_alike : (s : Selector) (d e : Document) (n : Node) → SameCustom d e → IsTrue (over_selector locality s) → picks s d n ≡ picks s e n
  picks_alike (syntax.Selector.name k) d e n same h = refl
  picks_alike wildcard d e n same h = refl
  picks_alike (syntax.Selector.index i) d e n same h = refl
  picks_alike (slice start end step) d e n same h = refl
  picks_alike (syntax.Selector.filter f) d e n same h = filter_agree (holds f d) (holds f e) (λ m. holds_alike f d e m same h) (children n)

  all_pick_alike : (ss : Selectors) (d e : Document) (n : Node) → SameCustom d e → IsTrue (over_selectors locality ss) → all_pick ss d n ≡ all_pick ss e n
  all_pick_alike no_selectors d e n same h = refl
  all_pick_alike (selector s ss) d e n same h =
      let both = and_parts (over_selector locality s) (over_selectors locality ss) h in
      ap (λ ns. ns ++ all_pick ss d n) (picks_alike s d e n same both.0) ∙ ap (λ ns. picks s e n ++ ns) (all_pick_alike ss d e n same both.1)

  holds_alike : (f : Filter) (d e : Document) (n : Node) → SameCustom d e → IsTrue (over_filter locality f) → holds f d n ≡ holds f e n
  holds_alike (or fs) d e n same h = some_alike fs d e n same h
  holds_alike (and fs) d e n same h = each_alike fs d e n same h
  holds_alike (group t f) d e n same h = ap (negated t) (holds_alike f d e n same h)
  holds_alike (test t q) d e n same h = ap (λ x. negated t (as_truth x)) (tested_alike q d e n same h)
  holds_alike (compare op a b) d e n same h =
      let both = and_parts (over_argument locality a) (over_argument locality b) h in
      ap (λ x. compares op (as_value x) (as_value (argued b d n))) (argued_alike a d e n same both.0) ∙ ap (λ x. compares op (as_value (argued a e n)) (as_value x)) (argued_alike b d e n same both.1)

  some_alike : (fs : Filters) (d e : Document) (n : Node) → SameCustom d e → IsTrue (over_filters locality fs) → some_holds fs d n ≡ some_holds fs e n
  some_alike no_filters d e n same h = refl
  some_alike (filter_then f fs) d e n same h =
      let both = and_parts (over_filter locality f) (over_filters locality fs) h in
      ap (λ b. b || some_holds fs d n) (holds_alike f d e n same both.0) ∙ ap (λ b. holds f e n || b) (some_alike fs d e n same both.1)

  each_alike : (fs : Filters) (d e : Document) (n : Node) → SameCustom d e → IsTrue (over_filters locality fs) → each_holds fs d n ≡ each_holds fs e n
  each_alike no_filters d e n same h = refl
  each_alike (filter_then f fs) d e n same h =
      let both = and_parts (over_filter locality f) (over_filters locality fs) h in
      ap (λ b. b && each_holds fs d n) (holds_alike f d e n same both.0) ∙ ap (λ b. holds f e n && b) (each_alike fs d e n same both.1)

  tested_alike : (t : Test) (d e : Document) (n : Node) → SameCustom d e → IsTrue (over_test locality t) → tested t d n ≡ tested t e n
  tested_alike (relative gs) d e n same h = ap of_nodes (applied_alike gs d e (n ∷ []) same h)
  tested_alike (absolute gs) d e n same h = absurd (false≢true h)
  tested_alike (call f) d e n same h = ap of_value (answer_alike f d e n same h)

  answer_alike : (f : Call) (d e : Document) (n : Node) → SameCustom d e → IsTrue (over_call locality f) → answer f d n ≡ answer f e n
  answer_alike (custom_call called args) d e n same h = ap (λ custom. Some (custom called (all_trees args d n))) same ∙ ap (λ ts. Some (e.custom called ts)) (arguments_alike args d e n same h)
  answer_alike (length_call a) d e n same h = ap (λ x. length_of (as_value x)) (argued_alike a d e n same h)
  answer_alike (value_call a) d e n same h = ap (λ x. only_value (as_nodes x)) (argued_alike a d e n same h)
  answer_alike (count_call a) d e n same h = ap (λ x. count_of (as_nodes x)) (argued_alike a d e n same h)
  answer_alike (search_call a b) d e n same h =
      let both = and_parts (over_argument locality a) (over_argument locality b) h in
      ap (λ x. Some (truth (is_matched false (as_value x) (as_value (argued b d n))))) (argued_alike a d e n same both.0) ∙ ap (λ x. Some (truth (is_matched false (as_value (argued a e n)) (as_value x)))) (argued_alike b d e n same both.1)
  answer_alike (match_call a b) d e n same h =
      let both = and_parts (over_argument locality a) (over_argument locality b) h in
      ap (λ x. Some (truth (is_matched true (as_value x) (as_value (argued b d n))))) (argued_alike a d e n same both.0) ∙ ap (λ x. Some (truth (is_matched true (as_value (argued a e n)) (as_value x)))) (argued_alike b d e n same both.1)

  argued_alike : (a : Argument) (d e : Document) (n : Node) → SameCustom d e → IsTrue (over_argument locality a) → argued a d n ≡ argued a e n
  argued_alike (literal_argument l) d e n same h = refl
  argued_alike (test_argument t) d e n same h = tested_alike t d e n same h
  argued_alike (filter_argument f) d e n same h = ap (λ b. of_value (Some (truth b))) (holds_alike f d e n same h)

  arguments_alike : (args : Arguments) (d e : Document) (n : Node) → SameCustom d e → IsTrue (over_arguments locality args) → all_trees args d n ≡ all_trees args e n
  arguments_alike no_arguments d e n same h = refl
  arguments_alike (argument a rest) d e n same h =
      let both = and_parts (over_argument locality a) (over_arguments locality rest) h in
      ap (λ x. as_trees x ++ all_trees rest d n) (argued_alike a d e n same both.0) ∙ ap (λ ts. as_trees (argued a e n) ++ ts) (arguments_alike rest d e n same both.1)

-- ---- confinement

-- what is local stays so behind its fixed part
local_behind : (gs : Segments) → IsTrue (is_local gs) → IsTrue (is_local (behind gs))
local_behind no_segments h = h
local_behind (segment g gs) h = of_step (fixed_step g) (local_behind gs (and_parts (over_segment locality g) (is_local gs) h).1)
  where
    of_step : (o : Option Step) → IsTrue (is_local (behind gs)) → IsTrue (is_local (option_map_or (λ s. behind gs) o (segment g gs)))
    of_step None rest = h
    of_step (Some s) rest = rest

nodes_alike : (q : Query) (d e : Document) → IsTrue (is_local q) → AgreeAt (constant_prefix q) d e → nodelist q d ≡ nodelist q e
nodes_alike q d e h agree =
    leads q d (root_node d.root)
    ∙ ap (λ o. all_applied (behind q) d (nodes_at (constant_prefix q) o)) agree.value
    ∙ applied_alike (behind q) d e (nodes_at (constant_prefix q) (at (constant_prefix q) e.root)) agree.custom (local_behind q h)
    ∙ sym (leads q e (root_node e.root))

-- where two documents agree, they agree below
agree_below : (part l : Location) (d e : Document) → Begins part l → AgreeAt part d e → AgreeAt l d e
agree_below part l d e h agree = record {
  custom = agree.custom;
  value = ap (λ k. at k d.root) h.1 ∙ at-append part h.0 d.root ∙ ap (option_and_then (at h.0)) agree.value ∙ sym (at-append part h.0 e.root) ∙ sym (ap (λ k. at k e.root) h.1);
}

all_further : (part front l : Location) → Begins part front → Begins front l → Begins part l
all_further part front l h k = (h.0 ++ k.0, k.1 ∙ ap (λ m. m ++ k.0) h.1 ∙ append_assoc part h.0 k.0)

inside_part : (q : Query) (part : Location) (d : Document) → Begins part (constant_prefix q) → All (Begins part) (selected q d)
inside_part q part d h = All-weaker (Begins (constant_prefix q)) (Begins part) (λ l k. all_further part (constant_prefix q) l h k) (selected q d) (selected_begins_with_fixed_part q d)

pub local_is_confined : LocalIsConfined
local_is_confined q part h begun = record {
  inside = λ d. inside_part q part d begun;
  locations = λ d e agree. ap (map (λ (n : Node). n.location)) (nodes_alike q d e h (agree_below part (constant_prefix q) d e begun agree));
  values = λ d e agree. All-weaker (Begins part) (λ l. at l d.root ≡ at l e.root) (λ l k. (agree_below part l d e k agree).value) (selected q d) (inside_part q part d begun);
}
