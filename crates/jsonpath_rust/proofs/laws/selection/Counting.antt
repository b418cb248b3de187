-- Children that are counted are those that the walk would select.
use Rattle.std.proofs.Common.{◌≡◌, ℕ, suc, List, [], ◌∷◌, length, map, append-nil, refl, sym, ◌∙◌, ap, Option, None, Some, option_map, option_to_list}
use Rattle.jsonpath_base.specs.Prelude.Documents.{all_applied, as_list, as_members, children, children_at, Document, element_nodes, elements, flat_map, list, Location, member_nodes, Node, null, number, object, pairs, replaced, root_node, Segment, SingularQuerySegment, step_view, text, Tree, truth, value_at}
use Rattle.jsonpath_rust.specs.Prelude.Selection.{children_query, steps_query, selected_from}
use Rattle.jsonpath_rust.proofs.laws.selection.NodelistLaws.{selected_from-applied}
use Rattle.jsonpath_rust.proofs.laws.selection.StepLaws.{steps_there, trees_of}

element_nodes-length : (l : Location) (k : ℕ) (ts : List Tree) → length (element_nodes l k ts) ≡ length ts
element_nodes-length l k [] = refl
element_nodes-length l k (t ∷ ts) = ap suc (element_nodes-length l (suc k) ts)

member_nodes-length : (l : Location) (ms : List (List ℕ × Tree)) → length (member_nodes l ms) ≡ length ms
member_nodes-length l [] = refl
member_nodes-length l (m ∷ ms) = ap suc (member_nodes-length l ms)

children_at-length : (l m : Location) (t : Tree) → length (children_at l t) ≡ length (children_at m t)
children_at-length l m null = refl
children_at-length l m (truth b) = refl
children_at-length l m (number n) = refl
children_at-length l m (text s) = refl
children_at-length l m (list ts) = element_nodes-length l 0 (elements ts) ∙ sym (element_nodes-length m 0 (elements ts))
children_at-length l m (object ms) = member_nodes-length l (pairs ms) ∙ sym (member_nodes-length m (pairs ms))

-- how many children there are below a value, if there is one
abbrev pub children_of : Option Tree → ℕ
children_of None = 0
children_of (Some t) = length (children (root_node t))

below_one : (ns : List Node) (o : Option Tree) → trees_of ns ≡ option_to_list o → length (flat_map children ns) ≡ children_of o
below_one [] None e = refl
below_one [] (Some t) e = absurd cc
below_one (n ∷ []) None e = absurd cc
below_one (n ∷ []) (Some t) e =
    let same : n.tree ≡ t = cc in
    ap (λ ns. length ns) (append-nil (children n)) ∙ children_at-length n.location [] n.tree ∙ ap (λ u. length (children_at [] u)) same
below_one (n ∷ m ∷ ns) None e = absurd cc
below_one (n ∷ m ∷ ns) (Some t) e = absurd cc

-- the steps first, then all children
children_last : (ss : List Segment) (d : Document) (ns : List Node) → all_applied (children_query ss) d ns ≡ flat_map children (all_applied (steps_query ss) d ns)
children_last [] d ns = refl
children_last (s ∷ ss) d ns = children_last ss d (flat_map (replaced s d) ns)

pub children_counted : (ss : List SingularQuerySegment) (d : Document) (n : Node) (o : Option Tree) → o ≡ value_at (map step_view ss) n.tree → length (selected_from (children_query (map step_view ss)) d n) ≡ children_of o
children_counted ss d n o e =
    let found = selected_from-applied (children_query (map step_view ss)) d n ∙ children_last (map step_view ss) d (n ∷ []) in
    ap (λ ns. length ns) found ∙ below_one (all_applied (steps_query (map step_view ss)) d (n ∷ [])) o (steps_there ss d n ∙ ap option_to_list (sym e))

pub list_count : (t : Tree) (ts : List Tree) → Some ts ≡ as_list t → length ts ≡ length (children (root_node t))
list_count (list us) ts h =
    let same : ts ≡ elements us = cc in
    ap (λ xs. length xs) same ∙ sym (element_nodes-length [] 0 (elements us))
list_count (object us) ts h = absurd cc
list_count null ts h = absurd cc
list_count (truth b) ts h = absurd cc
list_count (number n) ts h = absurd cc
list_count (text s) ts h = absurd cc

pub object_count : (t : Tree) (k : ℕ) → Some k ≡ option_map (λ ms. length ms) (as_members t) → k ≡ length (children (root_node t))
object_count (object us) k h =
    let same : k ≡ length (pairs us) = cc in
    same ∙ sym (member_nodes-length [] (pairs us))
object_count (list us) k h = absurd cc
object_count null k h = absurd cc
object_count (truth b) k h = absurd cc
object_count (number n) k h = absurd cc
object_count (text s) k h = absurd cc
