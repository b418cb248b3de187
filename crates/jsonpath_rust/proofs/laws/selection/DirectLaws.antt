-- What is worked out of a look-up is what the meaning makes of its nodes.
use Rattle.std.proofs.Common.{◌≡◌, ℕ, List, [], ◌∷◌, map, length, nat_lt, ◌∙◌, ap, arith, Option, Some, None, Result, Ok, Err, IfOk, IfSome}
use Rattle.jsonpath_base.specs.Prelude.Documents.{argued, as_nodes, as_truth, as_value, count_of, count_value, Document, has_node, Node, Query, relative, Segment, SingularQuerySegment, step_view, tested, Tree, truth, value_at}
use Rattle.jsonpath_rust.specs.Prelude.Selection.{children_argument, children_query, steps_query, selected_from, demanded_value, told_of, Demand}
use Rattle.jsonpath_rust.specs.declared.selection.sink.Demand.TheVariants as demand
use Rattle.jsonpath_base.proofs.lemmas.documents.{relative_value}
use Rattle.jsonpath_parser.proofs.laws.tree.Steps.{steps_singular}
use Rattle.jsonpath_rust.proofs.laws.selection.NodelistLaws.{selected_from-applied}

-- ---- the value of the only node

pub looked_up : (ss : List SingularQuerySegment) (d : Document) (n : Node) (t : Tree) → n.tree ≡ t → as_value (tested (relative (steps_query (map step_view ss))) d n) ≡ value_at (map step_view ss) t
looked_up ss d n t e = relative_value (map step_view ss) d n (steps_singular ss) ∙ ap (value_at (map step_view ss)) e

-- ---- how many there are

pub query_count : (q : Query) (d : Document) (n : Node) (k : ℕ) → k ≡ length (selected_from q d n) → Some (count_value k) ≡ count_of (as_nodes (tested (relative q) d n))
query_count q d n k h = ap (λ j. Some (count_value j)) (h ∙ ap (λ xs. length xs) (selected_from-applied q d n))

-- ---- whether there is one

some_of : (k : ℕ) (ns : List Node) → k ≡ length ns → nat_lt 0 k ≡ has_node ns
some_of k [] e = ap (λ j. nat_lt 0 j) e
some_of k (n ∷ ns) e = grind (arith, e)

pub query_there : (q : Query) (d : Document) (n : Node) (k : ℕ) → k ≡ length (selected_from q d n) → nat_lt 0 k ≡ as_truth (tested (relative q) d n)
query_there q d n k h = some_of k (selected_from q d n) h ∙ ap has_node (selected_from-applied q d n)

-- what is wanted of children that are counted
pub children_told : (w : Demand) (ss : List Segment) (d : Document) (n : Node) (k : ℕ) → k ≡ length (selected_from (children_query ss) d n) → Some (told_of w k) ≡ demanded_value w (argued (children_argument w ss) d n)
children_told demand.Exists ss d n k h = ap (λ b. Some (truth b)) (query_there (children_query ss) d n k h)
children_told demand.Count ss d n k h = query_count (children_query ss) d n k h
children_told demand.Single ss d n k h = query_count (children_query ss) d n k h
children_told demand.Values ss d n k h = query_count (children_query ss) d n k h

-- ---- what is at hand

-- the same value in other words, where it is at hand
pub at_hand_as : {X E : Type 0} (f : X → Option Tree) (r : Result (Option X) E) (t u : Option Tree) → IfOk r (λ o. IfSome o (λ x. f x ≡ t)) → t ≡ u → IfOk r (λ o. IfSome o (λ x. f x ≡ u))
at_hand_as f (Ok (Some x)) t u h e = h ∙ e
at_hand_as f (Ok None) t u h e = tt
at_hand_as f (Err y) t u h e = tt
