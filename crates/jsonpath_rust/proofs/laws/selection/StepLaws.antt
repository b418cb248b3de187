-- Names and indexes that are looked up lead where the walk would.
use Rattle.std.proofs.Common.{◌≡◌, List, [], ◌∷◌, map, refl, sym, ◌∙◌, ap, Option, None, Some, is_some, option_map, option_to_list}
use Rattle.jsonpath_base.specs.Prelude.Documents.{all_applied, argued, Argument, as_trees, as_truth, as_value, Document, has_node, Node, of_nodes, only_value, relative, root_node, SingularQuerySegment, step_view, tested, Tree, value_at}
use Rattle.jsonpath_rust.specs.Prelude.Selection.{Constants, IsOne, Expr, expr_view, steps_query, Demand, demand_of}
use Rattle.jsonpath_base.proofs.lemmas.documents.{singular_trees}
use Rattle.jsonpath_parser.proofs.laws.tree.Steps.{steps_singular}
use Rattle.jsonpath_rust.specs.declared.selection.sink.Demand.TheVariants as demand

abbrev pub trees_of : List Node → List Tree
trees_of ns = map (λ n. n.tree) ns

-- the nodes of these steps are the one value, if there is one
pub steps_there : (ss : List SingularQuerySegment) (d : Document) (n : Node) → trees_of (all_applied (steps_query (map step_view ss)) d (n ∷ [])) ≡ option_to_list (value_at (map step_view ss) n.tree)
steps_there ss d n = singular_trees (map step_view ss) d n (steps_singular ss)

-- ---- whether there is a node

some_node : {X : Type 0} (f : X → Tree) (o : Option X) (ns : List Node) → trees_of ns ≡ option_to_list (option_map f o) → is_some o ≡ has_node ns
some_node f None [] e = refl
some_node f None (n ∷ ns) e = absurd cc
some_node f (Some x) [] e = absurd cc
some_node f (Some x) (n ∷ ns) e = refl

pub is_there : {X : Type 0} (f : X → Tree) (o : Option X) (ss : List SingularQuerySegment) (d : Document) (n : Node) → option_map f o ≡ value_at (map step_view ss) n.tree → is_some o ≡ as_truth (tested (relative (steps_query (map step_view ss))) d n)
is_there f o ss d n e = some_node f o (all_applied (steps_query (map step_view ss)) d (n ∷ [])) (steps_there ss d n ∙ ap option_to_list (sym e))

-- ---- what is wanted

-- inside a filter no location is kept
wanted_alone : (w : Demand) (n : Node) (t : Tree) → n.tree ≡ t → demand_of w (of_nodes (root_node t ∷ [])) ≡ demand_of w (of_nodes (n ∷ []))
wanted_alone demand.Exists n t e = refl
wanted_alone demand.Count n t e = refl
wanted_alone demand.Single n t e = ap Some (sym e)
wanted_alone demand.Values n t e = refl

wanted_there : (w : Demand) (o : Option Tree) (ns : List Node) → trees_of ns ≡ option_to_list o → demand_of w (of_nodes (map root_node (option_to_list o))) ≡ demand_of w (of_nodes ns)
wanted_there w None [] e = refl
wanted_there w None (n ∷ ns) e = absurd cc
wanted_there w (Some t) [] e = absurd cc
wanted_there w (Some t) (n ∷ []) e =
    let same : n.tree ≡ t = cc in
    wanted_alone w n t same
wanted_there w (Some t) (n ∷ m ∷ ns) e = absurd cc

pub wanted_found : (w : Demand) (o : Option Tree) (ss : List SingularQuerySegment) (d : Document) (n : Node) → o ≡ value_at (map step_view ss) n.tree → demand_of w (of_nodes (map root_node (option_to_list o))) ≡ demand_of w (tested (relative (steps_query (map step_view ss))) d n)
wanted_found w o ss d n e = wanted_there w o (all_applied (steps_query (map step_view ss)) d (n ∷ [])) (steps_there ss d n ∙ ap option_to_list (sym e))

-- ---- parts with one value at most

-- what these steps lead to is the only value
pub steps_alone : (ss : List SingularQuerySegment) (d : Document) (n : Node) → as_trees (tested (relative (steps_query (map step_view ss))) d n) ≡ option_to_list (as_value (tested (relative (steps_query (map step_view ss))) d n))
steps_alone ss d n = alone (all_applied (steps_query (map step_view ss)) d (n ∷ [])) (value_at (map step_view ss) n.tree) (steps_there ss d n)
  where
    alone : (ns : List Node) (o : Option Tree) → trees_of ns ≡ option_to_list o → trees_of ns ≡ option_to_list (only_value ns)
    alone [] o e = refl
    alone (n ∷ []) o e = refl
    alone (n ∷ m ∷ ns) None e = absurd cc
    alone (n ∷ m ∷ ns) (Some t) e = absurd cc

-- the same of a part in other words
pub one_as : (constants : Constants) (p : Expr) (a : Argument) → expr_view constants p demand.Values ≡ a → expr_view constants p demand.Single ≡ a → ((d : Document) (n : Node) → as_trees (argued a d n) ≡ option_to_list (as_value (argued a d n))) → IsOne constants p
one_as constants p a e f h = record {
  same = e ∙ sym f;
  alone = λ d n. ap (λ x. as_trees (argued x d n)) f ∙ h d n ∙ sym (ap (λ x. option_to_list (as_value (argued x d n))) f);
}
