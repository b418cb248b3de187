-- What a query selects (RFC 9535, 2.1.2 and 2.3 to 2.5).
--
-- Each definition has a value on every query tree, also on an ill-typed one (2.4.3): the value of a query is that of its only node; what is no query
-- has no nodes; and a test of a call holds if the call returns true.
use Rattle.std.specs.Prelude.{ℕ, suc, ◌-◌, ℤ, pos, negsuc, List, [], ◌∷◌, ◌++◌, length, map, filter, nat_lt, if◌then◌else◌, Bool, true, false, not, ◌&&◌, ◌||◌, Option, Some, None, option_and_then, option_to_list}
use Rattle.std.specs.List.{flat_map}
use Rattle.jsonpath_parser.specs.Location as location
use Rattle.jsonpath_parser.specs.Location.{Location}
use Rattle.jsonpath_parser.specs.tree.Syntax as syntax
use Rattle.jsonpath_parser.specs.tree.Syntax.{Literal, string, bool, Selector, wildcard, slice, Selectors, no_selectors, selector, Segment, one, several, descendant, Segments, no_segments, segment, Filter, or, and, Filters, no_filters, filter_then, group, test, compare, Test, relative, absolute, call, Call, custom_call, length_call, value_call, count_call, search_call, match_call, Argument, literal_argument, test_argument, filter_argument, Arguments, no_arguments, argument, Query}
use Rattle.jsonpath_base.specs.Tree as tree
use Rattle.jsonpath_base.specs.Tree.{Tree, truth, as_list}
use Rattle.jsonpath_base.specs.Places.{child}
use Rattle.jsonpath_parser.specs.Slice.{slice_of}
use Rattle.jsonpath_base.specs.Values.{tree_of_number}
use Rattle.jsonpath_base.specs.documents.Node.{Node, root_node, below, children, subtree}
use Rattle.jsonpath_base.specs.documents.Document.{Document}
use Rattle.jsonpath_base.specs.documents.Comparing.{compares}
use Rattle.jsonpath_base.specs.documents.Functions.{length_of, count_of, is_matched, only_value, Evaluated, of_value, of_nodes, as_value, as_nodes, as_trees, as_truth}

-- the element that an index means in a list of this length; a negative index counts from the end (2.3.3)
abbrev pub element_of : ℤ → ℕ → Option ℕ
element_of (pos n) len = if nat_lt n len then Some n else None
element_of (negsuc n) len = if nat_lt n len then Some (len - suc n) else None

-- the node of that step, if there is one
abbrev pub named : List ℕ → Node → List Node
named k n = map (below n.location (location.name k)) (option_to_list (child (location.name k) n.tree))

abbrev pub element : ℕ → Node → List Node
element i n = map (below n.location (location.index i)) (option_to_list (child (location.index i) n.tree))

abbrev pub indexed : ℤ → Node → List Node
indexed i n = flat_map (λ k. element k n) (option_to_list (option_and_then (λ ts. element_of i (length ts)) (as_list n.tree)))

-- the elements that a slice picks, in its order (2.3.4)
abbrev pub sliced : Option ℤ → Option ℤ → Option ℤ → Node → List Node
sliced start end step n = flat_map (λ ts. flat_map (λ k. element k n) (slice_of start end step (length ts))) (option_to_list (as_list n.tree))

abbrev pub literal_tree : Literal → Tree
literal_tree (syntax.number n) = tree_of_number n
literal_tree (string s) = tree.text s
literal_tree (bool b) = truth b
literal_tree syntax.null = tree.null

-- `!` negates a truth
abbrev pub negated : Bool → Bool → Bool
negated true b = not b
negated false b = b

abbrev mutual
  -- what a selector picks at a node of a document (2.3)
  pub picks : Selector → Document → Node → List Node
  picks (syntax.Selector.name k) d n = named k n
  picks wildcard d n = children n
  picks (syntax.Selector.index i) d n = indexed i n
  picks (slice start end step) d n = sliced start end step n
  picks (syntax.Selector.filter f) d n = filter (holds f d) (children n)

  pub all_pick : Selectors → Document → Node → List Node
  all_pick no_selectors d n = []
  all_pick (selector s ss) d n = picks s d n ++ all_pick ss d n

  -- what a segment selects from one node (2.5)
  pub replaced : Segment → Document → Node → List Node
  replaced (one s) d n = picks s d n
  replaced (several ss) d n = all_pick ss d n
  replaced (descendant g) d n = flat_map (replaced g d) (subtree n)

  -- each segment in order, applied to each node of a list in turn (2.1.2)
  pub all_applied : Segments → Document → List Node → List Node
  all_applied no_segments d ns = ns
  all_applied (segment g gs) d ns = all_applied gs d (flat_map (replaced g d) ns)

  -- whether a logical expression holds at a node (2.3.5)
  pub holds : Filter → Document → Node → Bool
  holds (or fs) d n = some_holds fs d n
  holds (and fs) d n = each_holds fs d n
  holds (group t f) d n = negated t (holds f d n)
  holds (test t q) d n = negated t (as_truth (tested q d n))
  holds (compare op a b) d n = compares op (as_value (argued a d n)) (as_value (argued b d n))

  pub some_holds : Filters → Document → Node → Bool
  some_holds no_filters d n = false
  some_holds (filter_then f fs) d n = holds f d n || some_holds fs d n

  pub each_holds : Filters → Document → Node → Bool
  each_holds no_filters d n = true
  each_holds (filter_then f fs) d n = holds f d n && each_holds fs d n

  -- what a function returns, if it is not absent (2.4)
  pub answer : Call → Document → Node → Option Tree
  answer (custom_call name args) d n = Some (d.custom name (all_trees args d n))
  answer (length_call a) d n = length_of (as_value (argued a d n))
  answer (value_call a) d n = only_value (as_nodes (argued a d n))
  answer (count_call a) d n = count_of (as_nodes (argued a d n))
  answer (search_call a b) d n = Some (truth (is_matched false (as_value (argued a d n)) (as_value (argued b d n))))
  answer (match_call a b) d n = Some (truth (is_matched true (as_value (argued a d n)) (as_value (argued b d n))))

  -- an argument (2.4.1)
  pub argued : Argument → Document → Node → Evaluated
  argued (literal_argument l) d n = of_value (Some (literal_tree l))
  argued (test_argument t) d n = tested t d n
  argued (filter_argument f) d n = of_value (Some (truth (holds f d n)))

  pub tested : Test → Document → Node → Evaluated
  tested (relative gs) d n = of_nodes (all_applied gs d (n ∷ []))
  tested (absolute gs) d n = of_nodes (all_applied gs d (root_node d.root ∷ []))
  tested (call f) d n = of_value (answer f d n)

  -- the arguments of a custom function
  pub all_trees : Arguments → Document → Node → List Tree
  all_trees no_arguments d n = []
  all_trees (argument a rest) d n = as_trees (argued a d n) ++ all_trees rest d n

-- the nodes of a query, from the root on
abbrev pub nodelist : Query → Document → List Node
nodelist q d = all_applied q d (root_node d.root ∷ [])

-- the locations that a query selects, in order
abbrev pub selected : Query → Document → List Location
selected q d = map (λ n. n.location) (nodelist q d)
