-- What `process` returns on a state, for each part of a query. It has a value on every state and every tree, also if the tree is ill-typed (RFC 9535,
-- 2.4.3). If the tree is well-typed, the nodes from the root are those that Meaning selects: a law, in Processed.
use Rattle.std.specs.Prelude.{List, [], ◌∷◌, ◌++◌, length, map, Bool, true, false, not, ◌&&◌, ◌||◌, Option, Some, None}
use Rattle.jsonpath_parser.specs.tree.Making.{is_truth_call}
use Rattle.jsonpath_parser.specs.tree.Syntax as syntax
use Rattle.jsonpath_parser.specs.tree.Syntax.{Operator, equal, not_equal, greater, greater_or_equal, less, less_or_equal, Selector, wildcard, slice, Selectors, no_selectors, selector, Segment, several, descendant, Segments, no_segments, segment, Filter, or, and, Filters, no_filters, filter_then, group, test, compare, Test, relative, absolute, call, Call, custom_call, length_call, value_call, count_call, search_call, match_call, Argument, literal_argument, test_argument, filter_argument, Arguments, no_arguments, argument}
use Rattle.jsonpath_base.specs.Same.{same}
use Rattle.jsonpath_base.specs.Tree.{Tree, truth, list, elements}
use Rattle.jsonpath_base.specs.documents.Comparing.{is_below}
use Rattle.jsonpath_base.specs.documents.Document.{Document}
use Rattle.jsonpath_base.specs.documents.Functions.{length_of, count_value, is_matched, is_true}
use Rattle.jsonpath_base.specs.documents.Meaning.{literal_tree, negated}
use Rattle.jsonpath_base.specs.documents.State.{Target, Content, ref, refs, value, nothing, targets, mapped, reduced, named_from, indexed_from, children_from, sliced_from, parents_from, kept_from, root_content, targets_same}

-- the value that it is or points to
abbrev pub plain : Content → Option Tree
plain (ref p) = Some p.tree
plain (value t) = Some t
plain _ = None

-- ---- comparisons (2.3.5.2.2)

abbrev pub lists_same : List Tree → List Tree → Bool
lists_same [] [] = true
lists_same (t ∷ ts) (u ∷ us) = same t u && lists_same ts us
lists_same _ _ = false

-- a list is the same as nodes whose values are its elements, in order
abbrev pub lists_targets : Tree → List Target → Bool
lists_targets (list ts) ps = lists_same (elements ts) (map (λ p. p.tree) ps)
lists_targets _ ps = false

abbrev pub values_same : Option Tree → Option Tree → Bool
values_same (Some t) (Some u) = same t u
values_same _ _ = false

-- nodes and nodes by their values and paths; a node and nodes as a list and its elements, but not the other way round
abbrev pub contents_equal : Content → Content → Bool
contents_equal (refs ps) (refs qs) = targets_same ps qs
contents_equal (ref p) (refs qs) = lists_targets p.tree qs
contents_equal nothing nothing = true
contents_equal a b = values_same (plain a) (plain b)

abbrev pub is_content_below : Content → Content → Bool
is_content_below a b = is_below (plain a) (plain b)

abbrev pub contents_compare : Operator → Content → Content → Bool
contents_compare equal a b = contents_equal a b
contents_compare not_equal a b = not (contents_equal a b)
contents_compare less a b = is_content_below a b
contents_compare less_or_equal a b = is_content_below a b || contents_equal a b
contents_compare greater a b = is_content_below b a
contents_compare greater_or_equal a b = is_content_below b a || contents_equal a b

-- ---- functions (2.4.4 to 2.4.8)

abbrev pub optional : Option Tree → Content
optional None = nothing
optional (Some t) = value t

abbrev pub length_content : Content → Content
length_content (refs ps) = value (count_value (length ps))
length_content c = optional (length_of (plain c))

abbrev pub count_content : Content → Content
count_content (ref p) = value (count_value 1)
count_content (value t) = value (count_value 1)
count_content (refs ps) = value (count_value (length ps))
count_content nothing = value (count_value 0)

abbrev pub value_content : Content → Content
value_content (ref p) = ref p
value_content (value t) = value t
value_content (refs (p ∷ [])) = ref p
value_content _ = nothing

-- as arguments of a custom function
abbrev pub content_trees : Content → List Tree
content_trees (ref p) = p.tree ∷ []
content_trees (refs ps) = map (λ p. p.tree) ps
content_trees (value t) = t ∷ []
content_trees nothing = []

-- ---- tests (2.3.5.2.1)

-- the truth of a logical expression: that of an owned value
abbrev pub is_truth : Content → Bool
is_truth (value t) = is_true (Some t)
is_truth _ = false

abbrev pub has_target : List Target → Bool
has_target [] = false
has_target (p ∷ ps) = true

-- the truth of a call that returns one, negated after `!`; for any other test, whether it has a result
abbrev pub test_truth : Bool → Bool → Content → Content
test_truth turn false c = value (truth (negated turn (has_target (targets c))))
test_truth true true c = value (truth (not (is_truth c)))
test_truth false true c = c

-- ---- the parts of a query

-- no selectors select nothing on any state
abbrev pub unless_none : Selectors → Content → Content
unless_none no_selectors c = nothing
unless_none (selector s ss) c = c

abbrev mutual
  pub selector_content : Selector → Document → Content → Content
  selector_content (syntax.Selector.name k) d c = mapped (named_from k) c
  selector_content wildcard d c = mapped children_from c
  selector_content (syntax.Selector.index i) d c = mapped (indexed_from i) c
  selector_content (slice start end step) d c = mapped (sliced_from start end step) c
  selector_content (syntax.Selector.filter f) d c = mapped (kept_from (holds_at f d)) c

  -- each selector at a node, joined from the left to what there is
  pub joined_from : Selectors → Document → Content → Target → Content
  joined_from no_selectors d c p = c
  joined_from (selector s ss) d c p = joined_from ss d (reduced c (selector_content s d (ref p))) p

  pub segment_content : Segment → Document → Content → Content
  segment_content (syntax.one s) d c = selector_content s d c
  segment_content (several ss) d c = unless_none ss (mapped (joined_from ss d nothing) c)
  segment_content (descendant g) d c = segment_content g d (mapped parents_from c)

  pub segments_content : Segments → Document → Content → Content
  segments_content no_segments d c = c
  segments_content (segment g gs) d c = segments_content gs d (segment_content g d c)

  -- the truth of a logical expression at a state
  pub holds_at : Filter → Document → Content → Bool
  holds_at (or fs) d c = some_holds_at fs d c
  holds_at (and fs) d c = each_holds_at fs d c
  holds_at (group t f) d c = negated t (holds_at f d c)
  holds_at (test t q) d c = is_truth (test_truth t (is_truth_call q) (test_content q d c))
  holds_at (compare op a b) d c = contents_compare op (argument_content a d c) (argument_content b d c)

  pub some_holds_at : Filters → Document → Content → Bool
  some_holds_at no_filters d c = false
  some_holds_at (filter_then f fs) d c = holds_at f d c || some_holds_at fs d c

  pub each_holds_at : Filters → Document → Content → Bool
  each_holds_at no_filters d c = true
  each_holds_at (filter_then f fs) d c = holds_at f d c && each_holds_at fs d c

  pub test_content : Test → Document → Content → Content
  test_content (relative gs) d c = segments_content gs d c
  test_content (absolute gs) d c = segments_content gs d (root_content d)
  test_content (call f) d c = call_content f d c

  pub call_content : Call → Document → Content → Content
  call_content (custom_call name args) d c = value (d.custom name (arguments_trees args d c))
  call_content (length_call a) d c = length_content (argument_content a d c)
  call_content (value_call a) d c = value_content (argument_content a d c)
  call_content (count_call a) d c = count_content (argument_content a d c)
  call_content (search_call a b) d c = value (truth (is_matched false (plain (argument_content a d c)) (plain (argument_content b d c))))
  call_content (match_call a b) d c = value (truth (is_matched true (plain (argument_content a d c)) (plain (argument_content b d c))))

  pub argument_content : Argument → Document → Content → Content
  argument_content (literal_argument l) d c = value (literal_tree l)
  argument_content (test_argument t) d c = test_content t d c
  argument_content (filter_argument f) d c = value (truth (holds_at f d c))

  pub arguments_trees : Arguments → Document → Content → List Tree
  arguments_trees no_arguments d c = []
  arguments_trees (argument a rest) d c = content_trees (argument_content a d c) ++ arguments_trees rest d c

-- a filter by itself picks children
abbrev pub filter_content : Filter → Document → Content → Content
filter_content f d c = mapped (kept_from (holds_at f d)) c

-- an operand of `&&` by itself: what a call returns that returns a truth, without `!`, and the truth of each other operand
abbrev pub basic_content : Filter → Document → Content → Content
basic_content (test t q) d c = test_truth t (is_truth_call q) (test_content q d c)
basic_content f d c = value (truth (holds_at f d c))

-- several selectors by themselves
abbrev pub several_content : Selectors → Document → Content → Content
several_content ss d c = unless_none ss (mapped (joined_from ss d nothing) c)
