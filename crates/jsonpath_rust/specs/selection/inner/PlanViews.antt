-- What the parts of a plan mean. A part of a plan means a part of a query, given the constants.
use Rattle.std.specs.Prelude.{◌≡◌, ℕ, List, [], ◌∷◌, ◌++◌, map, get_or, Bool, true, false, IsTrue, string_bytes, if◌then◌else◌}
use Rattle.std.specs.Coded.{Coded-set, coded_bool, codes}
use Rattle.std.specs.List.{list_all}
use mathlib.Core.List.{is_set}
use Rattle.jsonpath_parser.specs.tree.Syntax as tree
use Rattle.jsonpath_parser.specs.tree.View.{literal_view, step_view, operator_view, segments_of, selectors_of, filters_of, arguments_of}
use Rattle.jsonpath_rust.specs.declared.selection.plan.Constant.{Constant}
use Rattle.jsonpath_rust.specs.declared.selection.plan.Constant.TheVariants as constant
use Rattle.jsonpath_rust.specs.selection.inner.Rooted.{Call-set, Filter-set, call_is_rooted, filter_is_rooted, Query-set}
use Rattle.jsonpath_rust.specs.declared.selection.plan.Call.{Call, Call-F, fold-Call}
use Rattle.jsonpath_rust.specs.declared.selection.plan.Filter.{Filter, Filter-F, fold-Filter}
use Rattle.jsonpath_rust.specs.declared.selection.plan.Expr.{Expr, Expr-F, fold-Expr}
use Rattle.jsonpath_rust.specs.declared.selection.plan.Segment.{Segment, Segment-F, fold-Segment}
use Rattle.jsonpath_rust.specs.declared.selection.plan.Selector.{Selector, Selector-F, fold-Selector}
use Rattle.jsonpath_rust.specs.declared.selection.sink.Demand.{Demand}
use Rattle.jsonpath_rust.specs.declared.selection.sink.Demand.TheVariants.{Exists, Count, Single, Values}

abbrev pub is_same_demand : Demand → Demand → Bool
is_same_demand Exists Exists = true
is_same_demand Count Count = true
is_same_demand Single Single = true
is_same_demand Values Values = true
is_same_demand _ _ = false

-- whether the number of nodes is enough for the demand
abbrev pub is_counted : Demand → Bool
is_counted Exists = true
is_counted Count = true
is_counted _ = false

-- a part of the query without `@`: what is demanded of the nodes of a query from the root, what a call returns, or whether a filter holds, which is a
-- comparison in each plan that is made
pub data ConstantPart : Type 0 where
  nodes : Demand → tree.Query → ConstantPart
  call_result : tree.Call → ConstantPart
  compared : tree.Filter → ConstantPart
  deriving IsSet as ConstantPart_set

-- the constants, by number
abbrev pub Constants : Type 0
Constants = List ConstantPart

ruleset sets = (Coded-set, codes)

-- constants are data: there is one proof that two of them are the same
pub Constants-set : IsSet Constants
Constants-set = is_set (ConstantPart_set (hlevel sets) Query-set Call-set Filter-set)

-- it has no `@`
abbrev pub part_is_rooted : ConstantPart → Bool
part_is_rooted (nodes v q) = true
part_is_rooted (call_result c) = call_is_rooted c
part_is_rooted (compared c) = filter_is_rooted c

abbrev pub AreRooted : Constants → Type 0
AreRooted constants = IsTrue (list_all part_is_rooted constants)

-- the constant of this number, or `$` if there is none
abbrev pub part_at : Constants → ℕ → ConstantPart
part_at constants n = get_or constants n (nodes Exists tree.no_segments)

-- whether it is no query, or a query with this demand
abbrev pub fits : Demand → ConstantPart → Bool
fits w (nodes v q) = is_same_demand w v
fits w _ = true

abbrev pub is_query_part : ConstantPart → Bool
is_query_part (nodes v q) = true
is_query_part _ = false

-- the argument that the constant means for this demand; `$` for a query with another demand
abbrev pub argument_in : Demand → ConstantPart → tree.Argument
argument_in w (nodes v q) = tree.test_argument (tree.absolute (if is_same_demand w v then q else tree.no_segments))
argument_in w (call_result c) = tree.test_argument (tree.call c)
argument_in w (compared f) = tree.filter_argument f

abbrev pub argument_at : Constants → Demand → ℕ → tree.Argument
argument_at constants w n = argument_in w (part_at constants n)

-- the filter that tests an argument: a filter is one itself
abbrev pub truth_of : tree.Argument → tree.Filter
truth_of (tree.test_argument t) = tree.test false t
truth_of (tree.filter_argument f) = f
truth_of (tree.literal_argument l) = tree.compare tree.equal (tree.literal_argument l) (tree.literal_argument (tree.bool true))

-- the same, negated if `not`, for an argument that is no constant; so the plan of a test has more parts than what it tests
abbrev pub asked : Bool → tree.Argument → tree.Filter
asked not (tree.test_argument t) = tree.test not t
asked not a = tree.group not (tree.group false (truth_of a))

-- the query of these steps (RFC 9535, 2.3.5.1)
abbrev pub steps_query : List tree.Segment → tree.Query
steps_query ss = segments_of ss

-- all children of the node that these steps lead to
abbrev pub children_query : List tree.Segment → tree.Query
children_query ss = segments_of (ss ++ tree.one tree.wildcard ∷ [])

-- these children, if their number is enough for the demand; else their number
abbrev pub children_argument : Demand → List tree.Segment → tree.Argument
children_argument Exists ss = tree.test_argument (tree.relative (children_query ss))
children_argument Count ss = tree.test_argument (tree.relative (children_query ss))
children_argument _ ss = tree.test_argument (tree.call (tree.count_call (tree.test_argument (tree.relative (children_query ss)))))

-- One layer of each type, with the views of its parts. The parts of filters are viewed by demand.

abbrev pub Layer : (Type 0 → Type 0 → Type 0 → Type 0 → Type 0 → Type 0) → Type 0
Layer F = F tree.Call (Demand → tree.Argument) tree.Filter tree.Segment tree.Selector

abbrev pub call_step : Layer Call-F → tree.Call
call_step (Call-F.Custom s v) = tree.custom_call (string_bytes s) (arguments_of (map (λ x. x Values) v.items))
call_step (Call-F.Length a) = tree.length_call (a Single)
call_step (Call-F.Value a) = tree.value_call (a Single)
call_step (Call-F.Count a) = tree.count_call (a Count)
call_step (Call-F.Search a b) = tree.search_call (a Single) (b Single)
call_step (Call-F.Match a b) = tree.match_call (a Single) (b Single)

abbrev pub filter_step : Constants → Layer Filter-F → tree.Filter
filter_step constants (Filter-F.Or v) = tree.or (filters_of v.items)
filter_step constants (Filter-F.And v) = tree.and (filters_of v.items)
filter_step constants (Filter-F.Group f not) = tree.group not f.value
filter_step constants (Filter-F.Test a not) = asked not (a Exists)
filter_step constants (Filter-F.Comparison op a b) = tree.compare (operator_view op) (a Single) (b Single)
filter_step constants (Filter-F.«Filter::Constant» n) = truth_of (argument_at constants Exists n)

abbrev pub expr_step : Constants → Layer Expr-F → Demand → tree.Argument
expr_step constants (Expr-F.Literal l) w = tree.literal_argument (literal_view l)
expr_step constants (Expr-F.Pattern s n) w = tree.literal_argument (tree.string (string_bytes s))
expr_step constants (Expr-F.Lookup v) w = tree.test_argument (tree.relative (steps_query (map step_view v.items)))
expr_step constants (Expr-F.Children v) w = children_argument w (map step_view v.items)
expr_step constants (Expr-F.Walk v) w = tree.test_argument (tree.relative (segments_of v.items))
expr_step constants (Expr-F.Call c) w = tree.test_argument (tree.call c.value)
expr_step constants (Expr-F.«Expr::Filter» f) w = tree.filter_argument f.value
expr_step constants (Expr-F.«Expr::Constant» n) w = argument_at constants w n

abbrev pub segment_step : Layer Segment-F → tree.Segment
segment_step (Segment-F.Descendant s) = tree.descendant s.value
segment_step (Segment-F.Selector s) = tree.one s
segment_step (Segment-F.Selectors v) = tree.several (selectors_of v.items)

abbrev pub selector_step : Layer Selector-F → tree.Selector
selector_step (Selector-F.Name s) = tree.name (string_bytes s)
selector_step Selector-F.Wildcard = tree.wildcard
selector_step (Selector-F.Index i) = tree.index i
selector_step (Selector-F.Slice start end step) = tree.slice start end step
selector_step (Selector-F.«Selector::Filter» f) = tree.filter f

-- The folds. The step functions are in the order of the types, by alphabet.

abbrev pub call_view : Constants → Call → tree.Call
call_view constants = fold-Call tree.Call (Demand → tree.Argument) tree.Filter tree.Segment tree.Selector call_step (expr_step constants) (filter_step constants) segment_step selector_step

abbrev pub filter_view : Constants → Filter → tree.Filter
filter_view constants = fold-Filter tree.Call (Demand → tree.Argument) tree.Filter tree.Segment tree.Selector call_step (expr_step constants) (filter_step constants) segment_step selector_step

abbrev pub expr_view : Constants → Expr → Demand → tree.Argument
expr_view constants = fold-Expr tree.Call (Demand → tree.Argument) tree.Filter tree.Segment tree.Selector call_step (expr_step constants) (filter_step constants) segment_step selector_step

abbrev pub segment_view : Constants → Segment → tree.Segment
segment_view constants = fold-Segment tree.Call (Demand → tree.Argument) tree.Filter tree.Segment tree.Selector call_step (expr_step constants) (filter_step constants) segment_step selector_step

abbrev pub selector_view : Constants → Selector → tree.Selector
selector_view constants = fold-Selector tree.Call (Demand → tree.Argument) tree.Filter tree.Segment tree.Selector call_step (expr_step constants) (filter_step constants) segment_step selector_step

-- lists of parts, one after the other
abbrev pub segments_meant : Constants → List Segment → tree.Segments
segments_meant constants gs = segments_of (map (segment_view constants) gs)

abbrev pub selectors_meant : Constants → List Selector → tree.Selectors
selectors_meant constants ss = selectors_of (map (selector_view constants) ss)

abbrev pub filters_meant : Constants → List Filter → tree.Filters
filters_meant constants fs = filters_of (map (filter_view constants) fs)

-- the arguments of a custom function
abbrev pub arguments_meant : Constants → List Expr → tree.Arguments
arguments_meant constants args = arguments_of (map (λ a. expr_view constants a Values) args)

-- what each means, given the constants before it
abbrev pub constant_view : Constants → Constant → ConstantPart
constant_view constants (constant.Nodes gs w n) = nodes w (segments_meant constants gs.items)
constant_view constants (constant.Answer c) = call_result (call_view constants c)
constant_view constants (constant.Comparison op a b) = compared (tree.compare (operator_view op) (expr_view constants a Single) (expr_view constants b Single))

abbrev pub kept_from : Constants → List Constant → Constants
kept_from constants [] = constants
kept_from constants (e ∷ es) = kept_from (constants ++ constant_view constants e ∷ []) es

abbrev pub constants_view : List Constant → Constants
constants_view es = kept_from [] es

-- each means the same, given all constants
abbrev pub IsStable : List Constant → Type 0
IsStable es = map (constant_view (constants_view es)) es ≡ constants_view es

pub IsStable-prop : (es : List Constant) → IsProp (IsStable es)
IsStable-prop es = Constants-set (map (constant_view (constants_view es)) es) (constants_view es)

-- none has an `@`
abbrev pub IsRooted : List Constant → Type 0
IsRooted es = AreRooted (constants_view es)

pub IsRooted-prop : (es : List Constant) → IsProp (IsRooted es)
IsRooted-prop es = Coded-set coded_bool (list_all part_is_rooted (constants_view es)) true
