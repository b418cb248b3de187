-- The query tree that the code's values stand for: a fold, one step for each type and one case for each variant.
use Rattle.std.specs.Prelude.{List, map, Some, Vec, string_bytes}
use Rattle.std.specs.declared.alloc.Global.{Global}
use Rattle.jsonpath_parser.specs.tree.Syntax as tree
use Rattle.jsonpath_parser.specs.declared.tree.model.Comparable.{Comparable, Comparable-F, fold-Comparable}
use Rattle.jsonpath_parser.specs.declared.tree.model.Comparison.{Comparison, Comparison-F, fold-Comparison}
use Rattle.jsonpath_parser.specs.declared.tree.model.Filter.{Filter, Filter-F, fold-Filter}
use Rattle.jsonpath_parser.specs.declared.tree.model.FilterAtom.{FilterAtom, FilterAtom-F, fold-FilterAtom}
use Rattle.jsonpath_parser.specs.declared.tree.model.FnArg.{FnArg, FnArg-F, fold-FnArg}
use Rattle.jsonpath_parser.specs.declared.tree.model.JpQuery.{JpQuery, JpQuery-F, fold-JpQuery}
use Rattle.jsonpath_parser.specs.declared.tree.model.Literal.{Literal}
use Rattle.jsonpath_parser.specs.declared.tree.model.Literal.TheVariants as literal
use Rattle.jsonpath_parser.specs.declared.tree.model.Segment.{Segment, Segment-F, fold-Segment}
use Rattle.jsonpath_parser.specs.declared.tree.model.Selector.{Selector, Selector-F, fold-Selector}
use Rattle.jsonpath_parser.specs.declared.tree.model.SingularQuery.{SingularQuery}
use Rattle.jsonpath_parser.specs.declared.tree.model.SingularQuery.TheVariants.{Current, Root}
use Rattle.jsonpath_parser.specs.declared.tree.model.SingularQuerySegment.{SingularQuerySegment}
use Rattle.jsonpath_parser.specs.declared.tree.model.SingularQuerySegment.TheVariants.{Index, Name}
use Rattle.jsonpath_parser.specs.declared.tree.model.Test.{Test, Test-F, fold-Test}
use Rattle.jsonpath_parser.specs.declared.tree.model.TestFunction.{TestFunction, TestFunction-F, fold-TestFunction}
use Rattle.jsonpath_parser.specs.declared.tree.model.operator.Operator.{Operator}
use Rattle.jsonpath_parser.specs.declared.tree.model.operator.Operator.TheVariants.{Equal, NotEqual, Greater, GreaterOrEqual, Less, LessOrEqual}

abbrev pub literal_view : Literal → tree.Literal
literal_view (literal.Int n) = tree.number (Some n)
literal_view (literal.String s) = tree.string (string_bytes s)
literal_view (literal.Bool b) = tree.bool b
literal_view literal.Null = tree.null

abbrev pub operator_view : Operator → tree.Operator
operator_view Equal = tree.equal
operator_view NotEqual = tree.not_equal
operator_view Greater = tree.greater
operator_view GreaterOrEqual = tree.greater_or_equal
operator_view Less = tree.less
operator_view LessOrEqual = tree.less_or_equal

abbrev pub segments_of : List tree.Segment → tree.Segments
segments_of xs = tree.list_of tree.segment tree.no_segments xs

abbrev pub selectors_of : List tree.Selector → tree.Selectors
selectors_of xs = tree.list_of tree.selector tree.no_selectors xs

abbrev pub filters_of : List tree.Filter → tree.Filters
filters_of xs = tree.list_of tree.filter_then tree.no_filters xs

abbrev pub arguments_of : List tree.Argument → tree.Arguments
arguments_of xs = tree.list_of tree.argument tree.no_arguments xs

abbrev pub step_view : SingularQuerySegment → tree.Segment
step_view (Index i) = tree.one (tree.index i)
step_view (Name s) = tree.one (tree.name (string_bytes s))

abbrev pub steps_view : Vec SingularQuerySegment Global → tree.Segments
steps_view v = segments_of (map step_view v.items)

abbrev pub singular_view : SingularQuery → tree.Test
singular_view (Current v) = tree.relative (steps_view v)
singular_view (Root v) = tree.absolute (steps_view v)

-- One layer of each type, with its parts seen already.

abbrev pub Layer : (Type 0 → Type 0 → Type 0 → Type 0 → Type 0 → Type 0 → Type 0 → Type 0 → Type 0 → Type 0 → Type 0) → Type 0
Layer F = F tree.Argument tree.Filter tree.Filter tree.Filter tree.Argument tree.Segment tree.Selector tree.Test tree.Call tree.Query

abbrev pub comparable_step : Layer Comparable-F → tree.Argument
comparable_step (Comparable-F.«Comparable::Literal» l) = tree.literal_argument (literal_view l)
comparable_step (Comparable-F.«Comparable::Function» f) = tree.test_argument (tree.call f)
comparable_step (Comparable-F.SingularQuery q) = tree.test_argument (singular_view q)

abbrev pub comparison_step : Layer Comparison-F → tree.Filter
comparison_step (Comparison-F.Eq a b) = tree.compare tree.equal a b
comparison_step (Comparison-F.Ne a b) = tree.compare tree.not_equal a b
comparison_step (Comparison-F.Gt a b) = tree.compare tree.greater a b
comparison_step (Comparison-F.Gte a b) = tree.compare tree.greater_or_equal a b
comparison_step (Comparison-F.Lt a b) = tree.compare tree.less a b
comparison_step (Comparison-F.Lte a b) = tree.compare tree.less_or_equal a b

abbrev pub filter_step : Layer Filter-F → tree.Filter
filter_step (Filter-F.Or v) = tree.or (filters_of v.items)
filter_step (Filter-F.And v) = tree.and (filters_of v.items)
filter_step (Filter-F.Atom a) = a

abbrev pub atom_step : Layer FilterAtom-F → tree.Filter
atom_step (FilterAtom-F.«FilterAtom::Filter» expr not) = tree.group not expr.value
atom_step (FilterAtom-F.«FilterAtom::Test» expr not) = tree.test not expr.value
atom_step (FilterAtom-F.Comparison c) = c.value

abbrev pub argument_step : Layer FnArg-F → tree.Argument
argument_step (FnArg-F.«FnArg::Literal» l) = tree.literal_argument (literal_view l)
argument_step (FnArg-F.«FnArg::Test» t) = tree.test_argument t.value
argument_step (FnArg-F.«FnArg::Filter» f) = tree.filter_argument f

abbrev pub segment_step : Layer Segment-F → tree.Segment
segment_step (Segment-F.Descendant s) = tree.descendant s.value
segment_step (Segment-F.Selector s) = tree.one s
segment_step (Segment-F.Selectors v) = tree.several (selectors_of v.items)

abbrev pub selector_step : Layer Selector-F → tree.Selector
selector_step (Selector-F.Name s) = tree.name (string_bytes s)
selector_step Selector-F.Wildcard = tree.wildcard
selector_step (Selector-F.Index i) = tree.index i
selector_step (Selector-F.Slice start end step) = tree.slice start end step
selector_step (Selector-F.«Selector::Filter» f) = tree.filter f

abbrev pub test_step : Layer Test-F → tree.Test
test_step (Test-F.RelQuery v) = tree.relative (segments_of v.items)
test_step (Test-F.AbsQuery q) = tree.absolute q
test_step (Test-F.«Test::Function» f) = tree.call f.value

abbrev pub call_step : Layer TestFunction-F → tree.Call
call_step (TestFunction-F.Custom s v) = tree.custom_call (string_bytes s) (arguments_of v.items)
call_step (TestFunction-F.Length a) = tree.length_call a.value
call_step (TestFunction-F.Value a) = tree.value_call a
call_step (TestFunction-F.Count a) = tree.count_call a
call_step (TestFunction-F.Search a b) = tree.search_call a b
call_step (TestFunction-F.Match a b) = tree.match_call a b

abbrev pub query_step : Layer JpQuery-F → tree.Query
query_step q = segments_of q.segments.items

-- The folds. The steps stand in the order of the types: enums by alphabet, then structs.

abbrev pub comparable_view : Comparable → tree.Argument
comparable_view = fold-Comparable tree.Argument tree.Filter tree.Filter tree.Filter tree.Argument tree.Segment tree.Selector tree.Test tree.Call tree.Query comparable_step comparison_step filter_step atom_step argument_step segment_step selector_step test_step call_step query_step

abbrev pub comparison_view : Comparison → tree.Filter
comparison_view = fold-Comparison tree.Argument tree.Filter tree.Filter tree.Filter tree.Argument tree.Segment tree.Selector tree.Test tree.Call tree.Query comparable_step comparison_step filter_step atom_step argument_step segment_step selector_step test_step call_step query_step

abbrev pub filter_view : Filter → tree.Filter
filter_view = fold-Filter tree.Argument tree.Filter tree.Filter tree.Filter tree.Argument tree.Segment tree.Selector tree.Test tree.Call tree.Query comparable_step comparison_step filter_step atom_step argument_step segment_step selector_step test_step call_step query_step

abbrev pub atom_view : FilterAtom → tree.Filter
atom_view = fold-FilterAtom tree.Argument tree.Filter tree.Filter tree.Filter tree.Argument tree.Segment tree.Selector tree.Test tree.Call tree.Query comparable_step comparison_step filter_step atom_step argument_step segment_step selector_step test_step call_step query_step

abbrev pub argument_view : FnArg → tree.Argument
argument_view = fold-FnArg tree.Argument tree.Filter tree.Filter tree.Filter tree.Argument tree.Segment tree.Selector tree.Test tree.Call tree.Query comparable_step comparison_step filter_step atom_step argument_step segment_step selector_step test_step call_step query_step

abbrev pub segment_view : Segment → tree.Segment
segment_view = fold-Segment tree.Argument tree.Filter tree.Filter tree.Filter tree.Argument tree.Segment tree.Selector tree.Test tree.Call tree.Query comparable_step comparison_step filter_step atom_step argument_step segment_step selector_step test_step call_step query_step

abbrev pub selector_view : Selector → tree.Selector
selector_view = fold-Selector tree.Argument tree.Filter tree.Filter tree.Filter tree.Argument tree.Segment tree.Selector tree.Test tree.Call tree.Query comparable_step comparison_step filter_step atom_step argument_step segment_step selector_step test_step call_step query_step

abbrev pub test_view : Test → tree.Test
test_view = fold-Test tree.Argument tree.Filter tree.Filter tree.Filter tree.Argument tree.Segment tree.Selector tree.Test tree.Call tree.Query comparable_step comparison_step filter_step atom_step argument_step segment_step selector_step test_step call_step query_step

abbrev pub call_view : TestFunction → tree.Call
call_view = fold-TestFunction tree.Argument tree.Filter tree.Filter tree.Filter tree.Argument tree.Segment tree.Selector tree.Test tree.Call tree.Query comparable_step comparison_step filter_step atom_step argument_step segment_step selector_step test_step call_step query_step

abbrev pub query_view : JpQuery → tree.Query
query_view = fold-JpQuery tree.Argument tree.Filter tree.Filter tree.Filter tree.Argument tree.Segment tree.Selector tree.Test tree.Call tree.Query comparable_step comparison_step filter_step atom_step argument_step segment_step selector_step test_step call_step query_step

-- a list of parts

abbrev pub segments_view : Vec Segment Global → tree.Segments
segments_view v = segments_of (map segment_view v.items)

abbrev pub selectors_view : Vec Selector Global → tree.Selectors
selectors_view v = selectors_of (map selector_view v.items)

abbrev pub filters_view : Vec Filter Global → tree.Filters
filters_view v = filters_of (map filter_view v.items)

abbrev pub arguments_view : Vec FnArg Global → tree.Arguments
arguments_view v = arguments_of (map argument_view v.items)
