-- The view of a tree, one equation for each variant.
use Rattle.std.proofs.Common.{◌≡◌, ℤ, Option, Bool, Box, Vec, String, Global, string_bytes, rules}
use Rattle.jsonpath_parser.specs.tree.Syntax as tree
use Rattle.jsonpath_parser.specs.Prelude.{argument_view, arguments_view, atom_view, call_view, Comparable, comparable_view, Comparison, comparison_view, filter_view, FilterAtom, filters_view, FnArg, JpQuery, literal_view, query_view, segment_view, segments_view, selector_view, selectors_view, singular_view, SingularQuery, test_view, TestFunction, the_lemmas}
use Rattle.jsonpath_parser.specs.declared.tree.model.Literal.{Literal}
use Rattle.jsonpath_parser.specs.declared.tree.model.Comparable
use Rattle.jsonpath_parser.specs.declared.tree.model.Filter
use Rattle.jsonpath_parser.specs.declared.tree.model.Filter.{Filter}
use Rattle.jsonpath_parser.specs.declared.tree.model.FilterAtom
use Rattle.jsonpath_parser.specs.declared.tree.model.FnArg
use Rattle.jsonpath_parser.specs.declared.tree.model.Segment
use Rattle.jsonpath_parser.specs.declared.tree.model.Segment.{Segment}
use Rattle.jsonpath_parser.specs.declared.tree.model.Selector
use Rattle.jsonpath_parser.specs.declared.tree.model.Selector.{Selector}
use Rattle.jsonpath_parser.specs.declared.tree.model.Test
use Rattle.jsonpath_parser.specs.declared.tree.model.Test.{Test}
use Rattle.jsonpath_parser.specs.declared.tree.model.TestFunction

pub comparable_view-Literal : (l : Literal) → comparable_view (Comparable.Literal l) ≡ tree.literal_argument (literal_view l)
comparable_view-Literal l = search (rules, the_lemmas)

pub comparable_view-Function : (f : TestFunction) → comparable_view (Comparable.Function f) ≡ tree.test_argument (tree.call (call_view f))
comparable_view-Function f = search (rules, the_lemmas)

pub comparable_view-SingularQuery : (q : SingularQuery) → comparable_view (Comparable.SingularQuery q) ≡ tree.test_argument (singular_view q)
comparable_view-SingularQuery q = search (rules, the_lemmas)

pub comparison_view-Eq : (a b : Comparable) → comparison_view (Comparison.Eq a b) ≡ tree.compare tree.equal (comparable_view a) (comparable_view b)
comparison_view-Eq a b = search (rules, the_lemmas)

pub comparison_view-Ne : (a b : Comparable) → comparison_view (Comparison.Ne a b) ≡ tree.compare tree.not_equal (comparable_view a) (comparable_view b)
comparison_view-Ne a b = search (rules, the_lemmas)

pub comparison_view-Gt : (a b : Comparable) → comparison_view (Comparison.Gt a b) ≡ tree.compare tree.greater (comparable_view a) (comparable_view b)
comparison_view-Gt a b = search (rules, the_lemmas)

pub comparison_view-Gte : (a b : Comparable) → comparison_view (Comparison.Gte a b) ≡ tree.compare tree.greater_or_equal (comparable_view a) (comparable_view b)
comparison_view-Gte a b = search (rules, the_lemmas)

pub comparison_view-Lt : (a b : Comparable) → comparison_view (Comparison.Lt a b) ≡ tree.compare tree.less (comparable_view a) (comparable_view b)
comparison_view-Lt a b = search (rules, the_lemmas)

pub comparison_view-Lte : (a b : Comparable) → comparison_view (Comparison.Lte a b) ≡ tree.compare tree.less_or_equal (comparable_view a) (comparable_view b)
comparison_view-Lte a b = search (rules, the_lemmas)

pub filter_view-Or : (v : Vec Filter Global) → filter_view (Filter.Or v) ≡ tree.or (filters_view v)
filter_view-Or v = search (rules, the_lemmas)

pub filter_view-And : (v : Vec Filter Global) → filter_view (Filter.And v) ≡ tree.and (filters_view v)
filter_view-And v = search (rules, the_lemmas)

pub filter_view-Atom : (a : FilterAtom) → filter_view (Filter.Atom a) ≡ atom_view a
filter_view-Atom a = search (rules, the_lemmas)

pub atom_view-Filter : (e : Box Filter Global) (b : Bool) → atom_view (FilterAtom.Filter e b) ≡ tree.group b (filter_view e.value)
atom_view-Filter e b = search (rules, the_lemmas)

pub atom_view-Test : (e : Box Test Global) (b : Bool) → atom_view (FilterAtom.Test e b) ≡ tree.Filter.test b (test_view e.value)
atom_view-Test e b = search (rules, the_lemmas)

pub atom_view-Comparison : (c : Box Comparison Global) → atom_view (FilterAtom.Comparison c) ≡ comparison_view c.value
atom_view-Comparison c = search (rules, the_lemmas)

pub argument_view-Literal : (l : Literal) → argument_view (FnArg.Literal l) ≡ tree.literal_argument (literal_view l)
argument_view-Literal l = search (rules, the_lemmas)

pub argument_view-Test : (t : Box Test Global) → argument_view (FnArg.Test t) ≡ tree.test_argument (test_view t.value)
argument_view-Test t = search (rules, the_lemmas)

pub argument_view-Filter : (f : Filter) → argument_view (FnArg.Filter f) ≡ tree.filter_argument (filter_view f)
argument_view-Filter f = search (rules, the_lemmas)

pub segment_view-Descendant : (g : Box Segment Global) → segment_view (Segment.Descendant g) ≡ tree.descendant (segment_view g.value)
segment_view-Descendant g = search (rules, the_lemmas)

pub segment_view-Selector : (s : Selector) → segment_view (Segment.Selector s) ≡ tree.one (selector_view s)
segment_view-Selector s = search (rules, the_lemmas)

pub segment_view-Selectors : (v : Vec Selector Global) → segment_view (Segment.Selectors v) ≡ tree.several (selectors_view v)
segment_view-Selectors v = search (rules, the_lemmas)

pub selector_view-Name : (s : String Global) → selector_view (Selector.Name s) ≡ tree.name (string_bytes s)
selector_view-Name s = search (rules, the_lemmas)

pub selector_view-Wildcard : selector_view Selector.Wildcard ≡ tree.wildcard
selector_view-Wildcard = search (rules, the_lemmas)

pub selector_view-Index : (i : ℤ) → selector_view (Selector.Index i) ≡ tree.index i
selector_view-Index i = search (rules, the_lemmas)

pub selector_view-Slice : (start end step : Option ℤ) → selector_view (Selector.Slice start end step) ≡ tree.slice start end step
selector_view-Slice start end step = search (rules, the_lemmas)

pub selector_view-Filter : (f : Filter) → selector_view (Selector.Filter f) ≡ tree.filter (filter_view f)
selector_view-Filter f = search (rules, the_lemmas)

pub test_view-RelQuery : (v : Vec Segment Global) → test_view (Test.RelQuery v) ≡ tree.relative (segments_view v)
test_view-RelQuery v = search (rules, the_lemmas)

pub test_view-AbsQuery : (q : JpQuery) → test_view (Test.AbsQuery q) ≡ tree.absolute (query_view q)
test_view-AbsQuery q = search (rules, the_lemmas)

pub test_view-Function : (f : Box TestFunction Global) → test_view (Test.Function f) ≡ tree.call (call_view f.value)
test_view-Function f = search (rules, the_lemmas)

pub call_view-Custom : (s : String Global) (v : Vec FnArg Global) → call_view (TestFunction.Custom s v) ≡ tree.custom_call (string_bytes s) (arguments_view v)
call_view-Custom s v = search (rules, the_lemmas)

pub call_view-Length : (x : Box FnArg Global) → call_view (TestFunction.Length x) ≡ tree.length_call (argument_view x.value)
call_view-Length x = search (rules, the_lemmas)

pub call_view-Value : (x : FnArg) → call_view (TestFunction.Value x) ≡ tree.value_call (argument_view x)
call_view-Value x = search (rules, the_lemmas)

pub call_view-Count : (x : FnArg) → call_view (TestFunction.Count x) ≡ tree.count_call (argument_view x)
call_view-Count x = search (rules, the_lemmas)

pub call_view-Search : (x y : FnArg) → call_view (TestFunction.Search x y) ≡ tree.search_call (argument_view x) (argument_view y)
call_view-Search x y = search (rules, the_lemmas)

pub call_view-Match : (x y : FnArg) → call_view (TestFunction.Match x y) ≡ tree.match_call (argument_view x) (argument_view y)
call_view-Match x y = search (rules, the_lemmas)

pub query_view-segments : (q : JpQuery) → query_view q ≡ segments_view q.segments
query_view-segments q = search (rules, the_lemmas)

-- all of them
pub ruleset view_equations = (comparable_view-Literal, comparable_view-Function, comparable_view-SingularQuery, comparison_view-Eq, comparison_view-Ne, comparison_view-Gt, comparison_view-Gte, comparison_view-Lt, comparison_view-Lte, filter_view-Or, filter_view-And, filter_view-Atom, atom_view-Filter, atom_view-Test, atom_view-Comparison, argument_view-Literal, argument_view-Test, argument_view-Filter, segment_view-Descendant, segment_view-Selector, segment_view-Selectors, selector_view-Name, selector_view-Wildcard, selector_view-Index, selector_view-Slice, selector_view-Filter, test_view-RelQuery, test_view-AbsQuery, test_view-Function, call_view-Custom, call_view-Length, call_view-Value, call_view-Count, call_view-Search, call_view-Match, query_view-segments)
