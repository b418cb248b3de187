-- The view of a plan, one equation for each variant.
use Rattle.std.proofs.lemmas.Simd.{map-map}
use Rattle.std.proofs.Common.{◌≡◌, ◌∙◌, ap, ℕ, ℤ, map, Option, Bool, Box, Vec, String, Global, string_bytes, rules}
use Rattle.jsonpath_parser.specs.tree.Syntax as tree
use Rattle.jsonpath_base.specs.Prelude.Documents.{arguments_of, filters_of, literal_view, Operator, operator_view, selectors_of, SingularQuerySegment, step_view}
use Rattle.jsonpath_rust.specs.Prelude.Selection.{Exists, argument_at, arguments_meant, asked, Call, call_view, children_argument, Constants, Count, Filter, filter_view, Single, Expr, expr_view, Segment, segment_view, segments_meant, Selector, selector_view, steps_query, the_lemmas, truth_of, Values, Demand}
use Rattle.jsonpath_parser.specs.declared.tree.model.Literal.{Literal}
use Rattle.jsonpath_rust.specs.declared.selection.plan.Call
use Rattle.jsonpath_rust.specs.declared.selection.plan.Filter
use Rattle.jsonpath_rust.specs.declared.selection.plan.Expr
use Rattle.jsonpath_rust.specs.declared.selection.plan.Segment
use Rattle.jsonpath_rust.specs.declared.selection.plan.Selector

pub call_view-Custom : (constants : Constants) (s : String Global) (v : Vec Expr Global) → call_view constants (Call.Custom s v) ≡ tree.custom_call (string_bytes s) (arguments_of (map (λ x. x Values) (map (expr_view constants) v.items)))
call_view-Custom constants s v = search (rules, the_lemmas)

pub called : (constants : Constants) (s : String Global) (v : Vec Expr Global) → call_view constants (Call.Custom s v) ≡ tree.custom_call (string_bytes s) (arguments_meant constants v.items)
called constants s v = call_view-Custom constants s v ∙ ap (λ xs. tree.custom_call (string_bytes s) (arguments_of xs)) (map-map (λ x. x Values) (expr_view constants) v.items)

pub call_view-Length : (constants : Constants) (x : Expr) → call_view constants (Call.Length x) ≡ tree.length_call (expr_view constants x Single)
call_view-Length constants x = search (rules, the_lemmas)

pub call_view-Value : (constants : Constants) (x : Expr) → call_view constants (Call.Value x) ≡ tree.value_call (expr_view constants x Single)
call_view-Value constants x = search (rules, the_lemmas)

pub call_view-Count : (constants : Constants) (x : Expr) → call_view constants (Call.Count x) ≡ tree.count_call (expr_view constants x Count)
call_view-Count constants x = search (rules, the_lemmas)

pub call_view-Search : (constants : Constants) (x y : Expr) → call_view constants (Call.Search x y) ≡ tree.search_call (expr_view constants x Single) (expr_view constants y Single)
call_view-Search constants x y = search (rules, the_lemmas)

pub call_view-Match : (constants : Constants) (x y : Expr) → call_view constants (Call.Match x y) ≡ tree.match_call (expr_view constants x Single) (expr_view constants y Single)
call_view-Match constants x y = search (rules, the_lemmas)

pub filter_view-Or : (constants : Constants) (v : Vec Filter Global) → filter_view constants (Filter.Or v) ≡ tree.or (filters_of (map (filter_view constants) v.items))
filter_view-Or constants v = search (rules, the_lemmas)

pub filter_view-And : (constants : Constants) (v : Vec Filter Global) → filter_view constants (Filter.And v) ≡ tree.and (filters_of (map (filter_view constants) v.items))
filter_view-And constants v = search (rules, the_lemmas)

pub filter_view-Group : (constants : Constants) (f : Box Filter Global) (b : Bool) → filter_view constants (Filter.Group f b) ≡ tree.group b (filter_view constants f.value)
filter_view-Group constants f b = search (rules, the_lemmas)

pub filter_view-Test : (constants : Constants) (p : Expr) (b : Bool) → filter_view constants (Filter.Test p b) ≡ asked b (expr_view constants p Exists)
filter_view-Test constants p b = search (rules, the_lemmas)

pub filter_view-Comparison : (constants : Constants) (op : Operator) (x y : Expr) → filter_view constants (Filter.Comparison op x y) ≡ tree.compare (operator_view op) (expr_view constants x Single) (expr_view constants y Single)
filter_view-Comparison constants op x y = search (rules, the_lemmas)

pub filter_view-Constant : (constants : Constants) (n : ℕ) → filter_view constants (Filter.Constant n) ≡ truth_of (argument_at constants Exists n)
filter_view-Constant constants n = search (rules, the_lemmas)

pub expr_view-Literal : (constants : Constants) (l : Literal) (w : Demand) → expr_view constants (Expr.Literal l) w ≡ tree.literal_argument (literal_view l)
expr_view-Literal constants l w = search (rules, the_lemmas)

pub expr_view-Pattern : (constants : Constants) (s : String Global) (n : ℕ) (w : Demand) → expr_view constants (Expr.Pattern s n) w ≡ tree.literal_argument (tree.string (string_bytes s))
expr_view-Pattern constants s n w = search (rules, the_lemmas)

pub expr_view-Lookup : (constants : Constants) (v : Vec SingularQuerySegment Global) (w : Demand) → expr_view constants (Expr.Lookup v) w ≡ tree.test_argument (tree.relative (steps_query (map step_view v.items)))
expr_view-Lookup constants v w = search (rules, the_lemmas)

pub expr_view-Children : (constants : Constants) (v : Vec SingularQuerySegment Global) (w : Demand) → expr_view constants (Expr.Children v) w ≡ children_argument w (map step_view v.items)
expr_view-Children constants v w = search (rules, the_lemmas)

pub expr_view-Walk : (constants : Constants) (v : Vec Segment Global) (w : Demand) → expr_view constants (Expr.Walk v) w ≡ tree.test_argument (tree.relative (segments_meant constants v.items))
expr_view-Walk constants v w = search (rules, the_lemmas)

pub expr_view-Call : (constants : Constants) (c : Box Call Global) (w : Demand) → expr_view constants (Expr.Call c) w ≡ tree.test_argument (tree.call (call_view constants c.value))
expr_view-Call constants c w = search (rules, the_lemmas)

pub expr_view-Filter : (constants : Constants) (f : Box Filter Global) (w : Demand) → expr_view constants (Expr.Filter f) w ≡ tree.filter_argument (filter_view constants f.value)
expr_view-Filter constants f w = search (rules, the_lemmas)

pub expr_view-Constant : (constants : Constants) (n : ℕ) (w : Demand) → expr_view constants (Expr.Constant n) w ≡ argument_at constants w n
expr_view-Constant constants n w = search (rules, the_lemmas)

pub segment_view-Descendant : (constants : Constants) (g : Box Segment Global) → segment_view constants (Segment.Descendant g) ≡ tree.descendant (segment_view constants g.value)
segment_view-Descendant constants g = search (rules, the_lemmas)

pub segment_view-Selector : (constants : Constants) (s : Selector) → segment_view constants (Segment.Selector s) ≡ tree.one (selector_view constants s)
segment_view-Selector constants s = search (rules, the_lemmas)

pub segment_view-Selectors : (constants : Constants) (v : Vec Selector Global) → segment_view constants (Segment.Selectors v) ≡ tree.several (selectors_of (map (selector_view constants) v.items))
segment_view-Selectors constants v = search (rules, the_lemmas)

pub selector_view-Name : (constants : Constants) (s : String Global) → selector_view constants (Selector.Name s) ≡ tree.name (string_bytes s)
selector_view-Name constants s = search (rules, the_lemmas)

pub selector_view-Wildcard : (constants : Constants) → selector_view constants Selector.Wildcard ≡ tree.wildcard
selector_view-Wildcard constants = search (rules, the_lemmas)

pub selector_view-Index : (constants : Constants) (i : ℤ) → selector_view constants (Selector.Index i) ≡ tree.index i
selector_view-Index constants i = search (rules, the_lemmas)

pub selector_view-Slice : (constants : Constants) (start end step : Option ℤ) → selector_view constants (Selector.Slice start end step) ≡ tree.slice start end step
selector_view-Slice constants start end step = search (rules, the_lemmas)

pub selector_view-Filter : (constants : Constants) (f : Filter) → selector_view constants (Selector.Filter f) ≡ tree.filter (filter_view constants f)
selector_view-Filter constants f = search (rules, the_lemmas)

-- all of them
pub ruleset plan_equations = (call_view-Custom, call_view-Length, call_view-Value, call_view-Count, call_view-Search, call_view-Match, filter_view-Or, filter_view-And, filter_view-Group, filter_view-Test, filter_view-Comparison, filter_view-Constant, expr_view-Literal, expr_view-Pattern, expr_view-Lookup, expr_view-Children, expr_view-Walk, expr_view-Call, expr_view-Filter, expr_view-Constant, segment_view-Descendant, segment_view-Selector, segment_view-Selectors, selector_view-Name, selector_view-Wildcard, selector_view-Index, selector_view-Slice, selector_view-Filter, called)
