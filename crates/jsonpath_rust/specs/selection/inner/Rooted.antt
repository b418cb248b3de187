-- Parts of a query that depend on the root alone: each query from the current node in them is in a filter of theirs.
use Rattle.std.specs.Prelude.{◌≡◌, Bool, true, false, ◌&&◌}
use mathlib.Core.Path.{refl, sym, ◌∙◌, ap}
use Rattle.std.specs.Coded.{Coded-set, codes}
use mathlib.Core.HLevel.{collapsible→set}
use Rattle.jsonpath_parser.specs.tree.Syntax as syntax
use Rattle.jsonpath_parser.specs.tree.Syntax.{Filter, or, and, Filters, no_filters, filter_then, group, test, compare, Test, relative, absolute, call, Call, custom_call, length_call, value_call, count_call, search_call, match_call, Argument, literal_argument, test_argument, filter_argument, Arguments, no_arguments, argument, Query}

abbrev mutual
  pub filter_is_rooted : Filter → Bool
  filter_is_rooted (or fs) = filters_are_rooted fs
  filter_is_rooted (and fs) = filters_are_rooted fs
  filter_is_rooted (group t f) = filter_is_rooted f
  filter_is_rooted (test t q) = test_is_rooted q
  filter_is_rooted (compare op a b) = argument_is_rooted a && argument_is_rooted b

  pub filters_are_rooted : Filters → Bool
  filters_are_rooted no_filters = true
  filters_are_rooted (filter_then f fs) = filter_is_rooted f && filters_are_rooted fs

  pub test_is_rooted : Test → Bool
  test_is_rooted (relative gs) = false
  test_is_rooted (absolute gs) = true
  test_is_rooted (call f) = call_is_rooted f

  pub call_is_rooted : Call → Bool
  call_is_rooted (custom_call name args) = arguments_are_rooted args
  call_is_rooted (length_call a) = argument_is_rooted a
  call_is_rooted (value_call a) = argument_is_rooted a
  call_is_rooted (count_call a) = argument_is_rooted a
  call_is_rooted (search_call a b) = argument_is_rooted a && argument_is_rooted b
  call_is_rooted (match_call a b) = argument_is_rooted a && argument_is_rooted b

  pub argument_is_rooted : Argument → Bool
  argument_is_rooted (literal_argument l) = true
  argument_is_rooted (test_argument t) = test_is_rooted t
  argument_is_rooted (filter_argument f) = filter_is_rooted f

  pub arguments_are_rooted : Arguments → Bool
  arguments_are_rooted no_arguments = true
  arguments_are_rooted (argument a rest) = argument_is_rooted a && arguments_are_rooted rest

-- ---- these parts are data: there is one proof that two of them are the same

ruleset sets = (Coded-set, codes)

pub Query-set : IsSet Query
Query-set = syntax.Segments_set (hlevel sets) (hlevel sets) (hlevel sets) (hlevel sets) (hlevel sets) (hlevel sets)

-- what can be recovered from data is data
set_by : {A B : Type 0} (to : A → B) (from : B → A) → ((a : A) → from (to a) ≡ a) → IsSet B → IsSet A
set_by to from back Bs = collapsible→set (λ x y p. sym (back x) ∙ ap from (ap to p) ∙ back y) (λ x y p q. ap (λ (r : to x ≡ to y). sym (back x) ∙ ap from r ∙ back y) (Bs (to x) (to y) (ap to p) (ap to q)))

-- the query of all children for which the filter holds
abbrev filter_query : Filter → Query
filter_query f = syntax.segment (syntax.one (syntax.filter f)) syntax.no_segments

abbrev query_filter : Query → Filter
query_filter (syntax.segment (syntax.one (syntax.filter f)) syntax.no_segments) = f
query_filter _ = or no_filters

abbrev filter_call : Filter → Call
filter_call (test t (call c)) = c
filter_call _ = length_call (literal_argument syntax.null)

pub Call-set : IsSet Call
Call-set = set_by (λ c. filter_query (test true (call c))) (λ q. filter_call (query_filter q)) (λ c. refl) Query-set

pub Filter-set : IsSet Filter
Filter-set = set_by filter_query query_filter (λ f. refl) Query-set
