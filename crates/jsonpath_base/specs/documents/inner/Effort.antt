-- The effort of a part of a query in a document of size r, for the measures of the two evaluators: what is evaluated at the root counts the root. The
-- evaluator of states counts no document, so r is 0.
use Rattle.std.specs.Prelude.{ℕ, ◌+◌, ◌*◌}
use Rattle.jsonpath_parser.specs.tree.Syntax as syntax
use Rattle.jsonpath_parser.specs.tree.Syntax.{Selector, Selectors, no_selectors, selector, Segment, one, several, descendant, Segments, no_segments, segment, Filter, or, and, Filters, no_filters, filter_then, group, test, compare, Test, relative, absolute, call, Call, custom_call, length_call, value_call, count_call, search_call, match_call, Argument, literal_argument, test_argument, filter_argument, Arguments, no_arguments, argument}

-- every part is less than the whole
abbrev mutual
  pub selector_effort : ℕ → Selector → ℕ
  selector_effort r (syntax.Selector.filter f) = filter_effort r f + 24
  selector_effort r _ = 12

  pub selectors_effort : ℕ → Selectors → ℕ
  selectors_effort r no_selectors = 0
  selectors_effort r (selector s ss) = selector_effort r s + selectors_effort r ss

  pub segment_effort : ℕ → Segment → ℕ
  segment_effort r (one s) = selector_effort r s + 2
  segment_effort r (several ss) = selectors_effort r ss + 4
  segment_effort r (descendant g) = segment_effort r g + 8

  pub segments_effort : ℕ → Segments → ℕ
  segments_effort r no_segments = 0
  segments_effort r (segment g gs) = segment_effort r g + segments_effort r gs

  pub filter_effort : ℕ → Filter → ℕ
  filter_effort r (or fs) = filters_effort r fs + 8
  filter_effort r (and fs) = filters_effort r fs + 8
  filter_effort r (group t f) = filter_effort r f + 8
  filter_effort r (test t q) = test_effort r q + 8
  filter_effort r (compare op a b) = argument_effort r a + argument_effort r b + 5 * r + 12

  pub filters_effort : ℕ → Filters → ℕ
  filters_effort r no_filters = 0
  filters_effort r (filter_then f fs) = filter_effort r f + filters_effort r fs

  pub test_effort : ℕ → Test → ℕ
  test_effort r (relative gs) = segments_effort r gs + 8
  test_effort r (absolute gs) = segments_effort r gs + 5 * r + 16
  test_effort r (call f) = call_effort r f + 5 * r + 12

  pub call_effort : ℕ → Call → ℕ
  call_effort r (custom_call name args) = arguments_effort r args + 8
  call_effort r (length_call a) = argument_effort r a + 8
  call_effort r (value_call a) = argument_effort r a + 8
  call_effort r (count_call a) = argument_effort r a + 8
  call_effort r (search_call a b) = argument_effort r a + argument_effort r b + 8
  call_effort r (match_call a b) = argument_effort r a + argument_effort r b + 8

  pub argument_effort : ℕ → Argument → ℕ
  argument_effort r (literal_argument l) = 1
  argument_effort r (test_argument t) = test_effort r t + 2
  argument_effort r (filter_argument f) = filter_effort r f + 8

  pub arguments_effort : ℕ → Arguments → ℕ
  arguments_effort r no_arguments = 0
  arguments_effort r (argument a rest) = argument_effort r a + arguments_effort r rest
