-- A tree as a text (RFC 9535, 2.1 to 2.5): names and strings between `'`, each selector in brackets, no blanks.
use Rattle.std.specs.Prelude.{ℕ, ℤ, Bool, List, [], ◌++◌, codes, Option, Some, None, if◌then◌else◌}
use Rattle.std.specs.Fmt.{signed_decimal}
use Rattle.jsonpath_parser.specs.Normal.{name_chars}
use Rattle.jsonpath_parser.specs.tree.Shown.{not_shown, operator_shown}
use Rattle.jsonpath_parser.specs.tree.Syntax.{Literal, number, string, bool, null, Selector, name, wildcard, index, slice, filter, Selectors, no_selectors, selector, Segment, one, several, descendant, Segments, no_segments, segment, Query, Filter, or, and, Filters, no_filters, filter_then, group, test, compare, Test, relative, absolute, call, Call, custom_call, length_call, value_call, count_call, search_call, match_call, Argument, literal_argument, test_argument, filter_argument, Arguments, no_arguments, argument}

-- a string as a Normalized Path quotes a name (2.7)
abbrev pub string_text : List ℕ → List ℕ
string_text s = codes "'" ++ (name_chars s ++ codes "'")

abbrev pub bound_text : Option ℤ → List ℕ
bound_text None = []
bound_text (Some i) = signed_decimal i

abbrev pub slice_step_text : Option ℤ → List ℕ
slice_step_text None = []
slice_step_text (Some i) = codes ":" ++ signed_decimal i

abbrev pub slice_text : Option ℤ → Option ℤ → Option ℤ → List ℕ
slice_text start end step = bound_text start ++ (codes ":" ++ (bound_text end ++ slice_step_text step))

abbrev pub bool_text : Bool → List ℕ
bool_text b = if b then codes "true" else codes "false"

-- a number without a value has none
abbrev pub literal_text : Literal → List ℕ
literal_text (number None) = []
literal_text (number (Some v)) = signed_decimal v
literal_text (string s) = string_text s
literal_text (bool b) = bool_text b
literal_text null = codes "null"

abbrev mutual
  pub segments_text : Segments → List ℕ
  segments_text no_segments = []
  segments_text (segment g gs) = segment_text g ++ segments_text gs

  pub segment_text : Segment → List ℕ
  segment_text (one s) = codes "[" ++ (selector_text s ++ codes "]")
  segment_text (several ss) = codes "[" ++ (selectors_text [] ss ++ codes "]")
  segment_text (descendant g) = codes ".." ++ segment_text g

  pub selector_text : Selector → List ℕ
  selector_text (name n) = string_text n
  selector_text wildcard = codes "*"
  selector_text (index i) = signed_decimal i
  selector_text (slice start end step) = slice_text start end step
  selector_text (filter f) = codes "?" ++ filter_text f

  -- the first behind this text, each other behind a comma
  pub selectors_text : List ℕ → Selectors → List ℕ
  selectors_text before no_selectors = []
  selectors_text before (selector s ss) = before ++ (selector_text s ++ selectors_text (codes ",") ss)

  pub filter_text : Filter → List ℕ
  filter_text (or fs) = filters_text (codes "||") [] fs
  filter_text (and fs) = filters_text (codes "&&") [] fs
  filter_text (group negated f) = not_shown negated ++ (codes "(" ++ (filter_text f ++ codes ")"))
  filter_text (test negated t) = not_shown negated ++ test_text t
  filter_text (compare op left right) = argument_text left ++ (operator_shown op ++ argument_text right)

  -- the first behind a text, each other behind the operator
  pub filters_text : List ℕ → List ℕ → Filters → List ℕ
  filters_text between before no_filters = []
  filters_text between before (filter_then f fs) = before ++ (filter_text f ++ filters_text between between fs)

  pub test_text : Test → List ℕ
  test_text (relative gs) = codes "@" ++ segments_text gs
  test_text (absolute gs) = codes "$" ++ segments_text gs
  test_text (call c) = call_text c

  pub call_text : Call → List ℕ
  call_text (custom_call n xs) = n ++ (codes "(" ++ (arguments_text [] xs ++ codes ")"))
  call_text (length_call x) = codes "length(" ++ (argument_text x ++ codes ")")
  call_text (value_call x) = codes "value(" ++ (argument_text x ++ codes ")")
  call_text (count_call x) = codes "count(" ++ (argument_text x ++ codes ")")
  call_text (search_call x y) = codes "search(" ++ (argument_text x ++ (codes "," ++ (argument_text y ++ codes ")")))
  call_text (match_call x y) = codes "match(" ++ (argument_text x ++ (codes "," ++ (argument_text y ++ codes ")")))

  pub argument_text : Argument → List ℕ
  argument_text (literal_argument l) = literal_text l
  argument_text (test_argument t) = test_text t
  argument_text (filter_argument f) = filter_text f

  -- the first behind this text, each other behind a comma
  pub arguments_text : List ℕ → Arguments → List ℕ
  arguments_text before no_arguments = []
  arguments_text before (argument x xs) = before ++ (argument_text x ++ arguments_text (codes ",") xs)

-- what stands in the brackets of a step
abbrev pub bare_text : Segment → List ℕ
bare_text (one s) = selector_text s
bare_text _ = []

-- `$` and the segments
abbrev pub query_text : Query → List ℕ
query_text gs = codes "$" ++ segments_text gs
