-- What `Display` writes of a query tree. It is meant to be looked at: in general it spells no query, or another one.
use Rattle.std.specs.Prelude.{ℤ, pos, ℕ, List, [], ◌∷◌, ◌++◌, Bool, Option, Some, None, codes, flat_map, unwrap_or, if◌then◌else◌}
use Rattle.std.specs.Fmt.{signed_decimal}
use Rattle.std.specs.List.{concat}
use Rattle.jsonpath_parser.specs.tree.Syntax as tree
use Rattle.jsonpath_parser.specs.tree.Syntax.{Literal, number, string, bool, null, Operator, equal, not_equal, greater, greater_or_equal, less, less_or_equal, Selector, name, wildcard, index, slice, filter, Selectors, no_selectors, selector, Segment, one, several, descendant, Segments, no_segments, segment, Filter, or, and, Filters, no_filters, filter_then, group, compare, Test, relative, absolute, call, Call, custom_call, length_call, value_call, count_call, search_call, match_call, Argument, literal_argument, test_argument, filter_argument, Arguments, no_arguments, argument, Query}

-- the texts, with this one between each two
abbrev pub joined : List ℕ → List (List ℕ) → List ℕ
joined between [] = []
joined between (x ∷ xs) = x ++ flat_map (λ y. between ++ y) xs

-- The number, and nothing for one without a value, which no tree of the code has; the string between `"`, with no
-- character escaped; `true` or `false`; `null`.
abbrev pub literal_shown : Literal → List ℕ
literal_shown (number None) = []
literal_shown (number (Some n)) = signed_decimal n
literal_shown (string s) = codes "\"" ++ (s ++ codes "\"")
literal_shown (bool b) = if b then codes "true" else codes "false"
literal_shown null = codes "null"

abbrev pub operator_shown : Operator → List ℕ
operator_shown equal = codes "=="
operator_shown not_equal = codes "!="
operator_shown greater = codes ">"
operator_shown greater_or_equal = codes ">="
operator_shown less = codes "<"
operator_shown less_or_equal = codes "<="

-- start, end and step with `:` between each two; for those that the slice has not stand 0, 0 and 1
abbrev pub slice_shown : Option ℤ → Option ℤ → Option ℤ → List ℕ
slice_shown start end step = signed_decimal (unwrap_or start (pos 0)) ++ (codes ":" ++ (signed_decimal (unwrap_or end (pos 0)) ++ (codes ":" ++ signed_decimal (unwrap_or step (pos 1)))))

-- `!` where the expression is turned round
abbrev pub not_shown : Bool → List ℕ
not_shown not = if not then codes "!" else []

abbrev mutual
  -- the bare name; `*`; the number; the slice; the filter between `[?` and `]`
  pub selector_shown : Selector → List ℕ
  selector_shown (name s) = s
  selector_shown wildcard = codes "*"
  selector_shown (index i) = signed_decimal i
  selector_shown (slice start end step) = slice_shown start end step
  selector_shown (filter f) = codes "[?" ++ (filter_shown f ++ codes "]")

  pub selectors_shown : Selectors → List (List ℕ)
  selectors_shown no_selectors = []
  selectors_shown (selector s ss) = selector_shown s ∷ selectors_shown ss

  -- the selector; the selectors one after another; `..` and the segment
  pub segment_shown : Segment → List ℕ
  segment_shown (one s) = selector_shown s
  segment_shown (several ss) = concat (selectors_shown ss)
  segment_shown (descendant g) = codes ".." ++ segment_shown g

  pub segments_shown : Segments → List (List ℕ)
  segments_shown no_segments = []
  segments_shown (segment g gs) = segment_shown g ∷ segments_shown gs

  -- the parts with the operator between each two; the filter, without parentheses, or the test, behind `!` where it is turned round; left, the
  -- operator and right of a comparison, with a blank between each two
  pub filter_shown : Filter → List ℕ
  filter_shown (or fs) = joined (codes " || ") (filters_shown fs)
  filter_shown (and fs) = joined (codes " && ") (filters_shown fs)
  filter_shown (group not f) = not_shown not ++ filter_shown f
  filter_shown (tree.Filter.test not t) = not_shown not ++ test_shown t
  filter_shown (compare op left right) = comparable_shown left ++ (codes " " ++ (operator_shown op ++ (codes " " ++ comparable_shown right)))

  pub filters_shown : Filters → List (List ℕ)
  filters_shown no_filters = []
  filters_shown (filter_then f fs) = filter_shown f ∷ filters_shown fs

  -- the literal; `@.` or `$.`, then the steps one after another; the call
  pub comparable_shown : Argument → List ℕ
  comparable_shown (literal_argument l) = literal_shown l
  comparable_shown (test_argument (relative gs)) = codes "@." ++ concat (segments_shown gs)
  comparable_shown (test_argument (absolute gs)) = codes "$." ++ concat (segments_shown gs)
  comparable_shown (test_argument (call c)) = call_shown c
  comparable_shown (filter_argument f) = filter_shown f

  -- the segments one after another, without `@`; the query; the call
  pub test_shown : Test → List ℕ
  test_shown (relative gs) = concat (segments_shown gs)
  test_shown (absolute gs) = codes "$" ++ concat (segments_shown gs)
  test_shown (call c) = call_shown c

  -- the name, and the arguments between `(` and `)`: two with `, ` between, those of a custom function one after another
  pub call_shown : Call → List ℕ
  call_shown (custom_call n xs) = n ++ (codes "(" ++ (concat (arguments_shown xs) ++ codes ")"))
  call_shown (length_call x) = codes "length(" ++ (argument_shown x ++ codes ")")
  call_shown (value_call x) = codes "value(" ++ (argument_shown x ++ codes ")")
  call_shown (count_call x) = codes "count(" ++ (argument_shown x ++ codes ")")
  call_shown (search_call x y) = codes "search(" ++ (argument_shown x ++ (codes ", " ++ (argument_shown y ++ codes ")")))
  call_shown (match_call x y) = codes "match(" ++ (argument_shown x ++ (codes ", " ++ (argument_shown y ++ codes ")")))

  pub argument_shown : Argument → List ℕ
  argument_shown (literal_argument l) = literal_shown l
  argument_shown (test_argument t) = test_shown t
  argument_shown (filter_argument f) = filter_shown f

  pub arguments_shown : Arguments → List (List ℕ)
  arguments_shown no_arguments = []
  arguments_shown (argument x xs) = argument_shown x ∷ arguments_shown xs

-- a singular query as a side of a comparison
abbrev pub singular_shown : Test → List ℕ
singular_shown t = comparable_shown (test_argument t)

-- `$`, then the segments one after another
abbrev pub query_shown : Query → List ℕ
query_shown gs = codes "$" ++ concat (segments_shown gs)
