-- Which function takes which arguments, what it gives, and the calls of a query (RFC 9535, 2.4.1 to 2.4.3).
use Rattle.std.specs.Prelude.{◌≡◌, ℕ, Bool, true, false, ◌&&◌, ◌||◌, not, bytes_eq, codes, List, Option, Some, None, option_map, if◌then◌else◌}
use Rattle.jsonpath_parser.specs.tree.Syntax.{Selector, name, index, filter, Selectors, no_selectors, selector, Segment, one, several, descendant, Segments, no_segments, segment, Query, Filter, or, and, Filters, no_filters, filter_then, group, test, compare, Test, relative, absolute, call, Call, custom_call, length_call, value_call, count_call, search_call, match_call, Argument, literal_argument, test_argument, filter_argument, Arguments, no_arguments, argument}

-- `length`, `value` and `count` give a value, each other function a truth
abbrev pub gives_value : Call → Bool
gives_value (length_call x) = true
gives_value (value_call x) = true
gives_value (count_call x) = true
gives_value _ = false

-- a segment of one name or one index
abbrev pub is_step : Segment → Bool
is_step (one (name n)) = true
is_step (one (index i)) = true
is_step _ = false

-- the segments of a singular query: it selects at most one node (2.3.5.1)
abbrev pub is_singular : Segments → Bool
is_singular no_segments = true
is_singular (segment g gs) = is_step g && is_singular gs

-- a singular query
abbrev pub is_singular_test : Test → Bool
is_singular_test (relative gs) = is_singular gs
is_singular_test (absolute gs) = is_singular gs
is_singular_test (call c) = false

-- what may stand on a side of a comparison: a literal, a singular query or a call (2.3.5.1)
abbrev pub is_comparable : Argument → Bool
is_comparable (literal_argument l) = true
is_comparable (test_argument (relative gs)) = is_singular gs
is_comparable (test_argument (absolute gs)) = is_singular gs
is_comparable (test_argument (call c)) = true
is_comparable (filter_argument f) = false

-- what gives a value: a singular query, or a call that gives one
abbrev pub is_value_test : Test → Bool
is_value_test (relative gs) = is_singular gs
is_value_test (absolute gs) = is_singular gs
is_value_test (call c) = gives_value c

-- what gives nodes: a query
abbrev pub is_query_test : Test → Bool
is_query_test (call c) = false
is_query_test _ = true

-- what gives a truth, or is asked for existence
abbrev pub is_truth_test : Test → Bool
is_truth_test (call c) = not (gives_value c)
is_truth_test _ = true

-- a value, where a function wants one: a literal, a singular query, or a call that gives a value
abbrev pub is_value_argument : Argument → Bool
is_value_argument (literal_argument l) = true
is_value_argument (test_argument t) = is_value_test t
is_value_argument (filter_argument f) = false

-- the nodes of a query, where a function wants them
abbrev pub is_query_argument : Argument → Bool
is_query_argument (test_argument t) = is_query_test t
is_query_argument _ = false

-- the function takes these arguments
abbrev pub takes : Call → Bool
takes (custom_call n xs) = true
takes (length_call x) = is_value_argument x
takes (value_call x) = is_query_argument x
takes (count_call x) = is_query_argument x
takes (search_call x y) = is_value_argument x && is_value_argument y
takes (match_call x y) = is_value_argument x && is_value_argument y

-- What is asked of the parts of a query: something of each test that asks for a truth or for existence, of each side of a comparison, of each query
-- from the root in a filter, and of each call. `none` is what a part without any gives, and `both` joins what two parts give, in order.
pub record TreeFold (A : Type 0) : Type 0 where
  pub none : A
  pub both : A → A → A
  pub of_test : Test → A
  pub of_side : Argument → A
  pub of_root : A
  pub of_call : Call → A

module _ {A : Type 0} (asked : TreeFold A) where
  abbrev mutual
    pub over_segments : Segments → A
    over_segments no_segments = asked.none
    over_segments (segment g gs) = asked.both (over_segment g) (over_segments gs)

    pub over_segment : Segment → A
    over_segment (one s) = over_selector s
    over_segment (several ss) = over_selectors ss
    over_segment (descendant g) = over_segment g

    pub over_selectors : Selectors → A
    over_selectors no_selectors = asked.none
    over_selectors (selector s ss) = asked.both (over_selector s) (over_selectors ss)

    pub over_selector : Selector → A
    over_selector (filter f) = over_filter f
    over_selector _ = asked.none

    pub over_filter : Filter → A
    over_filter (or fs) = over_filters fs
    over_filter (and fs) = over_filters fs
    over_filter (group negated f) = over_filter f
    over_filter (test negated t) = asked.both (asked.of_test t) (over_test t)
    over_filter (compare op left right) = asked.both (asked.both (asked.of_side left) (over_argument left)) (asked.both (asked.of_side right) (over_argument right))

    pub over_filters : Filters → A
    over_filters no_filters = asked.none
    over_filters (filter_then f fs) = asked.both (over_filter f) (over_filters fs)

    pub over_test : Test → A
    over_test (relative gs) = over_segments gs
    over_test (absolute gs) = asked.both asked.of_root (over_segments gs)
    over_test (call c) = over_call c

    pub over_call : Call → A
    over_call (custom_call n xs) = asked.both (asked.of_call (custom_call n xs)) (over_arguments xs)
    over_call (length_call x) = asked.both (asked.of_call (length_call x)) (over_argument x)
    over_call (value_call x) = asked.both (asked.of_call (value_call x)) (over_argument x)
    over_call (count_call x) = asked.both (asked.of_call (count_call x)) (over_argument x)
    over_call (search_call x y) = asked.both (asked.of_call (search_call x y)) (asked.both (over_argument x) (over_argument y))
    over_call (match_call x y) = asked.both (asked.of_call (match_call x y)) (asked.both (over_argument x) (over_argument y))

    pub over_argument : Argument → A
    over_argument (literal_argument l) = asked.none
    over_argument (test_argument t) = over_test t
    over_argument (filter_argument f) = over_filter f

    pub over_arguments : Arguments → A
    over_arguments no_arguments = asked.none
    over_arguments (argument x xs) = asked.both (over_argument x) (over_arguments xs)

  -- a side of a comparison
  abbrev pub over_side : Argument → A
  over_side x = asked.both (asked.of_side x) (over_argument x)

-- every call takes its arguments, a call as a test gives a truth, and a side of a comparison gives a value
abbrev pub typing : TreeFold Bool
typing = record { none = true; both = ◌&&◌; of_test = is_truth_test; of_side = is_value_argument; of_root = true; of_call = takes }

-- the query is well-typed (2.4.3)
abbrev pub is_typed : Query → Bool
is_typed = over_segments typing

-- ---- the same of its parts

abbrev pub is_typed_segment : Segment → Bool
is_typed_segment = over_segment typing

abbrev pub is_typed_selector : Selector → Bool
is_typed_selector = over_selector typing

abbrev pub are_typed_selectors : Selectors → Bool
are_typed_selectors = over_selectors typing

abbrev pub is_typed_filter : Filter → Bool
is_typed_filter = over_filter typing

abbrev pub are_typed_filters : Filters → Bool
are_typed_filters = over_filters typing

-- what stands in it; as an argument it may give a value too
abbrev pub is_typed_test : Test → Bool
is_typed_test = over_test typing

abbrev pub is_typed_call : Call → Bool
is_typed_call = over_call typing

abbrev pub is_typed_argument : Argument → Bool
is_typed_argument = over_argument typing

abbrev pub are_typed_arguments : Arguments → Bool
are_typed_arguments = over_arguments typing

-- a side of a comparison: it gives a value, and is well-typed
abbrev pub is_typed_side : Argument → Bool
is_typed_side = over_side typing

-- a test outside a call: it is well-typed, and gives a truth or is asked for existence
abbrev pub is_typed_truth : Test → Bool
is_typed_truth t = is_truth_test t && is_typed_test t

abbrev pub Typed : Query → Type 0
Typed q = is_typed q ≡ true

-- the one argument, where there is exactly one
abbrev pub one_argument : Arguments → Option Argument
one_argument (argument x no_arguments) = Some x
one_argument _ = None

-- the two arguments, where there are exactly two
abbrev pub two_arguments : Arguments → Option (Argument × Argument)
two_arguments (argument x (argument y no_arguments)) = Some (x, y)
two_arguments _ = None

-- The call of a function by its name: each of the five names has its own call, of one number of arguments, and each other name has a custom call.
abbrev pub call_of : List ℕ → Arguments → Option Call
call_of called xs =
    if bytes_eq called (codes "length") then option_map length_call (one_argument xs)
    else (if bytes_eq called (codes "value") then option_map value_call (one_argument xs)
    else (if bytes_eq called (codes "count") then option_map count_call (one_argument xs)
    else (if bytes_eq called (codes "search") then option_map (λ p. search_call p.0 p.1) (two_arguments xs)
    else (if bytes_eq called (codes "match") then option_map (λ p. match_call p.0 p.1) (two_arguments xs)
    else Some (custom_call called xs)))))

-- a name of the table of types
abbrev pub is_table_name : List ℕ → Bool
is_table_name n = (((bytes_eq n (codes "length") || bytes_eq n (codes "value")) || bytes_eq n (codes "count")) || bytes_eq n (codes "search")) || bytes_eq n (codes "match")
