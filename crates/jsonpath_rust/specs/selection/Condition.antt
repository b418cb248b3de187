-- A condition on a document itself: a logical expression (RFC 9535, 2.3.5), in which `@` and `$` both are the root.
use Rattle.std.specs.Prelude.{◌≤◌, ℕ, List, ◌++◌, Bool, false, Option, Some, None, ⊤, unwrap_or, codes}
use Rattle.std.specs.Str.{IsCharBoundary}
use Rattle.jsonpath_parser.specs.Derives.{SpellsTyped, IsRefusal}
use Rattle.jsonpath_parser.specs.tree.Syntax as syntax
use Rattle.jsonpath_parser.specs.tree.Syntax.{Segment, one, no_segments, segment, Filter, or, test, no_filters, Query}
use Rattle.jsonpath_parser.specs.tree.Typing.{is_singular_test}
use Rattle.jsonpath_parser.specs.words.Depth.{depth}
use Rattle.jsonpath_parser.specs.declared.errors.JsonPathError.{JsonPathError}
use Rattle.jsonpath_parser.specs.declared.errors.JsonPathError.TheVariants.{PestError, OutOfMemory}

-- the query `$[?e]`
abbrev pub filter_query : Filter → Query
filter_query f = segment (one (syntax.Selector.filter f)) no_segments

-- the text `$[?e]` of a text `e`
abbrev pub in_filter : List ℕ → List ℕ
in_filter text = codes "$[?" ++ text ++ codes "]"

abbrev pub segment_filter : Segment → Option Filter
segment_filter (one (syntax.Selector.filter f)) = Some f
segment_filter _ = None

-- the expression of a query `$[?e]`, or none for another query
abbrev pub filter_of : Query → Option Filter
filter_of (segment g no_segments) = segment_filter g
filter_of _ = None

-- the same, but for another query an expression that never holds
abbrev pub expression_of : Query → Filter
expression_of q = unwrap_or (filter_of q) (or no_filters)

-- a test of a singular query, with or without `!`: it looks up no more than the names and indexes of the query
abbrev pub tests_singular : Filter → Bool
tests_singular (test negated t) = is_singular_test t
tests_singular _ = false

-- The errors for a text, each with what it means: the text nests no deeper than the limit and is no one expression, and the place is between two
-- characters of it or at an end of it; memory ran out; all others are those of the query text `$[?e]`.
abbrev pub IsConditionRefusal : ℕ → List ℕ → JsonPathError → Type 0
IsConditionRefusal limit text (PestError place) = (depth (in_filter text) ≤ limit) × IsCharBoundary text place × ((f : Filter) → SpellsTyped (in_filter text) (filter_query f) → ⊥)
IsConditionRefusal limit text OutOfMemory = ⊤
IsConditionRefusal limit text e = IsRefusal limit (in_filter text) e
