-- Which queries fail for a pattern, and where. The definitions here are for the contracts that name that error.
use Rattle.std.specs.Prelude.{◌≡◌, ℕ, List, [], ◌∷◌, ◌++◌, ◌⊎◌, Bool, true, false, Option, Some, IsSome}
use Rattle.std.specs.List.{Contains}
use Rattle.jsonpath_parser.specs.tree.Syntax.{Selector, Selectors, Segment, Segments, Filter, Filters, Test, Call, search_call, match_call, Argument, Arguments, Query}
use Rattle.jsonpath_parser.specs.tree.Typing.{TreeFold, over_segments, over_segment, over_selectors, over_selector, over_filter, over_filters, over_test, over_call, over_argument, over_arguments}
use Rattle.jsonpath_parser.specs.Derives.{Derives, IsRefusal}
use Rattle.jsonpath_parser.specs.declared.errors.JsonPathError.{JsonPathError}
use Rattle.jsonpath_parser.specs.declared.errors.JsonPathError.TheVariants.{OutOfMemory}
use Rattle.jsonpath_base.specs.Pattern.{pattern_sought, IsInvalid}
use Rattle.jsonpath_base.specs.Tree as tree
use Rattle.jsonpath_base.specs.Tree.{Tree}
use Rattle.jsonpath_base.specs.documents.Answer.{IsValueAt}
use Rattle.jsonpath_base.specs.documents.Document.{Document}
use Rattle.jsonpath_base.specs.documents.Functions.{as_value}
use Rattle.jsonpath_base.specs.documents.Meaning.{argued}
use Rattle.jsonpath_base.specs.documents.Node.{Node}

-- the pattern of a call: the second operand of `match`, with true, and of `search`, with false
abbrev pub pattern_of : Call → List (Bool × Argument)
pattern_of (search_call a b) = (false, b) ∷ []
pattern_of (match_call a b) = (true, b) ∷ []
pattern_of _ = []

abbrev pub pattern_question : TreeFold (List (Bool × Argument))
pattern_question = record { none = []; both = ◌++◌; of_test = λ t. []; of_side = λ x. []; of_root = []; of_call = pattern_of }

-- the patterns in a query
abbrev pub segments_patterns : Segments → List (Bool × Argument)
segments_patterns = over_segments pattern_question

-- ---- the same of its parts

abbrev pub segment_patterns : Segment → List (Bool × Argument)
segment_patterns = over_segment pattern_question

abbrev pub selector_patterns : Selector → List (Bool × Argument)
selector_patterns = over_selector pattern_question

abbrev pub selectors_patterns : Selectors → List (Bool × Argument)
selectors_patterns = over_selectors pattern_question

abbrev pub filter_patterns : Filter → List (Bool × Argument)
filter_patterns = over_filter pattern_question

abbrev pub filters_patterns : Filters → List (Bool × Argument)
filters_patterns = over_filters pattern_question

abbrev pub test_patterns : Test → List (Bool × Argument)
test_patterns = over_test pattern_question

abbrev pub call_patterns : Call → List (Bool × Argument)
call_patterns = over_call pattern_question

abbrev pub argument_patterns : Argument → List (Bool × Argument)
argument_patterns = over_argument pattern_question

abbrev pub arguments_patterns : Arguments → List (Bool × Argument)
arguments_patterns = over_arguments pattern_question

-- the value is a text in which `regex` reads a pattern: with true for `match`, which takes the entire text, and with false for `search`
abbrev pub IsPattern : Bool → Option Tree → Type 0
IsPattern entire (Some (tree.text s)) = IsSome (pattern_sought entire s)
IsPattern entire _ = ⊥

-- One of these patterns has, at some node of the document, a value that is a text that `regex` reads.
pub record AsksPattern (patterns : List (Bool × Argument)) (doc : Document) : Type 0 where
  pub entire : Bool
  pub pattern : Argument
  pub stands : Contains patterns (entire, pattern)
  pub node : Node
  pub at_node : IsValueAt doc node.location node.tree
  pub read : IsPattern entire (as_value (argued pattern doc node))

-- Memory ran out; or it is `InvalidJsonPath`, and there is such a pattern in the query.
abbrev pub IsStop : Query → Document → JsonPathError → Type 0
IsStop q doc e = (e ≡ OutOfMemory → ⊥) → IsInvalid e × AsksPattern (segments_patterns q) doc

-- The text is no query, and refused for that; or it is one, and memory ran out or there is such a pattern.
abbrev pub IsQueryRefusal : ℕ → List ℕ → Document → JsonPathError → Type 0
IsQueryRefusal limit text doc e = IsRefusal limit text e ⊎ ((q : Query) × Derives limit text q × IsStop q doc e)
