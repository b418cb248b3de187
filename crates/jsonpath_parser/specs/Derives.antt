-- When a text is a query, and which refusal it gets when it is none.
use Rattle.std.specs.Prelude.{◌≡◌, ◌≤◌, ◌<◌, ℕ, List, Result, MatchResult, string_bytes}
use Rattle.std.specs.Str.{IsCharBoundary}
use Rattle.jsonpath_parser.specs.words.Depth.{depth}
use Rattle.jsonpath_parser.specs.words.Numbers.{SpellsNumber}
use Rattle.jsonpath_parser.specs.Grammar.{Spells}
use Rattle.jsonpath_parser.specs.tree.Syntax.{Query}
use Rattle.jsonpath_parser.specs.tree.Typing.{Typed}
use Rattle.jsonpath_parser.specs.Valueless.{IsValuelessIn}
use Rattle.jsonpath_parser.specs.Values.{IsValued}
use Rattle.jsonpath_parser.specs.tree.View.{query_view}
use Rattle.jsonpath_parser.specs.declared.tree.model.JpQuery.{JpQuery}
use Rattle.jsonpath_parser.specs.declared.errors.JsonPathError.{JsonPathError}
use Rattle.jsonpath_parser.specs.declared.errors.JsonPathError.TheVariants.{PestError, InvalidNumber, MaxNestingDepthExceeded, OutOfMemory}

-- the text is the query of this tree: it nests no deeper than the limit, spells the tree, each number literal as its value, and the tree is well-typed
pub record Derives (limit : ℕ) (text : List ℕ) (tree : Query) : Type 0 where
  pub within : depth text ≤ limit
  pub spelled : Spells IsValued tree text
  pub typed : Typed tree

-- the text spells this tree as it is written, a number literal without a value as none, and the tree is well-typed
abbrev pub SpellsTyped : List ℕ → Query → Type 0
SpellsTyped text tree = Spells SpellsNumber tree text × Typed tree

-- and some number literal in the tree has no value: the text does not spell it with each as its value
abbrev pub SpellsValueless : List ℕ → Query → Type 0
SpellsValueless text tree = SpellsTyped text tree × (Spells IsValued tree text → ⊥)

-- the answer is this tree, unless memory ran out
abbrev pub Answers : Result JpQuery JsonPathError → Query → Type 0
Answers r tree = MatchResult r (λ q. query_view q ≡ tree) (λ e. e ≡ OutOfMemory)

-- The refusals, each with what it means: brackets nest too deep; the text is no query for its number literals alone, and what is said is nothing, or a number
-- literal without a value that stands in it; it spells no well-typed tree, its number literals with a value or without, and the place stands between two
-- characters of the text or at an end of it; memory ran out.
abbrev pub IsRefusal : ℕ → List ℕ → JsonPathError → Type 0
IsRefusal limit text (MaxNestingDepthExceeded n) = (n ≡ limit) × (limit < depth text)
IsRefusal limit text (InvalidNumber said) = (depth text ≤ limit) × IsValuelessIn text (string_bytes said) × ((t : Query) × SpellsValueless text t) × ((t : Query) → Derives limit text t → ⊥)
IsRefusal limit text (PestError place) = (depth text ≤ limit) × IsCharBoundary text place × ((t : Query) → SpellsTyped text t → ⊥)
IsRefusal limit text OutOfMemory = depth text ≤ limit
IsRefusal limit text _ = ⊥
