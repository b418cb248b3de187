-- Conditions that are asked of a document (RFC 9535, 2.3.5).
use Rattle.std.specs.Prelude.{ℕ, List, Bool, IsFalse}
use Rattle.jsonpath_rust.specs.JsonPathError.{JsonPathError}
use Rattle.jsonpath_rust.specs.Condition.{filter_query}
use Rattle.jsonpath_rust.specs.Prepared.{condition_view}
use Rattle.jsonpath_rust.specs.Document.{Document}
use Rattle.jsonpath_rust.specs.Meaning.{holds}
use Rattle.jsonpath_rust.specs.Node.{root_node}
use Rattle.jsonpath_rust.specs.Patterns.{IsStop}
use Rattle.jsonpath_rust.specs.declared.selection.condition.Condition.{Condition}
use Rattle.examples.specs.First.{IsFirst}

-- whether the condition holds of the document: `@` and `$` both are its root
abbrev pub is_met : Document → Condition → Bool
is_met doc c = holds (condition_view c) doc (root_node doc.root)

-- A condition is refused so, as the query `$[?e]` is.
abbrev pub IsUndecided : Document → JsonPathError → Condition → Type 0
IsUndecided doc e c = IsStop (filter_query (condition_view c)) doc e

-- One of the conditions is refused so, and none before it holds.
pub record IsUnrouted (conditions : List Condition) (doc : Document) (e : JsonPathError) : Type 0 where
  pub index : ℕ
  pub refused : IsFirst conditions (λ c. IsFalse (is_met doc c)) index (IsUndecided doc e)
