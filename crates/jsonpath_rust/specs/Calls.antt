-- What a call returns for a query, defined once for all calls.
use Rattle.std.specs.Prelude.{◌≡◌, ◌≤◌, ℕ, List, Bool, Result, IfOk, IfErr, MatchResult}
use Rattle.jsonpath_parser.specs.Derives.{Derives}
use Rattle.jsonpath_parser.specs.Location.{Location}
use Rattle.jsonpath_parser.specs.Normal.{IsNormal}
use Rattle.jsonpath_parser.specs.declared.errors.JsonPathError.{JsonPathError}
use Rattle.jsonpath_parser.specs.declared.errors.JsonPathError.TheVariants.{OutOfMemory}
use Rattle.jsonpath_parser.specs.tree.Steps.{HasIndexesInRange}
use Rattle.jsonpath_parser.specs.tree.Syntax.{Query}
use Rattle.jsonpath_base.specs.documents.Document.{Document}
use Rattle.jsonpath_base.specs.documents.Patterns.{IsStop, IsQueryRefusal}
use Rattle.jsonpath_rust.specs.selection.LimitError.{IsStopOf}

-- A call of a runner, whose query is `old` before and `new` after, under a limit with these stops. `Is` says what its result is for a document and a
-- query.
pub record Runs {X S : Type 0} (stops : Bool → Query → Document → S → Type 0) (old new : Query) (doc : Document) (Is : Document → Query → X → Type 0) (result : Result X S) : Type 0 where
  pub outcome : IfOk result (Is doc old)
  pub refused : IfErr result (IsStopOf stops old doc)
  pub same : new ≡ old

-- the text is a query, no deeper than the limit, and this is the result for it
pub record OfText {X : Type 0} (limit : ℕ) (text : List ℕ) (doc : Document) (Is : Document → Query → X → Type 0) (x : X) : Type 0 where
  pub query : Query
  pub derived : Derives limit text query
  pub outcome : Is doc query x

-- A call by a query text. `IsAt` says what its result is for the one location whose Normalized Path the text is.
pub record ByText {X : Type 0} (limit : ℕ) (text : List ℕ) (doc : Document) (Is : Document → Query → X → Type 0) (IsAt : Document → List ℕ → Location → X → Type 0) (result : Result X JsonPathError) : Type 0 where
  pub outcome : IfOk result (OfText limit text doc Is)
  -- whatever query the text derives, its result is returned, unless memory ran out or a pattern was refused
  pub complete : (q : Query) → Derives limit text q → MatchResult result (Is doc q) (IsStop q doc)
  -- for a Normalized Path it fails with `OutOfMemory` only
  pub normal : (l : Location) → IsNormal l text → HasIndexesInRange l → 1 ≤ limit → MatchResult result (IsAt doc text l) (λ e. e ≡ OutOfMemory)
  pub refused : IfErr result (IsQueryRefusal limit text doc)
