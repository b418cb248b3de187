-- The queries of locations, and the location that each selects (RFC 9535, 2.7).
use Rattle.std.specs.Prelude.{◌≡◌, ◌≤◌, ℕ, List, All, Option, Some, IsTrue, IsSome, IfSome, map, option_to_list}
use Rattle.jsonpath_parser.specs.Derives.{Derives}
use Rattle.jsonpath_parser.specs.declared.parse.TheConstants.{MAX_NESTING_DEPTH}
use Rattle.jsonpath_parser.specs.Location.{Location}
use Rattle.jsonpath_parser.specs.Normal.{IsNormal}
use Rattle.jsonpath_parser.specs.tree.Steps.{HasIndexesInRange, steps_query}
use Rattle.jsonpath_parser.specs.tree.Syntax.{Query}
use Rattle.jsonpath_base.specs.Places.{at}
use Rattle.jsonpath_base.specs.Tree.{has_distinct_names}
use Rattle.jsonpath_base.specs.documents.Document.{Document}
use Rattle.jsonpath_base.specs.documents.Meaning.{selected}

-- the location whose query this is, or none if there is none
pub record IsLocationOf (q : Query) (location : Option Location) : Type 0 where
  pub found : IfSome location (λ l. q ≡ steps_query l)
  pub all : (l : Location) → q ≡ steps_query l → location ≡ Some l

-- the text is a query, and this is its location, or none if it has none
pub record IsLocationByPath (text : List ℕ) (location : Option Location) : Type 0 where
  pub query : Query
  pub derived : Derives MAX_NESTING_DEPTH text query
  pub of_query : IsLocationOf query location

-- The Normalized Path of a location derives the query of its steps, if its indexes are those that a query may have.
abbrev pub NormalizedPathDerivesItsSteps : Type 0
NormalizedPathDerivesItsSteps = (depth : ℕ) (l : Location) (text : List ℕ) → IsNormal l text → HasIndexesInRange l → 1 ≤ depth → Derives depth text (steps_query l)

-- The query of a location's steps selects that location alone if there is a value, and else nothing.
abbrev pub StepsSelectTheirLocation : Type 0
StepsSelectTheirLocation = (l : Location) (doc : Document) → selected (steps_query l) doc ≡ map (λ t. l) (option_to_list (at l doc.root))

-- There is a value at each location that a query selects.
abbrev pub SelectedIsThere : Type 0
SelectedIsThere = (q : Query) (doc : Document) → IsTrue (has_distinct_names doc.root) → All (λ l. IsSome (at l doc.root)) (selected q doc)
