-- What is found again, by a printed path and in a part of a document.
use Rattle.std.specs.Prelude.{◌≡◌, List, [], ◌∷◌, Option, Some, None}
use Rattle.std.specs.List.{AllZip}
use Rattle.jsonpath_rust.specs.Location.{Location}
use Rattle.jsonpath_rust.specs.Syntax.{Query}
use Rattle.jsonpath_rust.specs.parser.Steps.{HasIndexesInRange}
use Rattle.jsonpath_rust.specs.Answer.{IsValueAt}
use Rattle.jsonpath_rust.specs.Document.{Document}
use Rattle.jsonpath_rust.specs.Meaning.{selected}
use Rattle.jsonpath_rust.specs.Places.{at}
use Rattle.jsonpath_rust.specs.SetFunctions.{set_function}
use Rattle.jsonpath_rust.specs.Tree.{Tree}

-- what stands at the first location that the query selects, where its indexes lie below 2^53
abbrev pub IsAtFirst : Document → Query → Option Tree → Type 0
IsAtFirst doc q o = (l : Location) (ls : List Location) → selected q doc ≡ l ∷ ls → HasIndexesInRange l → o ≡ at l doc.root

-- the values that the query selects in a part of a document, if there is one, in order
abbrev pub AreValuesIn : Query → Option Tree → List Tree → Type 0
AreValuesIn q None vs = vs ≡ []
AreValuesIn q (Some t) vs = let doc : Document = record { root = t; custom = set_function } in AllZip (IsValueAt doc) (selected q doc) vs
