-- The first of a list that is so, and the first node that a query selects in a document.
use Rattle.std.specs.Prelude.{◌≡◌, ℕ, List, [], ◌∷◌, Some, All, take, slice_get}
use Rattle.jsonpath_rust.specs.Location.{Location}
use Rattle.jsonpath_rust.specs.Syntax.{Query}
use Rattle.jsonpath_rust.specs.Answer.{IsPathAt}
use Rattle.jsonpath_rust.specs.Document.{Document}
use Rattle.jsonpath_rust.specs.Meaning.{selected}

-- the query selects nothing in the document
abbrev pub IsSilent : Document → Query → Type 0
IsSilent doc q = selected q doc ≡ []

-- The element at this index of the list is so, and those before it are passed over.
pub record IsFirst {A : Type 0} (xs : List A) (IsPassed : A → Type 0) (index : ℕ) (IsSo : A → Type 0) : Type 0 where
  pub before : All IsPassed (take index xs)
  pub element : A
  pub there : slice_get xs index ≡ Some element
  pub is_so : IsSo element

-- the path is the Normalized Path of the first location that the query selects
pub record IsFirstPath (doc : Document) (path : List ℕ) (q : Query) : Type 0 where
  pub location : Location
  pub rest : List Location
  pub selects : selected q doc ≡ location ∷ rest
  pub normal : IsPathAt doc location path
