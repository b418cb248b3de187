-- Where what a query selects can be, known without any document.
use Rattle.std.specs.Prelude.{◌≡◌, ◌⊎◌, [], ◌∷◌, All, IsTrue}
use Rattle.jsonpath_parser.specs.Location.{Location, Begins}
use Rattle.jsonpath_parser.specs.tree.Reach.{is_local}
use Rattle.jsonpath_parser.specs.tree.Syntax.{Query}
use Rattle.jsonpath_parser.specs.tree.Typing.{is_singular}
use Rattle.jsonpath_base.specs.ConstantPrefix.{constant_prefix}
use Rattle.jsonpath_base.specs.Places.{at}
use Rattle.jsonpath_base.specs.documents.Document.{Document}
use Rattle.jsonpath_base.specs.documents.Meaning.{selected}

-- A singular query selects nothing, or one location (RFC 9535, 2.3.5.1).
abbrev pub SingularSelectsOneAtMost : Type 0
SingularSelectsOneAtMost = (q : Query) (doc : Document) → IsTrue (is_singular q) → (selected q doc ≡ []) ⊎ ((l : Location) × (selected q doc ≡ l ∷ []))

-- Each location that a query selects begins with its constant prefix (2.1.2).
abbrev pub SelectedBeginsWithFixedPart : Type 0
SelectedBeginsWithFixedPart = (q : Query) (doc : Document) → All (Begins (constant_prefix q)) (selected q doc)

-- The two documents have the same custom functions, and at the location the same value, or both none.
pub record AgreeAt (part : Location) (d e : Document) : Type 0 where
  pub custom : d.custom ≡ e.custom
  pub value : at part d.root ≡ at part e.root

-- What the query selects is in the part of a document at this location, and depends on that part alone: in documents that agree there it selects the
-- same locations, in the same order, with the same values.
pub record IsConfinedTo (part : Location) (q : Query) : Type 0 where
  pub inside : (doc : Document) → All (Begins part) (selected q doc)
  pub locations : (d e : Document) → AgreeAt part d e → selected q d ≡ selected q e
  pub values : (d e : Document) → AgreeAt part d e → All (λ l. at l d.root ≡ at l e.root) (selected q d)

-- A query with no `$` in its filters is confined to its constant prefix, and to all locations with which that begins (2.3.5).
abbrev pub LocalIsConfined : Type 0
LocalIsConfined = (q : Query) (part : Location) → IsTrue (is_local q) → Begins part (constant_prefix q) → IsConfinedTo part q
