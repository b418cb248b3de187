-- The one location that a singular query means, and what is read and written there (RFC 9535, 2.3.5.1).
use Rattle.std.specs.Prelude.{◌≡◌, ℕ, List, [], ◌∷◌, Bool, Option, Some, None, IsTrue, IfSome, is_some}
use Rattle.jsonpath_parser.specs.Derives.{Derives}
use Rattle.jsonpath_parser.specs.declared.parse.TheConstants.{MAX_NESTING_DEPTH}
use Rattle.jsonpath_parser.specs.Location.{Location}
use Rattle.jsonpath_parser.specs.tree.Syntax.{Query}
use Rattle.jsonpath_parser.specs.tree.Typing.{is_singular}
use Rattle.jsonpath_base.specs.Places.{at}
use Rattle.jsonpath_base.specs.Put.{put}
use Rattle.jsonpath_base.specs.Tree.{Tree}
use Rattle.jsonpath_base.specs.documents.Document.{Document}
use Rattle.jsonpath_base.specs.documents.Meaning.{selected}

-- The text is a query, each segment of it one name or one index, and it selects this location alone.
pub record Refers (text : List ℕ) (doc : Document) (l : Location) : Type 0 where
  pub query : Query
  pub derived : Derives MAX_NESTING_DEPTH text query
  pub singular : IsTrue (is_singular query)
  pub only : selected query doc ≡ l ∷ []

-- the location that the text means in the document, or none
pub record IsReference (text : List ℕ) (doc : Document) (reference : Option Location) : Type 0 where
  pub found : IfSome reference (Refers text doc)
  pub all : (l : Location) → Refers text doc l → reference ≡ Some l

-- the tree at a location, if there is one
abbrev pub tree_there : Option Location → Tree → Option Tree
tree_there None t = None
tree_there (Some l) t = at l t

-- the tree with another one at a location, if there is one
abbrev pub put_there : Option Location → Tree → Tree → Tree
put_there None u t = t
put_there (Some l) u t = put l u t

-- the tree at the location that the text means
pub record IsReferred (text : List ℕ) (doc : Document) (answer : Option Tree) : Type 0 where
  pub reference : Option Location
  pub means : IsReference text doc reference
  pub there : answer ≡ tree_there reference doc.root

-- The new tree is at the location that the text means, and the result is whether there is one.
pub record IsReplaced (text : List ℕ) (doc : Document) (new : Tree) (answer : Bool) (after : Tree) : Type 0 where
  pub reference : Option Location
  pub means : IsReference text doc reference
  pub replaced : after ≡ put_there reference new doc.root
  pub found : answer ≡ is_some reference

-- The new tree is put at the location, and the result is whether there was a value.
pub record IsPut (l : Location) (old new : Tree) (answer : Bool) (after : Tree) : Type 0 where
  pub found : answer ≡ is_some (at l old)
  pub left : after ≡ put l new old
