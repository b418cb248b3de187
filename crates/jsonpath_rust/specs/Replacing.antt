-- What a replacement leaves, and what it returns.
use Rattle.std.specs.Prelude.{◌≡◌, ℕ, List}
use Rattle.jsonpath_parser.specs.Location.{Location}
use Rattle.jsonpath_parser.specs.tree.Syntax.{Query}
use Rattle.jsonpath_base.specs.Overwritten.{overwritten}
use Rattle.jsonpath_base.specs.Put.{put}
use Rattle.jsonpath_base.specs.Tree.{Tree}
use Rattle.jsonpath_base.specs.Without.{is_among, distinct_count}
use Rattle.jsonpath_rust.specs.Deleting.{count_at}
use Rattle.jsonpath_base.specs.documents.Document.{Document}
use Rattle.jsonpath_base.specs.documents.Meaning.{selected}

-- The tree left is the document with `u` at all locations that the query selects, put at once; the count is the number of distinct ones.
pub record IsReplacement (q : Query) (u : Tree) (doc : Document) (left : Tree) (count : ℕ) : Type 0 where
  pub replaced : left ≡ overwritten (is_among (selected q doc)) u doc.root
  pub counted : count ≡ distinct_count (selected q doc)

-- the same, as what a call returns
abbrev pub Replacement : Tree → Tree → Document → Query → ℕ → Type 0
Replacement u left doc q count = IsReplacement q u doc left count

-- The tree left is the tree before with `u` at this location, so it is as it was if there is no value.
pub record IsReplacementAt (l : Location) (u before left : Tree) (count : ℕ) : Type 0 where
  pub replaced : left ≡ put l u before
  pub counted : count ≡ count_at l before

-- the same, as what a call by this Normalized Path returns
abbrev pub ReplacementAt : Tree → Tree → Document → List ℕ → Location → ℕ → Type 0
ReplacementAt u left doc text l count = IsReplacementAt l u doc.root left count
