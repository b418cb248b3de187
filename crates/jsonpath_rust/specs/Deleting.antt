-- What a deletion leaves, and what it returns.
use Rattle.std.specs.Prelude.{◌≡◌, ℕ, List, [], ◌∷◌, is_some, if◌then◌else◌}
use Rattle.jsonpath_parser.specs.Location.{Location}
use Rattle.jsonpath_parser.specs.tree.Syntax.{Query}
use Rattle.jsonpath_base.specs.Places.{at}
use Rattle.jsonpath_base.specs.Tree.{Tree}
use Rattle.jsonpath_base.specs.Without.{without, is_among, distinct_count}
use Rattle.jsonpath_rust.specs.Calls.{OfText}
use Rattle.jsonpath_base.specs.documents.Document.{Document}
use Rattle.jsonpath_base.specs.documents.Meaning.{selected}

-- The tree left is the document without all locations that the query selects, removed at once; the count is the number of distinct ones.
pub record IsDeletion (q : Query) (doc : Document) (left : Tree) (count : ℕ) : Type 0 where
  pub removed : left ≡ without (is_among (selected q doc)) doc.root
  pub counted : count ≡ distinct_count (selected q doc)

-- the same, as what a call returns
abbrev pub Deletion : Tree → Document → Query → ℕ → Type 0
Deletion left doc q count = IsDeletion q doc left count

-- The text derives a query, at this depth, and what that query selects is deleted.
abbrev pub Deletes : ℕ → List ℕ → Document → Tree → ℕ → Type 0
Deletes depth text doc left count = OfText depth text doc (Deletion left) count

-- 1 if there is a value at the location, else 0
abbrev pub count_at : Location → Tree → ℕ
count_at l t = if is_some (at l t) then 1 else 0

-- The tree left is the tree before without this location, so it is as it was if there is no value.
pub record IsDeletionAt (l : Location) (before left : Tree) (count : ℕ) : Type 0 where
  pub removed : left ≡ without (is_among (l ∷ [])) before
  pub counted : count ≡ count_at l before

-- the same, as what a call by this Normalized Path returns
abbrev pub DeletionAt : Tree → Document → List ℕ → Location → ℕ → Type 0
DeletionAt left doc text l count = IsDeletionAt l doc.root left count

-- A deletion by a query that selects nothing leaves the document's tree as it was, and its count is 0.
abbrev pub NothingSelectedDeletesNothing : Type 0
NothingSelectedDeletesNothing = (q : Query) (doc : Document) (left : Tree) (count : ℕ) → selected q doc ≡ [] → IsDeletion q doc left count → (left ≡ doc.root) × (count ≡ 0)
