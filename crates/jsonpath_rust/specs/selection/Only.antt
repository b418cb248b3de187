-- The first node of a query and the only one, how many nodes it has, and whether there is one.
use Rattle.std.specs.Prelude.{◌≡◌, ◌↔◌, ℕ, min, List, [], ◌∷◌, length, Option, Some, None, IfSome, IfNone, Bool, IsFalse, IsTrue, string_bytes}
use Rattle.jsonpath_parser.specs.Location.{Location}
use Rattle.jsonpath_parser.specs.tree.Syntax.{Query}
use Rattle.jsonpath_base.specs.Tree.{Tree}
use Rattle.jsonpath_base.specs.documents.Answer.{IsNodeAt}
use Rattle.jsonpath_base.specs.documents.Document.{Document}
use Rattle.jsonpath_base.specs.documents.Functions.{greatest_count}
use Rattle.jsonpath_base.specs.documents.Meaning.{selected}
use Rattle.jsonpath_rust.specs.selection.Prepared.{IsFirstNode}
use Rattle.jsonpath_base.specs.declared.documents.node.QueryRef.{QueryRef}
use Rattle.jsonpath_base.specs.declared.documents.queryable.Queryable.{Ghosts}
use Rattle.jsonpath_rust.specs.declared.selection.sink.Only.{Only}
use Rattle.jsonpath_rust.specs.declared.selection.sink.Only.TheVariants.{Nothing, One, Several}

-- The answer about the only node: the query selects nothing; or one location alone, whose node this is; or several. A location that is selected twice
-- is two nodes (RFC 9535, 2.1.2).
abbrev pub IsOnly : {A : Type 0} → (A → Tree) → Query → Document → Only A → Type 0
IsOnly tree q doc Nothing = selected q doc ≡ []
IsOnly tree q doc (One n) = (l : Location) × (selected q doc ≡ l ∷ []) × IsNodeAt doc l (string_bytes n.path, tree n.val.now)
IsOnly tree q doc Several = (l m : Location) × (rest : List Location) × (selected q doc ≡ l ∷ m ∷ rest)

-- the node, if there is one alone
abbrev pub sole_node : {A : Type 0} → Only A → Option (QueryRef A)
sole_node (One n) = Some n
sole_node _ = None

-- the number of nodes that the query selects, up to the greatest integer of 64 bits
abbrev pub node_count : Query → Document → ℕ
node_count q doc = min (length (selected q doc)) greatest_count

-- ---- what a call returns for a query; `r` is what the type of the document is

pub record IsFirst {A : Type 0} (r : Ghosts A) (doc : Document) (q : Query) (o : Option (QueryRef A)) : Type 0 where
  pub first : IfSome o (λ n. IsFirstNode q doc (string_bytes n.path, r.tree n.val.now))
  pub none : IfNone o (selected q doc ≡ [])
  pub whole : IfSome o (λ n. IsTrue (r.is_whole n.val.now))

pub record IsOnlyNode {A : Type 0} (r : Ghosts A) (doc : Document) (q : Query) (o : Only A) : Type 0 where
  pub only : IsOnly r.tree q doc o
  pub whole : IfSome (sole_node o) (λ n. IsTrue (r.is_whole n.val.now))

abbrev pub IsCount : Document → Query → ℕ → Type 0
IsCount doc q n = n ≡ node_count q doc

abbrev pub TellsWhether : Document → Query → Bool → Type 0
TellsWhether doc q b = IsFalse b ↔ (selected q doc ≡ [])
