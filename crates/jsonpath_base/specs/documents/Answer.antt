-- What a query returns.
use Rattle.std.specs.Prelude.{◌≡◌, ℕ, List, All, IsTrue, map, length, Some, option_to_list, string_bytes, String, Vec}
use Rattle.std.specs.Borrow.{Bor}
use Rattle.std.specs.List.{AllZip}
use Rattle.jsonpath_parser.specs.Location.{Location}
use Rattle.jsonpath_parser.specs.Normal.{IsNormal, IsOnlyPath}
use Rattle.jsonpath_parser.specs.tree.Syntax.{Query}
use Rattle.jsonpath_base.specs.Steps.{location_view}
use Rattle.jsonpath_base.specs.Tree.{Tree}
use Rattle.jsonpath_base.specs.Places.{at}
use Rattle.jsonpath_base.specs.documents.Document.{Document}
use Rattle.jsonpath_base.specs.documents.Meaning.{selected}
use Rattle.jsonpath_base.specs.declared.step.Step.{Step}
use Rattle.jsonpath_base.specs.declared.documents.node.QueryRef.{QueryRef}
use Rattle.jsonpath_base.specs.declared.documents.queryable.Queryable.{Ghosts}
use Rattle.std.specs.declared.alloc.Global.{Global}

-- the path of each returned node, and the tree of its value
abbrev pub shown : {A : Type 0} → (A → Tree) → List (QueryRef A) → List (List ℕ × Tree)
shown tree refs = map (λ r. (string_bytes r.path, tree r.val.now)) refs

-- the texts of paths
abbrev pub paths_of : List (String Global) → List (List ℕ)
paths_of paths = map (λ p. string_bytes p) paths

-- the path is the Normalized Path of the location, and of no other
abbrev pub IsPathAt : Document → Location → List ℕ → Type 0
IsPathAt doc l path = IsNormal l path × IsOnlyPath l path

-- the tree is the one at the location
abbrev pub IsValueAt : Document → Location → Tree → Type 0
IsValueAt doc l t = at l doc.root ≡ Some t

abbrev pub IsNodeAt : Document → Location → List ℕ × Tree → Type 0
IsNodeAt doc l shown = IsPathAt doc l shown.0 × IsValueAt doc l shown.1

-- the path and the tree of the node at the location: one node, or none if there is no value
abbrev pub node_there : Document → Location → List ℕ → List (List ℕ × Tree)
node_there doc l path = map (λ t. (path, t)) (option_to_list (at l doc.root))

-- ---- what a call returns for a query, in order; `r` is what the type of the document is

pub record AreNodes {A : Type 0} (r : Ghosts A) (doc : Document) (q : Query) (v : Vec (QueryRef A) Global) : Type 0 where
  pub nodes : AllZip (IsNodeAt doc) (selected q doc) (shown r.tree v.items)
  pub whole : All (λ n. IsTrue (r.is_whole n.val.now)) v.items

pub record AreValues {A : Type 0} (r : Ghosts A) (doc : Document) (q : Query) (v : Vec (Bor A) Global) : Type 0 where
  pub values : AllZip (IsValueAt doc) (selected q doc) (map (λ x. r.tree x.now) v.items)
  pub whole : All (λ x. IsTrue (r.is_whole x.now)) v.items

abbrev pub ArePaths : Document → Query → Vec (String Global) Global → Type 0
ArePaths doc q v = AllZip (IsPathAt doc) (selected q doc) (paths_of v.items)

abbrev pub AreLocations : Document → Query → Vec (Vec Step Global) Global → Type 0
AreLocations doc q v = map (λ l. location_view l.items) v.items ≡ selected q doc

-- ---- for the one location whose Normalized Path the text is

abbrev pub IsNodeThere : {A : Type 0} → Ghosts A → Document → List ℕ → Location → Vec (QueryRef A) Global → Type 0
IsNodeThere r doc text l v = shown r.tree v.items ≡ node_there doc l text

abbrev pub IsValueThere : {A : Type 0} → Ghosts A → Document → List ℕ → Location → Vec (Bor A) Global → Type 0
IsValueThere r doc text l v = map (λ x. r.tree x.now) v.items ≡ option_to_list (at l doc.root)

abbrev pub IsPathThere : Document → List ℕ → Location → Vec (String Global) Global → Type 0
IsPathThere doc text l v = paths_of v.items ≡ map (λ t. text) (option_to_list (at l doc.root))

-- A list with an item for each of these locations, such as those that a query selects, has as many items: nodes, values or paths.
pub record AsManyAreListed {A : Type 0} (tree : A → Tree) : Type 0 where
  pub nodes : (doc : Document) (ls : List Location) (refs : List (QueryRef A)) → AllZip (IsNodeAt doc) ls (shown tree refs) → length refs ≡ length ls
  pub values : (doc : Document) (ls : List Location) (values : List (Bor A)) → AllZip (IsValueAt doc) ls (map (λ v. tree v.now) values) → length values ≡ length ls
  pub paths : (doc : Document) (ls : List Location) (paths : List (String Global)) → AllZip (IsPathAt doc) ls (paths_of paths) → length paths ≡ length ls
