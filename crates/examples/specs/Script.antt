-- What a list of edits makes of a document.
use Rattle.std.specs.Prelude.{◌≡◌, ℕ, List, [], ◌∷◌, Bool, true, false, Some, nat_lt, string_bytes, take, slice_get}
use Rattle.jsonpath_rust.specs.parser.declared.parse.TheConstants.{MAX_NESTING_DEPTH}
use Rattle.jsonpath_rust.specs.JsonPathError.{JsonPathError}
use Rattle.jsonpath_rust.specs.JsonPathError.TheVariants.{OutOfMemory}
use Rattle.jsonpath_rust.specs.SetFunctions.{set_function}
use Rattle.jsonpath_rust.specs.Tree.{Tree}
use Rattle.jsonpath_rust.specs.base.Values.{value_tree}
use Rattle.jsonpath_rust.specs.Document.{Document}
use Rattle.jsonpath_rust.specs.Patterns.{IsQueryRefusal}
use Rattle.jsonpath_rust.specs.Referring.{IsReplaced}
use Rattle.jsonpath_rust.specs.Deleting.{Deletes}
use Rattle.examples.specs.declared.script.Edit.{Edit}
use Rattle.examples.specs.declared.script.Edit.TheVariants.{Delete, Replace}

-- the document that a tree of a `Value` is
abbrev pub tree_document : Tree → Document
tree_document t = record { root = t; custom = set_function }

-- whether an edit found something to remove or to replace in a tree, and the tree that it leaves
abbrev pub Leaves : Edit → Tree → Bool → Tree → Type 0
Leaves (Delete path) t found u = (n : ℕ) × Deletes MAX_NESTING_DEPTH (string_bytes path) (tree_document t) u n × (found ≡ nat_lt 0 n)
Leaves (Replace path new) t found u = IsReplaced (string_bytes path) (tree_document t) (value_tree new.value) found u

-- why an edit of a tree is refused
abbrev pub IsEditRefusal : Edit → Tree → JsonPathError → Type 0
IsEditRefusal (Delete path) t e = IsQueryRefusal MAX_NESTING_DEPTH (string_bytes path) (tree_document t) e
IsEditRefusal (Replace path new) t e = e ≡ OutOfMemory

-- Each edit in turn, made of what those before it leave, finds something; the last leaves this tree.
abbrev pub AllLeave : List Edit → Tree → Tree → Type 0
AllLeave [] t u = u ≡ t
AllLeave (e ∷ es) t u = (m : Tree) × Leaves e t true m × AllLeave es m u

-- The edits before this index find something each. The one there is so, of what they leave.
pub record IsReached (edits : List Edit) (t : Tree) (index : ℕ) (IsSo : Edit → Tree → Type 0) : Type 0 where
  pub between : Tree
  pub before : AllLeave (take index edits) t between
  pub edit : Edit
  pub there : slice_get edits index ≡ Some edit
  pub is_so : IsSo edit between

-- it finds nothing to remove or to replace
abbrev pub FindsNothing : Edit → Tree → Type 0
FindsNothing e t = (u : Tree) × Leaves e t false u

-- One of the edits is refused so.
pub record IsRefusedIn (edits : List Edit) (t : Tree) (e : JsonPathError) : Type 0 where
  pub index : ℕ
  pub refused : IsReached edits t index (λ edit between. IsEditRefusal edit between e)
