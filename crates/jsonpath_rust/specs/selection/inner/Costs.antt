-- What a value costs in a walk whose work is limited, for the contracts of the walk alone: the definitions here are no part of what a query means.
use Rattle.std.specs.Prelude.{ℕ, ◌+◌, ◌-◌, ◌/◌, ◌^◌, min, List, [], ◌∷◌, length, Option, Some, None}
use Rattle.std.specs.declared.fmt.Debug as debug
use Rattle.jsonpath_base.specs.Tree.{Tree, text, list, object, Trees, no_trees, tree, Members, no_members, member}
use Rattle.jsonpath_rust.specs.documents.Whole.{tree_of}
use Rattle.jsonpath_base.specs.declared.documents.queryable.Queryable.{Ghosts}
use Rattle.jsonpath_rust.specs.declared.documents.filter_value.FilterValueRef.{FilterValueRef}
use Rattle.jsonpath_rust.specs.declared.documents.filter_value.FilterValueRef.TheVariants as side
use Rattle.jsonpath_rust.specs.declared.selection.sink.Sink.{Sink}
use Rattle.jsonpath_rust.specs.declared.selection.sink.Sink.TheVariants as sink

-- one for each value in it, and one for every 16 bytes of its texts and names
abbrev mutual
  pub cost : Tree → ℕ
  cost (text s) = length s / 16 + 1
  cost (list ts) = trees_cost ts + 1
  cost (object ms) = members_cost ms + 1
  cost _ = 1

  pub trees_cost : Trees → ℕ
  trees_cost no_trees = 0
  trees_cost (tree t ts) = cost t + trees_cost ts

  pub members_cost : Members → ℕ
  members_cost no_members = 0
  members_cost (member k t ms) = length k / 16 + (cost t + members_cost ms)

-- the cost of the elements of a list together
abbrev pub elements_cost : List Tree → ℕ
elements_cost [] = 0
elements_cost (t ∷ ts) = cost t + elements_cost ts

-- the cost of the members of an object together
abbrev pub pairs_cost : List (List ℕ × Tree) → ℕ
pairs_cost [] = 0
pairs_cost (m ∷ ms) = length m.0 / 16 + (cost m.1 + pairs_cost ms)

-- the cost of the smaller of two values; it fits in 64 bits
abbrev pub smaller_cost : Tree → Tree → ℕ
smaller_cost t u = min (min (cost t) (cost u)) (2 ^ 64 - 1)

-- the tree of a value in a filter, if it is from the document or from a custom function
abbrev pub valued : {A : Type 0} {R : Ghosts A} {D : debug.Ghosts A} → FilterValueRef A R D → Option Tree
valued side.Absent = None
valued (side.Borrowed v) = Some (tree_of v)
valued (side.Plain s) = None

-- the cost of a comparison
abbrev pub compared_cost : Option Tree → Option Tree → ℕ
compared_cost (Some t) (Some u) = smaller_cost t u
compared_cost _ _ = 1

-- the bytes of a value that is a text
abbrev pub text_bytes : Option Tree → ℕ
text_bytes (Some (text s)) = length s
text_bytes _ = 0

-- what a node at a location of this many steps costs at least that is passed to a sink
abbrev pub node_cost : {A : Type 0} {R : Ghosts A} {D : debug.Ghosts A} → Sink A R D → ℕ → ℕ
node_cost (sink.Nodes ns) n = n / 16
node_cost (sink.Paths ps) n = n / 16
node_cost (sink.Few f) n = n / 16
node_cost (sink.Locations ls) n = n / 4
node_cost (sink.LocationSet r copy) n = copy
node_cost _ n = 0
