-- The tree of a `Value` of serde_json.
use Rattle.std.specs.Prelude.{ℤ, Bool, true, ◌&&◌, Option, Some, None, is_some}
use Rattle.serde_json.specs.Data as json
use Rattle.serde_json.specs.Data.{Data, Items, Members as DataMembers}
use Rattle.serde_json.specs.Find.{as_i64}
use Rattle.serde_json.specs.View.{view}
use Rattle.serde_json.specs.declared.value.Value.{Value}
use Rattle.jsonpath_base.specs.Tree.{Tree, null, truth, number, text, list, object, Trees, no_trees, tree, Members, no_members, member, has_distinct_names}

-- a number outside 64 bits counts as null
abbrev pub tree_of_number : Option ℤ → Tree
tree_of_number None = null
tree_of_number (Some n) = number n

abbrev mutual
  pub tree_of : Data → Tree
  tree_of json.null = null
  tree_of (json.boolean b) = truth b
  tree_of (json.number n) = tree_of_number (as_i64 n)
  tree_of (json.string s) = text s
  tree_of (json.array ds) = list (trees_of ds)
  tree_of (json.object ms) = object (members_of ms)

  pub trees_of : Items → Trees
  trees_of json.no_items = no_trees
  trees_of (json.item d ds) = tree (tree_of d) (trees_of ds)

  pub members_of : DataMembers → Members
  members_of json.no_members = no_members
  members_of (json.member k d ms) = member k (tree_of d) (members_of ms)

-- each number is an integer of 64 bits
abbrev mutual
  pub has_whole_numbers : Data → Bool
  has_whole_numbers (json.number n) = is_some (as_i64 n)
  has_whole_numbers (json.array ds) = items_whole ds
  has_whole_numbers (json.object ms) = members_whole ms
  has_whole_numbers _ = true

  pub items_whole : Items → Bool
  items_whole json.no_items = true
  items_whole (json.item d ds) = has_whole_numbers d && items_whole ds

  pub members_whole : DataMembers → Bool
  members_whole json.no_members = true
  members_whole (json.member k d ms) = has_whole_numbers d && members_whole ms

abbrev pub value_tree : Value → Tree
value_tree v = tree_of (view v)

-- Names are distinct in each object of a `Value`, because its map keeps them sorted. It is part of this definition so that a proof has it for every
-- whole value.
abbrev pub value_is_whole : Value → Bool
value_is_whole v = has_whole_numbers (view v) && has_distinct_names (value_tree v)
