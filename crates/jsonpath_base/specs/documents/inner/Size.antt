-- The size of a tree, for the measures of the walk alone: the definitions here are no part of what a query means.
use Rattle.std.specs.Prelude.{ℕ, ◌+◌}
use Rattle.jsonpath_base.specs.Tree.{Tree, list, object, Trees, no_trees, tree, Members, no_members, member}

abbrev mutual
  pub size : Tree → ℕ
  size (list ts) = trees_size ts + 1
  size (object ms) = members_size ms + 1
  size _ = 1

  pub trees_size : Trees → ℕ
  trees_size no_trees = 0
  trees_size (tree t ts) = size t + trees_size ts

  pub members_size : Members → ℕ
  members_size no_members = 0
  members_size (member k t ms) = size t + members_size ms
