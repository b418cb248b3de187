-- A tree whose members walk in the other order.
use Rattle.std.specs.Prelude.{ℕ, List, [], ◌∷◌, reverse}
use Rattle.jsonpath_base.specs.Tree.{Tree, null, truth, number, text, list, object, Trees, no_trees, tree, Members, no_members, member}
use Rattle.cases.specs.DocTree.{members}

-- in each of its objects
abbrev mutual
  pub turned : Tree → Tree
  turned null = null
  turned (truth b) = truth b
  turned (number n) = number n
  turned (text s) = text s
  turned (list ts) = list (turned_trees ts)
  turned (object ms) = object (members (reverse (turned_members ms)))

  pub turned_trees : Trees → Trees
  turned_trees no_trees = no_trees
  turned_trees (tree t ts) = tree (turned t) (turned_trees ts)

  pub turned_members : Members → List (List ℕ × Tree)
  turned_members no_members = []
  turned_members (member k t ms) = (k, turned t) ∷ turned_members ms
