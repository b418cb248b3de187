use Rattle.std.proofs.Common.{◌≡◌, map, reverse, drop}
use Rattle.jsonpath_base.specs.Tree.{trees_distinct, members_distinct}
use Rattle.cases.specs.DocTree.{doc_tree, pairs_of, trees, members}
use Rattle.cases.proofs.doc.documents.+look.Given as goal

-- what is to be shown of all is shown by what is left
abbrev pub invariant-look_at_items-loop-item : goal.invariant-look_at_items-loop-item
invariant-look_at_items-loop-item l = trees_distinct (trees (map doc_tree l.item-items)) ≡ trees_distinct (trees (map doc_tree (drop l.item-index l.item-items)))

abbrev pub invariant-look_at_members-loop-member : goal.invariant-look_at_members-loop-member
invariant-look_at_members-loop-member l = members_distinct (members (reverse (pairs_of l.entries.entries))) ≡ members_distinct (members (reverse (pairs_of l.member-iterator.iter)))
