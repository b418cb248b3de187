use Rattle.jsonpath_base.specs.Prelude.{iter_rest}
use Rattle.jsonpath_base.proofs.SameWalks.{weight, trees_weight, members_weight}
use Rattle.jpath.specs.Document.{json_tree}
use Rattle.jpath.proofs.SameWalks.{ItemsToCompare, EntriesToCompare, trees, members}
use Rattle.jpath.proofs.document.equality.+same.Given as goal

abbrev pub invariant-same_items-loop-item : goal.invariant-same_items-loop-item
invariant-same_items-loop-item l = ItemsToCompare l.items.items l.others.items (iter_rest l.item-iterator.a) (iter_rest l.item-iterator.b)

abbrev pub invariant-same_members-loop-name : goal.invariant-same_members-loop-name
invariant-same_members-loop-name l = EntriesToCompare l.members.entries l.others.entries l.name-iterator.a l.name-iterator.b

abbrev pub decreases-same : goal.decreases-same
decreases-same l = weight (json_tree l.left.now)

abbrev pub decreases-same_items : goal.decreases-same_items
decreases-same_items l = trees_weight (trees l.items.now.items)

abbrev pub decreases-same_members : goal.decreases-same_members
decreases-same_members l = members_weight (members l.members.now.entries)
