use Rattle.std.proofs.Common.{◌≡◌, ◌≤◌, ◌+◌, ◌*◌, map, reverse, drop}
use Rattle.jsonpath_base.specs.Same.{same_members}
use Rattle.jsonpath_base.specs.documents.inner.Size.{size, trees_size, members_size}
use Rattle.cases.specs.DocTree.{doc_tree, pairs_of, trees, members}
use Rattle.cases.proofs.Comparing.{same_lists}
use Rattle.cases.proofs.doc.sameness.+same.Given as goal

-- the answer for all is the answer for what is left
abbrev pub invariant-same_items-loop-i : goal.invariant-same_items-loop-i
invariant-same_items-loop-i l = same_lists l.left.items l.right.items ≡ same_lists (drop l.i l.left.items) (drop l.i l.right.items)

abbrev pub invariant-same_members-loop-name : goal.invariant-same_members-loop-name
invariant-same_members-loop-name l =
    let ns = reverse (pairs_of l.right.entries) in
    let all = members (reverse (pairs_of l.left.entries)) in
    let left = members (reverse (pairs_of l.name-iterator.iter)) in
    (same_members all ns ≡ same_members left ns) × (members_size left ≤ members_size all)

abbrev pub decreases-same : goal.decreases-same
decreases-same l = 2 * size (doc_tree l.left.now)

abbrev pub decreases-same_items : goal.decreases-same_items
decreases-same_items l = 2 * trees_size (trees (map doc_tree l.left.now.items)) + 1

abbrev pub decreases-same_members : goal.decreases-same_members
decreases-same_members l = 2 * members_size (members (reverse (pairs_of l.left.now.entries))) + 1
