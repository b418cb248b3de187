use Rattle.std.proofs.Common.{◌≡◌, ◌+◌, ◌*◌, ◌≤◌, min, map, drop, length}
use Rattle.jsonpath_rust.specs.Prelude.Selection.{elements_cost, pairs_cost}
use Rattle.jsonpath_rust.proofs.selection.cost.+size.Given as goal

abbrev pub decreases-size_within : goal.decreases-size_within
decreases-size_within g l = 3 * l.most

abbrev pub decreases-elements_size : goal.decreases-elements_size
decreases-elements_size g l = 3 * l.most + 1

abbrev pub decreases-inside_size : goal.decreases-inside_size
decreases-inside_size g l = 3 * l.most + 2

abbrev pub decreases-members_size : goal.decreases-members_size
decreases-members_size g l = 3 * l.most + 1

-- what is counted, with the elements that are left
abbrev pub invariant-elements_size-loop-item : goal.invariant-elements_size-loop-item
invariant-elements_size-loop-item g l =
    let tree = g.T.Queryable.tree in
    record {
      within : l.size ≤ l.most;
      sum : min (l.size + elements_cost (map tree (drop l.item-index l.item-items))) l.most ≡ min (elements_cost (map tree l.item-items)) l.most;
    }

-- of the members that are left one each is counted
abbrev pub invariant-members_size-loop-member : goal.invariant-members_size-loop-member
invariant-members_size-loop-member g l =
    let tree = g.T.Queryable.tree in
    record {
      within : l.size ≤ l.most;
      listed : min (length l.member-items) l.most ≤ l.size;
      sum : min (l.size + pairs_cost (map (λ m. (m.0.now, tree m.1.now)) (drop l.member-index l.member-items))) (l.most + length (drop l.member-index l.member-items)) ≡ min (pairs_cost (map (λ m. (m.0.now, tree m.1.now)) l.member-items) + length (drop l.member-index l.member-items)) (l.most + length (drop l.member-index l.member-items));
    }
