use Rattle.std.proofs.Common.{◌≡◌, drop}
use Rattle.jsonpath_base.specs.Prelude.{items_view, items_whole, members_distinct, members_of, members_view, members_whole, trees_distinct, trees_of}
use Rattle.jsonpath_base.proofs.value.+whole.Given as goal

-- the answer for all is the answer for those that are left
abbrev pub invariant-items_whole-loop-item : goal.invariant-items_whole-loop-item
invariant-items_whole-loop-item l =
    let left = items_view (drop l.item-index l.item-items) in
    (items_whole (items_view l.item-items) ≡ items_whole left) × (trees_distinct (trees_of (items_view l.item-items)) ≡ trees_distinct (trees_of left))

abbrev pub invariant-members_whole-loop-member : goal.invariant-members_whole-loop-member
invariant-members_whole-loop-member l =
    let left = members_view l.member-iterator in
    (members_whole (members_view l.members.entries) ≡ members_whole left) × (members_distinct (members_of (members_view l.members.entries)) ≡ members_distinct (members_of left))
