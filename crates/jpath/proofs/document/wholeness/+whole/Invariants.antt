use Rattle.std.proofs.Common.{◌≡◌, drop}
use Rattle.jsonpath_base.specs.Prelude.{items_whole, members_distinct, members_of, members_whole, trees_distinct, trees_of}
use Rattle.jpath.specs.Document.{items_data, members_data}
use Rattle.jpath.proofs.document.wholeness.+whole.Given as goal

-- the answer for all is the answer for those that are left
abbrev pub invariant-items_whole-loop-item : goal.invariant-items_whole-loop-item
invariant-items_whole-loop-item l =
    let left = items_data (drop l.item-index l.item-items) in
    (items_whole (items_data l.item-items) ≡ items_whole left) × (trees_distinct (trees_of (items_data l.item-items)) ≡ trees_distinct (trees_of left))

abbrev pub invariant-members_whole-loop-member : goal.invariant-members_whole-loop-member
invariant-members_whole-loop-member l =
    let left = members_data l.member-iterator in
    (members_whole (members_data l.members.entries) ≡ members_whole left) × (members_distinct (members_of (members_data l.members.entries)) ≡ members_distinct (members_of left))
