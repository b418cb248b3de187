use Rattle.std.proofs.Common.{◌≡◌, ◌+◌, ◌*◌, drop}
use Rattle.jsonpath_base.specs.Prelude.{items_view, marked_below, marks_count, marks_total, members_thinned, members_view, thinned_below, to_member}
use Rattle.jsonpath_base.proofs.removal.+thin.Given as goal

-- with the marks that are left, what is there now is thinned as with all what was there
abbrev pub invariant-thin_items-loop-index : goal.invariant-thin_items-loop-index
invariant-thin_items-loop-index l = thinned_below (drop l.index-index l.marks) 0 (items_view l.items.items) ≡ thinned_below l.marks 0 (items_view l.initial.items.items)

abbrev pub invariant-thin_members-loop-name : goal.invariant-thin_members-loop-name
invariant-thin_members-loop-name l = members_thinned (marked_below to_member (drop l.name-index l.marks)) (members_view l.members.entries) ≡ members_thinned (marked_below to_member l.marks) (members_view l.initial.members.entries)

abbrev pub decreases-thin : goal.decreases-thin
decreases-thin l = 3 * marks_count l.marks.now

abbrev pub decreases-thin_items : goal.decreases-thin_items
decreases-thin_items l = 3 * marks_total l.marks.now + 2

abbrev pub decreases-thin_members : goal.decreases-thin_members
decreases-thin_members l = 3 * marks_total l.marks.now + 2

abbrev pub decreases-thin_item : goal.decreases-thin_item
decreases-thin_item l = 3 * marks_count l.marks.now + 1

abbrev pub decreases-thin_member : goal.decreases-thin_member
decreases-thin_member l = 3 * marks_count l.marks.now + 1
