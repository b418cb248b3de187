use Rattle.std.proofs.Common.{◌≡◌, ◌≤◌, ◌+◌, ◌*◌, drop, vec_len}
use Rattle.jsonpath_base.specs.Prelude.{AreAll, Data, index, items_overwritten, items_view, marked_below, marks_count, marks_total, members_overwritten, members_view, outermost_total, to_member}
use Rattle.jsonpath_base.proofs.masking.+fill.Given as goal

-- With the marks that are left, what is there now is overwritten as with all what was there; and so many copies are left as these marks need.
abbrev pub invariant-fill_items-loop-index : goal.invariant-fill_items-loop-index
invariant-fill_items-loop-index l =
    ((u : Data) → AreAll u l.initial.copies.items → items_overwritten (marked_below index (drop l.index-index l.marks)) u 0 (items_view l.items.items) ≡ items_overwritten (marked_below index l.marks) u 0 (items_view l.initial.items.items))
    × ((u : Data) → AreAll u l.initial.copies.items → AreAll u l.copies.items)
    × (vec_len l.initial.copies + outermost_total (drop l.index-index l.marks) ≤ vec_len l.copies + outermost_total l.marks)

abbrev pub invariant-fill_members-loop-name : goal.invariant-fill_members-loop-name
invariant-fill_members-loop-name l =
    ((u : Data) → AreAll u l.initial.copies.items → members_overwritten (marked_below to_member (drop l.name-index l.marks)) u (members_view l.members.entries) ≡ members_overwritten (marked_below to_member l.marks) u (members_view l.initial.members.entries))
    × ((u : Data) → AreAll u l.initial.copies.items → AreAll u l.copies.items)
    × (vec_len l.initial.copies + outermost_total (drop l.name-index l.marks) ≤ vec_len l.copies + outermost_total l.marks)

abbrev pub decreases-fill : goal.decreases-fill
decreases-fill l = 3 * marks_count l.marks.now

abbrev pub decreases-fill_items : goal.decreases-fill_items
decreases-fill_items l = 3 * marks_total l.marks.now + 2

abbrev pub decreases-fill_members : goal.decreases-fill_members
decreases-fill_members l = 3 * marks_total l.marks.now + 2

abbrev pub decreases-fill_item : goal.decreases-fill_item
decreases-fill_item l = 3 * marks_count l.marks.now + 1

abbrev pub decreases-fill_member : goal.decreases-fill_member
decreases-fill_member l = 3 * marks_count l.marks.now + 1
