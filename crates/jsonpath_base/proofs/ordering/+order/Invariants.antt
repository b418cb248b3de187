use Rattle.std.proofs.Common.{◌+◌, ◌*◌}
use Rattle.jsonpath_base.specs.Prelude.{index, marks_count, marks_total, to_member}
use Rattle.jsonpath_base.proofs.InOrder.{Sofar}
use Rattle.jsonpath_base.proofs.ordering.+order.Given as goal

abbrev pub decreases-put_in_order : goal.decreases-put_in_order
decreases-put_in_order l = 2 * marks_count l.marks.now

abbrev pub decreases-order_members : goal.decreases-order_members
decreases-order_members l = 2 * marks_total l.below.now.items + 1

abbrev pub decreases-order_elements : goal.decreases-order_elements
decreases-order_elements l = 2 * marks_total l.below.now.items + 1

abbrev pub invariant-order_members-loop-i : goal.invariant-order_members-loop-i
invariant-order_members-loop-i l = Sofar to_member l.initial.below.items l.below.items l.i l.count

abbrev pub invariant-order_elements-loop-i : goal.invariant-order_elements-loop-i
invariant-order_elements-loop-i l = Sofar index l.initial.below.items l.below.items l.i l.count
