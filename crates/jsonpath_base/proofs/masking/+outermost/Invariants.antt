use Rattle.std.proofs.Common.{◌≡◌, ◌+◌, ◌*◌, drop}
use Rattle.jsonpath_base.specs.Prelude.{marks_count, marks_total, outermost_total}
use Rattle.jsonpath_base.proofs.masking.+outermost.Given as goal

-- with those that are left, all are counted
abbrev pub invariant-outermost_members-loop-marks : goal.invariant-outermost_members-loop-marks
invariant-outermost_members-loop-marks l = l.count + outermost_total (drop l.marks-index l.below) ≡ outermost_total l.below

abbrev pub invariant-outermost_elements-loop-marks : goal.invariant-outermost_elements-loop-marks
invariant-outermost_elements-loop-marks l = l.count + outermost_total (drop l.marks-index l.below) ≡ outermost_total l.below

abbrev pub decreases-outermost : goal.decreases-outermost
decreases-outermost l = 2 * marks_count l.marks.now

abbrev pub decreases-outermost_members : goal.decreases-outermost_members
decreases-outermost_members l = 2 * marks_total l.below.now + 1

abbrev pub decreases-outermost_elements : goal.decreases-outermost_elements
decreases-outermost_elements l = 2 * marks_total l.below.now + 1
