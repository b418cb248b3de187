use Rattle.std.proofs.Common.{◌+◌, ◌*◌}
use Rattle.jsonpath_base.specs.Prelude.{marks_count, marks_total}
use Rattle.jsonpath_base.proofs.size.+size.Given as goal

abbrev pub decreases-marks_size : goal.decreases-marks_size
decreases-marks_size l = 2 * marks_count l.marks.now

abbrev pub decreases-members_size : goal.decreases-members_size
decreases-members_size l = 2 * marks_total l.below.now + 1

abbrev pub decreases-elements_size : goal.decreases-elements_size
decreases-elements_size l = 2 * marks_total l.below.now + 1
