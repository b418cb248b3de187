use Rattle.std.proofs.Common.{ap, arith}
use Rattle.jsonpath_base.specs.Prelude.{marks_total}
use Rattle.jsonpath_base.proofs.Filling.{marks_at}
use Rattle.jsonpath_base.proofs.Marking.{count_out}
use Rattle.jsonpath_base.proofs.size.+size.Goals as goal

pub marks_size-members_size-requires : goal.marks_size-members_size-requires
marks_size-members_size-requires t c = (omega (arith, count_out c.args.marks.now, ap marks_total c.deref.ensures.value), tt)

pub marks_size-elements_size-requires : goal.marks_size-elements_size-requires
marks_size-elements_size-requires t c = (omega (arith, count_out c.args.marks.now, ap marks_total c.deref-2.ensures.value), tt)

pub members_size-marks_size-requires : goal.members_size-marks_size-requires
members_size-marks_size-requires t c = (omega (arith, marks_at c.args.below.now c.loop-name.name-index c.loop-name-item.result c.loop-name-test.true c.loop-name-item.is), tt)

pub elements_size-marks_size-requires : goal.elements_size-marks_size-requires
elements_size-marks_size-requires t c = (omega (arith, marks_at c.args.below.now c.loop-marks.marks-index c.loop-marks-item.result c.loop-marks-test.true c.loop-marks-item.is), tt)
