use Rattle.std.proofs.Common.{◌≡◌, ◌+◌, sym, ap, ap₂, ◌∙◌, arith}
use Rattle.std.proofs.lemmas.List.{drop_all}
use Rattle.std.proofs.lemmas.Result.{IfOk-weaker}
use Rattle.jsonpath_base.specs.Prelude.{marks_total, outermost_total}
use Rattle.jsonpath_base.proofs.Filling.{outermost_here, outermost_inside, outermost_next, marks_at}
use Rattle.jsonpath_base.proofs.Marking.{count_out}
use Rattle.jsonpath_base.proofs.masking.+outermost.Goals as goal

pub outermost-outermost_members-requires : goal.outermost-outermost_members-requires
outermost-outermost_members-requires t c = (omega (arith, count_out c.args.marks.now, ap marks_total c.deref.ensures.value), tt)

pub outermost-outermost_elements-requires : goal.outermost-outermost_elements-requires
outermost-outermost_elements-requires t c = (omega (arith, count_out c.args.marks.now, ap marks_total c.deref-2.ensures.value), tt)

pub outermost-returns-then-marks : goal.outermost-returns-then-marks
outermost-returns-then-marks t c = sym (outermost_here c.args.marks.now c.if-marks.true)

pub outermost-returns : goal.outermost-returns
outermost-returns t c =
    let names = c.in_ok-names.ensures ∙ ap outermost_total c.deref.ensures.value in
    let indexes = c.in_ok-indexes.ensures ∙ ap outermost_total c.deref-2.ensures.value in
    IfOk-weaker c.sum.result (λ n. n ≡ c.in_ok-names.names + c.in_ok-indexes.indexes) _ (λ n e. e ∙ ap₂ (λ a b. a + b) names indexes ∙ sym (outermost_inside c.args.marks.now c.if-marks.false)) c.sum.ensures

pub outermost_members-outermost-requires : goal.outermost_members-outermost-requires
outermost_members-outermost-requires t c = (omega (arith, marks_at c.args.below.now c.loop-marks.marks-index c.loop-marks-item.result c.loop-marks-test.true c.loop-marks-item.is), tt)

pub outermost_members-loop-marks-preserved : goal.outermost_members-loop-marks-preserved
outermost_members-loop-marks-preserved t c =
    omega (arith, outermost_next c.args.below.now c.loop-marks.marks-index c.loop-marks-item.result c.loop-marks-test.true c.loop-marks-item.is, c.in_ok-held.ensures, c.in_ok-count.ensures, c.loop-marks.invariant)

pub outermost_members-returns : goal.outermost_members-returns
outermost_members-returns t c = omega (arith, ap outermost_total (drop_all c.loop-marks.marks-index c.args.below.now c.loop-marks-test.false), c.loop-marks.invariant)

pub outermost_elements-outermost-requires : goal.outermost_elements-outermost-requires
outermost_elements-outermost-requires t c = (omega (arith, marks_at c.args.below.now c.loop-marks.marks-index c.loop-marks-item.result c.loop-marks-test.true c.loop-marks-item.is), tt)

pub outermost_elements-loop-marks-preserved : goal.outermost_elements-loop-marks-preserved
outermost_elements-loop-marks-preserved t c =
    omega (arith, outermost_next c.args.below.now c.loop-marks.marks-index c.loop-marks-item.result c.loop-marks-test.true c.loop-marks-item.is, c.in_ok-held.ensures, c.in_ok-count.ensures, c.loop-marks.invariant)

pub outermost_elements-returns : goal.outermost_elements-returns
outermost_elements-returns t c = omega (arith, ap outermost_total (drop_all c.loop-marks.marks-index c.args.below.now c.loop-marks-test.false), c.loop-marks.invariant)
