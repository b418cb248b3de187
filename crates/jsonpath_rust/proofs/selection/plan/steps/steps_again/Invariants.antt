use Rattle.std.proofs.Common.{◌≡◌, map, take}
use Rattle.jsonpath_base.specs.Prelude.Documents.{step_view}
use Rattle.jsonpath_rust.proofs.selection.plan.steps.steps_again.Given as goal

abbrev pub invariant-steps : goal.invariant-steps
invariant-steps l = map step_view l.copies.items ≡ map step_view (take l.step-index l.steps)
