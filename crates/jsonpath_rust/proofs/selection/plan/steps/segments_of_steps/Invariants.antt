use Rattle.std.proofs.Common.{◌≡◌, map, take}
use Rattle.jsonpath_base.specs.Prelude.Documents.{step_view}
use Rattle.jsonpath_rust.specs.Prelude.Selection.{Constants, segment_view}
use Rattle.jsonpath_rust.proofs.selection.plan.steps.segments_of_steps.Given as goal

abbrev pub invariant-steps : goal.invariant-steps
invariant-steps l = (constants : Constants) → map (segment_view constants) l.segments.items ≡ map step_view (take l.step-index l.steps)
