use Rattle.std.proofs.Common.{◌≡◌, map, take}
use Rattle.jsonpath_base.specs.Prelude.Documents.{segment_view, step_view}
use Rattle.jsonpath_rust.proofs.selection.plan.steps.steps_of.Given as goal

abbrev pub invariant-segments : goal.invariant-segments
invariant-segments l = map step_view l.steps.items ≡ map segment_view (take l.segment-index l.segments)
