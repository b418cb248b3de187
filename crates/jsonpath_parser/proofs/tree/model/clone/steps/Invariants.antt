use Rattle.std.proofs.Common.{◌≡◌, map, take}
use Rattle.jsonpath_parser.specs.Prelude.{step_view}
use Rattle.jsonpath_parser.proofs.tree.model.clone.steps.Given as goal

abbrev pub invariant-steps : goal.invariant-steps
invariant-steps l = map step_view l.copies.items ≡ map step_view (take l.step-index l.steps)
