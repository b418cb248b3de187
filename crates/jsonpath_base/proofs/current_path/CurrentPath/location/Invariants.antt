use Rattle.std.proofs.Common.{◌≡◌, take}
use Rattle.jsonpath_base.specs.Prelude.{lent_location, location_view}
use Rattle.jsonpath_base.proofs.current_path.CurrentPath.location.Given as goal

-- the first steps stand there
abbrev pub invariant-loop-step : goal.invariant-loop-step
invariant-loop-step l = location_view l.steps.items ≡ lent_location (take l.step-index l.step-items)
