use Rattle.std.proofs.Common.{◌≡◌, take}
use Rattle.jsonpath_base.specs.Prelude.{lent_location, location_view}
use Rattle.jsonpath_base.proofs.removal.lent_steps.Given as goal

abbrev pub invariant-loop-step : goal.invariant-loop-step
invariant-loop-step l = lent_location l.lent.items ≡ location_view (take l.step-index l.steps)
