use Rattle.std.proofs.Common.{◌≡◌, ◌++◌, drop, string_bytes}
use Rattle.jsonpath_base.specs.Prelude.{location_view, pointer}
use Rattle.jsonpath_base.proofs.pointer.pointer_of.Given as goal

-- what is written, and then the steps that are left, are the pointer
abbrev pub invariant-loop-step : goal.invariant-loop-step
invariant-loop-step l = string_bytes l.text ++ pointer (location_view (drop l.step-index l.place)) ≡ pointer (location_view l.place)
