use Rattle.std.proofs.Common.{◌≡◌, ◌++◌, drop, string_bytes}
use Rattle.jsonpath_parser.specs.Normal.{normal, steps_text}
use Rattle.jsonpath_base.specs.Prelude.{location_view}
use Rattle.jsonpath_base.proofs.location.path_of.Given as goal

-- what is written, and then the steps that are left, are the path
abbrev pub invariant-loop-step : goal.invariant-loop-step
invariant-loop-step l = string_bytes l.path ++ steps_text (location_view (drop l.step-index l.place)) ≡ normal (location_view l.place)
