use Rattle.std.proofs.Common.{◌≡◌, ◌++◌, drop, map}
use Rattle.jsonpath_base.specs.Prelude.{constant_prefix, location_view, segment_view, segments_of}
use Rattle.jsonpath_base.proofs.location.leading_steps.Given as goal

-- the steps so far, and behind them those of the segments that are left, are those of all
abbrev pub invariant-loop-segment : goal.invariant-loop-segment
invariant-loop-segment l = location_view l.steps.items ++ constant_prefix (segments_of (map segment_view (drop l.segment-index l.segments))) ≡ constant_prefix (segments_of (map segment_view l.segments))
