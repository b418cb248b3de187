use Rattle.std.proofs.Common.{◌≡◌, ◌++◌, map, reverse, vec_len}
use Rattle.jsonpath_parser.specs.Prelude.{option_map, segment_view, segments_of, segments_view, step_view, steps_of}
use Rattle.jsonpath_parser.proofs.grammar.operands.steps.Given as goal

abbrev pub invariant-steps : goal.invariant-steps
invariant-steps l =
    steps_of (segments_view l.fn.segments)
    ≡ option_map (λ r. map step_view l.found.items ++ r) (steps_of (segments_of (map segment_view (reverse l.segments.items))))

abbrev pub decreases-steps : goal.decreases-steps
decreases-steps l = vec_len l.segments
