use Rattle.std.proofs.Common.{◌≡◌, ◌++◌, map, drop, string_bytes}
use Rattle.jsonpath_parser.specs.Prelude.{segments_of, segments_text, step_view}
use Rattle.jsonpath_parser.proofs.tree.written.steps.Given as goal

abbrev pub invariant-steps : goal.invariant-steps
invariant-steps l = string_bytes l.text ++ segments_text (segments_of (map step_view (drop l.one-index l.steps))) ≡ string_bytes l.fn.text ++ segments_text (segments_of (map step_view l.steps))
