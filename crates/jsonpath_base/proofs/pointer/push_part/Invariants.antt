use Rattle.std.proofs.Common.{◌≡◌, ◌++◌, flat_map, length, string_bytes}
use denote.Shadow.{shadow}
use denote.Text.{Utf8}
use Rattle.jsonpath_base.specs.Prelude.{tilde_escaped}
use Rattle.jsonpath_base.proofs.pointer.push_part.Given as goal

-- what is written, and then the rest escaped, is what was there and the part escaped
abbrev pub invariant-loop-plain : goal.invariant-loop-plain
invariant-loop-plain l = shadow (Utf8 l.rest) × (string_bytes l.text ++ flat_map tilde_escaped l.rest ≡ string_bytes l.fn.text ++ flat_map tilde_escaped l.part)

abbrev pub decreases-loop-plain : goal.decreases-loop-plain
decreases-loop-plain l = length l.rest
