use Rattle.std.proofs.Common.{◌≡◌, ◌++◌, flat_map, length, string_bytes}
use denote.Shadow.{shadow}
use denote.Text.{Utf8}
use Rattle.jsonpath_base.specs.Prelude.{escaped}
use Rattle.jsonpath_base.proofs.pointer.push_name.Given as goal

-- what is written, and then the rest escaped, is what was there and the name escaped
abbrev pub invariant-loop-part : goal.invariant-loop-part
invariant-loop-part l = shadow (Utf8 l.rest) × (string_bytes l.text ++ flat_map escaped l.rest ≡ string_bytes l.fn.text ++ flat_map escaped l.name)

abbrev pub decreases-loop-part : goal.decreases-loop-part
decreases-loop-part l = length l.rest
