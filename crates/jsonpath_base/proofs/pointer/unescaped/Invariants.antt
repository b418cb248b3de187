use Rattle.std.proofs.Common.{◌≡◌, ◌++◌, length, string_bytes}
use denote.Shadow.{shadow}
use denote.Text.{Utf8}
use Rattle.jsonpath_base.specs.Prelude.{unescape}
use Rattle.jsonpath_base.proofs.pointer.unescaped.Given as goal

-- what is written, and then the rest unescaped, is the part unescaped
abbrev pub invariant-loop-plain : goal.invariant-loop-plain
invariant-loop-plain l = shadow (Utf8 l.rest) × (string_bytes l.name ++ unescape l.rest ≡ unescape l.part)

abbrev pub decreases-loop-plain : goal.decreases-loop-plain
decreases-loop-plain l = length l.rest
