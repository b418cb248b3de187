use Rattle.std.proofs.Common.{◌≡◌, take}
use Rattle.jsonpath_parser.specs.Prelude.{name_chars}
use Rattle.jsonpath_parser.proofs.words.quoting.plain_len.Given as goal

-- all so far stand for themselves
abbrev pub invariant-loop-i : goal.invariant-loop-i
invariant-loop-i l = name_chars (take l.i l.bytes) ≡ take l.i l.bytes
