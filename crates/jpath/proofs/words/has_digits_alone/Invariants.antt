use Rattle.std.proofs.Common.{◌≡◌, drop}
use Rattle.std.specs.Str.{all_ascii_digits}
use Rattle.jpath.proofs.words.has_digits_alone.Given as goal

-- the answer for all is the answer for those that are left
abbrev pub invariant-loop-byte : goal.invariant-loop-byte
invariant-loop-byte l = all_ascii_digits l.byte-items ≡ all_ascii_digits (drop l.byte-index l.byte-items)
