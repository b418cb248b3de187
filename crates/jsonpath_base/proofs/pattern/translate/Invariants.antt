use Rattle.std.proofs.Common.{◌≡◌, ◌++◌, length, drop, false, string_bytes}
use Rattle.jsonpath_base.specs.Prelude.{chars}
use Rattle.jsonpath_base.proofs.PatternText.{left}
use Rattle.jsonpath_base.proofs.pattern.translate.Given as goal

-- what is written, and then what the rest becomes, is what the pattern becomes
abbrev pub invariant-loop-c : goal.invariant-loop-c
invariant-loop-c l =
    string_bytes l.text ++ left l.inside l.escaped (drop (length l.yielded) (chars l.pattern)) ≡ left false false (chars l.pattern)
