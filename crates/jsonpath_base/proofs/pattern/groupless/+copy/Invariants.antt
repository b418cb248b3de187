use Rattle.std.proofs.Common.{◌≡◌, map, take}
use Rattle.regex_hir.specs.Meaning.{meaning}
use Rattle.jsonpath_base.specs.inner.Groups.{without_groups}
use Rattle.jsonpath_base.proofs.pattern.groupless.+copy.Given as goal

abbrev pub invariant-copies_without_groups-loop-i : goal.invariant-copies_without_groups-loop-i
invariant-copies_without_groups-loop-i l = map meaning l.all.items ≡ map without_groups (map meaning (take l.i l.subs))
