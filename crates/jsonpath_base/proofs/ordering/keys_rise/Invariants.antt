use Rattle.std.proofs.Common.{◌≡◌, ℕ, ◌+◌, ◌<◌, Less, get_or}
use Rattle.jsonpath_base.specs.Prelude.{keys_of}
use Rattle.jsonpath_base.proofs.ordering.keys_rise.Given as goal

abbrev pub invariant-loop-i : goal.invariant-loop-i
invariant-loop-i g l = (d : g.row.K.Denot) (k : ℕ) → k + 1 < l.i → g.K.Ord.cmp (get_or (keys_of l.entries) k d) (get_or (keys_of l.entries) (k + 1) d) ≡ Less
