use Rattle.std.proofs.Common.{◌≤◌, ◌-◌, ◌^◌}
use Rattle.jsonpath_rust.proofs.selection.cost.bound_of_smaller.Given as goal

abbrev pub invariant-loop-bound : goal.invariant-loop-bound
invariant-loop-bound g l = 4 ≤ l.bound

abbrev pub decreases-loop-bound : goal.decreases-loop-bound
decreases-loop-bound g l = 2 ^ 64 - l.bound
