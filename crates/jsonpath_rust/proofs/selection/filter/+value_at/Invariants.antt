use Rattle.std.proofs.Common.{length}
use Rattle.jsonpath_rust.proofs.selection.filter.+value_at.Given as goal

abbrev pub decreases-value_at : goal.decreases-value_at
decreases-value_at g l = length l.steps.now
