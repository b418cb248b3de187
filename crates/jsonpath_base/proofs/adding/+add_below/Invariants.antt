use Rattle.std.proofs.Common.{length}
use Rattle.jsonpath_base.proofs.adding.+add_below.Given as goal

abbrev pub decreases-add_below : goal.decreases-add_below
decreases-add_below l = length l.parent.now
