use Rattle.std.proofs.Common.{length}
use Rattle.jsonpath_base.proofs.place.+exchange.Given as goal

abbrev pub decreases-exchange : goal.decreases-exchange
decreases-exchange l = length l.steps.now
