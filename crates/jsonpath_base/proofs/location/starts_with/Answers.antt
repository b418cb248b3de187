use Rattle.jsonpath_base.proofs.StepEquality.{begins_same}
use Rattle.jsonpath_base.proofs.location.starts_with.Goals as goal

pub returns : goal.returns
returns c = rw c.starts_with.ensures.value (begins_same c.args.place.now c.args.beginning.now)
