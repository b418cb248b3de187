use Rattle.jsonpath_base.proofs.StepEquality.{step_same}
use Rattle.jsonpath_base.proofs.laws.equal_steps_are_one_step.Goals as goal

pub returns : goal.returns
returns c = step_same
