use Rattle.jsonpath_base.proofs.RemainingLaws.{is_seen, leaves_the_rest}
use Rattle.jsonpath_base.proofs.laws.removal_leaves_the_rest.Goals as goal

pub returns-clause-seen : goal.returns-clause-seen
returns-clause-seen c = is_seen

pub returns-clause-rest : goal.returns-clause-rest
returns-clause-rest c = leaves_the_rest
