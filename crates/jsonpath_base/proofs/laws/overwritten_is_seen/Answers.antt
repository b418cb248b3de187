use Rattle.jsonpath_base.proofs.OverwrittenLaws.{is_seen, leaves_the_rest}
use Rattle.jsonpath_base.proofs.laws.overwritten_is_seen.Goals as goal

pub returns-clause-seen : goal.returns-clause-seen
returns-clause-seen c = is_seen

pub returns-clause-rest : goal.returns-clause-rest
returns-clause-rest c = leaves_the_rest
