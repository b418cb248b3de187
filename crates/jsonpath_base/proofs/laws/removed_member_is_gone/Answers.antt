use Rattle.jsonpath_base.proofs.RemainingLaws.{member_is_gone, staying_keeps_indexes}
use Rattle.jsonpath_base.proofs.laws.removed_member_is_gone.Goals as goal

pub returns-clause-gone : goal.returns-clause-gone
returns-clause-gone c = member_is_gone

pub returns-clause-staying : goal.returns-clause-staying
returns-clause-staying c = staying_keeps_indexes
