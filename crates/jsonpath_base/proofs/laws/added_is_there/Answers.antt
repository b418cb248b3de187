use Rattle.jsonpath_base.proofs.AddedLaws.{added_is_there}
use Rattle.jsonpath_base.proofs.laws.added_is_there.Goals as goal

pub returns : goal.returns
returns c = added_is_there
