use Rattle.jsonpath_base.proofs.OverwrittenLaws.{at_one_is_put}
use Rattle.jsonpath_base.proofs.laws.overwritten_at_one_is_put.Goals as goal

pub returns : goal.returns
returns c = at_one_is_put
