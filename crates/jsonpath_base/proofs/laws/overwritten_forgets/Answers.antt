use Rattle.jsonpath_base.proofs.OverwrittenLaws.{forgets}
use Rattle.jsonpath_base.proofs.laws.overwritten_forgets.Goals as goal

pub returns : goal.returns
returns c = forgets
