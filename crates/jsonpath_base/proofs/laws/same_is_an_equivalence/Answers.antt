use Rattle.jsonpath_base.proofs.SameLaws.{same_is_an_equivalence}
use Rattle.jsonpath_base.proofs.laws.same_is_an_equivalence.Goals as goal

pub returns : goal.returns
returns c = same_is_an_equivalence
