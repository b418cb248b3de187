use Rattle.jsonpath_base.proofs.WithoutLaws.{among_is_listed}
use Rattle.jsonpath_base.proofs.laws.among_is_listed.Goals as goal

pub returns : goal.returns
returns c = among_is_listed
