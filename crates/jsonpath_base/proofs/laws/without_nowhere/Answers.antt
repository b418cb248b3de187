use Rattle.jsonpath_base.proofs.Nowhere.{without_nowhere}
use Rattle.jsonpath_base.proofs.laws.without_nowhere.Goals as goal

pub returns : goal.returns
returns c = without_nowhere
