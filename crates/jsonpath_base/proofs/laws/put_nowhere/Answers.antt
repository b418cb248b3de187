use Rattle.jsonpath_base.proofs.PutLaws.{put_nowhere}
use Rattle.jsonpath_base.proofs.laws.put_nowhere.Goals as goal

pub returns : goal.returns
returns c = put_nowhere
