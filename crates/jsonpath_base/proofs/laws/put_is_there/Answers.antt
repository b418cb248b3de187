use Rattle.jsonpath_base.proofs.PutLaws.{put_is_there, put_is_seen_above}
use Rattle.jsonpath_base.proofs.laws.put_is_there.Goals as goal

pub returns-clause-there : goal.returns-clause-there
returns-clause-there c = put_is_there

pub returns-clause-above : goal.returns-clause-above
returns-clause-above c = put_is_seen_above
