use Rattle.jsonpath_base.proofs.PutLaws.{put_leaves_the_rest}
use Rattle.jsonpath_base.proofs.laws.put_leaves_the_rest.Goals as goal

pub returns : goal.returns
returns c = put_leaves_the_rest
