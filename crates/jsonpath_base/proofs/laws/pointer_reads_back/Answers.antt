use Rattle.jsonpath_base.proofs.PointerLaws.{pointer_reads_back}
use Rattle.jsonpath_base.proofs.laws.pointer_reads_back.Goals as goal

pub returns : goal.returns
returns c = pointer_reads_back
