use Rattle.jsonpath_base.proofs.PointerLaws.{pointer_finds_its_place}
use Rattle.jsonpath_base.proofs.laws.pointer_finds_its_place.Goals as goal

pub returns : goal.returns
returns c = pointer_finds_its_place
