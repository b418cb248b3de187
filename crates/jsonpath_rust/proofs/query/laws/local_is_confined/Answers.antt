use Rattle.jsonpath_base.proofs.lemmas.documents.{local_is_confined}
use Rattle.jsonpath_rust.proofs.query.laws.local_is_confined.Goals as goal

pub returns : goal.returns
returns c = local_is_confined
