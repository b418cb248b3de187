use Rattle.jsonpath_base.proofs.lemmas.documents.{selected_is_there}
use Rattle.jsonpath_rust.proofs.query.laws.selected_is_there.Goals as goal

pub returns : goal.returns
returns c = selected_is_there
