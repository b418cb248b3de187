use Rattle.jsonpath_base.proofs.lemmas.documents.{steps_select_their_location}
use Rattle.jsonpath_rust.proofs.query.laws.steps_select_their_location.Goals as goal

pub returns : goal.returns
returns c = steps_select_their_location
