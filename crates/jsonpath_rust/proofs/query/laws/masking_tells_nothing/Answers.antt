use Rattle.jsonpath_base.proofs.lemmas.documents.{masking_all_tells_nothing, masking_tells_nothing}
use Rattle.jsonpath_rust.proofs.query.laws.masking_tells_nothing.Goals as goal

pub returns-clause-one : goal.returns-clause-one
returns-clause-one c = masking_tells_nothing

pub returns-clause-all : goal.returns-clause-all
returns-clause-all c = masking_all_tells_nothing
