use Rattle.jsonpath_base.proofs.lemmas.documents.{normalized_path_derives_its_steps}
use Rattle.jsonpath_rust.proofs.query.laws.normalized_path_derives_its_steps.Goals as goal

pub returns : goal.returns
returns c = normalized_path_derives_its_steps
