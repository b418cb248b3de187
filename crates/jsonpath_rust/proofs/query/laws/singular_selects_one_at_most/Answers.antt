use Rattle.jsonpath_base.proofs.lemmas.documents.{singular_selects_one_at_most}
use Rattle.jsonpath_rust.proofs.query.laws.singular_selects_one_at_most.Goals as goal

pub returns : goal.returns
returns c = singular_selects_one_at_most
