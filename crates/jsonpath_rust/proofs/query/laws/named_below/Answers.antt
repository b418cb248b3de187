use Rattle.jsonpath_base.proofs.lemmas.documents.{named_below, named_is_masked}
use Rattle.jsonpath_rust.proofs.query.laws.named_below.Goals as goal

pub returns-clause-selected : goal.returns-clause-selected
returns-clause-selected c = named_below

pub returns-clause-masked : goal.returns-clause-masked
returns-clause-masked c = named_is_masked
