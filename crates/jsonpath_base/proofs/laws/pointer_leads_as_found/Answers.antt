use Rattle.jsonpath_base.proofs.PointerMeanings.{leads_to_what_is, leads_as_found}
use Rattle.jsonpath_base.proofs.laws.pointer_leads_as_found.Goals as goal

pub returns-clause-there : goal.returns-clause-there
returns-clause-there c = leads_to_what_is

pub returns-clause-found : goal.returns-clause-found
returns-clause-found c = leads_as_found
