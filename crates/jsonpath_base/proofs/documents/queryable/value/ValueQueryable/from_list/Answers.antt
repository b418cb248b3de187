use Rattle.jsonpath_base.proofs.lemmas.documents.Made.{array_elements, array_whole}
use Rattle.jsonpath_base.proofs.documents.queryable.value.ValueQueryable.from_list.Goals as goal

pub returns-clause-value : goal.returns-clause-value
returns-clause-value c = array_elements c.args.values

pub returns-clause-whole : goal.returns-clause-whole
returns-clause-whole c = array_whole c.args.values c.requires
