use Rattle.jpath.proofs.DocumentQueries.{array_elements, array_whole}
use Rattle.jpath.proofs.document.queryable.JsonQueryable.from_list.Goals as goal

pub returns-clause-value : goal.returns-clause-value
returns-clause-value c = array_elements c.args.values

pub returns-clause-whole : goal.returns-clause-whole
returns-clause-whole c = array_whole c.args.values c.requires
