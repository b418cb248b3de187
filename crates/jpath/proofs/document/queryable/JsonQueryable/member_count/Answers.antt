use Rattle.std.proofs.Common.{Some, ap, ◌∙◌}
use Rattle.jpath.proofs.DocumentQueries.{object_count}
use Rattle.jpath.proofs.document.queryable.JsonQueryable.member_count.Goals as goal

pub returns-in-Object-clause-value : goal.returns-in-Object-clause-value
returns-in-Object-clause-value c = λ h. ap Some c.len.ensures.len ∙ object_count c.args.self.now c.in-Object.members c.in-Object.is
