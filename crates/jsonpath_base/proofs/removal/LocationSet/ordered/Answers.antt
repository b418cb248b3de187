use Rattle.std.proofs.Common.{◌∙◌}
use Rattle.jsonpath_base.specs.Prelude.{listed}
use Rattle.jsonpath_base.proofs.Counting.{same_count}
use Rattle.jsonpath_base.proofs.removal.LocationSet.ordered.Goals as goal

pub returns-clause-count : goal.returns-clause-count
returns-clause-count c = c.in_ok-count.ensures.count ∙ same_count (listed c.put_in_order.new.marks) (listed c.args.self.marks) c.in_ok-count.ensures.same.each

pub returns-clause-set : goal.returns-clause-set
returns-clause-set c = λ i l. c.in_ok-count.ensures.same.each l i
