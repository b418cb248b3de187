use Rattle.jsonpath_base.proofs.Marking.{on_ok}
use Rattle.jsonpath_base.proofs.removal.LocationSet.add.Goals as goal

pub returns-clause-added : goal.returns-clause-added
returns-clause-added c = on_ok c.add_behind.result (λ h. h tt) c.add_behind.ensures.added

pub returns-clause-count : goal.returns-clause-count
returns-clause-count c = on_ok c.add_behind.result (λ h. h tt) c.add_behind.ensures.count

pub returns-clause-last : goal.returns-clause-last
returns-clause-last c = on_ok c.add_behind.result (λ h. h tt) c.add_behind.ensures.last
