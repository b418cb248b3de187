use Rattle.std.proofs.Common.{refl}
use Rattle.jsonpath_rust.proofs.selection.sink.Sink.take.Goals as goal

pub returns-in-Single-clause-outcome : goal.returns-in-Single-clause-outcome
returns-in-Single-clause-outcome g c = rw c.in-Single.is (record { took = λ _. c.take_sole.ensures _ refl; tied = λ _. tt })

pub returns-in-Count-clause-outcome : goal.returns-in-Count-clause-outcome
returns-in-Count-clause-outcome g c = rw c.in-Count.is (record { took = λ _. c.take_count.ensures _ _; tied = λ _. tt })
