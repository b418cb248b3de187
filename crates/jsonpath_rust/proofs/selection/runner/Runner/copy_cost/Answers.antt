use Rattle.jsonpath_rust.specs.Prelude.Selection.{runner_view}
use Rattle.jsonpath_rust.proofs.Stops.{memory_stops}
use Rattle.jsonpath_rust.proofs.selection.runner.Runner.copy_cost.Goals as goal

pub returns-in-Err : goal.returns-in-Err
returns-in-Err g c = record { refused = λ d. memory_stops g.L.Limit.counts g.L.Limit.stops (runner_view c.args.self.now) d c.error.result c.error.ensures }
