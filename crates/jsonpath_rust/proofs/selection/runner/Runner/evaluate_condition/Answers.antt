use Rattle.std.proofs.Common.{rules}
use Rattle.jsonpath_rust.specs.Prelude.Documents.{document_at}
use Rattle.jsonpath_rust.specs.Prelude.Selection.{expression_of, runner_view}
use Rattle.jsonpath_rust.proofs.Stops.{condition_stops}
use Rattle.jsonpath_rust.proofs.selection.runner.Runner.evaluate_condition.Goals as goal

pub returns-in-Err-clause-refused : goal.returns-in-Err-clause-refused
returns-in-Err-clause-refused g c = condition_stops g.L.Limit.counts g.L.Limit.stops (expression_of (runner_view c.args.self.now)) (document_at c.args.value) c.lend-request.result.budget.limit c.in-Err.halt c.error.result c.error.ensures (search rules) (search rules)
