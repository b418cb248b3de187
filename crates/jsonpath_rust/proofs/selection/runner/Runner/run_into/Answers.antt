use Rattle.std.proofs.Common.{rules}
use Rattle.jsonpath_rust.specs.Prelude.Documents.{document_at}
use Rattle.jsonpath_rust.specs.Prelude.Selection.{runner_view}
use Rattle.jsonpath_rust.proofs.Stops.{query_stops}
use Rattle.jsonpath_rust.proofs.selection.runner.Runner.run_into.Goals as goal

pub returns-in-Err-clause-refused : goal.returns-in-Err-clause-refused
returns-in-Err-clause-refused g c = query_stops g.L.Limit.counts g.L.Limit.stops (runner_view c.args.self.now) (document_at c.args.value) c.lend-request.result.budget.limit c.in-Err.halt c.error.result c.error.ensures (search rules) (search rules)
