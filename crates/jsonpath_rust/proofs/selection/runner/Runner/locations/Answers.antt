use Rattle.std.proofs.Common.{◌∙◌, rules}
use Rattle.jsonpath_base.specs.Prelude.Documents.{location_view, nodelist}
use Rattle.jsonpath_rust.specs.Prelude.Documents.{document_at}
use Rattle.jsonpath_rust.specs.Prelude.Selection.{runner_view}
use Rattle.jsonpath_rust.proofs.laws.selection.{given_locations}
use Rattle.jsonpath_rust.proofs.selection.runner.Runner.locations.Goals as goal

pub returns : goal.returns
returns g c =
    let tree = g.T.Queryable.tree in
    let q = runner_view c.args.self.now in
    let doc = document_at c.args.value in
    let locations = c.into_locations.ensures ∙ given_locations (λ l. location_view l.items) c.new.result.items _ (nodelist q doc) c.new.ensures.items c.in_ok-sink.ensures.outcome in
    record { outcome = locations; refused = tt; same = search rules }
