use Rattle.std.proofs.Common.{◌∙◌, rules, string_bytes}
use Rattle.jsonpath_base.specs.Prelude.Documents.{nodelist}
use Rattle.jsonpath_rust.specs.Prelude.Documents.{document_at}
use Rattle.jsonpath_rust.specs.Prelude.Selection.{runner_view}
use Rattle.jsonpath_rust.proofs.laws.selection.{given_paths, paths_answered}
use Rattle.jsonpath_rust.proofs.selection.runner.Runner.paths.Goals as goal

pub returns : goal.returns
returns g c =
    let tree = g.T.Queryable.tree in
    let q = runner_view c.args.self.now in
    let doc = document_at c.args.value in
    let paths = paths_answered q doc _ (c.into_paths.ensures ∙ given_paths (λ p. string_bytes p) c.new.result.items _ (nodelist q doc) c.new.ensures.items c.in_ok-sink.ensures.outcome) in
    record { outcome = paths; refused = tt; same = search rules }
