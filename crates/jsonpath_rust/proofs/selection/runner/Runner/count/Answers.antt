use Rattle.std.proofs.Common.{◌∙◌, ap, rules}
use Rattle.jsonpath_base.specs.Prelude.Documents.{nodelist}
use Rattle.jsonpath_rust.specs.Prelude.Documents.{document_at}
use Rattle.jsonpath_rust.specs.Prelude.Selection.{count_in, feed, runner_view}
use Rattle.jsonpath_rust.proofs.laws.selection.{count_answered}
use Rattle.jsonpath_rust.proofs.selection.runner.Runner.count.Goals as goal

pub returns : goal.returns
returns g c =
    let q = runner_view c.args.self.now in
    let doc = document_at c.args.value in
    let count = count_answered q doc c.into_count.result (c.into_count.ensures ∙ ap count_in (c.in_ok-sink.ensures.outcome ∙ ap (λ s. feed s (nodelist q doc)) c.start.ensures)) in
    record { outcome = count; refused = tt; same = search rules }
