use Rattle.std.proofs.Common.{◌∙◌, ap, refl, rules}
use Rattle.jsonpath_base.specs.Prelude.Documents.{nodelist}
use Rattle.jsonpath_rust.specs.Prelude.Documents.{document_at}
use Rattle.jsonpath_rust.specs.Prelude.Selection.{count_in, feed, runner_view}
use Rattle.jsonpath_rust.proofs.laws.selection.{no_node}
use Rattle.jsonpath_rust.proofs.selection.runner.Runner.has_node.Goals as goal

pub returns : goal.returns
returns g c =
    let q = runner_view c.args.self.now in
    let doc = document_at c.args.value in
    let none = no_node c.into_count.result _ (nodelist q doc) (c.into_count.ensures ∙ ap count_in (c.in_ok-sink.ensures.outcome ∙ ap (λ s. feed s (nodelist q doc)) c.start.ensures)) refl in
    record { outcome = none; refused = tt; same = search rules }
