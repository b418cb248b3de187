use Rattle.std.proofs.Common.{ap, ◌∙◌, List, []}
use Rattle.jsonpath_rust.specs.Prelude.Documents.{document_at, StepRef}
use Rattle.jsonpath_rust.specs.Prelude.Selection.{constants_view, node_of, Segment, segments_meant, selected_from}
use Rattle.jsonpath_rust.proofs.laws.selection.{nodelist-selected_from, result_as, takes, tied_at_root}
use Rattle.jsonpath_rust.proofs.selection.runner.run.Goals as goal

pub returns-in-Ok-clause-outcome : goal.returns-in-Ok-clause-outcome
returns-in-Ok-clause-outcome g c =
    let d = document_at c.args.root in
    let constants = constants_view c.args.request.plan.now.constants.items in
    let at = λ (q : List StepRef) (gs : List Segment). selected_from (segments_meant constants gs) d (node_of q c.args.root) in
    let begins = tied_at_root c.args.sink.now _ c.in-Ok.ensures.current_path in
    result_as _ _ _ _ _ (ap (λ q. at q c.deref.result.now) c.in-Ok.ensures.current_path ∙ ap (at []) c.deref.ensures.value ∙ nodelist-selected_from (segments_meant constants c.args.request.plan.now.segments.items) d) (takes _ _ _ _ begins c.walk-given.ensures.outcome)
