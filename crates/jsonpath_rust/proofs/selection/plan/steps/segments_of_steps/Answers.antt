use Rattle.std.proofs.Common.{ap, map, take, ◌∙◌, ◌++◌, ◌∷◌, [], sym}
use Rattle.std.proofs.lemmas.List.{map-append, map_more, take_all}
use Rattle.jsonpath_base.specs.Prelude.Documents.{step_view}
use Rattle.jsonpath_rust.specs.Prelude.Selection.{segment_view}
use Rattle.jsonpath_rust.proofs.selection.plan.steps.segments_of_steps.Goals as goal

pub steps-preserved : goal.steps-preserved
steps-preserved c = λ constants.
    let steps = c.args.steps.now in
    let i = c.steps.step-index in
    let made = c.in_ok-segment_of.field-0 in
    let step = c.in_ok-segment_of.ensures.same constants ∙ ap step_view c.step-item.is in
    ap (map (segment_view constants)) c.in_ok-push.ensures.items ∙ map-append (segment_view constants) c.steps.segments.items (made ∷ []) ∙ ap (λ gs. gs ++ segment_view constants made ∷ []) (c.steps.invariant constants) ∙ ap (λ g. map step_view (take i steps) ++ g ∷ []) step ∙ sym (map_more step_view steps i c.step-item.result c.steps-test.true)

pub returns-clause-same : goal.returns-clause-same
returns-clause-same c = λ constants. c.steps.invariant constants ∙ ap (map step_view) (take_all c.steps.step-index c.args.steps.now c.steps-test.false)
