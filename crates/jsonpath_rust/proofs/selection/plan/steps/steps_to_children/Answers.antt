use Rattle.std.proofs.Common.{[], ◌∷◌, ◌++◌, map, ap, sym, ◌∙◌}
use Rattle.std.proofs.lemmas.List.{map-append}
use Rattle.std.proofs.lemmas.Option.{IfSome_then}
use Rattle.std.proofs.lemmas.Result.{IfOk-weaker}
use Rattle.jsonpath_base.specs.Prelude.Documents.{one, segment_view, segments_of, wildcard}
use Rattle.jsonpath_rust.proofs.selection.plan.steps.steps_to_children.Goals as goal

pub returns-then-is_wildcard-clause-same : goal.returns-then-is_wildcard-clause-same
returns-then-is_wildcard-clause-same c =
    let before = c.in-Some.before.now in
    let last = ap (λ g. map segment_view before ++ g ∷ []) (sym (c.is_wildcard.ensures c.if-is_wildcard.true)) in
    let all = last ∙ sym (map-append segment_view before (c.in-Some.last.now ∷ [])) ∙ ap (map segment_view) (sym c.in-Some.ensures.cases.0) in
    IfOk-weaker c.steps_of.result _ _ (λ o h. IfSome_then o h (λ v e. ap segments_of (ap (λ xs. xs ++ one wildcard ∷ []) e ∙ all))) c.steps_of.ensures.same
