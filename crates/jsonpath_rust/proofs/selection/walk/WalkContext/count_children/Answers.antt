use Rattle.std.proofs.Common.{Some, None, map, option_map, ap, sym, ◌∙◌}
use Rattle.std.proofs.lemmas.Result.{IfOk-weaker}
use Rattle.jsonpath_base.specs.Prelude.Documents.{step_view, value_at}
use Rattle.jsonpath_rust.specs.Prelude.Documents.{tree_of}
use Rattle.jsonpath_rust.proofs.laws.selection.{children_counted}
use Rattle.jsonpath_rust.proofs.selection.walk.WalkContext.count_children.Goals as goal

pub returns-in-Some-clause-count : goal.returns-in-Some-clause-count
returns-in-Some-clause-count g c = λ d n e.
    let ss = map step_view c.args.steps.now in
    let there = ap (option_map tree_of) (sym c.in-Some.is) ∙ c.in_ok-parent.ensures.value ∙ ap (value_at ss) (sym e) in
    IfOk-weaker c.child_count.result _ _ (λ k h. h ∙ sym (children_counted c.args.steps.now d n (Some (tree_of c.in-Some.parent)) there)) c.child_count.ensures.count

pub returns-in-None-clause-count : goal.returns-in-None-clause-count
returns-in-None-clause-count g c = λ d n e.
    let ss = map step_view c.args.steps.now in
    sym (children_counted c.args.steps.now d n None (ap (option_map tree_of) (sym c.in-None.is) ∙ c.in_ok-parent.ensures.value ∙ ap (value_at ss) (sym e)))
