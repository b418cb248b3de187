use Rattle.std.proofs.Common.{option_map, ap, sym, ◌∙◌}
use Rattle.std.proofs.lemmas.Result.{IfOk-weaker}
use Rattle.jsonpath_base.specs.Prelude.Documents.{length_of}
use Rattle.jsonpath_rust.specs.Prelude.Documents.{tree_of}
use Rattle.jsonpath_rust.proofs.selection.walk.WalkContext.direct_length.Goals as goal

pub returns-in-Some-clause-value : goal.returns-in-Some-clause-value
returns-in-Some-clause-value g c =
    let there = ap (option_map tree_of) (sym c.in-Some.is) ∙ c.in_ok-value.ensures.value in
    IfOk-weaker c.length_at.result _ _ (λ s h. h ∙ ap length_of there) c.length_at.ensures.value

pub returns-in-None-clause-value : goal.returns-in-None-clause-value
returns-in-None-clause-value g c = ap length_of (ap (option_map tree_of) (sym c.in-None.is) ∙ c.in_ok-value.ensures.value)
