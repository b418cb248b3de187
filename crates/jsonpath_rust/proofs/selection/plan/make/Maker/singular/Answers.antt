use Rattle.std.proofs.Common.{◌∙◌, ap, refl, sym, map}
use Rattle.jsonpath_parser.specs.tree.Syntax as syntax
use Rattle.jsonpath_parser.specs.tree.View as tree
use Rattle.jsonpath_rust.specs.Prelude.Selection.{argument_in, every, nodes, Single}
use Rattle.jsonpath_rust.proofs.laws.selection.{argument_in-nodes, made_as, made_here, made_none}
use Rattle.jsonpath_rust.proofs.laws.selection.PlanEquations as plan
use Rattle.jsonpath_rust.proofs.selection.plan.make.Maker.singular.Goals as goal

pub returns-in_ok-steps_again-in-Current-clause-made : goal.returns-in_ok-steps_again-in-Current-clause-made
returns-in_ok-steps_again-in-Current-clause-made c =
    made_here c.meet_current.ensures (made_none {test = every} _ _ (λ constants. plan.expr_view-Lookup constants _ Single ∙ ap (λ ss. syntax.test_argument (syntax.relative (tree.segments_of ss))) (c.in_ok-steps_again-in-Current.ensures.same ∙ ap (map tree.step_view) c.deref.ensures.value)) (ap (λ q. syntax.test_argument (tree.singular_view q)) c.in-Current.is) refl)

pub returns-in_ok-number-in-Root-clause-made : goal.returns-in_ok-number-in-Root-clause-made
returns-in_ok-number-in-Root-clause-made c =
    made_as (argument_in Single) _ _ (λ constants. plan.expr_view-Constant constants _ Single) (ap (λ q. syntax.test_argument (tree.singular_view q)) c.in-Root.is ∙ sym (argument_in-nodes Single _)) (λ h. refl) (c.in_ok-number-in-Root.ensures.numbered.made (made_none _ _ (λ constants. ap (λ ss. nodes Single (tree.segments_of ss)) (c.in_ok-segments-in-Root.ensures.same constants ∙ ap (map tree.step_view) c.deref-in-Root.ensures.value)) refl refl) refl)
