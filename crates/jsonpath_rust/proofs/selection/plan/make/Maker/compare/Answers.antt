use Rattle.std.proofs.Common.{◌∙◌, refl, sym}
use Rattle.jsonpath_rust.specs.Prelude.Selection.{Exists, argument_in, truth_of}
use Rattle.jsonpath_rust.proofs.laws.selection.{filter_view-Comparison, filter_view-Constant, made_as, made_ended}
use Rattle.jsonpath_rust.proofs.selection.plan.make.Maker.compare.Goals as goal

pub returns-then-end-clause-made : goal.returns-then-end-clause-made
returns-then-end-clause-made c = record {
  made = λ b m. made_as (λ p. truth_of (argument_in Exists p)) _ _ (λ constants. filter_view-Constant constants _) refl (λ h. h) (c.in_ok-number.ensures.numbered.made (made_ended b c.end.ensures.beside m) (m.rooted (sym c.end.ensures.rooted ∙ c.if-end.true)).1);
}

pub returns-clause-made : goal.returns-clause-made
returns-clause-made c = record { made = λ b m. made_as (λ p. truth_of (argument_in Exists p)) _ _ (λ constants. filter_view-Comparison constants _ _ _) refl (λ h. h) (made_ended b c.end.ensures.beside m) }
