-- `==` of steps is equality of what they stand for, and so are the beginnings of lists of steps.
use Rattle.std.proofs.Common.{◌≡◌, ◌∷◌, ◌↔◌, List, [], IsTrue, refl}
use Rattle.std.proofs.lemmas.Bool.Decides.{Decides-and, Decides-eqb}
use Rattle.std.specs.Bool.{Decides}
use Rattle.std.specs.List.{starts_with}
use Rattle.jsonpath_parser.proofs.Deciding.{under, differ, string_same}
use Rattle.jsonpath_parser.specs.Location as location
use Rattle.jsonpath_base.specs.Prelude.{Begins, Index, location_view, Name, owned_step}
use Rattle.jsonpath_base.specs.contracts.step.StepPartialEq.TheImpl as step_eq
use Rattle.jsonpath_base.specs.declared.step.Step.{Step}

pub step_same : (a b : Step) → Decides (step_eq.eq-value.it a b) (owned_step a ≡ owned_step b)
step_same (Name a) (Name b) = under location.name (λ s t h. cc) (string_same a b) refl refl refl
step_same (Index a) (Index b) = under location.index (λ s t h. cc) (Decides-eqb a b) refl refl refl
step_same a b = differ refl (λ h. cc)

further : (s t : location.Step) (l m : location.Location) → (s ≡ t) × Begins l m → Begins (s ∷ l) (t ∷ m)
further s t l m (same, (rest, is)) = (rest, cc)

first_and_rest : (s t : location.Step) (l m : location.Location) → Begins (s ∷ l) (t ∷ m) → (s ≡ t) × Begins l m
first_and_rest s t l m (rest, is) = (cc, (rest, cc))

pub begins_same : (steps front : List Step) → IsTrue (starts_with step_eq.eq-value.it steps front) ↔ Begins (location_view front) (location_view steps)
begins_same steps [] = (λ h. (location_view steps, refl), λ h. refl)
begins_same [] (f ∷ front) = (λ h. absurd cc, λ (rest, is). absurd cc)
begins_same (s ∷ steps) (f ∷ front) =
    let both = Decides-and _ _ (step_same f s) (begins_same steps front) in (
      λ h. further (owned_step f) (owned_step s) (location_view front) (location_view steps) (both.0 h),
      λ h. both.1 (first_and_rest (owned_step f) (owned_step s) (location_view front) (location_view steps) h),
    )
