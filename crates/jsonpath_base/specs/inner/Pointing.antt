-- Parts of JSON Pointers, for the contracts of `pointer` alone.
use Rattle.std.specs.Prelude.{◌≡◌, ℕ, List, [], ◌∷◌, ◌++◌, ◌==◌, if◌then◌else◌, codes, Some}
use Rattle.std.specs.Str.{byte}
use Rattle.serde_json.specs.declared.value.Value.{Value}
use Rattle.jsonpath_base.specs.Places as places
use Rattle.jsonpath_base.specs.Pointer.{step_in}
use Rattle.jsonpath_base.specs.Steps.{owned_step}
use Rattle.jsonpath_base.specs.Values.{value_tree}
use Rattle.jsonpath_base.specs.declared.step.Step.{Step}

-- a character with only `~` escaped
abbrev pub tilde_escaped : ℕ → List ℕ
tilde_escaped c = if c == byte "~" then codes "~0" else c ∷ []

-- A token leads from one value to a child of it, and its step is after the others.
pub record GoesDown (token : List ℕ) (target : Value) (old new : List Step) (below : Value) : Type 0 where
  pub step : Step
  pub steps : new ≡ old ++ step ∷ []
  pub means : step_in token (value_tree target) ≡ Some (owned_step step)
  pub child : places.child (owned_step step) (value_tree target) ≡ Some (value_tree below)
