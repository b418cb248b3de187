-- The text of a path, for the contracts of `CurrentPath` alone.
use Rattle.std.specs.Prelude.{◌≡◌, ℕ, ◌<◌, ◌≤◌, List, length, take, get_or}
use Rattle.jsonpath_parser.specs.Normal.{steps_text}
use Rattle.jsonpath_base.specs.Steps.{lent_location}
use Rattle.jsonpath_base.specs.declared.step.StepRef.{StepRef}

-- these steps, as a Normalized Path writes them
abbrev pub spelled : List StepRef → List ℕ
spelled steps = steps_text (lent_location steps)

-- The text is that of the first steps, as many as there are starts, and each of them begins at its start.
pub record IsSpelled (steps : List StepRef) (starts : List ℕ) (bytes : List ℕ) : Type 0 where
  pub within : length starts ≤ length steps
  pub text : bytes ≡ spelled (take (length starts) steps)
  pub begins : (k : ℕ) → k < length starts → get_or starts k 0 ≡ length (spelled (take k steps))
