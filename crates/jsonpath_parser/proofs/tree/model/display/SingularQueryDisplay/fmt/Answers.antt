use Rattle.std.proofs.Common.{◌++◌, refl, rules, ap, codes}
use Rattle.std.proofs.Output.{has_written_append, has_written_of_eq}
use Rattle.jsonpath_parser.specs.Prelude.{segment_shown, step_view}
use Rattle.jsonpath_parser.proofs.laws.tree.Joined.{steps_joined}
use Rattle.jsonpath_parser.proofs.tree.model.display.SingularQueryDisplay.fmt.Goals as goal

pub returns-in_ok-write_str-in-Current-clause-writes : goal.returns-in_ok-write_str-in-Current-clause-writes
returns-in_ok-write_str-in-Current-clause-writes g c plain ok =
    let root = c.write_str.ensures.writes plain (search rules) in
    let steps = c.write_joined.ensures (λ x. segment_shown (step_view x)) (λ x. refl) root.plain ok in
    has_written_of_eq _ _ _ _ _ (rw c.in-Current.is (ap (λ r. codes "@." ++ r) (steps_joined c.in-Current.steps))) (has_written_append _ _ _ _ _ _ root steps)

pub returns-in_ok-write_str-in-Root-clause-writes : goal.returns-in_ok-write_str-in-Root-clause-writes
returns-in_ok-write_str-in-Root-clause-writes g c plain ok =
    let root = c.write_str-in-Root.ensures.writes plain (search rules) in
    let steps = c.write_joined-in-Root.ensures (λ x. segment_shown (step_view x)) (λ x. refl) root.plain ok in
    has_written_of_eq _ _ _ _ _ (rw c.in-Root.is (ap (λ r. codes "$." ++ r) (steps_joined c.in-Root.steps))) (has_written_append _ _ _ _ _ _ root steps)
