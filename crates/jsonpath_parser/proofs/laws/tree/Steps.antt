-- The steps of a singular query are segments with nothing inside.
use Rattle.std.proofs.Common.{◌≡◌, true, List, [], ◌∷◌, ◌++◌, map, refl, codes}
use Rattle.jsonpath_parser.specs.Prelude.{is_singular, segment_text, segments_of, SingularQuerySegment, step_view}
use Rattle.jsonpath_parser.specs.tree.QueryTexts.{bare_text}
use Rattle.jsonpath_parser.specs.declared.tree.model.SingularQuerySegment.TheVariants.{Index, Name}

-- each is a step
pub steps_singular : (ss : List SingularQuerySegment) → is_singular (segments_of (map step_view ss)) ≡ true
steps_singular [] = refl
steps_singular (Index i ∷ ss) = steps_singular ss
steps_singular (Name s ∷ ss) = steps_singular ss

-- as it is written
pub step_written : (s : SingularQuerySegment) → segment_text (step_view s) ≡ codes "[" ++ (bare_text (step_view s) ++ codes "]")
step_written (Index i) = refl
step_written (Name s) = refl
