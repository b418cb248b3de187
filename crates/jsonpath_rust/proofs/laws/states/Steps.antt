-- The steps of a singular query.
use Rattle.std.proofs.Common.{◌≡◌, List, map, ap, ◌∙◌}
use Rattle.jsonpath_base.specs.Prelude.Documents.{Document, segments_of, SingularQuerySegment, step_view}
use Rattle.jsonpath_rust.specs.Prelude.States.{Content, segments_content}

-- the same steps on the same content
pub steps_as : (ss xs : List SingularQuerySegment) (b c : Content) (d : Document) → ss ≡ xs → b ≡ c → segments_content (segments_of (map step_view ss)) d b ≡ segments_content (segments_of (map step_view xs)) d c
steps_as ss xs b c d same e = ap (λ (ys : List SingularQuerySegment). segments_content (segments_of (map step_view ys)) d b) same ∙ ap (segments_content (segments_of (map step_view xs)) d) e
