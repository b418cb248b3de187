use Rattle.std.proofs.Common.{◌≡◌, [], drop, IsTrue}
use Rattle.jsonpath_base.specs.Prelude.Documents.{followed, location_view, segments_in, value_is_whole, value_tree}
use Rattle.jsonpath_base.proofs.documents.reference.follow.Given as goal

-- the segments that are left lead from here to where all of them lead
abbrev pub invariant-loop-segment : goal.invariant-loop-segment
invariant-loop-segment l =
    (followed (segments_in (drop l.segment-index l.segments)) (location_view l.steps.items) (value_tree l.value) ≡ followed (segments_in l.segments) [] (value_tree l.root))
    × (IsTrue (value_is_whole l.root) → IsTrue (value_is_whole l.value))
