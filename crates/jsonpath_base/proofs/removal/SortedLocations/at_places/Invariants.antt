use Rattle.std.proofs.Common.{◌≡◌, drop, map}
use Rattle.jsonpath_base.specs.Prelude.{distinct_count, is_among, listed, location_view, marked, set_with}
use Rattle.jsonpath_base.proofs.removal.SortedLocations.at_places.Given as goal

-- with the places that are left, the removal is of all
abbrev pub invariant-loop-place : goal.invariant-loop-place
invariant-loop-place l =
    let places = map (λ p. location_view p.items) l.places in
    set_with (map (λ p. location_view p.items) (drop l.place-index l.places)) (marked l.removal.marks) (distinct_count (listed l.removal.marks)) ≡ (is_among places, distinct_count places)
