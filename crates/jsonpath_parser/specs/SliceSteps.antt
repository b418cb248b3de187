-- What a slice has still to give. Of `places_left` a user need know no more than what the clauses of `slice_places` and of `next` say.
use Rattle.std.specs.Prelude.{ℕ, suc, ◌-◌, ◌%◌, Bool, ◌&&◌, ◌==◌, nat_le, nat_lt, List, filter, if◌then◌else◌}
use Rattle.std.specs.List.{range_with_len}
use Rattle.jsonpath_parser.specs.Slice.{down_from}
use Rattle.jsonpath_parser.specs.declared.slice.SlicePlaces.{SlicePlaces}

-- from lower to below upper, where the step divides the way from lower
abbrev pub is_risen : ℕ → ℕ → ℕ → ℕ → Bool
is_risen lower upper step i = nat_le lower i && nat_lt i upper && ((i - lower) % step == 0)

-- from below upper down to lower, where the step divides the way from the greatest
abbrev pub is_fallen : ℕ → ℕ → ℕ → ℕ → Bool
is_fallen lower upper step i = nat_le lower i && nat_lt i upper && ((upper - 1 - i) % step == 0)

unfoldable pub rising_places : ℕ → ℕ → ℕ → List ℕ
rising_places lower upper step = filter (is_risen lower upper step) (range_with_len 0 upper)

unfoldable pub falling_places : ℕ → ℕ → ℕ → List ℕ
falling_places lower upper step = filter (is_fallen lower upper step) (down_from upper)

-- the places that are still to come
unfoldable pub places_left : SlicePlaces → List ℕ
places_left p = if p.falls then falling_places p.end p.at (suc p.between) else rising_places p.at p.end (suc p.between)
