-- The locations of a set.
use Rattle.std.specs.Prelude.{ℕ, Bool}
use Rattle.jsonpath_parser.specs.Location.{Location}
use Rattle.jsonpath_base.specs.Without.{distinct_count}
use Rattle.jsonpath_base.specs.inner.LocationTries.{listed, marked, EndsWith}
use Rattle.jsonpath_base.specs.declared.removal.LocationSet.{LocationSet}
use Rattle.jsonpath_base.specs.declared.removal.SortedLocations.{SortedLocations}

-- the locations to be removed or replaced
abbrev pub location_set : LocationSet → Location → Bool
location_set r = marked r.marks

-- the number of distinct ones
abbrev pub location_count : LocationSet → ℕ
location_count r = distinct_count (listed r.marks)

-- the same for a sorted set
abbrev pub sorted_set : SortedLocations → Location → Bool
sorted_set r = marked r.marks

abbrev pub sorted_count : SortedLocations → ℕ
sorted_count r = r.count

-- the location that was added last begins with these steps
abbrev pub LastBegins : LocationSet → Location → Type 0
LastBegins r l = EndsWith l r.marks
