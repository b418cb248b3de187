-- What remains of a tree without a set of locations.
use Rattle.std.specs.Prelude.{◌≡◌, ◌<◌, ◌≤◌, ℕ, List, [], ◌∷◌, ◌++◌, Bool, false, IsTrue, None, option_map, ⊤}
use Rattle.jsonpath_parser.specs.Location.{name, index, Location}
use Rattle.jsonpath_base.specs.Places.{at}
use Rattle.jsonpath_base.specs.Tree.{Tree, has_distinct_names}
use Rattle.jsonpath_base.specs.Without.{without, is_among}

-- No location of the set is this one or is above it, and no element of the set is before one that it goes through.
abbrev pub StaysInPlace : (Location → Bool) → Location → Type 0
StaysInPlace gone [] = gone [] ≡ false
StaysInPlace gone (name k ∷ l) = (gone [] ≡ false) × StaysInPlace (λ m. gone (name k ∷ m)) l
StaysInPlace gone (index i ∷ l) = (gone [] ≡ false) × ((j : ℕ) → j < i → gone (index j ∷ []) ≡ false) × StaysInPlace (λ m. gone (index i ∷ m)) l

-- What stays in its place is there, without the locations of the set that are inside it.
abbrev pub WithoutIsSeen : Type 0
WithoutIsSeen = (gone : Location → Bool) (l : Location) (t : Tree) → StaysInPlace gone l → at l (without gone t) ≡ option_map (without (λ m. gone (l ++ m))) (at l t)

-- Down to the first removed member on the path, if there is one, no element that the location goes through is removed or has a removed one before it.
abbrev pub KeepsItsIndexes : (Location → Bool) → Location → Type 0
KeepsItsIndexes gone [] = ⊤
KeepsItsIndexes gone (name k ∷ l) = gone (name k ∷ []) ≡ false → KeepsItsIndexes (λ m. gone (name k ∷ m)) l
KeepsItsIndexes gone (index i ∷ l) = ((j : ℕ) → j ≤ i → gone (index j ∷ []) ≡ false) × KeepsItsIndexes (λ m. gone (index i ∷ m)) l

-- What stays in its place is such a location.
abbrev pub StayingKeepsIndexes : Type 0
StayingKeepsIndexes = (gone : Location → Bool) (l : Location) → StaysInPlace gone l → KeepsItsIndexes gone l

-- There is no value where a member was removed from such a location.
abbrev pub RemovedMemberIsGone : Type 0
RemovedMemberIsGone = (gone : Location → Bool) (l : Location) (k : List ℕ) (t : Tree) → KeepsItsIndexes gone l → IsTrue (gone (l ++ name k ∷ [])) → at (l ++ name k ∷ []) (without gone t) ≡ None

-- What stays in its place, with nothing of the set inside it, is as it was.
abbrev pub WithoutLeavesTheRest : Type 0
WithoutLeavesTheRest = (gone : Location → Bool) (l : Location) (t : Tree) → StaysInPlace gone l → ((m : Location) → gone (l ++ m) ≡ false) → at l (without gone t) ≡ at l t

-- Where there is no value, a removal changes nothing, in a tree with distinct names.
abbrev pub WithoutNowhere : Type 0
WithoutNowhere = (l : Location) (t : Tree) → IsTrue (has_distinct_names t) → at l t ≡ None → without (is_among (l ∷ [])) t ≡ t
