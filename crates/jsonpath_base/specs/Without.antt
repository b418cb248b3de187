-- A tree without the values at a set of locations (RFC 9535, 1.1), all removed at once. A set is a test of locations.
use Rattle.std.specs.Prelude.{◌≡◌, ◌↔◌, ℕ, suc, List, [], ◌∷◌, Bool, true, false, IsTrue, ◌&&◌, ◌||◌, nat_eq, if◌then◌else◌}
use Rattle.std.specs.Str.{bytes_eq}
use Rattle.std.specs.List.{Contains, list_any}
use Rattle.jsonpath_parser.specs.Location.{Step, name, index, Location}
use Rattle.jsonpath_base.specs.Tree.{Tree, null, truth, number, text, list, object, Trees, no_trees, tree, Members, no_members, member}

-- ---- sets of locations

abbrev pub is_same_step : Step → Step → Bool
is_same_step (name k) (name l) = bytes_eq k l
is_same_step (index i) (index j) = nat_eq i j
is_same_step _ _ = false

abbrev pub is_location : Location → Location → Bool
is_location [] [] = true
is_location (s ∷ l) (r ∷ m) = is_same_step s r && is_location l m
is_location _ _ = false

-- the set of the locations of a list
abbrev pub is_among : List Location → Location → Bool
is_among ls l = list_any (λ m. is_location m l) ls

-- It has a location exactly where the list does.
abbrev pub AmongIsListed : Type 0
AmongIsListed = (ls : List Location) (l : Location) → IsTrue (is_among ls l) ↔ Contains ls l

-- the number of distinct locations in a list
abbrev pub distinct_count : List Location → ℕ
distinct_count [] = 0
distinct_count (l ∷ ls) = if is_among ls l then distinct_count ls else suc (distinct_count ls)

-- the set with this location too
abbrev pub also : Location → (Location → Bool) → Location → Bool
also at set l = is_location at l || set l

-- The set has this location too, and otherwise what it had.
pub record HasAlso (old : Location → Bool) (at : Location) (new : Location → Bool) : Type 0 where
  pub each : (l : Location) → new l ≡ also at old l

-- the number of locations in a set of n locations with this one too
abbrev pub counted_with : Location → (Location → Bool) → ℕ → ℕ
counted_with at set n = if set at then n else suc n

-- ---- trees

-- Each child goes by its original location; those that remain keep their order.
abbrev mutual
  pub thinned : (Location → Bool) → Tree → Tree
  thinned gone null = null
  thinned gone (truth b) = truth b
  thinned gone (number n) = number n
  thinned gone (text s) = text s
  thinned gone (list ts) = list (elements_thinned gone 0 ts)
  thinned gone (object ms) = object (members_thinned gone ms)

  -- the elements, counted from i
  pub elements_thinned : (Location → Bool) → ℕ → Trees → Trees
  elements_thinned gone i no_trees = no_trees
  elements_thinned gone i (tree t ts) =
      if gone (index i ∷ []) then elements_thinned gone (suc i) ts else tree (thinned (λ l. gone (index i ∷ l)) t) (elements_thinned gone (suc i) ts)

  pub members_thinned : (Location → Bool) → Members → Members
  members_thinned gone no_members = no_members
  members_thinned gone (member k t ms) =
      if gone (name k ∷ []) then members_thinned gone ms else member k (thinned (λ l. gone (name k ∷ l)) t) (members_thinned gone ms)

-- Where the root is in the set, null is left.
abbrev pub without : (Location → Bool) → Tree → Tree
without gone t = if gone [] then null else thinned gone t
