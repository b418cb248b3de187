-- A tree with another in the place of the values at a set of locations (RFC 9535, 1.1), all put at once: of locations that are inside one another the
-- outermost.
use Rattle.std.specs.Prelude.{◌≡◌, ℕ, suc, [], ◌∷◌, ◌++◌, Bool, false, IsTrue, if◌then◌else◌, option_map}
use Rattle.jsonpath_parser.specs.Location.{name, index, Location, Begins}
use Rattle.jsonpath_base.specs.Places.{at}
use Rattle.jsonpath_base.specs.Put.{put}
use Rattle.jsonpath_base.specs.Tree.{Tree, null, truth, number, text, list, object, Trees, no_trees, tree, Members, no_members, member, has_distinct_names}
use Rattle.jsonpath_base.specs.Without.{is_among}

-- Each child goes by its location: one that is in the set is u, and any other is overwritten below itself.
abbrev mutual
  pub overwritten_below : (Location → Bool) → Tree → Tree → Tree
  overwritten_below set u null = null
  overwritten_below set u (truth b) = truth b
  overwritten_below set u (number n) = number n
  overwritten_below set u (text s) = text s
  overwritten_below set u (list ts) = list (elements_overwritten set u 0 ts)
  overwritten_below set u (object ms) = object (members_overwritten set u ms)

  -- the elements, counted from i
  pub elements_overwritten : (Location → Bool) → Tree → ℕ → Trees → Trees
  elements_overwritten set u i no_trees = no_trees
  elements_overwritten set u i (tree t ts) =
      tree (if set (index i ∷ []) then u else overwritten_below (λ l. set (index i ∷ l)) u t) (elements_overwritten set u (suc i) ts)

  pub members_overwritten : (Location → Bool) → Tree → Members → Members
  members_overwritten set u no_members = no_members
  members_overwritten set u (member k t ms) =
      member k (if set (name k ∷ []) then u else overwritten_below (λ l. set (name k ∷ l)) u t) (members_overwritten set u ms)

abbrev pub overwritten : (Location → Bool) → Tree → Tree → Tree
overwritten set u t = if set [] then u else overwritten_below set u t

-- At one location it is a write there. A write changes only the first member of a name, so no object may have a name twice.
abbrev pub OverwrittenAtOneIsPut : Type 0
OverwrittenAtOneIsPut = (l : Location) (u t : Tree) → IsTrue (has_distinct_names t) → overwritten (is_among (l ∷ [])) u t ≡ put l u t

-- no location of the set is strictly above this one
abbrev pub HasNoneAbove : (Location → Bool) → Location → Type 0
HasNoneAbove set l = (m : Location) → Begins m l → (m ≡ l → ⊥) → set m ≡ false

-- At such a location there is what was there, overwritten at the locations of the set that are there and inside.
abbrev pub OverwrittenIsSeen : Type 0
OverwrittenIsSeen = (set : Location → Bool) (l : Location) (u t : Tree) → HasNoneAbove set l → at l (overwritten set u t) ≡ option_map (overwritten (λ m. set (l ++ m)) u) (at l t)

-- What is neither inside a location of the set nor above one is as it was.
abbrev pub OverwrittenLeavesTheRest : Type 0
OverwrittenLeavesTheRest = (set : Location → Bool) (l : Location) (u t : Tree) → ((m : Location) → IsTrue (set m) → (Begins m l → ⊥) × (Begins l m → ⊥)) → at l (overwritten set u t) ≡ at l t

-- It forgets what it overwrites: whatever was at the locations of the set, the result is the same.
abbrev pub OverwrittenForgets : Type 0
OverwrittenForgets = (set : Location → Bool) (u v t : Tree) → overwritten set u (overwritten set v t) ≡ overwritten set u t
