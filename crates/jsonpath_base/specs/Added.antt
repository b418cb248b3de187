-- A tree with a new value in an object or a list of it (RFC 6902, 4.1).
use Rattle.std.specs.Prelude.{◌≡◌, ℕ, zero, suc, List, [], ◌∷◌, ◌++◌, Bool, true, false, IsTrue, if◌then◌else◌, nat_le, nat_lt, length, option_map, unwrap_or}
use Rattle.std.specs.Cmp.Lexicographic.{slice_cmp}
use Rattle.std.specs.Ordering.{nat_cmp, match_ordering}
use Rattle.jsonpath_parser.specs.Location.{Step, name, index, Location, Begins}
use Rattle.jsonpath_base.specs.Places.{at}
use Rattle.jsonpath_base.specs.Put.{with_child}
use Rattle.jsonpath_base.specs.Tree.{Tree, list, object, Trees, no_trees, tree, Members, no_members, member, elements}

-- before the element of that index, or after the last one
abbrev pub with_new_element : ℕ → Tree → Trees → Trees
with_new_element zero u ts = tree u ts
with_new_element (suc i) u no_trees = no_trees
with_new_element (suc i) u (tree t ts) = tree t (with_new_element i u ts)

-- in the place of the member of that name; if there is none, where it is in the order of the names' bytes
abbrev pub with_new_member : List ℕ → Tree → Members → Members
with_new_member k u no_members = member k u no_members
with_new_member k u (member l t ms) = match_ordering (slice_cmp nat_cmp k l) (member k u (member l t ms)) (member l u ms) (member l t (with_new_member k u ms))

-- an object with a member of that name, a list with an element of that index
abbrev pub with_new : Step → Tree → Tree → Tree
with_new (index i) u (list ts) = list (with_new_element i u ts)
with_new (name k) u (object ms) = object (with_new_member k u ms)
with_new _ u t = t

-- An object takes any name, and a list an index up to its length.
abbrev pub takes : Step → Tree → Bool
takes (index i) (list ts) = nat_le i (length (elements ts))
takes (name k) (object ms) = true
takes _ t = false

-- the value at a location takes the step
abbrev pub takes_at : Location → Step → Tree → Bool
takes_at l s t = unwrap_or (option_map (takes s) (at l t)) false

abbrev pub added : Location → Step → Tree → Tree → Tree
added [] s u t = with_new s u t
added (r ∷ l) s u t = with_child r (added l s u) t

-- What was added is there, with all its parts.
abbrev pub AddedIsThere : Type 0
AddedIsThere = (l m : Location) (s : Step) (u t : Tree) → IsTrue (takes_at l s t) → at (l ++ s ∷ m) (added l s u t) ≡ at m u

-- A new member leaves all its siblings as they were.
abbrev pub AddedNameLeavesSiblings : Type 0
AddedNameLeavesSiblings = (l m : Location) (j k : List ℕ) (u t : Tree) → (j ≡ k → ⊥) → at (l ++ name j ∷ m) (added l (name k) u t) ≡ at (l ++ name j ∷ m) t

-- A new element leaves the elements before it, and moves the one at its index and those after it by one.
abbrev pub AddedIndexMovesLater : Type 0
AddedIndexMovesLater = (l m : Location) (i j : ℕ) (u t : Tree) → IsTrue (takes_at l (index i) t) → at (l ++ index (if nat_lt j i then j else suc j) ∷ m) (added l (index i) u t) ≡ at (l ++ index j ∷ m) t

-- Nothing changes that is neither inside nor above the object or the list.
abbrev pub AddedLeavesTheRest : Type 0
AddedLeavesTheRest = (l m : Location) (s : Step) (u t : Tree) → (Begins l m → ⊥) → (Begins m l → ⊥) → at m (added l s u t) ≡ at m t
