-- A tree with another tree at a location (RFC 9535, 1.1).
use Rattle.std.specs.Prelude.{◌≡◌, ℕ, zero, suc, List, [], ◌∷◌, ◌++◌, if◌then◌else◌, None, option_map, option_and_then}
use Rattle.std.specs.Str.{bytes_eq}
use Rattle.jsonpath_parser.specs.Location.{Step, name, index, Location, Begins}
use Rattle.jsonpath_base.specs.Places.{at}
use Rattle.jsonpath_base.specs.Tree.{Tree, list, object, Trees, no_trees, tree, Members, no_members, member}

abbrev pub with_element : ℕ → (Tree → Tree) → Trees → Trees
with_element i f no_trees = no_trees
with_element zero f (tree t ts) = tree (f t) ts
with_element (suc i) f (tree t ts) = tree t (with_element i f ts)

abbrev pub with_member : List ℕ → (Tree → Tree) → Members → Members
with_member k f no_members = no_members
with_member k f (member l t ms) = if bytes_eq k l then member l (f t) ms else member l t (with_member k f ms)

-- only the child at the step is changed; if there is none, nothing is
abbrev pub with_child : Step → (Tree → Tree) → Tree → Tree
with_child (index i) f (list ts) = list (with_element i f ts)
with_child (name k) f (object ms) = object (with_member k f ms)
with_child _ f t = t

abbrev pub put : Location → Tree → Tree → Tree
put [] u t = u
put (s ∷ l) u t = with_child s (put l u) t

-- A write leaves every location as it was that is neither inside nor above its own: that does not begin with it, and that it does not begin with.
abbrev pub PutLeavesTheRest : Type 0
PutLeavesTheRest = (l m : Location) (u t : Tree) → (Begins l m → ⊥) → (Begins m l → ⊥) → at m (put l u t) ≡ at m t

-- Where there was a value, there is what was written: at the location, and below it the parts of what was written.
abbrev pub PutIsThere : Type 0
PutIsThere = (l m : Location) (u t : Tree) → at (l ++ m) (put l u t) ≡ option_and_then (λ c. at m u) (at l t)

-- Above the location of a write there is what was there, with the same write in it.
abbrev pub PutIsSeenAbove : Type 0
PutIsSeenAbove = (l m : Location) (u t : Tree) → at l (put (l ++ m) u t) ≡ option_map (put m u) (at l t)

-- Where there is no value, a write changes nothing.
abbrev pub PutNowhere : Type 0
PutNowhere = (l : Location) (u t : Tree) → at l t ≡ None → put l u t ≡ t
