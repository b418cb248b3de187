-- What is left where values are put at locations.
use Rattle.std.specs.Prelude.{List, [], ◌∷◌}
use Rattle.jsonpath_rust.specs.Location.{Location}
use Rattle.jsonpath_rust.specs.Put.{put}
use Rattle.jsonpath_rust.specs.Tree.{Tree}
use Rattle.jsonpath_rust.specs.base.Steps.{location_view}
use Rattle.jsonpath_rust.specs.base.Values.{value_tree}
use Rattle.examples.specs.declared.changing.Change.{Change}

-- a location, and the tree that is put there
abbrev pub change_view : Change → Location × Tree
change_view c = (location_view c.place.items, value_tree c.value.value)

-- the tree with each of these put at its location, the last first
abbrev pub all_put : List (Location × Tree) → Tree → Tree
all_put [] t = t
all_put (c ∷ cs) t = put c.0 c.1 (all_put cs t)
