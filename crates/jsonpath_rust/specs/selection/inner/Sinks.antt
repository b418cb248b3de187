-- What a walk passes to a sink, for the contracts of the walk alone: the definitions here are no part of what a query means.
use Rattle.std.specs.Prelude.{◌≡◌, ℕ, zero, suc, ◌-◌, List, [], ◌∷◌, ◌++◌, map, take, Bool, true, false, Option, Some, None, Result, IfOk}
use Rattle.std.specs.declared.fmt.Debug as debug
use Rattle.jsonpath_parser.specs.Location.{Location}
use Rattle.jsonpath_parser.specs.Normal.{normal}
use Rattle.jsonpath_base.specs.Steps.{location_view, lent_location}
use Rattle.jsonpath_base.specs.Tree.{Tree}
use Rattle.jsonpath_base.specs.LocationSetViews.{location_set, location_count, LastBegins}
use Rattle.jsonpath_base.specs.Without.{is_among, distinct_count, also, counted_with}
use Rattle.jsonpath_base.specs.declared.removal.LocationSet.{LocationSet}
use Rattle.jsonpath_base.specs.declared.current_path.CurrentPath.{CurrentPath}
use Rattle.jsonpath_base.specs.documents.Node.{Node}
use Rattle.jsonpath_base.specs.documents.Answer.{shown, paths_of}
use Rattle.jsonpath_base.specs.documents.Functions.{greatest_count}
use Rattle.jsonpath_rust.specs.documents.Whole.{tree_of}
use Rattle.jsonpath_rust.specs.declared.selection.sink.FirstNodes.{FirstNodes}
use Rattle.jsonpath_rust.specs.declared.selection.sink.Sink.{Sink}
use Rattle.jsonpath_rust.specs.declared.selection.sink.Sink.TheVariants as sink
use Rattle.jsonpath_rust.specs.declared.selection.sink.Demand.{Demand}
use Rattle.jsonpath_rust.specs.declared.selection.sink.Demand.TheVariants as demand
use Rattle.jsonpath_rust.specs.declared.documents.nodes.WholeSingle.{WholeSingle}
use Rattle.jsonpath_rust.specs.declared.documents.nodes.WholeSingle.TheVariants.{Nothing, One, Several}
use Rattle.jsonpath_base.specs.declared.documents.queryable.Queryable.{Ghosts}

-- a node as it is returned: its Normalized Path and its tree
abbrev pub path_and_tree : Node → List ℕ × Tree
path_and_tree n = (normal n.location, n.tree)

-- a sink, without the places of its values in memory
pub data Seen : Type 0 where
  nodes : List (List ℕ × Tree) → Seen
  paths : List (List ℕ) → Seen
  values : List Tree → Seen
  locations : List Location → Seen
  removal : (Location → Bool) → ℕ → Seen
  counted : ℕ → ℕ → Seen
  nothing : Seen
  one : Tree → Seen
  several : Seen
  few : ℕ → List (List ℕ × Tree) → Seen

abbrev pub seen_sole : {A : Type 0} {R : Ghosts A} {D : debug.Ghosts A} → WholeSingle A R D → Seen
seen_sole Nothing = nothing
seen_sole (One v) = one (tree_of v)
seen_sole Several = several

abbrev pub seen_few : {A : Type 0} {R : Ghosts A} {D : debug.Ghosts A} → FirstNodes A R D → Seen
seen_few {R = R} f = few f.room (shown R.tree f.nodes.list.items)

abbrev pub seen : {A : Type 0} {R : Ghosts A} {D : debug.Ghosts A} → Sink A R D → Seen
seen {R = R} (sink.Nodes ns) = nodes (shown R.tree ns.list.items)
seen (sink.Paths ps) = paths (paths_of ps.items)
seen {R = R} (sink.Values vs) = values (map (λ v. R.tree v.now) vs.list.items)
seen (sink.Locations ls) = locations (map (λ l. location_view l.items) ls.items)
seen (sink.LocationSet r copy) = removal (location_set r.value) (location_count r.value)
seen (sink.Count room most) = counted room most
seen (sink.Single o) = seen_sole o
seen (sink.Few f) = seen_few f

-- before any node
abbrev pub start : Demand → Seen
start demand.Exists = counted 1 1
start demand.Count = counted greatest_count greatest_count
start demand.Single = nothing
start demand.Values = values []

abbrev pub add : Seen → Node → Seen
add (nodes ns) n = nodes (ns ++ path_and_tree n ∷ [])
add (paths ps) n = paths (ps ++ normal n.location ∷ [])
add (values ts) n = values (ts ++ n.tree ∷ [])
add (locations ls) n = locations (ls ++ n.location ∷ [])
add (removal set k) n = removal (also n.location set) (counted_with n.location set k)
add (counted room most) n = counted (room - 1) most
add nothing n = one n.tree
add (one t) n = several
add several n = several
add (few zero ns) n = few zero ns
add (few (suc room) ns) n = few room (ns ++ path_and_tree n ∷ [])

abbrev pub feed : Seen → List Node → Seen
feed s [] = s
feed s (n ∷ ns) = feed (add s n) ns

-- whether more nodes make no difference
abbrev pub full : Seen → Bool
full (counted zero most) = true
full several = true
full (few zero ns) = true
full _ = false

-- ---- what it has

abbrev pub count_in : Seen → ℕ
count_in (counted room most) = most - room
count_in _ = 0

abbrev pub nodes_in : Seen → List (List ℕ × Tree)
nodes_in (nodes ns) = ns
nodes_in (few room ns) = ns
nodes_in _ = []

abbrev pub paths_in : Seen → List (List ℕ)
paths_in (paths ps) = ps
paths_in _ = []

abbrev pub locations_in : Seen → List Location
locations_in (locations ls) = ls
locations_in _ = []

abbrev pub location_set_in : Seen → Option ((Location → Bool) × ℕ)
location_set_in (removal set k) = Some (set, k)
location_set_in _ = None

abbrev pub values_in : Seen → List Tree
values_in (values ts) = ts
values_in _ = []

-- s took these nodes and became s'; the walk may stop only where more would make no difference
pub record Fed (s : Seen) (ns : List Node) (s' : Seen) (goes_on : Bool) : Type 0 where
  pub given : s' ≡ feed s ns
  pub stopped : goes_on ≡ false → full s' ≡ true

-- the sink took these nodes, and the result says whether to go on
abbrev pub Feeds : {A E : Type 0} {R : Ghosts A} {D : debug.Ghosts A} → Sink A R D → Sink A R D → List Node → Result Bool E → Type 0
Feeds old new ns result = IfOk result (λ b. Fed (seen old) ns (seen new) b)

-- ---- a sink and the current path

-- if the sink marks locations, the shared steps are the first of the location that it marked last
abbrev pub IsPrefixInSync : {A : Type 0} {R : Ghosts A} {D : debug.Ghosts A} → Sink A R D → CurrentPath → Type 0
IsPrefixInSync (sink.LocationSet r copy) current_path = LastBegins r.value (take current_path.shared_len (lent_location current_path.steps.items))
IsPrefixInSync _ current_path = Unit {0}

-- If that is so, the sink took these nodes, and it is so again.
pub record FedInSync {A : Type 0} {R : Ghosts A} {D : debug.Ghosts A} (s : Sink A R D × CurrentPath) (ns : List Node) (s' : Sink A R D × CurrentPath) (goes_on : Bool) : Type 0 where
  pub took : IsPrefixInSync s.0 s.1 → Fed (seen s.0) ns (seen s'.0) goes_on
  pub tied : IsPrefixInSync s.0 s.1 → IsPrefixInSync s'.0 s'.1

-- the same, and the result says whether to go on
abbrev pub FeedsInSync : {A E : Type 0} {R : Ghosts A} {D : debug.Ghosts A} → Sink A R D × CurrentPath → Sink A R D × CurrentPath → List Node → Result Bool E → Type 0
FeedsInSync old new ns result = IfOk result (λ b. FedInSync old ns new b)

-- The set is of these locations.
pub record IsLocationSetOf (r : LocationSet) (ls : List Location) : Type 0 where
  pub set : location_set r ≡ is_among ls
  pub count : location_count r ≡ distinct_count ls
