-- How a walk meets the nodes of a query, for the contracts of the walk alone: the definitions here are no part of what a query means.
use Rattle.std.specs.Prelude.{◌≡◌, List, [], ◌∷◌, filter, Bool, Some}
use Rattle.std.specs.declared.fmt.Debug as debug
use Rattle.std.specs.List.{flat_map}
use Rattle.jsonpath_base.specs.Steps.{lent_location}
use Rattle.jsonpath_parser.specs.tree.Syntax.{Argument, Segments, no_segments, segment}
use Rattle.jsonpath_base.specs.Places.{at}
use Rattle.jsonpath_base.specs.documents.Node.{Node, subtree}
use Rattle.jsonpath_base.specs.documents.Document.{Document}
use Rattle.jsonpath_base.specs.documents.Meaning.{replaced, holds}
use Rattle.jsonpath_base.specs.documents.Patterns.{segment_patterns, filter_patterns}
use Rattle.jsonpath_rust.specs.selection.inner.PlanViews.{Constants, segment_view, filter_view}
use Rattle.jsonpath_rust.specs.documents.Whole.{tree_of}
use Rattle.jsonpath_base.specs.declared.step.StepRef.{StepRef}
use Rattle.jsonpath_base.specs.declared.documents.queryable.Queryable.{Ghosts}
use Rattle.jsonpath_rust.specs.declared.documents.whole.WholeRef.{WholeRef}
use Rattle.jsonpath_rust.specs.declared.selection.walk.Visit.{Visit}
use Rattle.jsonpath_rust.specs.declared.selection.walk.Visit.TheVariants as visit

-- the node of a value that these steps lead to
abbrev pub node_of : {A : Type 0} {R : Ghosts A} {D : debug.Ghosts A} → List StepRef → WholeRef A R D → Node
node_of steps x = record { location = lent_location steps; tree = tree_of x }

-- these steps lead from the root to the value
abbrev pub LeadTo : {A : Type 0} {R : Ghosts A} {D : debug.Ghosts A} → List StepRef → WholeRef A R D → WholeRef A R D → Type 0
LeadTo steps root x = at (lent_location steps) (tree_of root) ≡ Some (tree_of x)

-- The segments applied to one node, and the rest to each node that they select, before the next one.
abbrev pub selected_from : Segments → Document → Node → List Node
selected_from no_segments d n = n ∷ []
selected_from (segment g gs) d n = flat_map (selected_from gs d) (replaced g d n)

-- the nodes that a visit selects from one node
abbrev pub visited_nodes : Constants → Visit → Document → Node → List Node
visited_nodes constants visit.Continue d n = n ∷ []
visited_nodes constants (visit.Filter f) d n = filter (holds (filter_view constants f.now) d) (n ∷ [])
visited_nodes constants (visit.Descend g) d n = flat_map (replaced (segment_view constants g.now) d) (subtree n)

-- the patterns in a visit
abbrev pub visit_patterns : Constants → Visit → List (Bool × Argument)
visit_patterns constants visit.Continue = []
visit_patterns constants (visit.Filter f) = filter_patterns (filter_view constants f.now)
visit_patterns constants (visit.Descend g) = segment_patterns (segment_view constants g.now)
