-- The current node of a walk, for its contracts alone: the definitions here are no part of what a query means.
use Rattle.std.specs.Prelude.{List, Bool}
use Rattle.std.specs.declared.fmt.Debug as debug
use Rattle.std.specs.List.{flat_map}
use Rattle.jsonpath_parser.specs.tree.Syntax.{Argument}
use Rattle.jsonpath_base.specs.documents.Document.{Document}
use Rattle.jsonpath_base.specs.documents.Node.{Node}
use Rattle.jsonpath_base.specs.documents.Patterns.{segments_patterns}
use Rattle.jsonpath_rust.specs.selection.inner.Keeping.{document, constants_of}
use Rattle.jsonpath_rust.specs.selection.inner.PlanViews.{segments_meant}
use Rattle.jsonpath_rust.specs.selection.inner.Standing.{IsPositioned}
use Rattle.jsonpath_rust.specs.selection.inner.Walking.{node_of, selected_from}
use Rattle.jsonpath_base.specs.declared.documents.queryable.Queryable.{Ghosts}
use Rattle.jsonpath_rust.specs.declared.documents.whole.WholeRef.{WholeRef}
use Rattle.jsonpath_rust.specs.declared.selection.walk.Continuation.{Continuation}
use Rattle.jsonpath_rust.specs.declared.selection.walk.WalkState.{WalkState}
use Rattle.jsonpath_rust.specs.declared.selection.walk.WalkContext.{WalkContext}

-- the walk is at this value, to which the current path leads
abbrev pub IsPositionedAt : {A : Type 0} {R : Ghosts A} {D : debug.Ghosts A} → WalkContext A R D → WholeRef A R D → WalkState A R D → Type 0
IsPositionedAt context x state = IsPositioned context x state.current_path.steps.items state.cache

-- the current node, which has this value
abbrev pub node_at : {A : Type 0} {R : Ghosts A} {D : debug.Ghosts A} → WalkState A R D → WholeRef A R D → Node
node_at state x = node_of state.current_path.steps.items x

-- what a part of the query means at the current node
abbrev pub at_current : {A X : Type 0} {R : Ghosts A} {D : debug.Ghosts A} → WalkContext A R D → WalkState A R D → WholeRef A R D → (Document → Node → X) → X
at_current context state x f = f (document context) (node_at state x)

-- what the remaining segments select from each of these nodes
abbrev pub continued_nodes : {A N : Type 0} {R : Ghosts A} {D : debug.Ghosts A} → WalkContext A R D → Continuation N → List Node → List Node
continued_nodes context continuation ns = flat_map (selected_from (segments_meant (constants_of context) continuation.rest.now) (document context)) ns

-- the patterns in them
abbrev pub rest_patterns : {A N : Type 0} {R : Ghosts A} {D : debug.Ghosts A} → WalkContext A R D → Continuation N → List (Bool × Argument)
rest_patterns context continuation = segments_patterns (segments_meant (constants_of context) continuation.rest.now)
