-- The parts of the evaluator of states, for its contracts alone: the definitions here are no part of what a query means.
use Rattle.std.specs.Prelude.{◌≡◌, List, [], ◌++◌, Bool, Option, Some, None, if◌then◌else◌, string_bytes}
use Rattle.std.specs.List.{flat_map, AllZip}
use Rattle.std.specs.declared.fmt.Debug as debug
use Rattle.jsonpath_parser.specs.tree.Syntax.{Argument}
use Rattle.jsonpath_parser.specs.tree.View.{filter_view}
use Rattle.jsonpath_rust.specs.states.Asking.{IsBelow, IsAsked, AsksPatternAt}
use Rattle.jsonpath_base.specs.documents.Document.{Document}
use Rattle.jsonpath_base.specs.documents.Node.{children}
use Rattle.jsonpath_base.specs.documents.Patterns.{filter_patterns, selectors_patterns}
use Rattle.jsonpath_rust.specs.states.Process.{holds_at, joined_from}
use Rattle.jsonpath_base.specs.documents.State.{Target, Content, nothing, named_from, children_from, indexed_from, sliced_from, parents_from, kept_from, found_from, has_parts, pointers, target_of, targets_of, content_of}
use Rattle.jsonpath_base.specs.documents.inner.Parts.{selectors_in}
use Rattle.jsonpath_rust.specs.documents.Whole.{document_at}
use Rattle.jsonpath_base.specs.declared.documents.queryable.Queryable.{Ghosts}
use Rattle.jsonpath_rust.specs.declared.states.evaluate.Evaluation.{Evaluation}
use Rattle.jsonpath_rust.specs.declared.states.evaluate.segments.NodeOperation.{NodeOperation}
use Rattle.jsonpath_rust.specs.declared.states.evaluate.segments.NodeOperation.TheVariants.{Name, Wildcard, Index, Slice, Parents, Kept, Joined}
use Rattle.jsonpath_base.specs.declared.documents.walk_error.WalkError.{WalkError}
use Rattle.jsonpath_base.specs.declared.documents.walk_error.WalkError.TheVariants.{Memory}
use Rattle.jsonpath_base.specs.declared.documents.state.data.Data.{Data}
use Rattle.jsonpath_base.specs.declared.documents.state.pointer.Pointer.{Pointer}
use Rattle.jsonpath_rust.specs.declared.states.held.WholeData.{WholeData}
use Rattle.jsonpath_rust.specs.declared.states.held.WholePointer.{WholePointer}
use Rattle.jsonpath_rust.specs.declared.states.held.WholePointerRef.{WholePointerRef}
use Rattle.jsonpath_rust.specs.declared.states.held.WholePointers.{WholePointers}

-- the document of the evaluation, as the meaning of a query takes it
abbrev pub document : {A : Type 0} {R : Ghosts A} {D : debug.Ghosts A} → Evaluation A R D → Document
document at = document_at at.root

-- the same for data and pointers whose values are whole
abbrev pub content_at : {A : Type 0} {R : Ghosts A} {D : debug.Ghosts A} → WholeData A R D → Content
content_at {R = R} d = content_of R.tree d.content

abbrev pub target_at : {A : Type 0} {R : Ghosts A} {D : debug.Ghosts A} → WholePointerRef A R D → Target
target_at {R = R} p = target_of R.tree p.pointer.now

abbrev pub own_target : {A : Type 0} {R : Ghosts A} {D : debug.Ghosts A} → WholePointer A R D → Target
own_target {R = R} p = target_of R.tree p.pointer

abbrev pub targets_at : {A : Type 0} {R : Ghosts A} {D : debug.Ghosts A} → WholePointers A R D → List Target
targets_at {R = R} ps = targets_of R.tree ps.list.items

-- the children of a list or an object
abbrev pub parts_from : Target → Option (List Target)
parts_from p = if has_parts p.tree then Some (found_from p children) else None

-- what an operation returns at one node
abbrev pub part_content : NodeOperation → Document → Target → Content
part_content (Name s) d p = named_from (string_bytes s.now) p
part_content Wildcard d p = children_from p
part_content (Index i) d p = indexed_from i p
part_content (Slice start end step) d p = sliced_from start end step p
part_content Parents d p = parents_from p
part_content (Kept f) d p = kept_from (holds_at (filter_view f.now) d) p
part_content (Joined ss) d p = joined_from (selectors_in ss.now) d nothing p

-- the patterns in an operation
abbrev pub part_patterns : NodeOperation → List (Bool × Argument)
part_patterns (Kept f) = filter_patterns (filter_view f.now)
part_patterns (Joined ss) = selectors_patterns (selectors_in ss.now)
part_patterns _ = []

-- ---- why there is an error

-- memory ran out, or one of these patterns was asked at a value in the document or in a node of the state
abbrev pub HaltsBelow : List (Bool × Argument) → Document → Content → WalkError → Type 0
HaltsBelow patterns d c halt = (halt ≡ Memory → ⊥) → AsksPatternAt patterns d (IsBelow d c)

-- the same, or it was asked at the state itself
abbrev pub HaltsAt : List (Bool × Argument) → Document → Content → WalkError → Type 0
HaltsAt patterns d c halt = (halt ≡ Memory → ⊥) → AsksPatternAt patterns d (IsAsked d c)
