-- Segments that go to each child, for the contracts of the walk alone: the definitions here are no part of what a query means.
use Rattle.std.specs.Prelude.{◌≡◌, ◌≤◌, ◌+◌, ◌-◌, ◌*◌, ℕ}
use Rattle.std.specs.List.{flat_map}
use Rattle.jsonpath_parser.specs.tree.Syntax.{Segment, Argument, literal_argument, test_argument, filter_argument}
use Rattle.jsonpath_base.specs.documents.inner.Effort.{call_effort, filter_effort, segment_effort, segments_effort, test_effort}
use Rattle.jsonpath_base.specs.documents.Document.{Document}
use Rattle.jsonpath_base.specs.documents.Meaning.{replaced}
use Rattle.jsonpath_base.specs.documents.Node.{Node, children}
use Rattle.jsonpath_base.specs.documents.Patterns.{segment_patterns}
use Rattle.jsonpath_rust.specs.selection.inner.PlanViews.{call_result, compared, ConstantPart, Constants, filter_view, nodes, segment_view}
use Rattle.jsonpath_rust.specs.selection.inner.Walking.{visited_nodes, visit_patterns}
use Rattle.jsonpath_rust.specs.declared.selection.walk.Visit.{Visit}
use Rattle.jsonpath_rust.specs.declared.selection.walk.Visit.TheVariants as visit

-- the effort of evaluating a constant expression
abbrev pub kept_effort : ℕ → Argument → ℕ
kept_effort r (literal_argument l) = 0
kept_effort r (test_argument t) = test_effort r t
kept_effort r (filter_argument f) = filter_effort r f

-- the same, where the walk is at the root already
abbrev pub constant_effort : ℕ → ConstantPart → ℕ
constant_effort r (nodes w q) = segments_effort r q + 5 * r + 12
constant_effort r (call_result c) = call_effort r c + 5 * r + 8
constant_effort r (compared f) = filter_effort r f - 1

-- the effort of a visit
abbrev pub visit_effort : ℕ → Constants → Visit → ℕ
visit_effort r constants visit.Continue = 2
visit_effort r constants (visit.Filter f) = filter_effort r (filter_view constants f.now) + 12
visit_effort r constants (visit.Descend g) = segment_effort r (segment_view constants g.now) + 1

-- the visits to each child select the nodes of the segment
pub record GoesToEachChild (constants : Constants) (g : Segment) (action : Visit) : Type 0 where
  pub makes : (d : Document) (n : Node) → flat_map (visited_nodes constants action d) (children n) ≡ replaced g d n
  pub patterns : visit_patterns constants action ≡ segment_patterns g
  pub lighter : (r : ℕ) → visit_effort r constants action ≤ segment_effort r g
