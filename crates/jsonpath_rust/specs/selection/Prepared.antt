-- The query of a prepared query, of a condition and of their runners, and the first node of a query.
use Rattle.std.specs.Prelude.{◌≡◌, ℕ, List, ◌∷◌}
use Rattle.jsonpath_parser.specs.Location.{Location}
use Rattle.jsonpath_parser.specs.tree.Syntax.{Filter, Query}
use Rattle.jsonpath_parser.specs.tree.View.{query_view}
use Rattle.jsonpath_base.specs.Tree.{Tree}
use Rattle.jsonpath_base.specs.documents.Answer.{IsNodeAt}
use Rattle.jsonpath_base.specs.documents.Document.{Document}
use Rattle.jsonpath_base.specs.documents.Meaning.{selected}
use Rattle.jsonpath_rust.specs.selection.Condition.{expression_of}
use Rattle.jsonpath_rust.specs.declared.selection.condition.Condition.{Condition}
use Rattle.jsonpath_rust.specs.declared.selection.condition.ConditionRunner.{ConditionRunner}
use Rattle.jsonpath_rust.specs.declared.selection.prepared.Planned.{Planned}
use Rattle.jsonpath_rust.specs.declared.selection.prepared.Prepared.{Prepared}
use Rattle.jsonpath_rust.specs.declared.selection.prepared.PreparedRef.{PreparedRef}
use Rattle.jsonpath_rust.specs.declared.selection.runner.Runner.{Runner}

-- the query that is run
abbrev pub prepared_view : Prepared → Query
prepared_view p = query_view p.query

abbrev pub prepared_ref_view : PreparedRef → Query
prepared_ref_view p = query_view p.query.now

abbrev pub planned_view : Planned → Query
planned_view p = query_view p.query.now

-- that of a runner, with any limit
abbrev pub runner_view : {L S : Type 0} → Runner L S → Query
runner_view r = planned_view r.planned

-- the expression that a condition evaluates; each is of a query `$[?e]`
abbrev pub condition_view : Condition → Filter
condition_view c = expression_of (prepared_view c.prepared)

abbrev pub condition_runner_view : {L S : Type 0} → ConditionRunner L S → Filter
condition_runner_view r = expression_of (runner_view r.runner)

-- this is the path and the tree of the node at the first location that the query selects
pub record IsFirstNode (q : Query) (doc : Document) (shown : List ℕ × Tree) : Type 0 where
  pub location : Location
  pub rest : List Location
  pub selects : selected q doc ≡ location ∷ rest
  pub node : IsNodeAt doc location shown
