-- The query that a plan means.
use Rattle.std.specs.Prelude.{◌≡◌}
use Rattle.jsonpath_parser.specs.tree.Syntax.{Query}
use Rattle.jsonpath_rust.specs.selection.inner.PlanViews.{constants_view, segments_meant}
use Rattle.jsonpath_rust.specs.selection.inner.Rooted.{Query-set}
use Rattle.jsonpath_rust.specs.declared.selection.plan.Plan.{Plan}

abbrev pub plan_view : Plan → Query
plan_view p = segments_meant (constants_view p.constants.items) p.segments.items

abbrev pub IsPlanOf : Query → Plan → Type 0
IsPlanOf q p = plan_view p ≡ q

pub IsPlanOf-prop : (q : Query) (p : Plan) → IsProp (IsPlanOf q p)
IsPlanOf-prop q p = Query-set (plan_view p) q
