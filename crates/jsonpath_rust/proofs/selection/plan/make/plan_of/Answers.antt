use Rattle.std.proofs.Common.{◌∙◌, ap, sym, map, rules}
use Rattle.jsonpath_parser.specs.tree.View as tree
use Rattle.jsonpath_parser.proofs.laws.tree.ViewEquations.{query_view-segments}
use Rattle.jsonpath_rust.proofs.laws.selection.{plan_made, plan_rooted, plan_stable}
use Rattle.jsonpath_rust.proofs.selection.plan.make.plan_of.Goals as goal

pub returns-clause-same : goal.returns-clause-same
returns-clause-same c =
    plan_made _ c.in_ok-segments.ensures.made (search rules) ∙ ap (λ xs. tree.segments_of (map tree.segment_view xs)) c.deref.ensures.value ∙ sym (query_view-segments c.args.query.now)

pub invariant_of-result : goal.invariant_of-result
invariant_of-result c = record {
  stable = plan_stable c.in_ok-segments.ensures.made (search rules);
  rooted = plan_rooted c.in_ok-segments.ensures.made (search rules);
}
