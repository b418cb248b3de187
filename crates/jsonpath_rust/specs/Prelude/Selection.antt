-- The names of the walk and of its plan, for contracts and proofs. Nothing is declared here.
pub use Rattle.jsonpath_rust.specs.declared.selection.limits.WorkLimit.{WorkLimit}
pub use Rattle.jsonpath_rust.specs.declared.selection.limits.WorkLimit.TheVariants.{Limited, Unlimited}
pub use Rattle.jsonpath_rust.specs.declared.selection.constants.Cache.{Cache}
pub use Rattle.jsonpath_rust.specs.declared.selection.plan.Call.{Call}
pub use Rattle.jsonpath_rust.specs.declared.selection.plan.Constant.{Constant}
pub use Rattle.jsonpath_rust.specs.declared.selection.plan.Filter.{Filter, the_lemmas}
pub use Rattle.jsonpath_rust.specs.declared.selection.plan.Expr.{Expr}
pub use Rattle.jsonpath_rust.specs.declared.selection.plan.Segment.{Segment}
pub use Rattle.jsonpath_rust.specs.declared.selection.plan.Selector.{Selector}
pub use Rattle.jsonpath_rust.specs.declared.selection.sink.Demand.{Demand}
pub use Rattle.jsonpath_rust.specs.declared.selection.sink.Demand.TheVariants.{Exists, Count, Single, Values}
pub use Rattle.jsonpath_rust.specs.declared.selection.walk.WalkState.{WalkState}
pub use Rattle.jsonpath_rust.specs.declared.selection.walk.WalkContext.{WalkContext}
pub use Rattle.jsonpath_rust.specs.selection.Condition.{expression_of, filter_of, filter_query, in_filter, IsConditionRefusal, segment_filter, tests_singular}
pub use Rattle.jsonpath_rust.specs.selection.Only.{IsCount, IsFirst, IsOnly, IsOnlyNode, node_count, sole_node, TellsWhether}
pub use Rattle.jsonpath_rust.specs.selection.Prepared.{condition_runner_view, condition_view, IsFirstNode, planned_view, prepared_ref_view, prepared_view, runner_view}
pub use Rattle.jsonpath_rust.specs.selection.LimitError.{IsConditionStop, IsStopOf, StopsUnits}
pub use Rattle.jsonpath_rust.specs.selection.inner.AtHand.{at_current, node_at, continued_nodes, rest_patterns, IsPositionedAt}
pub use Rattle.jsonpath_rust.specs.selection.inner.Costs.{compared_cost, cost, elements_cost, members_cost, node_cost, pairs_cost, smaller_cost, text_bytes, trees_cost, valued}
pub use Rattle.jsonpath_rust.specs.selection.inner.Halting.{IsWalkError, IsSpent, limit_of}
pub use Rattle.jsonpath_rust.specs.selection.inner.Keeping.{AreEmpty, document, result_of, IsGiven, IsCacheCorrect, IsCacheOf, constants_of, part_patterns, slot_at, slots_of}
pub use Rattle.jsonpath_rust.specs.selection.inner.Only.{IsOnlyOf}
pub use Rattle.jsonpath_rust.specs.selection.inner.Passing.{visit_effort, constant_effort, GoesToEachChild, kept_effort}
pub use Rattle.jsonpath_rust.specs.selection.inner.PlanMaking.{every, Extends, IsBeside, IsCompared, IsKept, IsNumbered, IsRight, constants_in, Made, parts_where}
pub use Rattle.jsonpath_rust.specs.selection.inner.PlanViews.{call_result, AreRooted, argument_at, argument_in, arguments_meant, asked, call_view, children_argument, children_query, compared, constant_view, ConstantPart, Constants, filter_view, filters_meant, fits, is_counted, is_query_part, is_same_demand, IsRooted, IsStable, kept_from, constants_view, nodes, part_at, part_is_rooted, expr_view, segment_view, segments_meant, selector_view, selectors_meant, steps_query, truth_of}
pub use Rattle.jsonpath_rust.specs.selection.inner.Planned.{plan_view}
pub use Rattle.jsonpath_rust.specs.selection.inner.Rooted.{argument_is_rooted, arguments_are_rooted, call_is_rooted, filter_is_rooted, filters_are_rooted, test_is_rooted}
pub use Rattle.jsonpath_rust.specs.selection.inner.Sinks.{add, count_in, counted, few, full, feed, IsLocationSetOf, IsPrefixInSync, locations, locations_in, nodes_in, nothing, one, path_and_tree, paths, paths_in, removal, location_set_in, Seen, seen, seen_few, seen_sole, several, start, Feeds, FeedsInSync, Fed, FedInSync, values, values_in}
pub use Rattle.jsonpath_rust.specs.selection.inner.Standing.{AreMembers, EndsProperly, Returns, IsPositioned}
pub use Rattle.jsonpath_rust.specs.selection.inner.Walking.{visited_nodes, visit_patterns, node_of, selected_from}
pub use Rattle.jsonpath_rust.specs.selection.inner.Wanting.{finished, ResultView, result_view, result_for, given_value, IsOne, IsQuery, IsValue, demanded_value, told_of, trees_in, demand_of}
