pub mod Along
pub mod Answers
pub mod Conditions
pub mod Constants
pub mod CostLaws
pub mod Counting
pub mod DirectLaws
pub mod HaltingLaws
pub mod Hand
pub mod Kept
pub mod Leading
pub mod Leaves
pub mod NodelistLaws
pub mod Passing
pub mod PlanEquations
pub mod PlanLaws
pub mod RootedLaws
pub mod Sinks
pub mod Standing
pub mod StepLaws
pub mod Walks
-- what other rooms and proofs of functions cite
pub use Rattle.jsonpath_rust.proofs.laws.selection.Along.{along_as, along_between, along_idle, along_none, along_stop, children-list, children-members, Goes, goes_no_more, goes_off, goes_on, goes_on_to_place, goes_past_places, goes_to_no_place, goes_to_the_end, takes, takes_as, takes_from, takes_then, tied_at_root, tied_back, tied_further, tied_inside, tied_still}
pub use Rattle.jsonpath_rust.proofs.laws.selection.Answers.{count_answered, first_answered, no_node, nodes_answered, only_answered, paths_answered, values_answered}
pub use Rattle.jsonpath_rust.proofs.laws.selection.Conditions.{expression_back, held_as, never_none, none_holds, none_of_more, refused_as}
pub use Rattle.jsonpath_rust.proofs.laws.selection.Counting.{children_counted, list_count, object_count}
pub use Rattle.jsonpath_rust.proofs.laws.selection.DirectLaws.{at_hand_as, children_told, looked_up, query_count, query_there}
pub use Rattle.jsonpath_rust.proofs.laws.selection.HaltingLaws.{asked_as, asked_at, asked_at_or, asked_left, asked_none, asked_rest, asked_right, pattern_asked, stop_is_memory}
pub use Rattle.jsonpath_rust.proofs.laws.selection.Kept.{given_right, keeps_none, keeps_set, of_some, slot_set, wanted_given}
pub use Rattle.jsonpath_rust.proofs.laws.selection.Leading.{leads_below, leads_indexed}
pub use Rattle.jsonpath_rust.proofs.laws.selection.NodelistLaws.{nodelist-selected_from, selected_from-applied}
pub use Rattle.jsonpath_rust.proofs.laws.selection.PlanEquations.{call_view-Count, call_view-Length, call_view-Match, call_view-Search, call_view-Value, called, filter_view-Comparison, filter_view-Constant, filter_view-Test, expr_view-Call, expr_view-Children, expr_view-Constant, expr_view-Filter, expr_view-Literal, expr_view-Lookup, expr_view-Pattern, expr_view-Walk, segment_view-Descendant, segment_view-Selector, selector_view-Filter, selector_view-Index, selector_view-Name, selector_view-Wildcard}
pub use Rattle.jsonpath_rust.proofs.laws.selection.PlanLaws.{arguments_rooted, filters_rooted, made_around, made_as, made_both, made_end, made_ended, made_here, made_next, made_none, made_start, numbered_kept, plan_made, plan_rooted, plan_stable, argument_in-nodes, same_maker}
pub use Rattle.jsonpath_rust.proofs.laws.selection.RootedLaws.{asked_held, fit_patterns, kept_told, kept_trees, told_nodes, told_one, told_truth, truth_held}
pub use Rattle.jsonpath_rust.proofs.laws.selection.Sinks.{finished_all, given_few, given_locations, given_nodes, given_paths, given_values, removal_is, removal_there, result_as}
pub use Rattle.jsonpath_rust.proofs.laws.selection.StepLaws.{is_there, one_as, steps_alone, wanted_found}
pub use Rattle.jsonpath_rust.proofs.laws.selection.Walks.{below_more, element_turns, first_below, flat_map-alone, flat_map-filter, flat_map-flat_map, later_below, member_turns, selector_turns}
