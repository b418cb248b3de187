use Rattle.jsonpath_parser.proofs.Unambiguous.{query_unambiguous, relative_unambiguous, segments_unambiguous, child_unambiguous, segment_unambiguous, selector_unambiguous, slice_unambiguous, singular_unambiguous, steps_unambiguous, logical_unambiguous, conjunction_unambiguous, basic_unambiguous, comparison_unambiguous, comparable_unambiguous, literal_unambiguous, test_unambiguous, call_unambiguous}
use Rattle.jsonpath_parser.proofs.one_tree.no_text_spells_two_trees.Goals as goal

pub returns-clause-jp_query : goal.returns-clause-jp_query
returns-clause-jp_query c = query_unambiguous

pub returns-clause-rel_query : goal.returns-clause-rel_query
returns-clause-rel_query c = relative_unambiguous

pub returns-clause-segments : goal.returns-clause-segments
returns-clause-segments c = segments_unambiguous

pub returns-clause-child_segment : goal.returns-clause-child_segment
returns-clause-child_segment c = child_unambiguous

pub returns-clause-segment : goal.returns-clause-segment
returns-clause-segment c = segment_unambiguous

pub returns-clause-selector : goal.returns-clause-selector
returns-clause-selector c = selector_unambiguous

pub returns-clause-slice_selector : goal.returns-clause-slice_selector
returns-clause-slice_selector c = slice_unambiguous

pub returns-clause-singular_query : goal.returns-clause-singular_query
returns-clause-singular_query c = singular_unambiguous

pub returns-clause-singular_query_segments : goal.returns-clause-singular_query_segments
returns-clause-singular_query_segments c = steps_unambiguous

pub returns-clause-logical_expr : goal.returns-clause-logical_expr
returns-clause-logical_expr c = logical_unambiguous

pub returns-clause-logical_expr_and : goal.returns-clause-logical_expr_and
returns-clause-logical_expr_and c = conjunction_unambiguous

pub returns-clause-filter_atom : goal.returns-clause-filter_atom
returns-clause-filter_atom c = basic_unambiguous

pub returns-clause-comp_expr : goal.returns-clause-comp_expr
returns-clause-comp_expr c = comparison_unambiguous

pub returns-clause-comparable : goal.returns-clause-comparable
returns-clause-comparable c = comparable_unambiguous

pub returns-clause-literal : goal.returns-clause-literal
returns-clause-literal c = literal_unambiguous

pub returns-clause-test : goal.returns-clause-test
returns-clause-test c = test_unambiguous

pub returns-clause-function_expr : goal.returns-clause-function_expr
returns-clause-function_expr c = call_unambiguous
