use Rattle.jsonpath_parser.proofs.laws.tree.TreeEquality.{query_same, segment_same, selector_same, filter_same, atom_same, comparison_same, comparable_same, singular_same, step_same, test_same, call_same, argument_same, literal_same, operator_same, query_items, steps_tree_same}
use Rattle.jsonpath_parser.proofs.tree.equality.equal_parts_are_one_tree.Goals as goal

pub returns-clause-jp_query : goal.returns-clause-jp_query
returns-clause-jp_query c = query_same

pub returns-clause-segment : goal.returns-clause-segment
returns-clause-segment c = segment_same

pub returns-clause-selector : goal.returns-clause-selector
returns-clause-selector c = selector_same

pub returns-clause-filter : goal.returns-clause-filter
returns-clause-filter c = filter_same

pub returns-clause-filter_atom : goal.returns-clause-filter_atom
returns-clause-filter_atom c = atom_same

pub returns-clause-comparison : goal.returns-clause-comparison
returns-clause-comparison c = comparison_same

pub returns-clause-comparable : goal.returns-clause-comparable
returns-clause-comparable c = comparable_same

pub returns-clause-singular_query : goal.returns-clause-singular_query
returns-clause-singular_query c = singular_same

pub returns-clause-singular_query_segment : goal.returns-clause-singular_query_segment
returns-clause-singular_query_segment c = step_same

pub returns-clause-test : goal.returns-clause-test
returns-clause-test c = test_same

pub returns-clause-test_function : goal.returns-clause-test_function
returns-clause-test_function c = call_same

pub returns-clause-fn_arg : goal.returns-clause-fn_arg
returns-clause-fn_arg c = argument_same

pub returns-clause-literal : goal.returns-clause-literal
returns-clause-literal c = literal_same

pub returns-clause-operator : goal.returns-clause-operator
returns-clause-operator c = operator_same

pub returns-clause-segments : goal.returns-clause-segments
returns-clause-segments c v w = query_items v.items w.items

pub returns-clause-singular_query_segments : goal.returns-clause-singular_query_segments
returns-clause-singular_query_segments c v w = steps_tree_same v.items w.items
