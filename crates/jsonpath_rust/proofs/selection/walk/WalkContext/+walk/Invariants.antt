use Rattle.std.proofs.Common.{◌+◌, ◌*◌, ◌≡◌, ◌<◌, ◌++◌, drop, map, length, All}
use Rattle.jsonpath_base.specs.Prelude.Documents.{all_pick, all_trees, argument_effort, arguments_effort, call_effort, children, each_holds, element, element_nodes, filter_effort, filters_effort, flat_map, member_nodes, places_left, segment_effort, segments_effort, selector_effort, selectors_effort, size, slice_of, some_holds}
use Rattle.jsonpath_rust.specs.Prelude.Documents.{arg_trees, tree_of}
use Rattle.jsonpath_rust.specs.Prelude.Selection.{visited_nodes, visit_effort, Exists, argument_at, arguments_meant, call_view, constant_effort, constant_view, document, filter_view, filters_meant, kept_effort, constants_of, node_of, Single, expr_view, Returns, segment_view, segments_meant, selector_view, selectors_meant, selected_from, Values}
use Rattle.jsonpath_rust.proofs.laws.selection.{Goes}
use Rattle.jsonpath_rust.proofs.selection.walk.WalkContext.+walk.Given as goal

-- Each measure is the effort of the parts that are left, five for each value of the tree at hand, and the place of the method among those that pass
-- the same on. What begins again at the root pays for it by its effort.
abbrev pub decreases-walk : goal.decreases-walk
decreases-walk g l = segments_effort (size (tree_of l.self.now.root)) (segments_meant (constants_of l.self.now) l.segments.now) + 5 * size (tree_of l.at) + 1

abbrev pub decreases-pass : goal.decreases-pass
decreases-pass g l = segment_effort (size (tree_of l.self.now.root)) (segment_view (constants_of l.self.now) l.continuation.next.now) + segments_effort (size (tree_of l.self.now.root)) (segments_meant (constants_of l.self.now) l.continuation.rest.now) + 5 * size (tree_of l.at)

abbrev pub decreases-pick_each : goal.decreases-pick_each
decreases-pick_each g l = selectors_effort (size (tree_of l.self.now.root)) (selectors_meant (constants_of l.self.now) l.continuation.next.now) + segments_effort (size (tree_of l.self.now.root)) (segments_meant (constants_of l.self.now) l.continuation.rest.now) + 5 * size (tree_of l.at) + 2

abbrev pub decreases-pick : goal.decreases-pick
decreases-pick g l = selector_effort (size (tree_of l.self.now.root)) (selector_view (constants_of l.self.now) l.continuation.next.now) + segments_effort (size (tree_of l.self.now.root)) (segments_meant (constants_of l.self.now) l.continuation.rest.now) + 5 * size (tree_of l.at) + 1

abbrev pub decreases-pick_slice : goal.decreases-pick_slice
decreases-pick_slice g l = segments_effort (size (tree_of l.self.now.root)) (segments_meant (constants_of l.self.now) l.continuation.rest.now) + 5 * size (tree_of l.at) + 8

abbrev pub decreases-each_child : goal.decreases-each_child
decreases-each_child g l = visit_effort (size (tree_of l.self.now.root)) (constants_of l.self.now) l.continuation.next + segments_effort (size (tree_of l.self.now.root)) (segments_meant (constants_of l.self.now) l.continuation.rest.now) + 5 * size (tree_of l.at) + 1

abbrev pub decreases-each_member : goal.decreases-each_member
decreases-each_member g l = visit_effort (size (tree_of l.self.now.root)) (constants_of l.self.now) l.continuation.next + segments_effort (size (tree_of l.self.now.root)) (segments_meant (constants_of l.self.now) l.continuation.rest.now) + 5 * size (tree_of l.members.now.of)

abbrev pub decreases-descend : goal.decreases-descend
decreases-descend g l = segment_effort (size (tree_of l.self.now.root)) (segment_view (constants_of l.self.now) l.continuation.next.now) + segments_effort (size (tree_of l.self.now.root)) (segments_meant (constants_of l.self.now) l.continuation.rest.now) + 5 * size (tree_of l.at) + 3

abbrev pub decreases-at_child : goal.decreases-at_child
decreases-at_child g l = visit_effort (size (tree_of l.self.now.root)) (constants_of l.self.now) l.continuation.next + segments_effort (size (tree_of l.self.now.root)) (segments_meant (constants_of l.self.now) l.continuation.rest.now) + 5 * size (tree_of l.child.value) + 4

abbrev pub decreases-act : goal.decreases-act
decreases-act g l = visit_effort (size (tree_of l.self.now.root)) (constants_of l.self.now) l.continuation.next + segments_effort (size (tree_of l.self.now.root)) (segments_meant (constants_of l.self.now) l.continuation.rest.now) + 5 * size (tree_of l.at) + 3

abbrev pub decreases-is_met : goal.decreases-is_met
decreases-is_met g l = filter_effort (size (tree_of l.self.now.root)) (filter_view (constants_of l.self.now) l.filter.now) + 5 * size (tree_of l.at) + 6

abbrev pub decreases-filter_holds : goal.decreases-filter_holds
decreases-filter_holds g l = filter_effort (size (tree_of l.self.now.root)) (filter_view (constants_of l.self.now) l.filter.now) + 5 * size (tree_of l.at) + 4

abbrev pub decreases-some_holds : goal.decreases-some_holds
decreases-some_holds g l = filters_effort (size (tree_of l.self.now.root)) (filters_meant (constants_of l.self.now) l.parts.now) + 5 * size (tree_of l.at) + 6

abbrev pub decreases-each_holds : goal.decreases-each_holds
decreases-each_holds g l = filters_effort (size (tree_of l.self.now.root)) (filters_meant (constants_of l.self.now) l.parts.now) + 5 * size (tree_of l.at) + 6

abbrev pub decreases-answer : goal.decreases-answer
decreases-answer g l = call_effort (size (tree_of l.self.now.root)) (call_view (constants_of l.self.now) l.call.now) + 5 * size (tree_of l.at) + 1

abbrev pub decreases-match_or_search : goal.decreases-match_or_search
decreases-match_or_search g l = argument_effort (size (tree_of l.self.now.root)) (expr_view (constants_of l.self.now) l.operands.text.now Single) + argument_effort (size (tree_of l.self.now.root)) (expr_view (constants_of l.self.now) l.operands.pattern.now Single) + 5 * size (tree_of l.at) + 4

abbrev pub decreases-custom : goal.decreases-custom
decreases-custom g l = arguments_effort (size (tree_of l.self.now.root)) (arguments_meant (constants_of l.self.now) l.args.now) + 5 * size (tree_of l.at) + 5

abbrev pub decreases-gather : goal.decreases-gather
decreases-gather g l = segments_effort (size (tree_of l.self.now.root)) (segments_meant (constants_of l.self.now) l.segments.now) + 5 * size (tree_of l.at) + 3

abbrev pub decreases-comparison_holds : goal.decreases-comparison_holds
decreases-comparison_holds g l = argument_effort (size (tree_of l.self.now.root)) (expr_view (constants_of l.self.now) l.comparison.left.now Single) + argument_effort (size (tree_of l.self.now.root)) (expr_view (constants_of l.self.now) l.comparison.right.now Single) + 5 * size (tree_of l.at) + 5

abbrev pub decreases-compare_evaluated : goal.decreases-compare_evaluated
decreases-compare_evaluated g l = argument_effort (size (tree_of l.self.now.root)) (expr_view (constants_of l.self.now) l.comparison.left.now Single) + argument_effort (size (tree_of l.self.now.root)) (expr_view (constants_of l.self.now) l.comparison.right.now Single) + 5 * size (tree_of l.at) + 4

abbrev pub decreases-tests_true : goal.decreases-tests_true
decreases-tests_true g l = argument_effort (size (tree_of l.self.now.root)) (expr_view (constants_of l.self.now) l.part.now Exists) + 5 * size (tree_of l.at) + 3

abbrev pub decreases-value : goal.decreases-value
decreases-value g l = argument_effort (size (tree_of l.self.now.root)) (expr_view (constants_of l.self.now) l.part.now l.demand) + 5 * size (tree_of l.at) + 2

abbrev pub decreases-operand : goal.decreases-operand
decreases-operand g l = argument_effort (size (tree_of l.self.now.root)) (expr_view (constants_of l.self.now) l.part.now Single) + 5 * size (tree_of l.at) + 3

abbrev pub decreases-push : goal.decreases-push
decreases-push g l = argument_effort (size (tree_of l.self.now.root)) (expr_view (constants_of l.self.now) l.part.now Values) + 5 * size (tree_of l.at) + 4

abbrev pub decreases-push_one : goal.decreases-push_one
decreases-push_one g l = argument_effort (size (tree_of l.self.now.root)) (expr_view (constants_of l.self.now) l.part.now Values) + 5 * size (tree_of l.at) + 3

abbrev pub decreases-ensure_cached : goal.decreases-ensure_cached
decreases-ensure_cached g l = kept_effort (size (tree_of l.self.now.root)) (argument_at (constants_of l.self.now) l.demand l.number)

abbrev pub decreases-evaluate_constant : goal.decreases-evaluate_constant
decreases-evaluate_constant g l = constant_effort (size (tree_of l.self.now.root)) (constant_view (constants_of l.self.now) l.constant.now)

-- what was given, with what is left, is what all of them give
abbrev pub invariant-pick_each-loop-selector : goal.invariant-pick_each-loop-selector
invariant-pick_each-loop-selector g l =
    let d = document l.self in
    let n = node_of l.initial.state.current_path.steps.items l.at in
    let rest = selected_from (segments_meant (constants_of l.self) l.continuation.rest.now) d in
    record {
      returns : Returns l.self l.initial.state l.state;
      given : Goes (l.initial.sink, l.initial.state.current_path) (l.sink, l.state.current_path) (flat_map rest (all_pick (selectors_meant (constants_of l.self) (drop l.selector-index l.selector-items)) d n)) (flat_map rest (all_pick (selectors_meant (constants_of l.self) l.continuation.next.now) d n));
    }

abbrev pub invariant-pick_slice-loop-position : goal.invariant-pick_slice-loop-position
invariant-pick_slice-loop-position g l =
    let d = document l.self in
    let n = node_of l.initial.state.current_path.steps.items l.at in
    let rest = selected_from (segments_meant (constants_of l.self) l.continuation.rest.now) d in
    record {
      returns : Returns l.self l.initial.state l.state;
      below : All (λ i. i < length l.items.items) (places_left l.position-iterator);
      given : Goes (l.initial.sink, l.initial.state.current_path) (l.sink, l.state.current_path) (flat_map rest (flat_map (λ k. element k n) (places_left l.position-iterator))) (flat_map rest (flat_map (λ k. element k n) (slice_of l.continuation.next.0 l.continuation.next.1 l.continuation.next.2 (length l.items.items))));
    }

abbrev pub invariant-each_child-loop-i : goal.invariant-each_child-loop-i
invariant-each_child-loop-i g l =
    let tree = g.T.Queryable.tree in
    let d = document l.self in
    let n = node_of l.initial.state.current_path.steps.items l.at in
    let rest = selected_from (segments_meant (constants_of l.self) l.continuation.rest.now) d in
    record {
      returns : Returns l.self l.initial.state l.state;
      given : Goes (l.initial.sink, l.initial.state.current_path) (l.sink, l.state.current_path) (flat_map rest (flat_map (visited_nodes (constants_of l.self) l.continuation.next d) (element_nodes n.location l.i (map tree (drop l.i l.value-items))))) (flat_map rest (flat_map (visited_nodes (constants_of l.self) l.continuation.next d) (children n)));
    }

abbrev pub invariant-each_member-loop-member : goal.invariant-each_member-loop-member
invariant-each_member-loop-member g l =
    let tree = g.T.Queryable.tree in
    let d = document l.self in
    let n = node_of l.initial.state.current_path.steps.items l.members.of in
    let rest = selected_from (segments_meant (constants_of l.self) l.continuation.rest.now) d in
    record {
      returns : Returns l.self l.initial.state l.state;
      given : Goes (l.initial.sink, l.initial.state.current_path) (l.sink, l.state.current_path) (flat_map rest (flat_map (visited_nodes (constants_of l.self) l.continuation.next d) (member_nodes n.location (map (λ m. (m.0.now, tree m.1.now)) (drop l.member-index l.member-items))))) (flat_map rest (flat_map (visited_nodes (constants_of l.self) l.continuation.next d) (children n)));
    }

-- the parts that are left decide
abbrev pub invariant-some_holds-loop-part : goal.invariant-some_holds-loop-part
invariant-some_holds-loop-part g l =
    let d = document l.self in
    let n = node_of l.initial.state.current_path.steps.items l.at in
    record {
      returns : Returns l.self l.initial.state l.state;
      holds : some_holds (filters_meant (constants_of l.self) (drop l.part-index l.parts)) d n ≡ some_holds (filters_meant (constants_of l.self) l.parts) d n;
    }

-- the parts that are left decide
abbrev pub invariant-each_holds-loop-part : goal.invariant-each_holds-loop-part
invariant-each_holds-loop-part g l =
    let d = document l.self in
    let n = node_of l.initial.state.current_path.steps.items l.at in
    record {
      returns : Returns l.self l.initial.state l.state;
      holds : each_holds (filters_meant (constants_of l.self) (drop l.part-index l.parts)) d n ≡ each_holds (filters_meant (constants_of l.self) l.parts) d n;
    }

-- the arguments so far, with those that are left
abbrev pub invariant-custom-loop-arg : goal.invariant-custom-loop-arg
invariant-custom-loop-arg g l =
    let d = document l.self in
    let n = node_of l.initial.state.current_path.steps.items l.at in
    record {
      returns : Returns l.self l.initial.state l.state;
      trees : arg_trees l.values ++ all_trees (arguments_meant (constants_of l.self) (drop l.arg-index l.args)) d n ≡ all_trees (arguments_meant (constants_of l.self) l.args) d n;
    }
