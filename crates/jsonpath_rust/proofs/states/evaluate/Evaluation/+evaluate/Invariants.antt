use Rattle.std.proofs.Common.{◌≡◌, ◌++◌, ◌+◌, ◌*◌, drop, map, filter, List, Bool}
use Rattle.jsonpath_base.specs.Prelude.Documents.{AllByRecursion, argument_effort, argument_view, arguments_effort, arguments_in, atom_view, call_effort, call_view, comparable_view, comparison_view, filter_effort, filter_view, filters_effort, filters_in, flat_map, segment_effort, segment_view, segments_effort, segments_in, segments_of, selector_effort, selector_view, selectors_effort, selectors_in, singular_view, step_view, test_effort, test_view}
use Rattle.jsonpath_rust.specs.Prelude.Documents.{arg_trees}
use Rattle.jsonpath_rust.specs.Prelude.States.{arguments_trees, content_at, document, each_holds_at, holds_at, inside, joined_from, nothing, part_content, segments_content, some_holds_at, Target, target_at, target_of, targets, targets_at, tops}
use Rattle.jsonpath_rust.proofs.laws.states.{Stays}
use Rattle.jsonpath_rust.proofs.laws.states.OperationEffort.{operation_effort}
use Rattle.jsonpath_rust.proofs.states.evaluate.Evaluation.+evaluate.Given as goal

abbrev pub decreases-segments_data : goal.decreases-segments_data
decreases-segments_data g l = 4 * segments_effort 0 (segments_in l.segments.now) + 1

abbrev pub decreases-segment_data : goal.decreases-segment_data
decreases-segment_data g l = 4 * segment_effort 0 (segment_view l.segment.now)

abbrev pub decreases-several_data : goal.decreases-several_data
decreases-several_data g l = 4 * selectors_effort 0 (selectors_in l.selectors.now) + 7

abbrev pub decreases-selector_data : goal.decreases-selector_data
decreases-selector_data g l = 4 * selector_effort 0 (selector_view l.selector.now)

abbrev pub decreases-each_target : goal.decreases-each_target
decreases-each_target g l = 4 * operation_effort l.part + 2

abbrev pub decreases-at_target : goal.decreases-at_target
decreases-at_target g l = 4 * operation_effort l.part + 1

abbrev pub decreases-matching_children : goal.decreases-matching_children
decreases-matching_children g l = 4 * filter_effort 0 (filter_view l.filter.now) + 3

abbrev pub decreases-joined : goal.decreases-joined
decreases-joined g l = 4 * selectors_effort 0 (selectors_in l.selectors.now) + 1

abbrev pub decreases-holds : goal.decreases-holds
decreases-holds g l = 4 * filter_effort 0 (filter_view l.filter.now) + 2

abbrev pub decreases-some_holds : goal.decreases-some_holds
decreases-some_holds g l = 4 * filters_effort 0 (filters_in l.parts.now) + 3

abbrev pub decreases-each_holds : goal.decreases-each_holds
decreases-each_holds g l = 4 * filters_effort 0 (filters_in l.parts.now) + 3

abbrev pub decreases-atom_data : goal.decreases-atom_data
decreases-atom_data g l = 4 * filter_effort 0 (atom_view l.atom.now) + 1

abbrev pub decreases-comparison_holds : goal.decreases-comparison_holds
decreases-comparison_holds g l = 4 * filter_effort 0 (comparison_view l.comparison.now)

abbrev pub decreases-comparable_data : goal.decreases-comparable_data
decreases-comparable_data g l = 4 * argument_effort 0 (comparable_view l.comparable.now)

abbrev pub decreases-singular_data : goal.decreases-singular_data
decreases-singular_data g l = 4 * test_effort 0 (singular_view l.query.now)

abbrev pub decreases-steps_data : goal.decreases-steps_data
decreases-steps_data g l = 4 * segments_effort 0 (segments_of (map step_view l.steps.now)) + 1

abbrev pub decreases-step_data : goal.decreases-step_data
decreases-step_data g l = 4 * segment_effort 0 (step_view l.step.now)

abbrev pub decreases-test_data : goal.decreases-test_data
decreases-test_data g l = 4 * test_effort 0 (test_view l.test.now)

abbrev pub decreases-call_data : goal.decreases-call_data
decreases-call_data g l = 4 * call_effort 0 (call_view l.function.now)

abbrev pub decreases-arguments : goal.decreases-arguments
decreases-arguments g l = 4 * arguments_effort 0 (arguments_in l.args.now) + 1

abbrev pub decreases-argument_data : goal.decreases-argument_data
decreases-argument_data g l = 4 * argument_effort 0 (argument_view l.arg.now)

-- what was found, with what is left
abbrev pub invariant-each_target-loop-from : goal.invariant-each_target-loop-from
invariant-each_target-loop-from g l =
    let tree = g.T.Queryable.tree in
    let d = document l.self in
    let f : Target → List Target = λ p. targets (part_content l.part d p) in
    targets_at l.all ++ flat_map f (map (target_of tree) (drop l.from-index l.from-items)) ≡ flat_map f (map (target_of tree) l.from-items)

abbrev pub invariant-matching_children-loop-child : goal.invariant-matching_children-loop-child
invariant-matching_children-loop-child g l =
    let tree = g.T.Queryable.tree in
    let d = document l.self in
    let h : Target → Bool = λ p. holds_at (filter_view l.filter) d (inside p.tree) in
    targets_at l.found ++ filter h (map (target_of tree) (drop l.child-index l.child-items)) ≡ filter h (map (target_of tree) l.child-items)

abbrev pub invariant-arguments-loop-arg : goal.invariant-arguments-loop-arg
invariant-arguments-loop-arg g l =
    let d = document l.self in
    arg_trees l.values ++ arguments_trees (arguments_in (drop l.arg-index l.args)) d (content_at l.given) ≡ arguments_trees (arguments_in l.args) d (content_at l.given)

-- what the segments that are left make of the answer so far
abbrev pub invariant-segments_data-loop-segment : goal.invariant-segments_data-loop-segment
invariant-segments_data-loop-segment g l =
    let d = document l.self in
    record {
      made : segments_content (segments_in (drop l.segment-index l.segments)) d (content_at l.answer) ≡ segments_content (segments_in l.segments) d (content_at l.initial.answer);
      within : AllByRecursion (Stays (tops d (content_at l.initial.answer))) (targets (content_at l.answer));
    }

-- what the steps that are left make of the answer so far
abbrev pub invariant-steps_data-loop-step : goal.invariant-steps_data-loop-step
invariant-steps_data-loop-step g l =
    let d = document l.self in
    segments_content (segments_of (map step_view (drop l.step-index l.steps))) d (content_at l.answer) ≡ segments_content (segments_of (map step_view l.steps)) d (content_at l.initial.answer)

-- what the selectors that are left join behind what there is
abbrev pub invariant-joined-loop-selector : goal.invariant-joined-loop-selector
invariant-joined-loop-selector g l =
    let d = document l.self in
    let p = target_at l.from in
    joined_from (selectors_in (drop l.selector-index l.selectors)) d (content_at l.all) p ≡ joined_from (selectors_in l.selectors) d nothing p

-- the parts that are left decide
abbrev pub invariant-some_holds-loop-part : goal.invariant-some_holds-loop-part
invariant-some_holds-loop-part g l =
    let d = document l.self in
    some_holds_at (filters_in (drop l.part-index l.parts)) d (content_at l.given) ≡ some_holds_at (filters_in l.parts) d (content_at l.given)

-- the parts that are left decide
abbrev pub invariant-each_holds-loop-part : goal.invariant-each_holds-loop-part
invariant-each_holds-loop-part g l =
    let d = document l.self in
    each_holds_at (filters_in (drop l.part-index l.parts)) d (content_at l.given) ≡ each_holds_at (filters_in l.parts) d (content_at l.given)
