-- The answers of the walk: of segments and selectors, of filters, of functions and of subqueries.
use Rattle.std.proofs.Common.{◌≡◌, ◌<◌, length, map, List, [], ◌∷◌, ◌++◌, append-nil, arith, Some, option_to_list, sym, ◌∙◌, ap, refl, subst, All, IsTrue, OnOk, string_bytes}
use Rattle.std.proofs.lemmas.List.{map-append}
use Rattle.jsonpath_base.specs.Prelude.Documents.{all_trees, answer, argued, argument_effort, argument_patterns, arguments_effort, arguments_patterns, as_nodes, as_trees, as_truth, as_value, AsksPattern, below, call_effort, call_patterns, children, compares, count_of, each_holds, element, filter_effort, filter_patterns, filters_effort, filters_patterns, flat_map, get, holds, index, is_entire, is_matched, is_true, lent_location, lent_step, name, negated, nodelist, of_nodes, only_value, operator_view, picks, places_left, replaced, segments_patterns, selector_effort, selector_patterns, selectors_effort, selectors_patterns, SingularQuerySegment, slice_of, some_holds, step_view, subtree, relative, tested, truth, value_at, value_of}
use Rattle.jsonpath_rust.specs.Prelude.Documents.{arg_trees, Index, Name, filter_value_tree, filter_ref_tree, StepRef, tree_of}
use Rattle.jsonpath_rust.specs.Prelude.Selection.{visited_nodes, visit_effort, visit_patterns, Exists, argument_at, arguments_meant, asked, call_view, children_argument, children_query, constant_view, Count, document, Filter, filter_view, filters_meant, finished, result_view, feed, result_of, result_for, given_value, IsGiven, IsWalkError, constants_of, node_of, Single, Expr, part_at, part_patterns, expr_view, Segment, segment_view, segments_meant, Selector, selector_view, selectors_meant, selected_from, demanded_value, trees_in, Values, Demand}
use Rattle.jsonpath_base.proofs.lemmas.documents.{all_at, child_there, differs, each_failed, each_next, element_at, element_size, joined_next, kept_false, kept_true, member_size, member_there, ok_through, pair_size, part_of, parts_end, sliced-list, some_found, some_next}
use Rattle.jsonpath_rust.proofs.laws.selection.{along_as, along_between, along_idle, along_none, along_stop, asked_as, asked_at, asked_at_or, asked_held, asked_left, asked_none, asked_rest, asked_right, below_more, call_view-Count, call_view-Match, call_view-Search, call_view-Value, called, children-list, children-members, children_told, element_turns, filter_view-Constant, filter_view-Test, finished_all, first_below, fit_patterns, flat_map-alone, flat_map-filter, given_right, goes_no_more, goes_off, goes_on, goes_on_to_place, goes_past_places, goes_to_no_place, goes_to_the_end, is_there, kept_told, kept_trees, later_below, leads_below, leads_indexed, looked_up, member_turns, nodelist-selected_from, of_some, one_as, expr_view-Children, expr_view-Constant, expr_view-Lookup, expr_view-Walk, pattern_asked, query_there, segment_view-Descendant, selector_turns, selector_view-Filter, selector_view-Index, selector_view-Name, selector_view-Wildcard, steps_alone, takes_as, takes_from, takes_then, selected_from-applied, tied_back, tied_further, tied_inside, tied_still, told_nodes, told_truth, truth_held, wanted_found, wanted_given}
use Rattle.jsonpath_rust.specs.selection.inner.PlanViews as plan
use Rattle.jsonpath_rust.proofs.laws.selection.Hand.{hand, hand_on}
use Rattle.jsonpath_base.specs.documents.Args.{arg_value}
use Rattle.jsonpath_rust.proofs.laws.selection.Standing.{still, stands_as, stays, on, comes_as, comes_on, comes_after, comes_err, comes_halt, comes_so, comes_paid}
use Rattle.jsonpath_rust.proofs.selection.walk.WalkContext.+walk.Goals as goal

-- ---- segments and selectors

pub pass-returns-in-Descendant-clause-outcome : goal.pass-returns-in-Descendant-clause-outcome
pass-returns-in-Descendant-clause-outcome g t c =
    let h = hand_on c.args.self.now c.args.state.now c.args.at c.args.continuation in
    let e = ap (segment_view h.constants) c.in-Descendant.is ∙ segment_view-Descendant h.constants c.in-Descendant.inner in
    takes_as _ _ _ _ _ (ap (flat_map h.rest) (ap (λ (s : Segment). flat_map (replaced (segment_view h.constants s) h.d) (subtree h.n)) c.deref.ensures ∙ sym (ap (λ s. replaced s h.d h.n) e))) c.act.ensures.outcome

pub pick_each-pick-requires : goal.pick_each-pick-requires
pick_each-pick-requires g t c κs within =
    let h = hand c.args.self.now c.args.state.now c.args.at in
    let w = part_of (λ (x : Selector). selector_effort h.big (selector_view h.constants x)) (λ xs. selectors_effort h.big (selectors_meant h.constants xs)) (λ x xs. refl) c.args.continuation.next.now c.loop-selector.selector-index c.selector-item.result c.loop-selector-test.true c.selector-item.is in
    (omega (arith, c.decreases, w), (within, still c.requires c.loop-selector.invariant.returns))

pub pick_each-returns-then-not-branch-clause-outcome : goal.pick_each-returns-then-not-branch-clause-outcome
pick_each-returns-then-not-branch-clause-outcome g t c =
    let h = hand_on c.args.self.now c.args.state.now c.args.at c.args.continuation in
    let inv = c.loop-selector.invariant in
    let k = along_as _ _ _ _ _ (ap (λ q. flat_map h.rest (picks (selector_view h.constants c.selector-item.result) h.d (node_of q c.args.at))) inv.returns.same) c.in_ok-pick.ensures.outcome in
    goes_no_more _ _ (selector_turns h.constants h.d h.n h.rest) c.args.continuation.next.now c.loop-selector.selector-index c.selector-item.result _ _ _ _ _ _ c.loop-selector-test.true c.selector-item.is k c.if-not-branch.true inv.given

pub pick_each-loop-selector-init : goal.pick_each-loop-selector-init
pick_each-loop-selector-init g t c = record { returns = record { same = refl; ready = c.requires.ready }; given = goes_off _ _ _ refl }

pub pick_each-loop-selector-preserved : goal.pick_each-loop-selector-preserved
pick_each-loop-selector-preserved g t c =
    let h = hand_on c.args.self.now c.args.state.now c.args.at c.args.continuation in
    let inv = c.loop-selector.invariant in
    let k = along_as _ _ _ _ _ (ap (λ q. flat_map h.rest (picks (selector_view h.constants c.selector-item.result) h.d (node_of q c.args.at))) inv.returns.same) c.in_ok-pick.ensures.outcome in
    record { returns = on inv.returns c.in_ok-pick.ensures.comes.back; given = goes_on _ _ (selector_turns h.constants h.d h.n h.rest) c.args.continuation.next.now c.loop-selector.selector-index c.selector-item.result _ _ _ _ _ c.loop-selector-test.true c.selector-item.is k inv.given }

pub pick_each-returns-clause-outcome : goal.pick_each-returns-clause-outcome
pick_each-returns-clause-outcome g t c =
    let h = hand_on c.args.self.now c.args.state.now c.args.at c.args.continuation in
    goes_to_the_end _ _ (selector_turns h.constants h.d h.n h.rest) c.args.continuation.next.now c.loop-selector.selector-index _ _ _ c.loop-selector-test.false c.loop-selector.invariant.given

pub pick_each-returns-in_err-pick-clause-comes : goal.pick_each-returns-in_err-pick-clause-comes
pick_each-returns-in_err-pick-clause-comes g t c =
    let constants = constants_of c.args.self.now in
    let others = segments_patterns (segments_meant constants c.args.continuation.rest.now) in
    comes_so _ _ c.from_residual-in_err-pick.ensures.1 c.in_err-pick.ensures.comes (λ h. asked_at_or (λ (x : Selector). selector_patterns (selector_view constants x)) (λ xs. selectors_patterns (selectors_meant constants xs)) (λ x xs. refl) others c.args.continuation.next.now c.loop-selector.selector-index c.selector-item.result c.loop-selector-test.true c.selector-item.is h)

pub pick-at_child-requires : goal.pick-at_child-requires
pick-at_child-requires g t c κs within =
    let h = hand c.args.self.now c.args.state.now c.args.at in
    let s = member_size c.deref.result.now (tree_of c.args.at) (tree_of c.in-Some.value) (c.in-Some.ensures) in
    let e = ap (selector_view h.constants) c.in-Name.is ∙ selector_view-Name h.constants c.in-Name.name in
    let there = ap (λ q. get q (tree_of c.args.at)) (c.deref-in-Some.ensures ∙ sym c.deref.ensures) ∙ sym (c.in-Some.ensures) in
    (omega (arith, c.decreases, ap (selector_effort h.big) e, s), (within, record { position = leads_below c.args.state.now.current_path.steps.items (Name c.deref-in-Some.result) (tree_of c.args.self.now.root) _ _ c.requires.position there; ready = c.requires.ready }))

pub pick-at_child-requires-in-Some-element : goal.pick-at_child-requires-in-Some-element
pick-at_child-requires-in-Some-element g t c κs within =
    let h = hand c.args.self.now c.args.state.now c.args.at in
    let e = ap (selector_view h.constants) c.in-Index.is ∙ selector_view-Index h.constants c.in-Index.index in
    let found = c.in-Some-element.ensures in
    let steps = c.args.state.now.current_path.steps.items in
    (omega (arith, c.decreases, ap (selector_effort h.big) e, found.smaller), (within, record { position = leads_indexed steps _ _ _ _ _ (g.met.T.Queryable.distinct c.args.at.value.now c.args.at.whole) c.requires.position (found.value (lent_location steps)); ready = c.requires.ready }))

pub pick-returns-in-Wildcard-clause-outcome : goal.pick-returns-in-Wildcard-clause-outcome
pick-returns-in-Wildcard-clause-outcome g t c =
    let h = hand_on c.args.self.now c.args.state.now c.args.at c.args.continuation in
    let e = ap (selector_view h.constants) c.in-Wildcard.is ∙ selector_view-Wildcard h.constants in
    takes_as _ _ _ _ _ (ap (flat_map h.rest) (flat_map-alone (children h.n) ∙ sym (ap (λ s. picks s h.d h.n) e))) c.each_child.ensures.outcome

pub pick-returns-in-Filter-clause-outcome : goal.pick-returns-in-Filter-clause-outcome
pick-returns-in-Filter-clause-outcome g t c =
    let h = hand_on c.args.self.now c.args.state.now c.args.at c.args.continuation in
    let e = ap (selector_view h.constants) c.in-Filter.is ∙ selector_view-Filter h.constants c.in-Filter.filter in
    takes_as _ _ _ _ _ (ap (flat_map h.rest) (flat_map-filter (holds (filter_view h.constants c.in-Filter.filter) h.d) (children h.n) ∙ sym (ap (λ s. picks s h.d h.n) e))) c.each_child-in-Filter.ensures.outcome

pub pick_slice-returns-in_default-clause-outcome : goal.pick_slice-returns-in_default-clause-outcome
pick_slice-returns-in_default-clause-outcome g t c =
    let h = hand_on c.args.self.now c.args.state.now c.args.at c.args.continuation in
    let none = c.in_default.ensures.value in
    along_none _ _ (ap (λ o. flat_map h.rest (flat_map (λ ts. flat_map (λ k. element k h.n) (slice_of c.args.continuation.next.0 c.args.continuation.next.1 c.args.continuation.next.2 (length ts))) (option_to_list o))) (sym none))

pub pick_slice-at_child-requires : goal.pick_slice-at_child-requires
pick_slice-at_child-requires g t c κs within =
    let tree = g.T.Queryable.tree in
    let items = c.in-Some.items.now.items in
    let some = c.in-Some.ensures.value in
    let inv = c.loop-position.invariant in
    let position = c.in-Some-position.position in
    let inside = first_below c.in-Some-position.ensures.steps inv.below in
    let s = element_size tree (tree_of c.args.at) items position c.index.result.now some inside c.index.ensures in
    let was = still c.requires inv.returns in
    (omega (arith, c.decreases, s), (within, record { position = leads_below c.loop-position.state.current_path.steps.items (Index position) (tree_of c.args.self.now.root) _ _ was.position (child_there tree (tree_of c.args.at) items position c.index.result.now some inside c.index.ensures); ready = was.ready }))

pub pick_slice-index-requires : goal.pick_slice-index-requires
pick_slice-index-requires g t c =
    let items = c.in-Some.items.now.items in
    let inv = c.loop-position.invariant in
    let position = c.in-Some-position.position in
    let steps = c.in-Some-position.ensures.steps in
    let inside = first_below steps inv.below in
    omega (arith, inside, c.in-Some.items.now.ok.0)

pub pick_slice-invariant_of-value : goal.pick_slice-invariant_of-value
pick_slice-invariant_of-value g t c =
    let items = c.in-Some.items.now.items in
    let position = c.in-Some-position.position in
    let inside = first_below c.in-Some-position.ensures.steps c.loop-position.invariant.below in
    record { whole = all_at (λ x. IsTrue (g.T.Queryable.is_whole x)) items position c.index.result.now c.in-Some.ensures.whole inside c.index.ensures }

pub pick_slice-returns-then-not-branch-clause-outcome : goal.pick_slice-returns-then-not-branch-clause-outcome
pick_slice-returns-then-not-branch-clause-outcome g t c =
    let h = hand_on c.args.self.now c.args.state.now c.args.at c.args.continuation in
    let tree = g.T.Queryable.tree in
    let items = c.in-Some.items.now.items in
    let some = c.in-Some.ensures.value in
    let inv = c.loop-position.invariant in
    let position = c.in-Some-position.position in
    let steps = c.in-Some-position.ensures.steps in
    let inside = first_below steps inv.below in
    let x = tree c.index.result.now in
    let here = element_at tree h.n.location h.n.tree items position c.index.result.now some inside c.index.ensures in
    let k = along_as _ _ _ _ _ (ap (λ q. flat_map h.rest (below (lent_location q) (index position) x ∷ [])) inv.returns.same ∙ ap (flat_map h.rest) here) c.in_ok-at_child.ensures.outcome in
    along_as _ _ _ _ _ (ap (flat_map h.rest) (sliced-list tree h.n items c.args.continuation.next.0 c.args.continuation.next.1 c.args.continuation.next.2 some)) (goes_to_no_place h.rest (λ j. element j h.n) _ _ position _ _ _ _ _ _ steps k c.if-not-branch.true inv.given)

pub pick_slice-loop-position-init : goal.pick_slice-loop-position-init
pick_slice-loop-position-init g t c =
    let h = hand_on c.args.self.now c.args.state.now c.args.at c.args.continuation in
    let items = c.in-Some.items.now in
    let bounds = c.args.continuation.next in
    let places = c.slice_places-position-items in
    let same = c.into_iter-position-iterator.ensures.into_iter_gives in
    let len : c.len.result ≡ length items.items = omega (arith, c.len.ensures, items.ok.0) in
    let all = ap places_left same ∙ places.ensures.value ∙ ap (slice_of bounds.0 bounds.1 bounds.2) len in
    record {
      returns = record { same = refl; ready = c.requires.ready };
      below = subst (λ m. All (λ i. i < m) (places_left c.into_iter-position-iterator.result)) len (subst (λ q. All (λ i. i < c.len.result) (places_left q)) (sym same) places.ensures.below);
      given = goes_off _ _ _ (ap (λ is. flat_map h.rest (flat_map (λ k. element k h.n) is)) all);
    }

pub pick_slice-loop-position-preserved : goal.pick_slice-loop-position-preserved
pick_slice-loop-position-preserved g t c =
    let h = hand_on c.args.self.now c.args.state.now c.args.at c.args.continuation in
    let tree = g.T.Queryable.tree in
    let items = c.in-Some.items.now.items in
    let some = c.in-Some.ensures.value in
    let inv = c.loop-position.invariant in
    let position = c.in-Some-position.position in
    let steps = c.in-Some-position.ensures.steps in
    let inside = first_below steps inv.below in
    let x = tree c.index.result.now in
    let here = element_at tree h.n.location h.n.tree items position c.index.result.now some inside c.index.ensures in
    let k = along_as _ _ _ _ _ (ap (λ q. flat_map h.rest (below (lent_location q) (index position) x ∷ [])) inv.returns.same ∙ ap (flat_map h.rest) here) c.in_ok-at_child.ensures.outcome in
    record { returns = record { same = c.in_ok-at_child.ensures.comes.back.same ∙ inv.returns.same; ready = c.in_ok-at_child.ensures.comes.back.ready }; below = later_below steps inv.below; given = goes_on_to_place h.rest (λ j. element j h.n) _ _ position _ _ _ _ _ steps k inv.given }

pub pick_slice-returns-clause-outcome : goal.pick_slice-returns-clause-outcome
pick_slice-returns-clause-outcome g t c =
    let h = hand_on c.args.self.now c.args.state.now c.args.at c.args.continuation in
    let tree = g.T.Queryable.tree in
    let items = c.in-Some.items.now.items in
    let some = c.in-Some.ensures.value in
    let inv = c.loop-position.invariant in
    along_as _ _ _ _ _ (ap (flat_map h.rest) (sliced-list tree h.n items c.args.continuation.next.0 c.args.continuation.next.1 c.args.continuation.next.2 some)) (goes_past_places h.rest (λ j. element j h.n) _ _ _ _ c.in-None.ensures.steps.0 inv.given)

-- ---- children

pub each_child-at_child-requires : goal.each_child-at_child-requires
each_child-at_child-requires g t c κs within =
    let tree = g.T.Queryable.tree in
    let items = c.deref-value-items.result.now in
    let P : List _ → Type 0 = All (λ x. IsTrue (g.T.Queryable.is_whole x)) in
    let some = ap (λ xs. Some (map tree xs)) c.deref-value-items.ensures.value ∙ c.in-Some.ensures.value in
    let whole = subst P (sym c.deref-value-items.ensures.value) (c.in-Some.ensures.whole) in
    let s = element_size tree (tree_of c.args.at) items c.loop-i.i c.value-item.result some c.loop-i-test.true c.value-item.is in
    let was = still c.requires c.loop-i.invariant.returns in
    (omega (arith, c.decreases, s), (within, record { position = leads_below c.loop-i.state.current_path.steps.items (Index c.loop-i.i) (tree_of c.args.self.now.root) _ _ was.position (child_there tree (tree_of c.args.at) items c.loop-i.i c.value-item.result some c.loop-i-test.true c.value-item.is); ready = was.ready }))

pub each_child-returns-then-not-branch-clause-outcome : goal.each_child-returns-then-not-branch-clause-outcome
each_child-returns-then-not-branch-clause-outcome g t c =
    let h = hand_on c.args.self.now c.args.state.now c.args.at c.args.continuation in
    let tree = g.T.Queryable.tree in
    let act = visited_nodes h.constants c.args.continuation.next h.d in
    let inv = c.loop-i.invariant in
    let k = along_as _ _ _ _ _ (ap (λ q. flat_map h.rest (act (below (lent_location q) (index c.loop-i.i) (tree c.value-item.result)))) inv.returns.same) c.in_ok-at_child.ensures.outcome in
    goes_no_more _ _ (element_turns tree h.n.location h.rest act) c.deref-value-items.result.now c.loop-i.i c.value-item.result _ _ _ _ _ _ c.loop-i-test.true c.value-item.is k c.if-not-branch.true inv.given

pub each_child-loop-i-init : goal.each_child-loop-i-init
each_child-loop-i-init g t c =
    let h = hand_on c.args.self.now c.args.state.now c.args.at c.args.continuation in
    let tree = g.T.Queryable.tree in
    let act = visited_nodes h.constants c.args.continuation.next h.d in
    let some = ap (λ xs. Some (map tree xs)) c.deref-value-items.ensures.value ∙ c.in-Some.ensures.value in
    record { returns = record { same = refl; ready = c.requires.ready }; given = goes_off _ _ _ (ap (λ ns. flat_map h.rest (flat_map act ns)) (children-list tree h.n.location h.n.tree c.deref-value-items.result.now some)) }

pub each_child-loop-i-preserved : goal.each_child-loop-i-preserved
each_child-loop-i-preserved g t c =
    let h = hand_on c.args.self.now c.args.state.now c.args.at c.args.continuation in
    let tree = g.T.Queryable.tree in
    let act = visited_nodes h.constants c.args.continuation.next h.d in
    let inv = c.loop-i.invariant in
    let k = along_as _ _ _ _ _ (ap (λ q. flat_map h.rest (act (below (lent_location q) (index c.loop-i.i) (tree c.value-item.result)))) inv.returns.same) c.in_ok-at_child.ensures.outcome in
    record { returns = record { same = c.in_ok-at_child.ensures.comes.back.same ∙ inv.returns.same; ready = c.in_ok-at_child.ensures.comes.back.ready }; given = goes_on _ _ (element_turns tree h.n.location h.rest act) c.deref-value-items.result.now c.loop-i.i c.value-item.result _ _ _ _ _ c.loop-i-test.true c.value-item.is k inv.given }

pub each_child-each_member-requires : goal.each_child-each_member-requires
each_child-each_member-requires g t c κs within =
    let tree = g.T.Queryable.tree in
    let P : List _ → Type 0 = All (λ m. IsTrue (g.T.Queryable.is_whole m.1.now)) in
    (omega (arith, c.decreases), (within, (c.requires, record { list = ap (λ xs. Some (map (λ m. (m.0.now, tree m.1.now)) xs)) c.deref.ensures.value ∙ rw c.in-Some-2.is at (c.in_ok-listed.ensures.value); whole = subst P (sym c.deref.ensures.value) (rw c.in-Some-2.is at (c.in_ok-listed.ensures.whole)) })))

pub each_member-at_child-requires : goal.each_member-at_child-requires
each_member-at_child-requires g t c κs within =
    let tree = g.T.Queryable.tree in
    let items = c.args.members.now.list.now in
    let some = c.requires.listed.list in
    let whole = c.requires.listed.whole in
    let s = pair_size (λ m. (m.0.now, tree m.1.now)) (tree_of c.args.members.now.of) items c.loop-member.member-index c.member-item.result some c.loop-member-test.true c.member-item.is in
    let was = still c.requires.stands c.loop-member.invariant.returns in
    let there = member_there (λ m. (m.0.now, tree m.1.now)) (tree_of c.args.members.now.of) items c.loop-member.member-index c.member-item.result (g.met.T.Queryable.distinct c.args.members.now.of.value.now c.args.members.now.of.whole) some c.loop-member-test.true c.member-item.is in
    (omega (arith, c.decreases, s), (within, record { position = leads_below c.loop-member.state.current_path.steps.items (Name c.member-item.result.0) (tree_of c.args.self.now.root) _ _ was.position there; ready = was.ready }))

pub each_member-returns-then-not-branch-clause-outcome : goal.each_member-returns-then-not-branch-clause-outcome
each_member-returns-then-not-branch-clause-outcome g t c =
    let h = hand_on c.args.self.now c.args.state.now c.args.members.now.of c.args.continuation in
    let tree = g.T.Queryable.tree in
    let act = visited_nodes h.constants c.args.continuation.next h.d in
    let inv = c.loop-member.invariant in
    let k = along_as _ _ _ _ _ (ap (λ q. flat_map h.rest (act (below (lent_location q) (name c.member-item.result.0.now) (tree c.member-item.result.1.now)))) inv.returns.same) c.in_ok-at_child.ensures.outcome in
    goes_no_more _ _ (member_turns (λ m. (m.0.now, tree m.1.now)) h.n.location h.rest act) c.args.members.now.list.now c.loop-member.member-index c.member-item.result _ _ _ _ _ _ c.loop-member-test.true c.member-item.is k c.if-not-branch.true inv.given

pub each_member-loop-member-init : goal.each_member-loop-member-init
each_member-loop-member-init g t c =
    let h = hand_on c.args.self.now c.args.state.now c.args.members.now.of c.args.continuation in
    let tree = g.T.Queryable.tree in
    let act = visited_nodes h.constants c.args.continuation.next h.d in
    record { returns = record { same = refl; ready = c.requires.stands.ready }; given = goes_off _ _ _ (ap (λ ns. flat_map h.rest (flat_map act ns)) (children-members (λ m. (m.0.now, tree m.1.now)) h.n.location h.n.tree c.args.members.now.list.now c.requires.listed.list)) }

pub each_member-loop-member-preserved : goal.each_member-loop-member-preserved
each_member-loop-member-preserved g t c =
    let h = hand_on c.args.self.now c.args.state.now c.args.members.now.of c.args.continuation in
    let tree = g.T.Queryable.tree in
    let act = visited_nodes h.constants c.args.continuation.next h.d in
    let inv = c.loop-member.invariant in
    let k = along_as _ _ _ _ _ (ap (λ q. flat_map h.rest (act (below (lent_location q) (name c.member-item.result.0.now) (tree c.member-item.result.1.now)))) inv.returns.same) c.in_ok-at_child.ensures.outcome in
    record { returns = on inv.returns c.in_ok-at_child.ensures.comes.back; given = goes_on _ _ (member_turns (λ m. (m.0.now, tree m.1.now)) h.n.location h.rest act) c.args.members.now.list.now c.loop-member.member-index c.member-item.result _ _ _ _ _ c.loop-member-test.true c.member-item.is k inv.given }

pub at_child-returns-then-is_idle-clause-outcome : goal.at_child-returns-then-is_idle-clause-outcome
at_child-returns-then-is_idle-clause-outcome g t c =
    let constants = constants_of c.args.self.now in
    let d = document c.args.self.now in
    let rest = selected_from (segments_meant constants c.args.continuation.rest.now) d in
    along_none _ _ (ap (flat_map rest) (c.is_idle.ensures c.if-is_idle.true constants d _))

pub at_child-act-requires : goal.at_child-act-requires
at_child-act-requires g t c κs within = (omega (arith, c.decreases), (within, stands_as c.in_ok-push.ensures.steps c.requires))

pub at_child-returns-clause-outcome : goal.at_child-returns-clause-outcome
at_child-returns-clause-outcome g t c =
    let constants = constants_of c.args.self.now in
    let tree = g.T.Queryable.tree in
    let d = document c.args.self.now in
    let rest = selected_from (segments_meant constants c.args.continuation.rest.now) d in
    let x = tree_of c.args.child.value in
    let went = c.in_ok-goes_on.ensures.comes.back.same ∙ c.in_ok-push.ensures.steps in
    let popped = c.pop.ensures.steps _ _ went in
    along_between
    (along_as _ _ _ _ _ (ap (λ q. flat_map rest (visited_nodes constants c.args.continuation.next d (node_of q c.args.child.value))) c.in_ok-push.ensures.steps ∙ ap (λ l. flat_map rest (visited_nodes constants c.args.continuation.next d (record { location = l; tree = x }))) (map-append lent_step c.args.state.now.current_path.steps.items (c.args.child.step ∷ []))) c.in_ok-goes_on.ensures.outcome)
    (tied_further _ _ c.push.new.self _ c.in_ok-push.ensures.steps c.in_ok-push.ensures.shared_len) (tied_back _ _ c.pop.new.self _ (went ∙ ap (λ q. q ++ c.args.child.step ∷ []) (sym popped)) c.pop.ensures.shared_len)

pub at_child-returns-clause-comes : goal.at_child-returns-clause-comes
at_child-returns-clause-comes g t c =
    let back = c.in_ok-goes_on.ensures.comes.back in
    record { back = record { same = c.pop.ensures.steps _ _ (back.same ∙ c.in_ok-push.ensures.steps); ready = back.ready }; ready = tt; halts = tt }

pub act-walk-requires-then-holds : goal.act-walk-requires-then-holds
act-walk-requires-then-holds g t c κs within =
    let h = hand c.args.self.now c.args.state.now c.args.at in
    let e = ap (visit_effort h.big h.constants) c.in-Filter.is in
    (omega (arith, c.decreases, e), (within, stands_as c.limit_shared.ensures.steps (still c.requires c.in_ok-holds-in-Filter.ensures.comes.back)))

pub act-returns-in-Continue-clause-outcome : goal.act-returns-in-Continue-clause-outcome
act-returns-in-Continue-clause-outcome g t c =
    let h = hand_on c.args.self.now c.args.state.now c.args.at c.args.continuation in
    takes_as _ _ _ _ _ (sym (append-nil (h.rest h.n)) ∙ ap (λ a. flat_map h.rest (visited_nodes h.constants a h.d h.n)) (sym c.in-Continue.is)) c.walk.ensures.outcome

pub act-returns-then-holds-clause-outcome : goal.act-returns-then-holds-clause-outcome
act-returns-then-holds-clause-outcome g t c =
    let h = hand_on c.args.self.now c.args.state.now c.args.at c.args.continuation in
    let held = c.in_ok-holds-in-Filter.ensures in
    let same = c.limit_shared.ensures.steps ∙ held.comes.back.same in
    takes_from _ _ _ _ _ _
    (takes_as _ _ _ _ _ (ap (λ q. h.rest (node_of q c.args.at)) same ∙ kept_true h.rest (holds (filter_view h.constants c.in-Filter.filter.now) h.d) h.n (sym held.holds ∙ c.if-holds.true) ∙ ap (λ a. flat_map h.rest (visited_nodes h.constants a h.d h.n)) (sym c.in-Filter.is)) c.walk-then-holds.ensures.outcome)
    (tied_still _ _ c.limit_shared.new.self same c.limit_shared.ensures.shared_len)

pub act-returns-else-holds-clause-outcome : goal.act-returns-else-holds-clause-outcome
act-returns-else-holds-clause-outcome g t c =
    let h = hand_on c.args.self.now c.args.state.now c.args.at c.args.continuation in
    let held = c.in_ok-holds-in-Filter.ensures in
    let same = c.limit_shared.ensures.steps ∙ held.comes.back.same in
    along_idle _ _ _ _ (ap (λ a. flat_map h.rest (visited_nodes h.constants a h.d h.n)) c.in-Filter.is ∙ kept_false h.rest (holds (filter_view h.constants c.in-Filter.filter.now) h.d) h.n (sym held.holds ∙ c.if-holds.false)) (tied_still _ _ c.limit_shared.new.self same c.limit_shared.ensures.shared_len)

pub act-returns-in-Descend-clause-outcome : goal.act-returns-in-Descend-clause-outcome
act-returns-in-Descend-clause-outcome g t c =
    let h = hand_on c.args.self.now c.args.state.now c.args.at c.args.continuation in
    takes_as _ _ _ _ _ (ap (λ a. flat_map h.rest (visited_nodes h.constants a h.d h.n)) (sym c.in-Descend.is)) c.descend.ensures.outcome

pub act-returns-then-holds-clause-comes : goal.act-returns-then-holds-clause-comes
act-returns-then-holds-clause-comes g t c =
    let constants = constants_of c.args.self.now in
    let back = c.in_ok-holds-in-Filter.ensures.comes.back in
    comes_after _ c.walk-then-holds.ensures.comes (c.limit_shared.ensures.steps ∙ back.same) back.ready (λ h. asked_right (visit_patterns constants c.args.continuation.next) (segments_patterns (segments_meant constants c.args.continuation.rest.now)) h)

pub act-returns-in_err-holds-in-Filter-clause-comes : goal.act-returns-in_err-holds-in-Filter-clause-comes
act-returns-in_err-holds-in-Filter-clause-comes g t c =
    let constants = constants_of c.args.self.now in
    comes_so _ _ c.from_residual.ensures.1 c.in_err-holds-in-Filter.ensures.comes (λ h. asked_left (visit_patterns constants c.args.continuation.next) (segments_patterns (segments_meant constants c.args.continuation.rest.now)) (asked_as (visit_patterns constants) _ _ c.in-Filter.is h))

pub descend-each_member-requires : goal.descend-each_member-requires
descend-each_member-requires g t c κs within =
    let h = hand c.args.self.now c.args.state.now c.args.at in
    let tree = g.T.Queryable.tree in
    let P : List _ → Type 0 = All (λ m. IsTrue (g.T.Queryable.is_whole m.1.now)) in
    let first = c.in-Some.ensures h.constants in
    (omega (arith, c.decreases, first.lighter h.big), (within, (c.requires, record { list = ap (λ xs. Some (map (λ m. (m.0.now, tree m.1.now)) xs)) c.deref.ensures.value ∙ rw c.in-Some-2.is at (c.in_ok-listed.ensures.value); whole = subst P (sym c.deref.ensures.value) (rw c.in-Some-2.is at (c.in_ok-listed.ensures.whole)) })))

pub descend-each_member-requires-in-Some-2 : goal.descend-each_member-requires-in-Some-2
descend-each_member-requires-in-Some-2 g t c κs within =
    let tree = g.T.Queryable.tree in
    let P : List _ → Type 0 = All (λ m. IsTrue (g.T.Queryable.is_whole m.1.now)) in
    (omega (arith, c.decreases), (within, (still c.requires c.in_ok-each_member.ensures.comes.back, record { list = ap (λ xs. Some (map (λ m. (m.0.now, tree m.1.now)) xs)) c.deref.ensures.value ∙ rw c.in-Some-2.is at (c.in_ok-listed.ensures.value); whole = subst P (sym c.deref.ensures.value) (rw c.in-Some-2.is at (c.in_ok-listed.ensures.whole)) })))

pub descend-returns-in-Some-2-clause-outcome : goal.descend-returns-in-Some-2-clause-outcome
descend-returns-in-Some-2-clause-outcome g t c =
    let h = hand_on c.args.self.now c.args.state.now c.args.at c.args.continuation in
    let made = replaced (segment_view h.constants c.args.continuation.next.now) h.d in
    let here = flat_map h.rest (flat_map (visited_nodes h.constants c.in-Some.next h.d) (children h.n)) in
    let further = flat_map h.rest (flat_map (λ m. flat_map made (subtree m)) (children h.n)) in
    let same = ap (λ q. here ++ flat_map h.rest (flat_map (λ m. flat_map made (subtree m)) (children (node_of q c.args.at)))) c.in_ok-each_member.ensures.comes.back.same in
    let makes = ap (λ ns. flat_map h.rest ns ++ further) ((c.in-Some.ensures h.constants).makes h.d h.n) in
    takes_then _ _ _ _ _ _ _ _ (same ∙ makes ∙ below_more h.rest made h.n.location h.n.tree) c.in_ok-each_member.ensures.outcome c.each_member-in-Some-2.ensures.outcome

pub descend-each_child-requires : goal.descend-each_child-requires
descend-each_child-requires g t c κs within = (omega (arith, c.decreases), (within, still c.requires c.in_ok-pass.ensures.comes.back))

pub descend-returns-clause-outcome : goal.descend-returns-clause-outcome
descend-returns-clause-outcome g t c =
    let h = hand_on c.args.self.now c.args.state.now c.args.at c.args.continuation in
    let made = replaced (segment_view h.constants c.args.continuation.next.now) h.d in
    let here = flat_map h.rest (made h.n) in
    let same = ap (λ q. here ++ flat_map h.rest (flat_map (λ m. flat_map made (subtree m)) (children (node_of q c.args.at)))) c.in_ok-pass.ensures.comes.back.same in
    takes_then _ _ _ _ _ _ _ _ (same ∙ below_more h.rest made h.n.location h.n.tree) c.in_ok-pass.ensures.outcome c.each_child.ensures.outcome

pub descend-returns-then-not-branch-clause-outcome : goal.descend-returns-then-not-branch-clause-outcome
descend-returns-then-not-branch-clause-outcome g t c =
    let h = hand_on c.args.self.now c.args.state.now c.args.at c.args.continuation in
    let made = replaced (segment_view h.constants c.args.continuation.next.now) h.d in
    let further = flat_map h.rest (flat_map (λ m. flat_map made (subtree m)) (children h.n)) in
    let makes = ap (λ ns. flat_map h.rest ns ++ further) ((c.in-Some.ensures h.constants).makes h.d h.n) in
    along_stop _ _ _ _ _ _ _ (makes ∙ below_more h.rest made h.n.location h.n.tree) c.in_ok-each_member.ensures.outcome c.if-not-branch.true

pub descend-returns-then-not-branch-2-clause-outcome : goal.descend-returns-then-not-branch-2-clause-outcome
descend-returns-then-not-branch-2-clause-outcome g t c =
    let h = hand_on c.args.self.now c.args.state.now c.args.at c.args.continuation in
    let made = replaced (segment_view h.constants c.args.continuation.next.now) h.d in
    along_stop _ _ _ _ _ _ _ (below_more h.rest made h.n.location h.n.tree) c.in_ok-pass.ensures.outcome c.if-not-branch-2.true

pub descend-returns-clause-comes : goal.descend-returns-clause-comes
descend-returns-clause-comes g t c = comes_on _ c.in_ok-pass.ensures.comes.back c.each_child.ensures.comes (λ h. h)

-- ---- filters

pub some_holds-filter_holds-requires : goal.some_holds-filter_holds-requires
some_holds-filter_holds-requires g t c κs within =
    let h = hand c.args.self.now c.args.state.now c.args.at in
    let w = part_of (λ (x : Filter). filter_effort h.big (filter_view h.constants x)) (λ xs. filters_effort h.big (filters_meant h.constants xs)) (λ x xs. refl) c.args.parts.now c.loop-part.part-index c.part-item.result c.loop-part-test.true c.part-item.is in
    (omega (arith, c.decreases, w), (within, still c.requires c.loop-part.invariant.returns))

pub some_holds-returns-then-branch-clause-holds : goal.some_holds-returns-then-branch-clause-holds
some_holds-returns-then-branch-clause-holds g t c =
    let h = hand c.args.self.now c.args.state.now c.args.at in
    let inv = c.loop-part.invariant in
    let item = c.part-item.result in
    let here = c.in_ok-filter_holds.ensures.holds ∙ ap (λ q. holds (filter_view h.constants item) h.d (node_of q c.args.at)) inv.returns.same in
    some_found (λ (fs : List Filter). some_holds (filters_meant h.constants fs) h.d h.n) (λ f. holds (filter_view h.constants f) h.d h.n) (λ x xs. refl) c.args.parts.now c.loop-part.part-index item _ c.loop-part-test.true c.part-item.is (sym here ∙ c.if-branch.true) inv.holds

pub some_holds-loop-part-preserved : goal.some_holds-loop-part-preserved
some_holds-loop-part-preserved g t c =
    let h = hand c.args.self.now c.args.state.now c.args.at in
    let inv = c.loop-part.invariant in
    let item = c.part-item.result in
    let here = c.in_ok-filter_holds.ensures.holds ∙ ap (λ q. holds (filter_view h.constants item) h.d (node_of q c.args.at)) inv.returns.same in
    record { returns = on inv.returns c.in_ok-filter_holds.ensures.comes.back; holds = some_next (λ (fs : List Filter). some_holds (filters_meant h.constants fs) h.d h.n) (λ f. holds (filter_view h.constants f) h.d h.n) (λ x xs. refl) c.args.parts.now c.loop-part.part-index item _ c.loop-part-test.true c.part-item.is (sym here ∙ c.if-branch.false) inv.holds }

pub some_holds-returns-clause-holds : goal.some_holds-returns-clause-holds
some_holds-returns-clause-holds g t c =
    let h = hand c.args.self.now c.args.state.now c.args.at in
    parts_end (λ (fs : List Filter). some_holds (filters_meant h.constants fs) h.d h.n) c.args.parts.now c.loop-part.part-index _ c.loop-part-test.false c.loop-part.invariant.holds

pub some_holds-returns-in_err-filter_holds-clause-comes : goal.some_holds-returns-in_err-filter_holds-clause-comes
some_holds-returns-in_err-filter_holds-clause-comes g t c =
    let constants = constants_of c.args.self.now in
    comes_so _ _ c.from_residual-in_err-filter_holds.ensures.1 c.in_err-filter_holds.ensures.comes (λ h. asked_at (λ (x : Filter). filter_patterns (filter_view constants x)) (λ xs. filters_patterns (filters_meant constants xs)) (λ x xs. refl) c.args.parts.now c.loop-part.part-index c.part-item.result c.loop-part-test.true c.part-item.is h)

pub each_holds-filter_holds-requires : goal.each_holds-filter_holds-requires
each_holds-filter_holds-requires g t c κs within =
    let h = hand c.args.self.now c.args.state.now c.args.at in
    let w = part_of (λ (x : Filter). filter_effort h.big (filter_view h.constants x)) (λ xs. filters_effort h.big (filters_meant h.constants xs)) (λ x xs. refl) c.args.parts.now c.loop-part.part-index c.part-item.result c.loop-part-test.true c.part-item.is in
    (omega (arith, c.decreases, w), (within, still c.requires c.loop-part.invariant.returns))

pub each_holds-returns-then-not-branch-clause-holds : goal.each_holds-returns-then-not-branch-clause-holds
each_holds-returns-then-not-branch-clause-holds g t c =
    let h = hand c.args.self.now c.args.state.now c.args.at in
    let inv = c.loop-part.invariant in
    let item = c.part-item.result in
    let here = c.in_ok-filter_holds.ensures.holds ∙ ap (λ q. holds (filter_view h.constants item) h.d (node_of q c.args.at)) inv.returns.same in
    each_failed (λ (fs : List Filter). each_holds (filters_meant h.constants fs) h.d h.n) (λ f. holds (filter_view h.constants f) h.d h.n) (λ x xs. refl) c.args.parts.now c.loop-part.part-index item _ c.loop-part-test.true c.part-item.is (sym here ∙ c.if-not-branch.true) inv.holds

pub each_holds-loop-part-preserved : goal.each_holds-loop-part-preserved
each_holds-loop-part-preserved g t c =
    let h = hand c.args.self.now c.args.state.now c.args.at in
    let inv = c.loop-part.invariant in
    let item = c.part-item.result in
    let here = c.in_ok-filter_holds.ensures.holds ∙ ap (λ q. holds (filter_view h.constants item) h.d (node_of q c.args.at)) inv.returns.same in
    record { returns = on inv.returns c.in_ok-filter_holds.ensures.comes.back; holds = each_next (λ (fs : List Filter). each_holds (filters_meant h.constants fs) h.d h.n) (λ f. holds (filter_view h.constants f) h.d h.n) (λ x xs. refl) c.args.parts.now c.loop-part.part-index item _ c.loop-part-test.true c.part-item.is (sym here ∙ c.if-not-branch.false) inv.holds }

pub each_holds-returns-clause-holds : goal.each_holds-returns-clause-holds
each_holds-returns-clause-holds g t c =
    let h = hand c.args.self.now c.args.state.now c.args.at in
    parts_end (λ (fs : List Filter). each_holds (filters_meant h.constants fs) h.d h.n) c.args.parts.now c.loop-part.part-index _ c.loop-part-test.false c.loop-part.invariant.holds

pub each_holds-returns-in_err-filter_holds-clause-comes : goal.each_holds-returns-in_err-filter_holds-clause-comes
each_holds-returns-in_err-filter_holds-clause-comes g t c =
    let constants = constants_of c.args.self.now in
    comes_so _ _ c.from_residual-in_err-filter_holds.ensures.1 c.in_err-filter_holds.ensures.comes (λ h. asked_at (λ (x : Filter). filter_patterns (filter_view constants x)) (λ xs. filters_patterns (filters_meant constants xs)) (λ x xs. refl) c.args.parts.now c.loop-part.part-index c.part-item.result c.loop-part-test.true c.part-item.is h)

pub comparison_holds-compare_borrowed-requires : goal.comparison_holds-compare_borrowed-requires
comparison_holds-compare_borrowed-requires g t c = c.requires.ready

pub comparison_holds-returns-in-Some-clause-holds : goal.comparison_holds-returns-in-Some-clause-holds
comparison_holds-returns-in-Some-clause-holds g t c =
    let h = hand c.args.self.now c.args.state.now c.args.at in
    let left = value_of (expr_view h.constants c.args.comparison.left.now Single) h.d h.n in
    let right = value_of (expr_view h.constants c.args.comparison.right.now Single) h.d h.n in
    of_some (λ b. b ≡ compares (operator_view c.args.comparison.operator) left right) _ _ c.in-Some.is (c.in_ok-held.ensures.holds h.n refl)

pub comparison_holds-returns-clause-comes : goal.comparison_holds-returns-clause-comes
comparison_holds-returns-clause-comes g t c = comes_after _ c.compare_evaluated.ensures.comes refl c.requires.ready (λ h. h)

pub compare_evaluated-value-requires-2 : goal.compare_evaluated-value-requires-2
compare_evaluated-value-requires-2 g t c κs within =
    (omega (arith, c.decreases), (within, still c.requires c.in_ok-left.ensures.comes.back))

pub compare_evaluated-returns-clause-holds : goal.compare_evaluated-returns-clause-holds
compare_evaluated-returns-clause-holds g t c =
    let h = hand c.args.self.now c.args.state.now c.args.at in
    let op = operator_view c.args.comparison.operator in
    let right = c.in_ok-right.ensures.value ∙ ap (λ q. value_of (expr_view h.constants c.args.comparison.right.now Single) h.d (node_of q c.args.at)) c.in_ok-left.ensures.comes.back.same in
    c.in_ok-held.ensures.holds ∙ ap (λ o. compares op o (filter_ref_tree c.as_side-2.result)) (c.as_side.ensures ∙ c.in_ok-left.ensures.value) ∙ ap (compares op (value_of (expr_view h.constants c.args.comparison.left.now Single) h.d h.n)) (c.as_side-2.ensures ∙ right)

pub compare_evaluated-returns-clause-comes : goal.compare_evaluated-returns-clause-comes
compare_evaluated-returns-clause-comes g t c =
    let back = on c.in_ok-left.ensures.comes.back c.in_ok-right.ensures.comes.back in
    record { back = record { same = back.same; ready = back.ready }; ready = tt; halts = tt }

pub compare_evaluated-returns-in_err-left-clause-comes : goal.compare_evaluated-returns-in_err-left-clause-comes
compare_evaluated-returns-in_err-left-clause-comes g t c =
    let constants = constants_of c.args.self.now in
    comes_so _ _ c.from_residual.ensures.1 c.in_err-left.ensures.comes (λ h. asked_left (argument_patterns (expr_view constants c.args.comparison.left.now Single)) (argument_patterns (expr_view constants c.args.comparison.right.now Single)) h)

pub compare_evaluated-returns-in_err-right-clause-comes : goal.compare_evaluated-returns-in_err-right-clause-comes
compare_evaluated-returns-in_err-right-clause-comes g t c =
    let constants = constants_of c.args.self.now in
    comes_so _ _ c.from_residual-in_err-right.ensures.1 c.in_err-right.ensures.comes (λ h. asked_right (argument_patterns (expr_view constants c.args.comparison.left.now Single)) (argument_patterns (expr_view constants c.args.comparison.right.now Single)) h)

pub compare_evaluated-returns-in_err-held-clause-comes : goal.compare_evaluated-returns-in_err-held-clause-comes
compare_evaluated-returns-in_err-held-clause-comes g t c =
    let back = on c.in_ok-left.ensures.comes.back c.in_ok-right.ensures.comes.back in
    comes_halt _ _ c.from_residual-in_err-held.ensures.1 back.ready c.in_err-held.ensures.halts (asked_none _)

-- ---- functions

pub answer-returns-in-Custom-clause-comes : goal.answer-returns-in-Custom-clause-comes
answer-returns-in-Custom-clause-comes g t c =
    let constants = constants_of c.args.self.now in
    let e = ap (call_view constants) c.in-Custom.is ∙ called constants c.in-Custom.name c.in-Custom.args in
    comes_as _ c.custom.ensures.comes (λ h. asked_as call_patterns _ _ e (asked_as (λ (xs : List Expr). arguments_patterns (arguments_meant constants xs)) _ _ (sym c.deref.ensures.value) h))

pub answer-returns-in-Custom-clause-value : goal.answer-returns-in-Custom-clause-value
answer-returns-in-Custom-clause-value g t c =
    let h = hand c.args.self.now c.args.state.now c.args.at in
    let custom = g.T.Queryable.custom in
    let e = ap (call_view h.constants) c.in-Custom.is ∙ called h.constants c.in-Custom.name c.in-Custom.args in
    ok_through _ (filter_value_tree) _ _ (ap (λ (xs : List Expr). Some (custom (string_bytes c.in-Custom.name) (all_trees (arguments_meant h.constants xs) h.d h.n))) c.deref.ensures.value ∙ sym (ap (λ f. answer f h.d h.n) e)) c.custom.ensures.value

pub answer-match_or_search-requires : goal.answer-match_or_search-requires
answer-match_or_search-requires g t c κs within =
    let h = hand c.args.self.now c.args.state.now c.args.at in
    let e = ap (call_view h.constants) c.in-Search.is ∙ call_view-Search h.constants c.in-Search.text c.in-Search.pattern in
    (omega (arith, c.decreases, ap (call_effort h.big) e), (within, c.requires))

pub answer-match_or_search-requires-in-Match : goal.answer-match_or_search-requires-in-Match
answer-match_or_search-requires-in-Match g t c κs within =
    let h = hand c.args.self.now c.args.state.now c.args.at in
    let e = ap (call_view h.constants) c.in-Match.is ∙ call_view-Match h.constants c.in-Match.text c.in-Match.pattern in
    (omega (arith, c.decreases, ap (call_effort h.big) e), (within, c.requires))

pub answer-custom-requires : goal.answer-custom-requires
answer-custom-requires g t c κs within =
    let h = hand c.args.self.now c.args.state.now c.args.at in
    let e = ap (call_view h.constants) c.in-Custom.is ∙ called h.constants c.in-Custom.name c.in-Custom.args in
    (omega (arith, c.decreases, ap (call_effort h.big) e, ap (λ (xs : List Expr). arguments_effort h.big (arguments_meant h.constants xs)) c.deref.ensures.value), (within, c.requires))

pub match_or_search-operand-requires-2 : goal.match_or_search-operand-requires-2
match_or_search-operand-requires-2 g t c κs within = (omega (arith, c.decreases), (within, still c.requires c.in_ok-text.ensures.comes.back))

pub match_or_search-returns-clause-value : goal.match_or_search-returns-clause-value
match_or_search-returns-clause-value g t c =
    let h = hand c.args.self.now c.args.state.now c.args.at in
    let pattern = c.in_ok-pattern.ensures.value ∙ ap (λ q. as_value (argued (expr_view h.constants c.args.operands.pattern.now Single) h.d (node_of q c.args.at))) c.in_ok-text.ensures.comes.back.same in
    let entire = is_entire c.args.extent in
    ap (λ b. Some (truth b)) (c.in_ok-found.ensures.value ∙ ap (λ o. is_matched entire o (filter_value_tree c.in_ok-pattern.pattern)) (c.in_ok-text.ensures.value) ∙ ap (is_matched entire (as_value (argued (expr_view h.constants c.args.operands.text.now Single) h.d h.n))) pattern)

pub match_or_search-returns-clause-comes : goal.match_or_search-returns-clause-comes
match_or_search-returns-clause-comes g t c =
    let back = on c.in_ok-text.ensures.comes.back c.in_ok-pattern.ensures.comes.back in
    record { back = record { same = back.same; ready = back.ready }; ready = tt; halts = tt }

pub match_or_search-returns-in_err-found-clause-comes : goal.match_or_search-returns-in_err-found-clause-comes
match_or_search-returns-in_err-found-clause-comes g t c =
    let h = hand c.args.self.now c.args.state.now c.args.at in
    let pattern = c.in_ok-pattern.ensures.value ∙ ap (λ q. as_value (argued (expr_view h.constants c.args.operands.pattern.now Single) h.d (node_of q c.args.at))) c.in_ok-text.ensures.comes.back.same in
    let asked = expr_view h.constants c.args.operands.pattern.now Single in
    let more = argument_patterns (expr_view h.constants c.args.operands.text.now Single) ++ argument_patterns asked in
    let why : IsWalkError c.args.self.now.limit ((is_entire c.args.extent, asked) ∷ more) h.d c.in_err-found.field-0.0 = λ memory spent. pattern_asked h.d (is_entire c.args.extent) asked more h.n _ c.requires.position pattern (c.in_err-found.ensures.refused memory) in
    let back = on c.in_ok-text.ensures.comes.back c.in_ok-pattern.ensures.comes.back in
    comes_halt _ _ c.from_residual-in_err-found.ensures.1 back.ready why (λ h. h)

pub match_or_search-returns-in_err-text-clause-comes : goal.match_or_search-returns-in_err-text-clause-comes
match_or_search-returns-in_err-text-clause-comes g t c =
    let constants = constants_of c.args.self.now in
    let text = expr_view constants c.args.operands.text.now Single in
    let pattern = expr_view constants c.args.operands.pattern.now Single in
    comes_so _ _ c.from_residual.ensures.1 c.in_err-text.ensures.comes (λ h. asked_rest (is_entire c.args.extent, pattern) _ (asked_left (argument_patterns text) (argument_patterns pattern) h))

pub match_or_search-returns-in_err-pattern-clause-comes : goal.match_or_search-returns-in_err-pattern-clause-comes
match_or_search-returns-in_err-pattern-clause-comes g t c =
    let constants = constants_of c.args.self.now in
    let text = expr_view constants c.args.operands.text.now Single in
    let pattern = expr_view constants c.args.operands.pattern.now Single in
    comes_so _ _ c.from_residual-in_err-pattern.ensures.1 c.in_err-pattern.ensures.comes (λ h. asked_rest (is_entire c.args.extent, pattern) _ (asked_right (argument_patterns text) (argument_patterns pattern) h))

pub match_or_search-returns-in_err-cost-clause-comes : goal.match_or_search-returns-in_err-cost-clause-comes
match_or_search-returns-in_err-cost-clause-comes g t c =
    let back = on c.in_ok-text.ensures.comes.back c.in_ok-pattern.ensures.comes.back in
    comes_err _ _ c.from_residual-in_err-cost.ensures.1 back.ready (λ y e memory spent. absurd (memory (e ∙ c.in_err-cost.ensures.memory)))

pub custom-push-requires : goal.custom-push-requires
custom-push-requires g t c κs within =
    let h = hand c.args.self.now c.args.state.now c.args.at in
    let w = part_of (λ (x : Expr). argument_effort h.big (expr_view h.constants x Values)) (λ xs. arguments_effort h.big (arguments_meant h.constants xs)) (λ x xs. refl) c.args.args.now c.loop-arg.arg-index c.arg-item.result c.loop-arg-test.true c.arg-item.is in
    (omega (arith, c.decreases, w), (within, still c.requires c.loop-arg.invariant.returns))

pub custom-loop-arg-init : goal.custom-loop-arg-init
custom-loop-arg-init g t c =
    let h = hand c.args.self.now c.args.state.now c.args.at in
    record { returns = stays c.requires.ready; trees = ap (λ xs. map (λ a. g.T.Queryable.tree (arg_value a)) xs ++ all_trees (arguments_meant h.constants c.args.args.now) h.d h.n) c.new-values.ensures }

pub custom-loop-arg-preserved : goal.custom-loop-arg-preserved
custom-loop-arg-preserved g t c =
    let h = hand c.args.self.now c.args.state.now c.args.at in
    let inv = c.loop-arg.invariant in
    let item = c.arg-item.result in
    let was = arg_trees c.loop-arg.values in
    let same = ap (λ q. was ++ as_trees (argued (expr_view h.constants item Values) h.d (node_of q c.args.at))) inv.returns.same in
    record { returns = on inv.returns c.in_ok-push.ensures.comes.back; trees = joined_next (λ (xs : List Expr). all_trees (arguments_meant h.constants xs) h.d h.n) (λ a. as_trees (argued (expr_view h.constants a Values) h.d h.n)) (λ x xs. refl) c.args.args.now c.loop-arg.arg-index item was _ _ c.loop-arg-test.true c.arg-item.is (c.in_ok-push.ensures.value ∙ same) inv.trees }

pub custom-returns-clause-value : goal.custom-returns-clause-value
custom-returns-clause-value g t c =
    let h = hand c.args.self.now c.args.state.now c.args.at in
    let tree = g.T.Queryable.tree in
    let custom = g.T.Queryable.custom in
    let all = arg_trees c.loop-arg.values in
    let end = sym (append-nil all) ∙ parts_end (λ (xs : List Expr). all ++ all_trees (arguments_meant h.constants xs) h.d h.n) c.args.args.now c.loop-arg.arg-index _ c.loop-arg-test.false c.loop-arg.invariant.trees in
    let nm = string_bytes c.args.name.now in
    ap (λ x. Some x) (c.in_ok-value.ensures.value ∙ ap (λ k. custom k (map (λ a. tree (arg_value a)) c.deref-2.result.now)) c.deref.ensures ∙ ap (λ xs. custom nm (map (λ a. tree (arg_value a)) xs)) c.deref-2.ensures.value ∙ ap (custom nm) end)

pub custom-returns-in_err-push-clause-comes : goal.custom-returns-in_err-push-clause-comes
custom-returns-in_err-push-clause-comes g t c =
    let constants = constants_of c.args.self.now in
    comes_so _ _ c.from_residual.ensures.1 c.in_err-push.ensures.comes (λ h. asked_at (λ (x : Expr). argument_patterns (expr_view constants x Values)) (λ xs. arguments_patterns (arguments_meant constants xs)) (λ x xs. refl) c.args.args.now c.loop-arg.arg-index c.arg-item.result c.loop-arg-test.true c.arg-item.is h)

pub custom-returns-in_err-cost-clause-comes : goal.custom-returns-in_err-cost-clause-comes
custom-returns-in_err-cost-clause-comes g t c = comes_err _ _ c.from_residual-in_err-cost.ensures.1 c.loop-arg.invariant.returns.ready (λ y e memory spent. absurd (memory (e ∙ c.in_err-cost.ensures.memory)))

pub custom-returns-in_err-value-clause-comes : goal.custom-returns-in_err-value-clause-comes
custom-returns-in_err-value-clause-comes g t c = comes_err _ _ c.from_residual-in_err-value.ensures.1 c.loop-arg.invariant.returns.ready (λ y e memory spent. absurd (memory (e c.in_err-value.ensures.memory)))

-- ---- parts of filters

pub gather-returns-clause-given : goal.gather-returns-clause-given
gather-returns-clause-given g t c =
    let h = hand c.args.self.now c.args.state.now c.args.at in
    let seen = (c.in_ok-_goes_on.ensures.outcome.took (tied_inside c.start-sink.result c.args.state.now.current_path c.args.demand c.start-sink.ensures)).given ∙ ap (λ s. feed s (selected_from (segments_meant h.constants c.args.segments.now) h.d h.n)) c.start-sink.ensures in
    c.finish.ensures ∙ ap (finished c.args.demand) seen ∙ finished_all c.args.demand (selected_from (segments_meant h.constants c.args.segments.now) h.d h.n)

pub filter_holds-returns-in_ok-tests_true-in-Test-clause-holds : goal.filter_holds-returns-in_ok-tests_true-in-Test-clause-holds
filter_holds-returns-in_ok-tests_true-in-Test-clause-holds g t c =
    let h = hand c.args.self.now c.args.state.now c.args.at in
    let e = ap (filter_view h.constants) c.in-Test.is ∙ filter_view-Test h.constants c.in-Test.part c.in-Test.not in
    differs _ _ ∙ ap (negated c.in-Test.not) c.in_ok-tests_true-in-Test.ensures.holds ∙ sym (ap (λ f. holds f h.d h.n) e ∙ asked_held c.in-Test.not _ h.d h.n)

pub filter_holds-returns-then-branch-clause-holds : goal.filter_holds-returns-then-branch-clause-holds
filter_holds-returns-then-branch-clause-holds g t c =
    let h = hand c.args.self.now c.args.state.now c.args.at in
    let k = c.in-Constant.number in
    let e = ap (filter_view h.constants) c.in-Constant.is ∙ filter_view-Constant h.constants k in
    let keeps = c.in_ok-ensure_cached-in-Constant.ensures in
    let asked = argued (argument_at h.constants Exists k) h.d h.n in
    c.is_true.ensures ∙ ap (λ s. is_true (given_value s)) (keeps.cached c.if-branch.true) ∙ ap is_true (kept_told h.constants k Exists h.d h.n c.args.self.now.plan.now.rooted (keeps.fits c.if-branch.true)) ∙ told_truth asked ∙ sym (ap (λ f. holds f h.d h.n) e ∙ truth_held (argument_at h.constants Exists k) h.d h.n)

pub tests_true-returns-in_ok-found-in-Lookup-clause-holds : goal.tests_true-returns-in_ok-found-in-Lookup-clause-holds
tests_true-returns-in_ok-found-in-Lookup-clause-holds g t c =
    let h = hand c.args.self.now c.args.state.now c.args.at in
    let e = ap (λ p. expr_view h.constants p Exists) c.in-Lookup.is ∙ expr_view-Lookup h.constants c.in-Lookup.steps Exists in
    let there = c.in_ok-found-in-Lookup.ensures.value ∙ ap (λ (ss : List SingularQuerySegment). value_at (map step_view ss) h.n.tree) c.deref.ensures.value in
    c.is_some.ensures ∙ is_there tree_of c.in_ok-found-in-Lookup.found c.in-Lookup.steps.items h.d h.n there ∙ sym (ap (λ a. as_truth (argued a h.d h.n)) e)

pub tests_true-returns-in_ok-count-in-Children-clause-holds : goal.tests_true-returns-in_ok-count-in-Children-clause-holds
tests_true-returns-in_ok-count-in-Children-clause-holds g t c =
    let h = hand c.args.self.now c.args.state.now c.args.at in
    let e = ap (λ p. expr_view h.constants p Exists) c.in-Children.is ∙ expr_view-Children h.constants c.in-Children.steps Exists in
    let steps = ap (λ (ss : List SingularQuerySegment). as_truth (tested (relative (children_query (map step_view ss))) h.d h.n)) c.deref-in-Children.ensures.value in
    query_there _ h.d h.n _ (c.in_ok-count-in-Children.ensures.count h.d h.n refl) ∙ steps ∙ sym (ap (λ a. as_truth (argued a h.d h.n)) e)

pub tests_true-returns-in_ok-given-in-Walk-clause-holds : goal.tests_true-returns-in_ok-given-in-Walk-clause-holds
tests_true-returns-in_ok-given-in-Walk-clause-holds g t c =
    let h = hand c.args.self.now c.args.state.now c.args.at in
    let e = ap (λ p. expr_view h.constants p Exists) c.in-Walk.is ∙ expr_view-Walk h.constants c.in-Walk.segments Exists in
    let ns = ap (λ (gs : List Segment). selected_from (segments_meant h.constants gs) h.d h.n) c.deref-in-Walk.ensures.value ∙ selected_from-applied (segments_meant h.constants c.in-Walk.segments.items) h.d h.n in
    c.is_true.ensures ∙ ap is_true (c.into_value.ensures ∙ ap (λ x. given_value (Some x)) (c.in_ok-given-in-Walk.ensures.given ∙ ap (λ ms. result_for Exists (of_nodes ms)) ns)) ∙ sym (ap (λ a. as_truth (argued a h.d h.n)) e)

-- ---- calls of queries

pub answer-returns-then-is_query-clause-value : goal.answer-returns-then-is_query-clause-value
answer-returns-then-is_query-clause-value g t c =
    let h = hand c.args.self.now c.args.state.now c.args.at in
    let e = ap (call_view h.constants) c.in-Value.is ∙ call_view-Value h.constants c.in-Value.arg in
    ok_through _ filter_value_tree _ _ (ap as_value (c.is_query.ensures.query c.if-is_query.true h.d h.n) ∙ sym (ap (λ f. answer f h.d h.n) e)) c.value-then-is_query.ensures.value

pub answer-returns-else-is_query-clause-value : goal.answer-returns-else-is_query-clause-value
answer-returns-else-is_query-clause-value g t c =
    let h = hand c.args.self.now c.args.state.now c.args.at in
    let e = ap (call_view h.constants) c.in-Value.is ∙ call_view-Value h.constants c.in-Value.arg in
    sym (ap (λ f. answer f h.d h.n) e ∙ ap (λ x. only_value (as_nodes x)) (c.is_query.ensures.value c.if-is_query.false h.d h.n))

pub answer-returns-then-is_query-2-clause-value : goal.answer-returns-then-is_query-2-clause-value
answer-returns-then-is_query-2-clause-value g t c =
    let h = hand c.args.self.now c.args.state.now c.args.at in
    let e = ap (call_view h.constants) c.in-Count.is ∙ call_view-Count h.constants c.in-Count.arg in
    ok_through _ filter_value_tree _ _ (ap (demanded_value Count) (c.is_query-in-Count.ensures.query c.if-is_query-2.true h.d h.n) ∙ sym (ap (λ f. answer f h.d h.n) e)) c.value-then-is_query-2.ensures.value

pub answer-returns-else-is_query-2-clause-value : goal.answer-returns-else-is_query-2-clause-value
answer-returns-else-is_query-2-clause-value g t c =
    let h = hand c.args.self.now c.args.state.now c.args.at in
    let e = ap (call_view h.constants) c.in-Count.is ∙ call_view-Count h.constants c.in-Count.arg in
    ap Some c.count_scalar.ensures ∙ sym (ap (λ f. answer f h.d h.n) e ∙ ap (λ x. count_of (as_nodes x)) (c.is_query-in-Count.ensures.value c.if-is_query-2.false h.d h.n))

-- ---- parts

pub operand-returns-in-Some-clause-value : goal.operand-returns-in-Some-clause-value
operand-returns-in-Some-clause-value g t c =
    let h = hand c.args.self.now c.args.state.now c.args.at in
    let query = c.in-Some.ensures h.constants Single in
    c.from_ref.ensures ∙ c.in_ok-found.ensures.value ∙ sym (ap (λ a. as_value (argued a h.d h.n)) query ∙ looked_up c.in-Some.steps.now h.d h.n h.n.tree refl)

pub value-returns-in_ok-found-in-Lookup-clause-value : goal.value-returns-in_ok-found-in-Lookup-clause-value
value-returns-in_ok-found-in-Lookup-clause-value g t c =
    let h = hand c.args.self.now c.args.state.now c.args.at in
    let w = c.args.demand in
    let e = ap (λ p. expr_view h.constants p w) c.in-Lookup.is ∙ expr_view-Lookup h.constants c.in-Lookup.steps w in
    let there = c.in_ok-found-in-Lookup.ensures.value ∙ ap (λ (ss : List SingularQuerySegment). value_at (map step_view ss) h.n.tree) c.deref-in-Lookup.ensures.value in
    c.of.ensures ∙ wanted_found w _ c.in-Lookup.steps.items h.d h.n there ∙ sym (told_nodes w _) ∙ sym (ap (λ a. demanded_value w (argued a h.d h.n)) e)

pub value-returns-in_ok-count-in-Children-clause-value : goal.value-returns-in_ok-count-in-Children-clause-value
value-returns-in_ok-count-in-Children-clause-value g t c =
    let h = hand c.args.self.now c.args.state.now c.args.at in
    let w = c.args.demand in
    let e = ap (λ p. expr_view h.constants p w) c.in-Children.is ∙ expr_view-Children h.constants c.in-Children.steps w in
    let steps = ap (λ (ss : List SingularQuerySegment). demanded_value w (argued (children_argument w (map step_view ss)) h.d h.n)) c.deref-in-Children.ensures.value in
    c.of_count.ensures ∙ children_told w _ h.d h.n _ (c.in_ok-count-in-Children.ensures.count h.d h.n refl) ∙ steps ∙ sym (ap (λ a. demanded_value w (argued a h.d h.n)) e)

pub value-returns-in_ok-given-in-Walk-clause-value : goal.value-returns-in_ok-given-in-Walk-clause-value
value-returns-in_ok-given-in-Walk-clause-value g t c =
    let h = hand c.args.self.now c.args.state.now c.args.at in
    let w = c.args.demand in
    let e = ap (λ p. expr_view h.constants p w) c.in-Walk.is ∙ expr_view-Walk h.constants c.in-Walk.segments w in
    let ns = ap (λ (gs : List Segment). selected_from (segments_meant h.constants gs) h.d h.n) c.deref-in-Walk.ensures.value ∙ selected_from-applied (segments_meant h.constants c.in-Walk.segments.items) h.d h.n in
    c.into_value.ensures ∙ ap (λ x. given_value (Some x)) (c.in_ok-given-in-Walk.ensures.given ∙ ap (λ ms. result_for w (of_nodes ms)) ns) ∙ wanted_given w _ ∙ sym (told_nodes w _) ∙ sym (ap (λ a. demanded_value w (argued a h.d h.n)) e)

pub value-returns-then-branch-clause-value : goal.value-returns-then-branch-clause-value
value-returns-then-branch-clause-value g t c =
    let h = hand c.args.self.now c.args.state.now c.args.at in
    let w = c.args.demand in
    let k = c.in-Constant.number in
    let e = ap (λ p. expr_view h.constants p w) c.in-Constant.is ∙ expr_view-Constant h.constants k w in
    let keeps = c.in_ok-ensure_cached-in-Constant.ensures in
    ok_through _ filter_value_tree _ _ (ap given_value (keeps.cached c.if-branch.true) ∙ kept_told h.constants k w h.d h.n c.args.self.now.plan.now.rooted (keeps.fits c.if-branch.true) ∙ sym (ap (λ a. demanded_value w (argued a h.d h.n)) e)) c.cached_value.ensures.value

pub push-returns-in_ok-given-in-Walk-clause-value : goal.push-returns-in_ok-given-in-Walk-clause-value
push-returns-in_ok-given-in-Walk-clause-value g t c =
    let h = hand c.args.self.now c.args.state.now c.args.at in
    let e = ap (λ p. expr_view h.constants p Values) c.in-Walk.is ∙ expr_view-Walk h.constants c.in-Walk.segments Values in
    let ns = ap (λ (gs : List Segment). selected_from (segments_meant h.constants gs) h.d h.n) c.deref.ensures.value ∙ selected_from-applied (segments_meant h.constants c.in-Walk.segments.items) h.d h.n in
    let trees = ap trees_in (c.in_ok-given-in-Walk.ensures.given ∙ ap (λ ms. result_for Values (of_nodes ms)) ns) ∙ sym (ap (λ a. as_trees (argued a h.d h.n)) e) in
    subst (λ ts. OnOk c.push_given.result (arg_trees c.push_given.new.args ≡ arg_trees c.args.args.now ++ ts)) trees c.push_given.ensures.value

pub push-returns-then-branch-clause-value : goal.push-returns-then-branch-clause-value
push-returns-then-branch-clause-value g t c =
    let h = hand c.args.self.now c.args.state.now c.args.at in
    let k = c.in-Constant.number in
    let e = ap (λ p. expr_view h.constants p Values) c.in-Constant.is ∙ expr_view-Constant h.constants k Values in
    let keeps = c.in_ok-ensure_cached-in-Constant.ensures in
    let trees = kept_trees h.constants k h.d h.n c.args.self.now.plan.now.rooted (keeps.fits c.if-branch.true) ∙ sym (ap (λ a. as_trees (argued a h.d h.n)) e) in
    subst (λ ts. OnOk c.push_cached.result (arg_trees c.push_cached.new.args ≡ arg_trees c.args.args.now ++ ts)) trees (c.push_cached.ensures.value _ (keeps.cached c.if-branch.true))

pub push-push_one-requires-in-Lookup : goal.push-push_one-requires-in-Lookup
push-push_one-requires-in-Lookup g t c κs within =
    let constants = constants_of c.args.self.now in
    let e = λ (w : Demand). ap (λ p. expr_view constants p w) c.in-Lookup.is ∙ expr_view-Lookup constants _ w in
    (omega (arith, c.decreases), (within, (c.requires, one_as constants _ _ (e Values) (e Single) (steps_alone c.in-Lookup._steps.items))))

pub push_one-returns-clause-comes : goal.push_one-returns-clause-comes
push_one-returns-clause-comes g t c =
    let back = c.in_ok-value.ensures.comes.back in
    comes_paid _ (record { same = back.same; ready = back.ready }) c.push_value.ensures.halts

-- ---- constants

pub ensure_cached-returns-in_err-has-clause-comes : goal.ensure_cached-returns-in_err-has-clause-comes
ensure_cached-returns-in_err-has-clause-comes g t c =
    let constants = constants_of c.args.self.now in
    let d = document c.args.self.now in
    let why = c.in_err-has.ensures.refused constants d c.args.self.now.limit c.requires in
    comes_halt _ _ c.from_residual.ensures.1 c.requires why (λ h. subst (λ ps. AsksPattern ps d) (sym (fit_patterns c.args.demand (part_at constants c.args.number) c.in-Some.ensures.fits)) h)

pub ensure_cached-returns-in-Ok-clause-comes : goal.ensure_cached-returns-in-Ok-clause-comes
ensure_cached-returns-in-Ok-clause-comes g t c =
    let constants = constants_of c.args.self.now in
    let d = document c.args.self.now in
    let part = part_at constants c.args.number in
    let same = c.in-Ok.ensures.given ∙ sym (ap (λ p. result_of p d) c.in-Some.ensures.part) in
    let given = subst (λ x. IsGiven x part d) (sym same) (given_right part d) in
    record { back = record { same = ap (λ w. w.steps.items) c.replace-here.ensures.value; ready = c.store.ensures.right constants d given c.in-Ok.ensures.comes.back.ready }; ready = tt; halts = tt }

pub ensure_cached-returns-in-Err-clause-comes : goal.ensure_cached-returns-in-Err-clause-comes
ensure_cached-returns-in-Err-clause-comes g t c =
    let constants = constants_of c.args.self.now in
    let d = document c.args.self.now in
    let limit = c.args.self.now.limit in
    let comes = c.in-Err.ensures.comes in
    let halt = subst (λ p. IsWalkError limit (part_patterns p) d c.in-Err.halt) (sym c.in-Some.ensures.part) comes.halts in
    let why = subst (λ ps. IsWalkError limit ps d c.in-Err.halt) (sym (fit_patterns c.args.demand (part_at constants c.args.number) c.in-Some.ensures.fits)) halt in
    record {
      back = tt;
      ready = c.store_error.ensures.right constants d limit halt comes.ready;
      halts = subst (λ h. IsWalkError limit (argument_patterns (argument_at constants c.args.demand c.args.number)) d h) (sym c.store_error.ensures.same) why;
    }

pub evaluate_constant-returns-in-Nodes-clause-given : goal.evaluate_constant-returns-in-Nodes-clause-given
evaluate_constant-returns-in-Nodes-clause-given g t c =
    let constants = constants_of c.args.self.now in
    let d = document c.args.self.now in
    let gs = segments_meant constants c.deref.result.now in
    let e = ap (constant_view constants) c.in-Nodes.is in
    let all = ap (λ (q : List StepRef). selected_from gs d (node_of q c.args.self.now.root)) c.requires.root ∙ nodelist-selected_from gs d ∙ ap (λ (xs : List Segment). nodelist (segments_meant constants xs) d) c.deref.ensures.value in
    ok_through _ result_view _ _ (ap (λ ns. result_for c.in-Nodes.demand (of_nodes ns)) all ∙ sym (ap (λ p. result_of p d) e)) c.gather.ensures.given
