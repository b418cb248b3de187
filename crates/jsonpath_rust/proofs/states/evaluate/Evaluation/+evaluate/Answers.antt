use Rattle.std.proofs.Common.{rules, refl, sym, ap, ◌∙◌, arith, ◌≡◌, ◌∷◌, ◌++◌, [], map, filter, cond, List, Bool, Some, option_map, w64, SFits, string_bytes, inl, true, false}
use Rattle.std.proofs.lemmas.Int.{to_z-of_z}
use Rattle.jsonpath_base.specs.Prelude.Documents.{absolute, argument_effort, argument_patterns, argument_view, arguments_effort, arguments_in, arguments_patterns, atom_view, call_patterns, call_view, comparison_view, filter_effort, filter_patterns, filter_view, filters_effort, filters_in, filters_patterns, flat_map, segment_effort, segment_patterns, segment_view, segments_effort, segments_in, segments_of, segments_patterns, selector_effort, selector_patterns, selector_view, selectors_effort, selectors_in, selectors_patterns, singular_view, SingularQuerySegment, step_view, test_patterns, test_view, Tree, truth}
use Rattle.jsonpath_rust.specs.Prelude.States.{arguments_trees, basic_content, call_content, Content, content_at, content_of, document, each_holds_at, holds_at, indexed_from, inside, is_truth, joined_from, mapped, part_content, parts_from, plain, reduced, ref, refs, root_content, segment_content, segments_content, selector_content, several_content, some_holds_at, Target, target_at, target_of, targets, targets_at, test_content, value}
use Rattle.jsonpath_base.proofs.lemmas.documents.{each_failed, each_next, filter_more, fold_next, joined_end, joined_next, ok_through, part_of, parts_end, some_found, some_next}
use Rattle.jsonpath_rust.proofs.laws.states.{kept-parts, stays-itself, steps_as}
use Rattle.jsonpath_parser.specs.declared.tree.model.Filter.{Filter}
use Rattle.jsonpath_parser.specs.declared.tree.model.Segment.{Segment}
use Rattle.jsonpath_parser.specs.declared.tree.model.Selector.{Selector}
use Rattle.jsonpath_parser.specs.declared.tree.model.FnArg.{FnArg}
use Rattle.jsonpath_parser.proofs.laws.tree.ViewEquations.{segment_view-Selectors, selector_view-Index, selector_view-Slice, call_view-Custom, segment_view-Descendant, filter_view-Atom, atom_view-Comparison, test_view-RelQuery, test_view-AbsQuery, query_view-segments, call_view-Search, call_view-Match}
use Rattle.jsonpath_parser.proofs.laws.tree.Kinds.{comparison_is_comparison}
use Rattle.jsonpath_rust.proofs.laws.states.Asking.{asks_left, asks_right, asks_rest, asks_at, asks_here, asks_nothing, asks_same, asks_below, asks_parents, asks_target, asks_child, asks_root, asks_too, asks_within, stays_next, data-distinct, halts_as, halts_so, memory_alone}
use Rattle.jsonpath_rust.proofs.laws.states.Basic.{basic-truth, basic-comparison}
use Rattle.jsonpath_rust.proofs.states.evaluate.Evaluation.+evaluate.Goals as goal

pub arguments-argument_data-requires : goal.arguments-argument_data-requires
arguments-argument_data-requires g t c κs within =
    let w = part_of (λ (x : FnArg). argument_effort 0 (argument_view x)) (λ xs. arguments_effort 0 (arguments_in xs)) (λ x xs. refl) c.args.args.now c.loop-arg.arg-index c.arg-item.result c.loop-arg-test.true c.arg-item.is in
    (omega (arith, c.decreases, w), within)

pub segment_data-returns-in-Selectors-clause-value : goal.segment_data-returns-in-Selectors-clause-value
segment_data-returns-in-Selectors-clause-value g t c =
    let d = document c.args.self.now in
    let k = content_at c.args.given in
    let e = ap segment_view c.in-Selectors.is ∙ segment_view-Selectors c.in-Selectors.several in
    ok_through _ content_at _ _ (ap (λ (xs : List Selector). several_content (selectors_in xs) d k) c.deref.ensures.value ∙ sym (ap (λ s. segment_content s d k) e)) c.several_data.ensures.value

pub selector_data-returns-in-Index-clause-value : goal.selector_data-returns-in-Index-clause-value
selector_data-returns-in-Index-clause-value g t c =
    let d = document c.args.self.now in
    let k = content_at c.args.given in
    let e = ap selector_view c.in-Index.is ∙ selector_view-Index c.in-Index.index in
    let fits : SFits w64 c.in-Index.index = search rules in
    ok_through _ content_at _ _ (ap (λ i. mapped (indexed_from i) k) (to_z-of_z w64 c.in-Index.index fits) ∙ sym (ap (λ s. selector_content s d k) e)) c.each_target-in-Index.ensures.value

pub selector_data-returns-in-Slice-clause-value : goal.selector_data-returns-in-Slice-clause-value
selector_data-returns-in-Slice-clause-value g t c =
    let d = document c.args.self.now in
    let k = content_at c.args.given in
    let e = ap selector_view c.in-Slice.is ∙ selector_view-Slice c.in-Slice.start c.in-Slice.end c.in-Slice.step in
    ok_through _ content_at _ _ (sym (ap (λ s. selector_content s d k) e)) c.each_target-in-Slice.ensures.value

pub each_target-loop-from-preserved : goal.each_target-loop-from-preserved
each_target-loop-from-preserved g t c =
    let tree = g.T.Queryable.tree in
    let d = document c.args.self.now in
    let f : Target → List Target = λ p. targets (part_content c.args.part d p) in
    let items = c.deref-from-items.result.now in
    let pushed = c.in_ok-append-in-Refs.ensures ∙ ap (λ k. targets_at c.loop-from.all ++ targets k) c.in_ok-found-in-Refs.ensures.value in
    joined_next (λ xs. flat_map f (map (target_of tree) xs)) (λ y. f (target_of tree y)) (λ y ys. refl) items c.loop-from.from-index c.from-item.result _ _ _ c.loop-from-test.true c.from-item.is pushed c.loop-from.invariant

pub each_target-returns-after-loop-from-clause-value : goal.each_target-returns-after-loop-from-clause-value
each_target-returns-after-loop-from-clause-value g t c =
    let tree = g.T.Queryable.tree in
    let d = document c.args.self.now in
    let f : Target → List Target = λ p. targets (part_content c.args.part d p) in
    c.nodes.ensures
    ∙ ap refs (joined_end (λ xs. flat_map f (map (target_of tree) xs)) refl c.deref-from-items.result.now c.loop-from.from-index (targets_at c.loop-from.all) _ c.loop-from-test.false c.loop-from.invariant ∙ ap (λ xs. flat_map f (map (target_of tree) xs)) c.deref-from-items.ensures.value)
    ∙ ap (λ z. mapped (part_content c.args.part d) (content_of tree z)) (sym c.in-Refs.is)

pub matching_children-loop-child-preserved : goal.matching_children-loop-child-preserved
matching_children-loop-child-preserved g t c =
    let tree = g.T.Queryable.tree in
    let d = document c.args.self.now in
    let h : Target → Bool = λ p. holds_at (filter_view c.args.filter.now) d (inside p.tree) in
    let items = c.deref-child-items.result.now in
    let x = c.child-item.result in
    let holds = c.in_ok-is_kept-in-Some.ensures.value ∙ ap (λ q. holds_at (filter_view c.args.filter.now) d (ref q)) c.empty.ensures.seen in
    let pushed = c.in_ok-keep_if-in-Some.ensures.value ∙ ap (λ b. targets_at c.loop-child.found ++ cond b (target_of tree x ∷ []) []) holds in
    joined_next (λ xs. filter h (map (target_of tree) xs)) (λ y. cond (h (target_of tree y)) (target_of tree y ∷ []) []) (λ y ys. filter_more h (target_of tree y) (map (target_of tree) ys)) items c.loop-child.child-index x _ _ _ c.loop-child-test.true c.child-item.is pushed c.loop-child.invariant

pub matching_children-returns-after-loop-child-clause-value : goal.matching_children-returns-after-loop-child-clause-value
matching_children-returns-after-loop-child-clause-value g t c =
    let tree = g.T.Queryable.tree in
    let d = document c.args.self.now in
    let h : Target → Bool = λ p. holds_at (filter_view c.args.filter.now) d (inside p.tree) in
    let from = target_at c.args.from in
    let items = c.deref-child-items.result.now in
    let here : Some (map (target_of tree) items) ≡ parts_from from = ap (λ xs. Some (map (target_of tree) xs)) c.deref-child-items.ensures.value ∙ ap (option_map targets_at) (sym c.in-Some.is) ∙ c.in_ok-children.ensures.value in
    c.nodes.ensures
    ∙ ap refs (joined_end (λ xs. filter h (map (target_of tree) xs)) refl items c.loop-child.child-index (targets_at c.loop-child.found) _ c.loop-child-test.false c.loop-child.invariant)
    ∙ kept-parts h from (map (target_of tree) items) here

pub call_data-returns-in_ok-values-in-Custom-clause-value : goal.call_data-returns-in_ok-values-in-Custom-clause-value
call_data-returns-in_ok-values-in-Custom-clause-value g t c =
    let custom = g.T.Queryable.custom in
    let d = document c.args.self.now in
    let k = content_at c.args.given.now in
    let e = ap call_view c.in-Custom.is ∙ call_view-Custom c.in-Custom.name c.in-Custom.args in
    let seen : List Tree → Content = λ ts. value (custom (string_bytes c.in-Custom.name) ts) in
    ok_through _ content_at _ _ (ap seen (c.in_ok-values-in-Custom.ensures.value ∙ ap (λ (xs : List FnArg). arguments_trees (arguments_in xs) d k) c.deref.ensures.value) ∙ sym (ap (λ s. call_content s d k) e)) c.custom_data.ensures.value

pub segments_data-segment_data-requires : goal.segments_data-segment_data-requires
segments_data-segment_data-requires g t c κs within =
    let w = part_of (λ (x : Segment). segment_effort 0 (segment_view x)) (λ xs. segments_effort 0 (segments_in xs)) (λ x xs. refl) c.args.segments.now c.loop-segment.segment-index c.segment-item.result c.loop-segment-test.true c.segment-item.is in
    (omega (arith, c.decreases, w), within)

pub segments_data-loop-segment-preserved : goal.segments_data-loop-segment-preserved
segments_data-loop-segment-preserved g t c =
    let d = document c.args.self.now in
    record {
      made = fold_next (λ (gs : List Segment) (k : Content). segments_content (segments_in gs) d k) (λ x. segment_content (segment_view x) d) (λ x xs k. refl) c.args.segments.now c.loop-segment.segment-index c.segment-item.result _ _ _ c.loop-segment-test.true c.segment-item.is c.in_ok-answer.ensures.value c.loop-segment.invariant.made;
      within = stays_next (segment_view c.segment-item.result) d _ _ _ c.in_ok-answer.ensures.value c.loop-segment.invariant.within;
    }

pub segments_data-returns-clause-value : goal.segments_data-returns-clause-value
segments_data-returns-clause-value g t c =
    let d = document c.args.self.now in
    parts_end (λ (gs : List Segment). segments_content (segments_in gs) d (content_at c.loop-segment.answer)) c.args.segments.now c.loop-segment.segment-index _ c.loop-segment-test.false c.loop-segment.invariant.made

pub singular_data-returns-in_ok-here-in-Current-clause-value : goal.singular_data-returns-in_ok-here-in-Current-clause-value
singular_data-returns-in_ok-here-in-Current-clause-value g t c =
    let d = document c.args.self.now in
    let k = content_at c.args.given.now in
    let e = ap (λ q. test_content (singular_view q) d k) c.in-Current.is in
    ok_through _ content_at _ _ (steps_as _ c.in-Current.steps.items _ k d c.deref.ensures.value c.in_ok-here-in-Current.ensures.value ∙ sym e) c.steps_data.ensures.value

pub singular_data-returns-in_ok-here-in-Root-clause-value : goal.singular_data-returns-in_ok-here-in-Root-clause-value
singular_data-returns-in_ok-here-in-Root-clause-value g t c =
    let d = document c.args.self.now in
    let k = content_at c.args.given.now in
    let e = ap (λ q. test_content (singular_view q) d k) c.in-Root.is in
    ok_through _ content_at _ _ (steps_as _ c.in-Root.steps.items _ (root_content d) d c.deref-in-Root.ensures.value c.in_ok-here-in-Root.ensures.value ∙ sym e) c.steps_data-in-Root.ensures.value

pub steps_data-step_data-requires : goal.steps_data-step_data-requires
steps_data-step_data-requires g t c κs within =
    let w = part_of (λ (x : SingularQuerySegment). segment_effort 0 (step_view x)) (λ xs. segments_effort 0 (segments_of (map step_view xs))) (λ x xs. refl) c.args.steps.now c.loop-step.step-index c.step-item.result c.loop-step-test.true c.step-item.is in
    (omega (arith, c.decreases, w), within)

pub steps_data-loop-step-preserved : goal.steps_data-loop-step-preserved
steps_data-loop-step-preserved g t c =
    let d = document c.args.self.now in
    fold_next (λ (ss : List SingularQuerySegment) (k : Content). segments_content (segments_of (map step_view ss)) d k) (λ s. segment_content (step_view s) d) (λ x xs k. refl) c.args.steps.now c.loop-step.step-index c.step-item.result _ _ _ c.loop-step-test.true c.step-item.is c.in_ok-answer.ensures.value c.loop-step.invariant

pub steps_data-returns-clause-value : goal.steps_data-returns-clause-value
steps_data-returns-clause-value g t c =
    let d = document c.args.self.now in
    parts_end (λ (ss : List SingularQuerySegment). segments_content (segments_of (map step_view ss)) d (content_at c.loop-step.answer)) c.args.steps.now c.loop-step.step-index _ c.loop-step-test.false c.loop-step.invariant

pub step_data-returns-in-Index-clause-value : goal.step_data-returns-in-Index-clause-value
step_data-returns-in-Index-clause-value g t c =
    let d = document c.args.self.now in
    let k = content_at c.args.given in
    let fits : SFits w64 c.in-Index.index = search rules in
    ok_through _ content_at _ _ (ap (λ i. mapped (indexed_from i) k) (to_z-of_z w64 c.in-Index.index fits) ∙ sym (ap (λ s. segment_content (step_view s) d k) c.in-Index.is)) c.each_target-in-Index.ensures.value

pub step_data-returns-in-Name-clause-memory : goal.step_data-returns-in-Name-clause-memory
step_data-returns-in-Name-clause-memory g t c = memory_alone _ _ _ c.each_target.ensures.refused

pub step_data-returns-in-Index-clause-memory : goal.step_data-returns-in-Index-clause-memory
step_data-returns-in-Index-clause-memory g t c = memory_alone _ _ _ c.each_target-in-Index.ensures.refused

pub joined-selector_data-requires : goal.joined-selector_data-requires
joined-selector_data-requires g t c κs within =
    let w = part_of (λ (x : Selector). selector_effort 0 (selector_view x)) (λ xs. selectors_effort 0 (selectors_in xs)) (λ x xs. refl) c.args.selectors.now c.loop-selector.selector-index c.selector-item.result c.loop-selector-test.true c.selector-item.is in
    (omega (arith, c.decreases, w), within)

pub joined-loop-selector-preserved : goal.joined-loop-selector-preserved
joined-loop-selector-preserved g t c =
    let d = document c.args.self.now in
    let p = target_at c.args.from in
    let here = c.node-here.ensures ∙ ap ref c.in_ok-try_clone.ensures.value in
    let found = c.in_ok-found.ensures.value ∙ ap (λ k. selector_content (selector_view c.selector-item.result) d k) here in
    fold_next (λ (ss : List Selector) (k : Content). joined_from (selectors_in ss) d k p) (λ x k. reduced k (selector_content (selector_view x) d (ref p))) (λ x xs k. refl) c.args.selectors.now c.loop-selector.selector-index c.selector-item.result _ _ _ c.loop-selector-test.true c.selector-item.is (c.in_ok-all.ensures.value ∙ ap (reduced (content_at c.loop-selector.all)) found) c.loop-selector.invariant

pub joined-returns-clause-value : goal.joined-returns-clause-value
joined-returns-clause-value g t c =
    let d = document c.args.self.now in
    parts_end (λ (ss : List Selector). joined_from (selectors_in ss) d (content_at c.loop-selector.all) (target_at c.args.from)) c.args.selectors.now c.loop-selector.selector-index _ c.loop-selector-test.false c.loop-selector.invariant

pub some_holds-holds-requires : goal.some_holds-holds-requires
some_holds-holds-requires g t c κs within =
    let w = part_of (λ (x : Filter). filter_effort 0 (filter_view x)) (λ xs. filters_effort 0 (filters_in xs)) (λ x xs. refl) c.args.parts.now c.loop-part.part-index c.part-item.result c.loop-part-test.true c.part-item.is in
    (omega (arith, c.decreases, w), within)

pub some_holds-returns-then-branch-clause-value : goal.some_holds-returns-then-branch-clause-value
some_holds-returns-then-branch-clause-value g t c =
    let d = document c.args.self.now in
    let k = content_at c.args.given.now in
    some_found (λ (fs : List Filter). some_holds_at (filters_in fs) d k) (λ f. holds_at (filter_view f) d k) (λ x xs. refl) c.args.parts.now c.loop-part.part-index c.part-item.result _ c.loop-part-test.true c.part-item.is (sym c.in_ok-holds.ensures.value ∙ c.if-branch.true) c.loop-part.invariant

pub some_holds-loop-part-preserved : goal.some_holds-loop-part-preserved
some_holds-loop-part-preserved g t c =
    let d = document c.args.self.now in
    let k = content_at c.args.given.now in
    some_next (λ (fs : List Filter). some_holds_at (filters_in fs) d k) (λ f. holds_at (filter_view f) d k) (λ x xs. refl) c.args.parts.now c.loop-part.part-index c.part-item.result _ c.loop-part-test.true c.part-item.is (sym c.in_ok-holds.ensures.value ∙ c.if-branch.false) c.loop-part.invariant

pub some_holds-returns-clause-value : goal.some_holds-returns-clause-value
some_holds-returns-clause-value g t c =
    let d = document c.args.self.now in
    parts_end (λ (fs : List Filter). some_holds_at (filters_in fs) d (content_at c.args.given.now)) c.args.parts.now c.loop-part.part-index _ c.loop-part-test.false c.loop-part.invariant

pub each_holds-holds-requires : goal.each_holds-holds-requires
each_holds-holds-requires g t c κs within =
    let w = part_of (λ (x : Filter). filter_effort 0 (filter_view x)) (λ xs. filters_effort 0 (filters_in xs)) (λ x xs. refl) c.args.parts.now c.loop-part.part-index c.part-item.result c.loop-part-test.true c.part-item.is in
    (omega (arith, c.decreases, w), within)

pub each_holds-returns-then-not-branch-clause-value : goal.each_holds-returns-then-not-branch-clause-value
each_holds-returns-then-not-branch-clause-value g t c =
    let d = document c.args.self.now in
    let k = content_at c.args.given.now in
    each_failed (λ (fs : List Filter). each_holds_at (filters_in fs) d k) (λ f. holds_at (filter_view f) d k) (λ x xs. refl) c.args.parts.now c.loop-part.part-index c.part-item.result _ c.loop-part-test.true c.part-item.is (sym c.in_ok-holds.ensures.value ∙ c.if-not-branch.true) c.loop-part.invariant

pub each_holds-loop-part-preserved : goal.each_holds-loop-part-preserved
each_holds-loop-part-preserved g t c =
    let d = document c.args.self.now in
    let k = content_at c.args.given.now in
    each_next (λ (fs : List Filter). each_holds_at (filters_in fs) d k) (λ f. holds_at (filter_view f) d k) (λ x xs. refl) c.args.parts.now c.loop-part.part-index c.part-item.result _ c.loop-part-test.true c.part-item.is (sym c.in_ok-holds.ensures.value ∙ c.if-not-branch.false) c.loop-part.invariant

pub each_holds-returns-clause-value : goal.each_holds-returns-clause-value
each_holds-returns-clause-value g t c =
    let d = document c.args.self.now in
    parts_end (λ (fs : List Filter). each_holds_at (filters_in fs) d (content_at c.args.given.now)) c.args.parts.now c.loop-part.part-index _ c.loop-part-test.false c.loop-part.invariant

pub holds-returns-in_ok-atom_data-in-Atom-clause-value : goal.holds-returns-in_ok-atom_data-in-Atom-clause-value
holds-returns-in_ok-atom_data-in-Atom-clause-value g t c =
    let d = document c.args.self.now in
    let k = content_at c.args.given.now in
    let e = ap filter_view c.in-Atom.is ∙ filter_view-Atom c.in-Atom.atom in
    c.is_true.ensures ∙ ap is_truth c.in_ok-atom_data-in-Atom.ensures.value ∙ basic-truth (atom_view c.in-Atom.atom) d k ∙ sym (ap (λ f. holds_at f d k) e)

pub atom_data-returns-in_ok-truth-in-Comparison-clause-value : goal.atom_data-returns-in_ok-truth-in-Comparison-clause-value
atom_data-returns-in_ok-truth-in-Comparison-clause-value g t c =
    let d = document c.args.self.now in
    let k = content_at c.args.given.now in
    let e = ap atom_view c.in-Comparison.is ∙ atom_view-Comparison c.in-Comparison.comparison ∙ ap comparison_view (sym c.deref-in-Comparison.ensures) in
    let compared = c.deref-in-Comparison.result.now in
    ok_through _ content_at _ _ (ap (λ b. value (truth b)) c.in_ok-truth-in-Comparison.ensures.value ∙ sym (basic-comparison (comparison_view compared) d k (comparison_is_comparison compared)) ∙ sym (ap (λ f. basic_content f d k) e)) c.truth_data-in-Comparison.ensures.value

pub segment_data-returns-in_err-below-in-Descendant-clause-refused : goal.segment_data-returns-in_err-below-in-Descendant-clause-refused
segment_data-returns-in_err-below-in-Descendant-clause-refused g t c =
    halts_so _ _ c.from_residual.ensures.1 c.in_err-below-in-Descendant.ensures.refused (λ h. asks_nothing _ h)

pub segment_data-returns-in-Selectors-clause-refused : goal.segment_data-returns-in-Selectors-clause-refused
segment_data-returns-in-Selectors-clause-refused g t c =
    let e = ap segment_view c.in-Selectors.is ∙ segment_view-Selectors c.in-Selectors.several in
    halts_as _ c.several_data.ensures.refused (λ h. asks_same _ _ (ap (λ (xs : List Selector). selectors_patterns (selectors_in xs)) c.deref.ensures.value ∙ sym (ap segment_patterns e)) h)

pub segment_data-returns-in_ok-below-in-Descendant-clause-refused : goal.segment_data-returns-in_ok-below-in-Descendant-clause-refused
segment_data-returns-in_ok-below-in-Descendant-clause-refused g t c =
    let d = document c.args.self.now in
    let k = content_at c.args.given in
    let distinct = data-distinct g.T.Queryable.tree g.T.Queryable.is_whole g.met.T.Queryable.distinct c.args.given.content c.args.given.whole in
    let e = ap segment_view c.in-Descendant.is ∙ segment_view-Descendant c.in-Descendant.inner in
    let same = ap (λ (s : Segment). segment_patterns (segment_view s)) c.deref-in-Descendant.ensures ∙ sym (ap segment_patterns e) in
    halts_as _ c.segment_data.ensures.refused (λ h. asks_same _ _ same (asks_parents d k _ distinct c.in_ok-below-in-Descendant.ensures.value h))

pub each_target-returns-in_err-found-in-Refs-clause-refused : goal.each_target-returns-in_err-found-in-Refs-clause-refused
each_target-returns-in_err-found-in-Refs-clause-refused g t c =
    let tree = g.T.Queryable.tree in
    let d = document c.args.self.now in
    let k = content_at c.args.given in
    let distinct = data-distinct g.T.Queryable.tree g.T.Queryable.is_whole g.met.T.Queryable.distinct c.args.given.content c.args.given.whole in
    let items = c.deref-from-items.result.now in
    let same = ap (λ z. targets (content_of tree z)) c.in-Refs.is ∙ ap (map (target_of tree)) (sym c.deref-from-items.ensures.value) in
    halts_so _ _ c.from_residual.ensures.1 c.in_err-found-in-Refs.ensures.refused (λ h. asks_target (target_of tree) d k items c.loop-from.from-index c.from-item.result distinct same c.loop-from-test.true c.from-item.is h)

pub matching_children-returns-in_err-is_kept-in-Some-clause-refused : goal.matching_children-returns-in_err-is_kept-in-Some-clause-refused
matching_children-returns-in_err-is_kept-in-Some-clause-refused g t c =
    let tree = g.T.Queryable.tree in
    let d = document c.args.self.now in
    let from = target_at c.args.from in
    let items = c.deref-child-items.result.now in
    let distinct = g.met.T.Queryable.distinct c.args.from.pointer.now.inner.now c.args.from.whole in
    let here : Some (map (target_of tree) items) ≡ parts_from from = ap (λ xs. Some (map (target_of tree) xs)) c.deref-child-items.ensures.value ∙ ap (option_map targets_at) (sym c.in-Some.is) ∙ c.in_ok-children.ensures.value in
    halts_so _ _ c.from_residual-in_err-is_kept-in-Some.ensures.1 c.in_err-is_kept-in-Some.ensures.refused (λ h. asks_child (target_of tree) d from items c.loop-child.child-index c.child-item.result _ distinct here c.loop-child-test.true c.child-item.is (ap ref c.empty.ensures.seen) h)

pub comparison_holds-returns-in_err-left-clause-refused : goal.comparison_holds-returns-in_err-left-clause-refused
comparison_holds-returns-in_err-left-clause-refused g t c =
    let e = ap filter_patterns c.parts-operator.ensures in
    halts_so _ _ c.from_residual.ensures.1 c.in_err-left.ensures.refused (λ h. asks_same _ _ (sym e) (asks_left _ _ h))

pub comparison_holds-returns-in_err-right-clause-refused : goal.comparison_holds-returns-in_err-right-clause-refused
comparison_holds-returns-in_err-right-clause-refused g t c =
    let e = ap filter_patterns c.parts-operator.ensures in
    halts_so _ _ c.from_residual-in_err-right.ensures.1 c.in_err-right.ensures.refused (λ h. asks_same _ _ (sym e) (asks_right _ _ h))

pub test_data-returns-in_ok-here-in-RelQuery-clause-refused : goal.test_data-returns-in_ok-here-in-RelQuery-clause-refused
test_data-returns-in_ok-here-in-RelQuery-clause-refused g t c =
    let d = document c.args.self.now in
    let k = content_at c.args.given.now in
    let e = ap test_view c.in-RelQuery.is ∙ test_view-RelQuery c.in-RelQuery.segments in
    let same = ap (λ (xs : List Segment). segments_patterns (segments_in xs)) c.deref.ensures.value ∙ sym (ap test_patterns e) in
    halts_as _ c.segments_data.ensures.refused (λ h. asks_too d k (asks_below d _ k c.in_ok-here-in-RelQuery.ensures.value (asks_same _ _ same h)))

pub test_data-returns-in_ok-here-in-AbsQuery-clause-refused : goal.test_data-returns-in_ok-here-in-AbsQuery-clause-refused
test_data-returns-in_ok-here-in-AbsQuery-clause-refused g t c =
    let d = document c.args.self.now in
    let k = content_at c.args.given.now in
    let e = ap test_view c.in-AbsQuery.is ∙ test_view-AbsQuery c.in-AbsQuery.query ∙ ap absolute (query_view-segments c.in-AbsQuery.query) in
    let same = ap (λ (xs : List Segment). segments_patterns (segments_in xs)) c.deref-in-AbsQuery.ensures.value ∙ sym (ap test_patterns e) in
    halts_as _ c.segments_data-in-AbsQuery.ensures.refused (λ h. asks_root d k (asks_below d _ (root_content d) c.in_ok-here-in-AbsQuery.ensures.value (asks_same _ _ same h)))

pub call_data-returns-in_err-values-in-Custom-clause-refused : goal.call_data-returns-in_err-values-in-Custom-clause-refused
call_data-returns-in_err-values-in-Custom-clause-refused g t c =
    let e = ap call_view c.in-Custom.is ∙ call_view-Custom c.in-Custom.name c.in-Custom.args in
    halts_so _ _ c.from_residual.ensures.1 c.in_err-values-in-Custom.ensures.refused (λ h. asks_same _ _ (ap (λ (xs : List FnArg). arguments_patterns (arguments_in xs)) c.deref.ensures.value ∙ sym (ap call_patterns e)) h)

pub call_data-returns-in_err-text-in-Search-clause-refused : goal.call_data-returns-in_err-text-in-Search-clause-refused
call_data-returns-in_err-text-in-Search-clause-refused g t c =
    let e = ap call_patterns (ap call_view c.in-Search.is ∙ call_view-Search c.in-Search.text c.in-Search.pattern) in
    halts_so _ _ c.from_residual-in_err-text-in-Search.ensures.1 c.in_err-text-in-Search.ensures.refused (λ h. asks_same _ _ (sym e) (asks_rest _ _ (asks_left _ (argument_patterns (argument_view c.in-Search.pattern)) h)))

pub call_data-returns-in_err-pattern-in-Search-clause-refused : goal.call_data-returns-in_err-pattern-in-Search-clause-refused
call_data-returns-in_err-pattern-in-Search-clause-refused g t c =
    let e = ap call_patterns (ap call_view c.in-Search.is ∙ call_view-Search c.in-Search.text c.in-Search.pattern) in
    halts_so _ _ c.from_residual-in_err-pattern-in-Search.ensures.1 c.in_err-pattern-in-Search.ensures.refused (λ h. asks_same _ _ (sym e) (asks_rest _ _ (asks_right (argument_patterns (argument_view c.in-Search.text)) _ h)))

pub call_data-returns-in_ok-pattern-in-Search-clause-refused : goal.call_data-returns-in_ok-pattern-in-Search-clause-refused
call_data-returns-in_ok-pattern-in-Search-clause-refused g t c =
    let d = document c.args.self.now in
    let k = content_at c.args.given.now in
    let e = ap call_patterns (ap call_view c.in-Search.is ∙ call_view-Search c.in-Search.text c.in-Search.pattern) in
    halts_as _ c.found_data.ensures.refused (λ h. asks_same _ _ (sym e) (asks_here d false (argument_view c.in-Search.pattern) _ k _ (inl refl) (ap plain c.in_ok-pattern-in-Search.ensures.value) h))

pub call_data-returns-in_err-text-in-Match-clause-refused : goal.call_data-returns-in_err-text-in-Match-clause-refused
call_data-returns-in_err-text-in-Match-clause-refused g t c =
    let e = ap call_patterns (ap call_view c.in-Match.is ∙ call_view-Match c.in-Match.text c.in-Match.pattern) in
    halts_so _ _ c.from_residual-in_err-text-in-Match.ensures.1 c.in_err-text-in-Match.ensures.refused (λ h. asks_same _ _ (sym e) (asks_rest _ _ (asks_left _ (argument_patterns (argument_view c.in-Match.pattern)) h)))

pub call_data-returns-in_err-pattern-in-Match-clause-refused : goal.call_data-returns-in_err-pattern-in-Match-clause-refused
call_data-returns-in_err-pattern-in-Match-clause-refused g t c =
    let e = ap call_patterns (ap call_view c.in-Match.is ∙ call_view-Match c.in-Match.text c.in-Match.pattern) in
    halts_so _ _ c.from_residual-in_err-pattern-in-Match.ensures.1 c.in_err-pattern-in-Match.ensures.refused (λ h. asks_same _ _ (sym e) (asks_rest _ _ (asks_right (argument_patterns (argument_view c.in-Match.text)) _ h)))

pub call_data-returns-in_ok-pattern-in-Match-clause-refused : goal.call_data-returns-in_ok-pattern-in-Match-clause-refused
call_data-returns-in_ok-pattern-in-Match-clause-refused g t c =
    let d = document c.args.self.now in
    let k = content_at c.args.given.now in
    let e = ap call_patterns (ap call_view c.in-Match.is ∙ call_view-Match c.in-Match.text c.in-Match.pattern) in
    halts_as _ c.found_data-in-Match.ensures.refused (λ h. asks_same _ _ (sym e) (asks_here d true (argument_view c.in-Match.pattern) _ k _ (inl refl) (ap plain c.in_ok-pattern-in-Match.ensures.value) h))

pub arguments-returns-in_err-answer-clause-refused : goal.arguments-returns-in_err-answer-clause-refused
arguments-returns-in_err-answer-clause-refused g t c =
    let f = λ (x : FnArg). argument_patterns (argument_view x) in
    let all = λ (xs : List FnArg). arguments_patterns (arguments_in xs) in
    halts_so _ _ c.from_residual.ensures.1 c.in_err-answer.ensures.refused (λ h. asks_at f all (λ x xs. refl) c.args.args.now c.loop-arg.arg-index c.arg-item.result c.loop-arg-test.true c.arg-item.is h)

pub segments_data-returns-in_err-answer-clause-refused : goal.segments_data-returns-in_err-answer-clause-refused
segments_data-returns-in_err-answer-clause-refused g t c =
    let d = document c.args.self.now in
    let k = content_at c.args.given in
    let f = λ (x : Segment). segment_patterns (segment_view x) in
    let all = λ (xs : List Segment). segments_patterns (segments_in xs) in
    halts_so _ _ c.from_residual.ensures.1 c.in_err-answer.ensures.refused (λ h. asks_at f all (λ x xs. refl) c.args.segments.now c.loop-segment.segment-index c.segment-item.result c.loop-segment-test.true c.segment-item.is (asks_within d k _ c.loop-segment.invariant.within h))

pub joined-returns-in_err-found-clause-refused : goal.joined-returns-in_err-found-clause-refused
joined-returns-in_err-found-clause-refused g t c =
    let d = document c.args.self.now in
    let f = λ (x : Selector). selector_patterns (selector_view x) in
    let all = λ (xs : List Selector). selectors_patterns (selectors_in xs) in
    halts_so _ _ c.from_residual-in_err-found.ensures.1 c.in_err-found.ensures.refused (λ h. asks_at f all (λ x xs. refl) c.args.selectors.now c.loop-selector.selector-index c.selector-item.result c.loop-selector-test.true c.selector-item.is (asks_below d _ _ (c.node-here.ensures ∙ ap ref c.in_ok-try_clone.ensures.value) h))

pub some_holds-returns-in_err-holds-clause-refused : goal.some_holds-returns-in_err-holds-clause-refused
some_holds-returns-in_err-holds-clause-refused g t c =
    let f = λ (x : Filter). filter_patterns (filter_view x) in
    let all = λ (xs : List Filter). filters_patterns (filters_in xs) in
    halts_so _ _ c.from_residual.ensures.1 c.in_err-holds.ensures.refused (λ h. asks_at f all (λ x xs. refl) c.args.parts.now c.loop-part.part-index c.part-item.result c.loop-part-test.true c.part-item.is h)

pub each_holds-returns-in_err-holds-clause-refused : goal.each_holds-returns-in_err-holds-clause-refused
each_holds-returns-in_err-holds-clause-refused g t c =
    let f = λ (x : Filter). filter_patterns (filter_view x) in
    let all = λ (xs : List Filter). filters_patterns (filters_in xs) in
    halts_so _ _ c.from_residual.ensures.1 c.in_err-holds.ensures.refused (λ h. asks_at f all (λ x xs. refl) c.args.parts.now c.loop-part.part-index c.part-item.result c.loop-part-test.true c.part-item.is h)

pub segments_data-loop-segment-init : goal.segments_data-loop-segment-init
segments_data-loop-segment-init g t c =
    let d = document c.args.self.now in
    record {
      made = refl;
      within = stays-itself d (content_at c.args.given) (data-distinct g.T.Queryable.tree g.T.Queryable.is_whole g.met.T.Queryable.distinct c.args.given.content c.args.given.whole);
    }
