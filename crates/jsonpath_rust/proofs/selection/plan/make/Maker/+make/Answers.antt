-- The answers of the maker: each step as a lemma, with the equations of the two views.
use Rattle.std.proofs.lemmas.Simd.{map-map}
use Rattle.std.proofs.Common.{◌≡◌, ◌∙◌, ap, sym, refl, map, string_bytes, rules, w64, SFits}
use Rattle.std.proofs.lemmas.Bool.{and_from}
use Rattle.std.proofs.lemmas.Int.{to_z-of_z}
use Rattle.std.proofs.lemmas.Result.{IfOk-weaker}
use Rattle.jsonpath_parser.specs.tree.Syntax as syntax
use Rattle.jsonpath_parser.specs.tree.View as tree
use Rattle.jsonpath_parser.proofs.laws.tree.ViewEquations as source
use Rattle.jsonpath_base.specs.Prelude.Documents.{Bor, Operator}
use Rattle.jsonpath_rust.specs.Prelude.Selection.{call_result, argument_in, argument_is_rooted, asked, call_view, compared, every, filter_is_rooted, filter_view, nodes, Single, part_is_rooted, expr_view, segment_view, selector_view, Values}
use Rattle.jsonpath_rust.proofs.laws.selection.{argument_in-nodes, arguments_rooted, filters_rooted, made_around, made_as, made_both, made_end, made_ended, made_here, made_next, made_none, made_start}
use Rattle.jsonpath_rust.proofs.laws.selection.PlanEquations as plan
use Rattle.jsonpath_parser.specs.declared.tree.model.Comparable.{Comparable}
use Rattle.jsonpath_rust.proofs.selection.plan.make.Maker.+make.Goals as goal
use Rattle.jsonpath_rust.proofs.selection.plan.make.Maker.+make.Goals.{comparison-in-Eq, comparison-in-Ne, comparison-in-Gt, comparison-in-Gte, comparison-in-Lt, comparison-in-Lte}

pub segments-segments-init : goal.segments-segments-init
segments-segments-init t c =
    made_start every segment_view tree.segment_view _ c.args.segments.now (search rules)

pub segments-segments-preserved : goal.segments-segments-preserved
segments-segments-preserved t c =
    made_next segment_view tree.segment_view _ _ _ c.args.segments.now c.segments.segment-index c.segment-item.result c.in_ok-push.ensures.items c.segments-test.true c.segment-item.is c.segments.invariant c.in_ok-segment.ensures.made

pub segments-returns-clause-made : goal.segments-returns-clause-made
segments-returns-clause-made t c =
    made_end every _ tree.segment_view c.args.segments.now c.segments.segment-index c.segments-test.false c.segments.invariant

pub selectors-selectors-init : goal.selectors-selectors-init
selectors-selectors-init t c =
    made_start every selector_view tree.selector_view _ c.args.selectors.now (search rules)

pub selectors-selectors-preserved : goal.selectors-selectors-preserved
selectors-selectors-preserved t c =
    made_next selector_view tree.selector_view _ _ _ c.args.selectors.now c.selectors.selector-index c.selector-item.result c.in_ok-push.ensures.items c.selectors-test.true c.selector-item.is c.selectors.invariant c.in_ok-selector.ensures.made

pub selectors-returns-clause-made : goal.selectors-returns-clause-made
selectors-returns-clause-made t c =
    made_end every _ tree.selector_view c.args.selectors.now c.selectors.selector-index c.selectors-test.false c.selectors.invariant

pub filters-filters-init : goal.filters-filters-init
filters-filters-init t c =
    made_start filter_is_rooted filter_view tree.filter_view _ c.args.filters.now (search rules)

pub filters-filters-preserved : goal.filters-filters-preserved
filters-filters-preserved t c =
    made_next filter_view tree.filter_view _ _ _ c.args.filters.now c.filters.filter-index c.filter-item.result c.in_ok-push.ensures.items c.filters-test.true c.filter-item.is c.filters.invariant c.in_ok-filter.ensures.made

pub filters-returns-clause-made : goal.filters-returns-clause-made
filters-returns-clause-made t c =
    made_end filter_is_rooted _ tree.filter_view c.args.filters.now c.filters.filter-index c.filters-test.false c.filters.invariant

pub arguments-arguments-init : goal.arguments-arguments-init
arguments-arguments-init t c =
    made_start argument_is_rooted (λ constants x. expr_view constants x Values) tree.argument_view _ c.args.arguments.now (search rules)

pub arguments-arguments-preserved : goal.arguments-arguments-preserved
arguments-arguments-preserved t c =
    made_next (λ constants x. expr_view constants x Values) tree.argument_view _ _ _ c.args.arguments.now c.arguments.argument-index c.argument-item.result c.in_ok-push.ensures.items c.arguments-test.true c.argument-item.is c.arguments.invariant c.in_ok-argument.ensures.made

pub arguments-returns-clause-made : goal.arguments-returns-clause-made
arguments-returns-clause-made t c =
    made_end argument_is_rooted _ tree.argument_view c.args.arguments.now c.arguments.argument-index c.arguments-test.false c.arguments.invariant

pub segment-returns-in_ok-new-in-Descendant-clause-made : goal.segment-returns-in_ok-new-in-Descendant-clause-made
segment-returns-in_ok-new-in-Descendant-clause-made t c =
    made_as syntax.descendant _ _ (λ constants. plan.segment_view-Descendant constants _ ∙ ap (λ x. syntax.descendant (segment_view constants x)) (search rules)) (ap tree.segment_view c.in-Descendant.is ∙ source.segment_view-Descendant c.in-Descendant.inner ∙ ap (λ x. syntax.descendant (tree.segment_view x)) (sym c.deref.ensures)) (λ h. h) c.in_ok-inner-in-Descendant.ensures.made

pub segment-returns-in_ok-selector-in-Selector-clause-made : goal.segment-returns-in_ok-selector-in-Selector-clause-made
segment-returns-in_ok-selector-in-Selector-clause-made t c =
    made_as syntax.one _ _ (λ constants. plan.segment_view-Selector constants _) (ap tree.segment_view c.in-Selector.is ∙ source.segment_view-Selector c.in-Selector.selector) (λ h. h) c.in_ok-selector-in-Selector.ensures.made

pub segment-returns-in_ok-selectors-in-Selectors-clause-made : goal.segment-returns-in_ok-selectors-in-Selectors-clause-made
segment-returns-in_ok-selectors-in-Selectors-clause-made t c =
    made_as (λ ss. syntax.several (tree.selectors_of ss)) _ _ (λ constants. plan.segment_view-Selectors constants _) (ap tree.segment_view c.in-Selectors.is ∙ source.segment_view-Selectors c.in-Selectors.several ∙ ap (λ xs. syntax.several (tree.selectors_of (map tree.selector_view xs))) (sym c.deref-in-Selectors.ensures.value)) (λ h. refl) c.in_ok-selectors-in-Selectors.ensures.made

pub selector-returns-in_ok-from_str-in-Name-clause-made : goal.selector-returns-in_ok-from_str-in-Name-clause-made
selector-returns-in_ok-from_str-in-Name-clause-made t c =
    made_none _ _ (λ constants. plan.selector_view-Name constants _ ∙ ap syntax.name (search rules)) (ap tree.selector_view c.in-Name.is ∙ source.selector_view-Name c.in-Name.name) refl

pub selector-returns-in-Wildcard-clause-made : goal.selector-returns-in-Wildcard-clause-made
selector-returns-in-Wildcard-clause-made t c =
    made_none _ _ (λ constants. plan.selector_view-Wildcard constants) (ap tree.selector_view c.in-Wildcard.is ∙ source.selector_view-Wildcard) refl

pub selector-returns-in-Index-clause-made : goal.selector-returns-in-Index-clause-made
selector-returns-in-Index-clause-made t c =
    let fits : SFits w64 c.in-Index.index = search rules in
    made_none _ _ (λ constants. plan.selector_view-Index constants _ ∙ ap syntax.index (to_z-of_z w64 c.in-Index.index fits)) (ap tree.selector_view c.in-Index.is ∙ source.selector_view-Index c.in-Index.index) refl

pub selector-returns-in-Slice-clause-made : goal.selector-returns-in-Slice-clause-made
selector-returns-in-Slice-clause-made t c =
    made_none _ _ (λ constants. plan.selector_view-Slice constants _ _ _) (ap tree.selector_view c.in-Slice.is ∙ source.selector_view-Slice c.in-Slice.start c.in-Slice.end c.in-Slice.step) refl

pub selector-returns-in_ok-filter-in-Filter-clause-made : goal.selector-returns-in_ok-filter-in-Filter-clause-made
selector-returns-in_ok-filter-in-Filter-clause-made t c =
    made_as syntax.filter _ _ (λ constants. plan.selector_view-Filter constants _) (ap tree.selector_view c.in-Filter.is ∙ source.selector_view-Filter c.in-Filter.filter) (λ h. refl) c.in_ok-filter-in-Filter.ensures.made

pub filter-returns-in_ok-filters-in-Or-clause-made : goal.filter-returns-in_ok-filters-in-Or-clause-made
filter-returns-in_ok-filters-in-Or-clause-made t c =
    made_as (λ fs. syntax.or (tree.filters_of fs)) _ _ (λ constants. plan.filter_view-Or constants _) (ap tree.filter_view c.in-Or.is ∙ source.filter_view-Or c.in-Or.parts ∙ ap (λ xs. syntax.or (tree.filters_of (map tree.filter_view xs))) (sym c.deref.ensures.value)) (λ h. filters_rooted (map tree.filter_view c.deref.result.now) ∙ h) c.in_ok-filters-in-Or.ensures.made

pub filter-returns-in_ok-filters-in-And-clause-made : goal.filter-returns-in_ok-filters-in-And-clause-made
filter-returns-in_ok-filters-in-And-clause-made t c =
    made_as (λ fs. syntax.and (tree.filters_of fs)) _ _ (λ constants. plan.filter_view-And constants _) (ap tree.filter_view c.in-And.is ∙ source.filter_view-And c.in-And.parts ∙ ap (λ xs. syntax.and (tree.filters_of (map tree.filter_view xs))) (sym c.deref-in-And.ensures.value)) (λ h. filters_rooted (map tree.filter_view c.deref-in-And.result.now) ∙ h) c.in_ok-filters-in-And.ensures.made

pub filter-returns-in-Atom-clause-made : goal.filter-returns-in-Atom-clause-made
filter-returns-in-Atom-clause-made t c =
    rw (ap tree.filter_view c.in-Atom.is ∙ source.filter_view-Atom c.in-Atom.atom) c.atom.ensures.made

pub atom-returns-in_ok-new-in-Filter-clause-made : goal.atom-returns-in_ok-new-in-Filter-clause-made
atom-returns-in_ok-new-in-Filter-clause-made t c =
    made_as (syntax.group c.in-Filter.not) _ _ (λ constants. plan.filter_view-Group constants _ _ ∙ ap (λ x. syntax.group c.in-Filter.not (filter_view constants x)) (search rules)) (ap tree.atom_view c.in-Filter.is ∙ source.atom_view-Filter c.in-Filter.expr c.in-Filter.not ∙ ap (λ x. syntax.group c.in-Filter.not (tree.filter_view x)) (sym c.deref.ensures)) (λ h. h) c.in_ok-inner-in-Filter.ensures.made

pub atom-returns-in-Test-clause-made : goal.atom-returns-in-Test-clause-made
atom-returns-in-Test-clause-made t c =
    rw (ap tree.atom_view c.in-Test.is ∙ source.atom_view-Test c.in-Test.expr c.in-Test.not ∙ ap (λ x. syntax.Filter.test c.in-Test.not (tree.test_view x)) (sym c.deref-in-Test.ensures)) c.test.ensures.made

pub atom-returns-in-Comparison-clause-made : goal.atom-returns-in-Comparison-clause-made
atom-returns-in-Comparison-clause-made t c =
    rw (ap tree.atom_view c.in-Comparison.is ∙ source.atom_view-Comparison c.in-Comparison.comparison ∙ ap tree.comparison_view (sym c.deref-in-Comparison.ensures)) c.comparison.ensures.made

pub side-returns-in-SingularQuery-clause-made : goal.side-returns-in-SingularQuery-clause-made
side-returns-in-SingularQuery-clause-made t c =
    rw (ap tree.comparable_view c.in-SingularQuery.is ∙ source.comparable_view-SingularQuery c.in-SingularQuery.query) c.singular.ensures.made

pub call-returns-in_ok-argument-in-Length-clause-made : goal.call-returns-in_ok-argument-in-Length-clause-made
call-returns-in_ok-argument-in-Length-clause-made t c =
    made_as syntax.length_call _ _ (λ constants. plan.call_view-Length constants _) (ap tree.call_view c.in-Length.is ∙ source.call_view-Length c.in-Length.arg ∙ ap (λ x. syntax.length_call (tree.argument_view x)) (sym c.deref-in-Length.ensures)) (λ h. h) c.in_ok-argument-in-Length.ensures.made

pub call-returns-in_ok-argument-in-Value-clause-made : goal.call-returns-in_ok-argument-in-Value-clause-made
call-returns-in_ok-argument-in-Value-clause-made t c =
    made_as syntax.value_call _ _ (λ constants. plan.call_view-Value constants _) (ap tree.call_view c.in-Value.is ∙ source.call_view-Value c.in-Value.arg) (λ h. h) c.in_ok-argument-in-Value.ensures.made

pub call-returns-in_ok-pattern-in-Search-clause-made : goal.call-returns-in_ok-pattern-in-Search-clause-made
call-returns-in_ok-pattern-in-Search-clause-made t c =
    made_both syntax.search_call _ _ (λ constants. plan.call_view-Search constants _ _) (ap tree.call_view c.in-Search.is ∙ source.call_view-Search c.in-Search.text c.in-Search.pattern) (and_from _ _) c.in_ok-text-in-Search.ensures.made c.in_ok-pattern-in-Search.ensures.made

pub call-returns-in_ok-pattern-in-Match-clause-made : goal.call-returns-in_ok-pattern-in-Match-clause-made
call-returns-in_ok-pattern-in-Match-clause-made t c =
    made_both syntax.match_call _ _ (λ constants. plan.call_view-Match constants _ _) (ap tree.call_view c.in-Match.is ∙ source.call_view-Match c.in-Match.text c.in-Match.pattern) (and_from _ _) c.in_ok-text-in-Match.ensures.made c.in_ok-pattern-in-Match.ensures.made

pub call-returns-in_ok-arguments-in-Custom-clause-made : goal.call-returns-in_ok-arguments-in-Custom-clause-made
call-returns-in_ok-arguments-in-Custom-clause-made t c =
    made_as (λ xs. syntax.custom_call (string_bytes c.in-Custom.name) (tree.arguments_of xs)) _ _ (λ constants. plan.call_view-Custom constants _ _ ∙ ap (λ s. syntax.custom_call s (tree.arguments_of (map (λ x. x Values) (map (expr_view constants) c.in_ok-arguments-in-Custom.field-0.items)))) (search rules) ∙ ap (λ xs. syntax.custom_call (string_bytes c.in-Custom.name) (tree.arguments_of xs)) (map-map (λ x. x Values) (expr_view constants) _)) (ap tree.call_view c.in-Custom.is ∙ source.call_view-Custom c.in-Custom.name c.in-Custom.args ∙ ap (λ xs. syntax.custom_call (string_bytes c.in-Custom.name) (tree.arguments_of (map tree.argument_view xs))) (sym c.deref-in-Custom.ensures.value)) (λ h. arguments_rooted (map tree.argument_view c.deref-in-Custom.result.now) ∙ h) c.in_ok-arguments-in-Custom.ensures.made

pub pattern-returns-in-Literal-clause-made : goal.pattern-returns-in-Literal-clause-made
pattern-returns-in-Literal-clause-made t c =
    rw (ap tree.argument_view c.in-Literal.is ∙ source.argument_view-Literal c.in-Literal.literal) c.literal_pattern.ensures.made

pub comparison-returns-clause-made : goal.comparison-returns-clause-made
comparison-returns-clause-made t c =
    let p = c.match-comparison.operator in
    let of = λ (q : Operator × Bor Comparable × Bor Comparable). syntax.compare (tree.operator_view q.0) (tree.comparable_view q.1.now) (tree.comparable_view q.2.now) in
    let same : tree.comparison_view c.args.comparison.now ≡ of p = elim c.match-comparison.branch [
      | comparison-in-Eq w ↦ ap tree.comparison_view w.in-Eq.is ∙ source.comparison_view-Eq w.in-Eq.left w.in-Eq.right ∙ ap of (sym w.operator-is)
      | comparison-in-Ne w ↦ ap tree.comparison_view w.in-Ne.is ∙ source.comparison_view-Ne w.in-Ne.left w.in-Ne.right ∙ ap of (sym w.operator-is)
      | comparison-in-Gt w ↦ ap tree.comparison_view w.in-Gt.is ∙ source.comparison_view-Gt w.in-Gt.left w.in-Gt.right ∙ ap of (sym w.operator-is)
      | comparison-in-Gte w ↦ ap tree.comparison_view w.in-Gte.is ∙ source.comparison_view-Gte w.in-Gte.left w.in-Gte.right ∙ ap of (sym w.operator-is)
      | comparison-in-Lt w ↦ ap tree.comparison_view w.in-Lt.is ∙ source.comparison_view-Lt w.in-Lt.left w.in-Lt.right ∙ ap of (sym w.operator-is)
      | comparison-in-Lte w ↦ ap tree.comparison_view w.in-Lte.is ∙ source.comparison_view-Lte w.in-Lte.left w.in-Lte.right ∙ ap of (sym w.operator-is)
    ] in
    let sides = made_both {test = part_is_rooted} (λ a b. compared (syntax.compare (tree.operator_view p.0) a b)) _ _ (λ constants. refl) refl (and_from _ _) c.in_ok-side.ensures.made c.in_ok-side-2.ensures.made in
    rw same (IfOk-weaker c.compare.result _ _ (λ f k. k.made c.begin-around.ensures sides) c.compare.ensures.made)

pub test-returns-clause-made : goal.test-returns-clause-made
test-returns-clause-made t c =
    made_as (asked c.args.not) _ _ (λ constants. plan.filter_view-Test constants _ _) refl (λ h. h) c.in_ok-part.ensures.made

pub side-returns-in_ok-try_clone-in-Literal-clause-made : goal.side-returns-in_ok-try_clone-in-Literal-clause-made
side-returns-in_ok-try_clone-in-Literal-clause-made t c =
    made_none _ _ (λ constants. plan.expr_view-Literal constants _ Single ∙ ap syntax.literal_argument c.in_ok-try_clone-in-Literal.ensures.same) (ap tree.comparable_view c.in-Literal.is ∙ source.comparable_view-Literal c.in-Literal.literal) refl

pub side-returns-in-Function-clause-made : goal.side-returns-in-Function-clause-made
side-returns-in-Function-clause-made t c =
    rw (ap tree.comparable_view c.in-Function.is ∙ source.comparable_view-Function c.in-Function.function) (c.called.ensures.made Single)

pub relative-returns-in-Some-clause-made : goal.relative-returns-in-Some-clause-made
relative-returns-in-Some-clause-made t c =
    made_here c.meet_current.ensures (made_none {test = every} _ _ (λ constants. rw c.in-Some.is at (c.in_ok-part.ensures.same constants)) refl refl)

pub relative-returns-clause-made : goal.relative-returns-clause-made
relative-returns-clause-made t c =
    made_here (record { same = c.meet_walk.ensures.same ∙ c.meet_current.ensures.same; met = c.meet_walk.ensures.met ∙ c.meet_current.ensures.met }) (made_as {test = every} (λ gs. syntax.test_argument (syntax.relative (tree.segments_of gs))) _ _ (λ constants. plan.expr_view-Walk constants _ c.args.demand) refl (λ h. refl) c.in_ok-segments.ensures.made)

pub absolute-returns-clause-made : goal.absolute-returns-clause-made
absolute-returns-clause-made t c =
    let w = c.args.demand in
    let of_query : tree.query_view c.args.query.now ≡ tree.segments_of (map tree.segment_view c.deref.result.now) = source.query_view-segments c.args.query.now ∙ ap (λ xs. tree.segments_of (map tree.segment_view xs)) (sym c.deref.ensures.value) in
    let around = made_around {test = every} c.begin-around.ensures c.end_query-when.ensures (λ h. (h, refl)) c.in_ok-segments.ensures.made in
    let part = c.in_ok-number.ensures.numbered.made (made_as (λ gs. nodes w (tree.segments_of gs)) _ _ (λ constants. refl) (ap (nodes w) of_query) (λ h. refl) around) refl in
    made_as (argument_in w) _ _ (λ constants. plan.expr_view-Constant constants _ w) (sym (argument_in-nodes w _)) (λ h. refl) part

pub argument-returns-in_ok-try_clone-in-Literal-clause-made : goal.argument-returns-in_ok-try_clone-in-Literal-clause-made
argument-returns-in_ok-try_clone-in-Literal-clause-made t c =
    made_none _ _ (λ constants. plan.expr_view-Literal constants _ c.args.demand ∙ ap syntax.literal_argument c.in_ok-try_clone-in-Literal.ensures.same) (ap tree.argument_view c.in-Literal.is ∙ source.argument_view-Literal c.in-Literal.literal) refl

pub argument-returns-in_ok-new-in-Filter-clause-made : goal.argument-returns-in_ok-new-in-Filter-clause-made
argument-returns-in_ok-new-in-Filter-clause-made t c =
    made_as syntax.filter_argument _ _ (λ constants. plan.expr_view-Filter constants _ c.args.demand ∙ ap (λ f. syntax.filter_argument (filter_view constants f)) (search rules)) (ap tree.argument_view c.in-Filter.is ∙ source.argument_view-Filter c.in-Filter.filter) (λ h. h) c.in_ok-inner-in-Filter.ensures.made

pub argument-returns-in-Test-clause-made : goal.argument-returns-in-Test-clause-made
argument-returns-in-Test-clause-made t c =
    rw (ap tree.argument_view c.in-Test.is ∙ source.argument_view-Test c.in-Test.test ∙ ap (λ x. syntax.test_argument (tree.test_view x)) (sym c.deref.ensures)) c.test_part.ensures.made

pub test_part-returns-in-RelQuery-clause-made : goal.test_part-returns-in-RelQuery-clause-made
test_part-returns-in-RelQuery-clause-made t c =
    rw (ap tree.test_view c.in-RelQuery.is ∙ source.test_view-RelQuery c.in-RelQuery.segments ∙ ap (λ xs. syntax.relative (tree.segments_of (map tree.segment_view xs))) (sym c.deref.ensures.value)) c.relative.ensures.made

pub test_part-returns-in-AbsQuery-clause-made : goal.test_part-returns-in-AbsQuery-clause-made
test_part-returns-in-AbsQuery-clause-made t c =
    rw (ap tree.test_view c.in-AbsQuery.is ∙ source.test_view-AbsQuery c.in-AbsQuery.query) c.absolute.ensures.made

pub test_part-returns-in-Function-clause-made : goal.test_part-returns-in-Function-clause-made
test_part-returns-in-Function-clause-made t c =
    rw (ap tree.test_view c.in-Function.is ∙ source.test_view-Function c.in-Function.function ∙ ap (λ x. syntax.call (tree.call_view x)) (sym c.deref-in-Function.ensures)) (c.called.ensures.made c.args.demand)

pub call-returns-in_ok-argument-in-Count-clause-made : goal.call-returns-in_ok-argument-in-Count-clause-made
call-returns-in_ok-argument-in-Count-clause-made t c =
    made_as syntax.count_call _ _ (λ constants. plan.call_view-Count constants _) (ap tree.call_view c.in-Count.is ∙ source.call_view-Count c.in-Count.arg) (λ h. h) c.in_ok-argument-in-Count.ensures.made

pub called-returns-then-end-clause-made : goal.called-returns-then-end-clause-made
called-returns-then-end-clause-made t c = λ w.
    let made = made_ended c.begin-around.ensures c.end.ensures.beside c.in_ok-made.ensures.made in
    let part = made_as {test = part_is_rooted} call_result _ _ (λ constants. refl) refl (λ h. h) made in
    made_as (argument_in w) _ _ (λ constants. plan.expr_view-Constant constants _ w) refl (λ h. h) (c.in_ok-number.ensures.numbered.made part (c.in_ok-made.ensures.made.rooted (sym c.end.ensures.rooted ∙ c.if-end.true)).1)

pub called-returns-clause-made : goal.called-returns-clause-made
called-returns-clause-made t c = λ w.
    made_as (λ x. syntax.test_argument (syntax.call x)) _ _ (λ constants. plan.expr_view-Call constants _ w ∙ ap (λ x. syntax.test_argument (syntax.call (call_view constants x))) (search rules)) refl (λ h. h) (made_ended c.begin-around.ensures c.end.ensures.beside c.in_ok-made.ensures.made)
