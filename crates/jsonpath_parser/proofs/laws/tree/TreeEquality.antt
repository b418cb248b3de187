-- `==` of trees is equality of what they stand for.
use Rattle.std.proofs.Common.{◌≡◌, ℕ, ℤ, int_eq, Bool, true, false, true≢false, List, [], ◌∷◌, map, Option, Some, None, string_bytes, refl, ap, sym, ◌∙◌, rules, arith}
use Rattle.std.proofs.lemmas.Bool.Decides.{Decides-int_eq}
use Rattle.jsonpath_parser.specs.Prelude.{argument_view, arguments_of, atom_view, call_view, Comparable, comparable_view, Comparison, comparison_view, Decides, filter_view, FilterAtom, filters_of, FnArg, JpQuery, literal_view, operator_view, query_view, segment_view, segments_of, selector_view, selectors_of, singular_view, SingularQuery, SingularQuerySegment, step_view, test_view, TestFunction, the_lemmas}
use Rattle.std.specs.Bool.{beq}
use Rattle.std.specs.Cmp.Lexicographic.{pointwise}
use Rattle.std.specs.Option.{option_eq}
use Rattle.jsonpath_parser.proofs.Deciding.{under, both, under_two, differ, string_same}
use Rattle.jsonpath_parser.specs.tree.Syntax as tree
use Rattle.jsonpath_parser.proofs.laws.tree.Kinds.{of_comparison, of_atom}
use Rattle.jsonpath_parser.proofs.laws.tree.ViewEquations.{query_view-segments}
use Rattle.jsonpath_parser.specs.declared.tree.model.Literal.{Literal}
use Rattle.jsonpath_parser.specs.declared.tree.model.Literal.TheVariants as lit
use Rattle.jsonpath_parser.specs.declared.tree.model.SingularQuery.TheVariants as single
use Rattle.jsonpath_parser.specs.declared.tree.model.SingularQuerySegment.TheVariants as step
use Rattle.jsonpath_parser.specs.declared.tree.model.operator.Operator.{Operator}
use Rattle.jsonpath_parser.specs.declared.tree.model.operator.Operator.TheVariants as operator
use Rattle.jsonpath_parser.specs.contracts.tree.model.LiteralPartialEq.TheImpl as literal_eq
use Rattle.jsonpath_parser.specs.contracts.tree.model.operator.OperatorPartialEq.TheImpl as operator_eq
use Rattle.jsonpath_parser.specs.contracts.tree.model.SingularQuerySegmentPartialEq.TheImpl as step_eq
use Rattle.jsonpath_parser.specs.contracts.tree.model.SingularQueryPartialEq.TheImpl as singular_eq
use Rattle.jsonpath_parser.specs.contracts.tree.model.JpQueryPartialEq.TheImpl as query_eq
use Rattle.jsonpath_parser.specs.contracts.tree.model.JpQueryPartialEq.TheImpl.Laws as query_laws
use Rattle.jsonpath_parser.specs.contracts.tree.model.ComparablePartialEq.TheImpl as comparable_eq
use Rattle.jsonpath_parser.specs.contracts.tree.model.ComparablePartialEq.TheImpl.Laws as comparable_laws
use Rattle.jsonpath_parser.specs.declared.tree.model.Comparable
use Rattle.jsonpath_parser.specs.contracts.tree.model.ComparisonPartialEq.TheImpl as comparison_eq
use Rattle.jsonpath_parser.specs.contracts.tree.model.ComparisonPartialEq.TheImpl.Laws as comparison_laws
use Rattle.jsonpath_parser.specs.contracts.tree.model.FilterPartialEq.TheImpl as filter_eq
use Rattle.jsonpath_parser.specs.contracts.tree.model.FilterPartialEq.TheImpl.Laws as filter_laws
use Rattle.jsonpath_parser.specs.declared.tree.model.Filter.{Filter, Row_of-Filter, end_of-Filter, more_of-Filter, items-the_row-Filter, items_shown-the_row-Filter-0}
use Rattle.jsonpath_parser.specs.declared.tree.model.Filter.TheVariants as filter_variants
use Rattle.jsonpath_parser.specs.contracts.tree.model.FilterAtomPartialEq.TheImpl as atom_eq
use Rattle.jsonpath_parser.specs.contracts.tree.model.FilterAtomPartialEq.TheImpl.Laws as atom_laws
use Rattle.jsonpath_parser.specs.declared.tree.model.FilterAtom
use Rattle.jsonpath_parser.specs.declared.tree.model.FilterAtom.TheVariants as atom_variants
use Rattle.jsonpath_parser.specs.contracts.tree.model.FnArgPartialEq.TheImpl as argument_eq
use Rattle.jsonpath_parser.specs.contracts.tree.model.FnArgPartialEq.TheImpl.Laws as argument_laws
use Rattle.jsonpath_parser.specs.declared.tree.model.FnArg
use Rattle.jsonpath_parser.specs.declared.tree.model.FnArg.TheVariants as argument_variants
use Rattle.jsonpath_parser.specs.contracts.tree.model.SegmentPartialEq.TheImpl as segment_eq
use Rattle.jsonpath_parser.specs.contracts.tree.model.SegmentPartialEq.TheImpl.Laws as segment_laws
use Rattle.jsonpath_parser.specs.declared.tree.model.Segment.{Segment, Row_of-Selector, end_of-Selector, more_of-Selector, items-the_row-Selector, items_shown-the_row-Selector-1}
use Rattle.jsonpath_parser.specs.declared.tree.model.Segment.TheVariants as segment_variants
use Rattle.jsonpath_parser.specs.contracts.tree.model.SelectorPartialEq.TheImpl as selector_eq
use Rattle.jsonpath_parser.specs.contracts.tree.model.SelectorPartialEq.TheImpl.Laws as selector_laws
use Rattle.jsonpath_parser.specs.declared.tree.model.Selector
use Rattle.jsonpath_parser.specs.declared.tree.model.Selector.{Selector}
use Rattle.jsonpath_parser.specs.contracts.tree.model.TestPartialEq.TheImpl as test_eq
use Rattle.jsonpath_parser.specs.contracts.tree.model.TestPartialEq.TheImpl.Laws as test_laws
use Rattle.jsonpath_parser.specs.declared.tree.model.Test
use Rattle.jsonpath_parser.specs.declared.tree.model.Test.{Test, Row_of-Segment, end_of-Segment, more_of-Segment, items-the_row-Segment, items_shown-the_row-Segment-2}
use Rattle.jsonpath_parser.specs.declared.tree.model.Test.TheVariants as test_variants
use Rattle.jsonpath_parser.specs.contracts.tree.model.TestFunctionPartialEq.TheImpl as call_eq
use Rattle.jsonpath_parser.specs.contracts.tree.model.TestFunctionPartialEq.TheImpl.Laws as call_laws
use Rattle.jsonpath_parser.specs.declared.tree.model.TestFunction.{Row_of-FnArg, end_of-FnArg, more_of-FnArg, items-the_row-FnArg, items_shown-the_row-FnArg-3}
use Rattle.jsonpath_parser.specs.declared.tree.model.TestFunction.TheVariants as call_variants

-- how a value opens into its variant and its parts
ruleset layers = (rules, the_lemmas, filter_variants.outs-Or', filter_variants.outs-And', atom_variants.outs-Filter', atom_variants.outs-Test', atom_variants.outs-Comparison', argument_variants.outs-Test', segment_variants.outs-Descendant', segment_variants.outs-Selectors', test_variants.outs-RelQuery', test_variants.outs-AbsQuery', test_variants.outs-Function', call_variants.outs-Custom', call_variants.outs-Length', items_shown-the_row-Filter-0, items_shown-the_row-Selector-1, items_shown-the_row-Segment-2, items_shown-the_row-FnArg-3)

bool_same : (a b : Bool) → Decides (beq a b) (a ≡ b)
bool_same true true = (λ _. refl, λ _. refl)
bool_same true false = (λ h. absurd (true≢false (sym h)), λ h. absurd (true≢false h))
bool_same false true = (λ h. absurd (true≢false (sym h)), λ h. absurd (true≢false (sym h)))
bool_same false false = (λ _. refl, λ _. refl)

-- a part of a slice
part_same : (a b : Option ℤ) → Decides (option_eq int_eq a b) (a ≡ b)
part_same None None = (λ _. refl, λ _. refl)
part_same None (Some y) = differ refl (λ h. cc)
part_same (Some x) None = differ refl (λ h. cc)
part_same (Some x) (Some y) = under (λ v. Some v) (λ s t h. cc) (Decides-int_eq x y) refl refl refl

pub literal_same : (a b : Literal) → Decides (literal_eq.eq-value.it a b) (literal_view a ≡ literal_view b)
literal_same (lit.Int a) (lit.Int b) = under (λ n. tree.number (Some n)) (λ s t h. cc) (Decides-int_eq a b) refl refl refl
literal_same (lit.String a) (lit.String b) = under tree.string (λ s t h. cc) (string_same a b) refl refl refl
literal_same (lit.Bool a) (lit.Bool b) = under tree.bool (λ s t h. cc) (bool_same a b) refl refl refl
literal_same lit.Null lit.Null = (λ _. refl, λ _. refl)
literal_same a b = differ refl (λ h. cc)

pub operator_same : (a b : Operator) → Decides (operator_eq.eq-value.it a b) (operator_view a ≡ operator_view b)
operator_same operator.Equal operator.Equal = (λ _. refl, λ _. refl)
operator_same operator.NotEqual operator.NotEqual = (λ _. refl, λ _. refl)
operator_same operator.Greater operator.Greater = (λ _. refl, λ _. refl)
operator_same operator.GreaterOrEqual operator.GreaterOrEqual = (λ _. refl, λ _. refl)
operator_same operator.Less operator.Less = (λ _. refl, λ _. refl)
operator_same operator.LessOrEqual operator.LessOrEqual = (λ _. refl, λ _. refl)
operator_same a b = differ refl (λ h. cc)

pub step_same : (a b : SingularQuerySegment) → Decides (step_eq.eq-value.it a b) (step_view a ≡ step_view b)
step_same (step.Index a) (step.Index b) = under (λ i. tree.one (tree.index i)) (λ s t h. cc) (Decides-int_eq a b) refl refl refl
step_same (step.Name a) (step.Name b) = under (λ n. tree.one (tree.name n)) (λ s t h. cc) (string_same a b) refl refl refl
step_same a b = differ refl (λ h. cc)

pub steps_same : (xs ys : List SingularQuerySegment) → Decides (pointwise step_eq.eq-value.it xs ys) (map step_view xs ≡ map step_view ys)
steps_same [] [] = (λ _. refl, λ _. refl)
steps_same [] (y ∷ ys) = differ refl (λ h. cc)
steps_same (x ∷ xs) [] = differ refl (λ h. cc)
steps_same (x ∷ xs) (y ∷ ys) = under_two (λ v vs. v ∷ vs) (λ a c b d h. (cc, cc)) (step_same x y) (steps_same xs ys) refl refl refl

-- as segments
pub steps_tree_same : (xs ys : List SingularQuerySegment) → Decides (pointwise step_eq.eq-value.it xs ys) (segments_of (map step_view xs) ≡ segments_of (map step_view ys))
steps_tree_same [] [] = (λ _. refl, λ _. refl)
steps_tree_same [] (y ∷ ys) = differ refl (λ h. cc)
steps_tree_same (x ∷ xs) [] = differ refl (λ h. cc)
steps_tree_same (x ∷ xs) (y ∷ ys) = under_two tree.segment (λ a c b d h. (cc, cc)) (step_same x y) (steps_tree_same xs ys) refl refl refl

pub singular_same : (a b : SingularQuery) → Decides (singular_eq.eq-value.it a b) (singular_view a ≡ singular_view b)
singular_same (single.Current v) (single.Current w) = under tree.relative (λ s t h. cc) (steps_tree_same v.items w.items) refl refl refl
singular_same (single.Root v) (single.Root w) = under tree.absolute (λ s t h. cc) (steps_tree_same v.items w.items) refl refl refl
singular_same a b = differ refl (λ h. cc)

-- which variant a value is, and a tree

abbrev comparable_kind : Comparable → ℕ
comparable_kind (Comparable.Literal a0) = 0
comparable_kind (Comparable.Function a0) = 1
comparable_kind (Comparable.SingularQuery a0) = 2

abbrev comparable_kind_of : tree.Argument → ℕ
comparable_kind_of (tree.literal_argument a) = 0
comparable_kind_of (tree.test_argument (tree.call a)) = 1
comparable_kind_of (tree.test_argument a) = 2
comparable_kind_of (tree.filter_argument a) = 3

singular_kind_is : (q : SingularQuery) → comparable_kind_of (tree.test_argument (singular_view q)) ≡ 2
singular_kind_is (single.Current v) = refl
singular_kind_is (single.Root v) = refl

comparable_kind_is : (x : Comparable) → comparable_kind_of (comparable_view x) ≡ comparable_kind x
comparable_kind_is (Comparable.Literal a0) = let e : comparable_view (Comparable.Literal a0) ≡ tree.literal_argument (literal_view a0) = search layers in ap comparable_kind_of e
comparable_kind_is (Comparable.Function a0) = let e : comparable_view (Comparable.Function a0) ≡ tree.test_argument (tree.call (call_view a0)) = search layers in ap comparable_kind_of e
comparable_kind_is (Comparable.SingularQuery a0) = let e : comparable_view (Comparable.SingularQuery a0) ≡ tree.test_argument (singular_view a0) = search layers in ap comparable_kind_of e ∙ singular_kind_is a0

abbrev comparison_kind : Comparison → ℕ
comparison_kind (Comparison.Eq a0 a1) = 0
comparison_kind (Comparison.Ne a0 a1) = 1
comparison_kind (Comparison.Gt a0 a1) = 2
comparison_kind (Comparison.Gte a0 a1) = 3
comparison_kind (Comparison.Lt a0 a1) = 4
comparison_kind (Comparison.Lte a0 a1) = 5

abbrev comparison_kind_of : tree.Filter → ℕ
comparison_kind_of (tree.compare tree.equal a b) = 0
comparison_kind_of (tree.compare tree.not_equal a b) = 1
comparison_kind_of (tree.compare tree.greater a b) = 2
comparison_kind_of (tree.compare tree.greater_or_equal a b) = 3
comparison_kind_of (tree.compare tree.less a b) = 4
comparison_kind_of (tree.compare tree.less_or_equal a b) = 5
comparison_kind_of _ = 6

comparison_kind_is : (x : Comparison) → comparison_kind_of (comparison_view x) ≡ comparison_kind x
comparison_kind_is (Comparison.Eq a0 a1) = let e : comparison_view (Comparison.Eq a0 a1) ≡ tree.compare tree.equal (comparable_view a0) (comparable_view a1) = search layers in ap comparison_kind_of e
comparison_kind_is (Comparison.Ne a0 a1) = let e : comparison_view (Comparison.Ne a0 a1) ≡ tree.compare tree.not_equal (comparable_view a0) (comparable_view a1) = search layers in ap comparison_kind_of e
comparison_kind_is (Comparison.Gt a0 a1) = let e : comparison_view (Comparison.Gt a0 a1) ≡ tree.compare tree.greater (comparable_view a0) (comparable_view a1) = search layers in ap comparison_kind_of e
comparison_kind_is (Comparison.Gte a0 a1) = let e : comparison_view (Comparison.Gte a0 a1) ≡ tree.compare tree.greater_or_equal (comparable_view a0) (comparable_view a1) = search layers in ap comparison_kind_of e
comparison_kind_is (Comparison.Lt a0 a1) = let e : comparison_view (Comparison.Lt a0 a1) ≡ tree.compare tree.less (comparable_view a0) (comparable_view a1) = search layers in ap comparison_kind_of e
comparison_kind_is (Comparison.Lte a0 a1) = let e : comparison_view (Comparison.Lte a0 a1) ≡ tree.compare tree.less_or_equal (comparable_view a0) (comparable_view a1) = search layers in ap comparison_kind_of e

abbrev filter_kind : Filter → ℕ
filter_kind (Filter.Or' sa0 a0) = 0
filter_kind (Filter.And' sa0 a0) = 1
filter_kind (Filter.Atom a0) = 2

abbrev filter_kind_of : tree.Filter → ℕ
filter_kind_of (tree.or a) = 0
filter_kind_of (tree.and a) = 1
filter_kind_of _ = 2

filter_kind_is : (x : Filter) → filter_kind_of (filter_view x) ≡ filter_kind x
filter_kind_is (Filter.Or' sa0 a0) = let e : filter_view (Filter.Or' sa0 a0) ≡ tree.or (filters_of (map filter_view (items-the_row-Filter _ a0))) = search layers in ap filter_kind_of e
filter_kind_is (Filter.And' sa0 a0) = let e : filter_view (Filter.And' sa0 a0) ≡ tree.and (filters_of (map filter_view (items-the_row-Filter _ a0))) = search layers in ap filter_kind_of e
filter_kind_is (Filter.Atom a0) = let e : filter_view (Filter.Atom a0) ≡ atom_view a0 = search layers in ap filter_kind_of e ∙ of_atom filter_kind_of 2 (λ b g. refl) (λ b t. refl) (λ op l r. refl) a0

abbrev atom_kind : FilterAtom → ℕ
atom_kind (FilterAtom.Filter' pa0 a0 a1) = 0
atom_kind (FilterAtom.Test' pa0 a0 a1) = 1
atom_kind (FilterAtom.Comparison' pa0 a0) = 2

abbrev atom_kind_of : tree.Filter → ℕ
atom_kind_of (tree.group a b) = 0
atom_kind_of (tree.Filter.test a b) = 1
atom_kind_of _ = 2

atom_kind_is : (x : FilterAtom) → atom_kind_of (atom_view x) ≡ atom_kind x
atom_kind_is (FilterAtom.Filter' pa0 a0 a1) = let e : atom_view (FilterAtom.Filter' pa0 a0 a1) ≡ tree.group a1 (filter_view a0) = search layers in ap atom_kind_of e
atom_kind_is (FilterAtom.Test' pa0 a0 a1) = let e : atom_view (FilterAtom.Test' pa0 a0 a1) ≡ tree.Filter.test a1 (test_view a0) = search layers in ap atom_kind_of e
atom_kind_is (FilterAtom.Comparison' pa0 a0) = let e : atom_view (FilterAtom.Comparison' pa0 a0) ≡ comparison_view a0 = search layers in ap atom_kind_of e ∙ of_comparison atom_kind_of 2 (λ op l r. refl) a0

abbrev argument_kind : FnArg → ℕ
argument_kind (FnArg.Literal a0) = 0
argument_kind (FnArg.Test' pa0 a0) = 1
argument_kind (FnArg.Filter a0) = 2

abbrev argument_kind_of : tree.Argument → ℕ
argument_kind_of (tree.literal_argument a) = 0
argument_kind_of (tree.test_argument a) = 1
argument_kind_of (tree.filter_argument a) = 2

argument_kind_is : (x : FnArg) → argument_kind_of (argument_view x) ≡ argument_kind x
argument_kind_is (FnArg.Literal a0) = let e : argument_view (FnArg.Literal a0) ≡ tree.literal_argument (literal_view a0) = search layers in ap argument_kind_of e
argument_kind_is (FnArg.Test' pa0 a0) = let e : argument_view (FnArg.Test' pa0 a0) ≡ tree.test_argument (test_view a0) = search layers in ap argument_kind_of e
argument_kind_is (FnArg.Filter a0) = let e : argument_view (FnArg.Filter a0) ≡ tree.filter_argument (filter_view a0) = search layers in ap argument_kind_of e

abbrev segment_kind : Segment → ℕ
segment_kind (Segment.Descendant' pa0 a0) = 0
segment_kind (Segment.Selector a0) = 1
segment_kind (Segment.Selectors' sa0 a0) = 2

abbrev segment_kind_of : tree.Segment → ℕ
segment_kind_of (tree.descendant a) = 0
segment_kind_of (tree.one a) = 1
segment_kind_of (tree.several a) = 2

segment_kind_is : (x : Segment) → segment_kind_of (segment_view x) ≡ segment_kind x
segment_kind_is (Segment.Descendant' pa0 a0) = let e : segment_view (Segment.Descendant' pa0 a0) ≡ tree.descendant (segment_view a0) = search layers in ap segment_kind_of e
segment_kind_is (Segment.Selector a0) = let e : segment_view (Segment.Selector a0) ≡ tree.one (selector_view a0) = search layers in ap segment_kind_of e
segment_kind_is (Segment.Selectors' sa0 a0) = let e : segment_view (Segment.Selectors' sa0 a0) ≡ tree.several (selectors_of (map selector_view (items-the_row-Selector _ a0))) = search layers in ap segment_kind_of e

abbrev selector_kind : Selector → ℕ
selector_kind (Selector.Name a0) = 0
selector_kind Selector.Wildcard = 1
selector_kind (Selector.Index a0) = 2
selector_kind (Selector.Slice a0 a1 a2) = 3
selector_kind (Selector.Filter a0) = 4

abbrev selector_kind_of : tree.Selector → ℕ
selector_kind_of (tree.name a) = 0
selector_kind_of tree.wildcard = 1
selector_kind_of (tree.index a) = 2
selector_kind_of (tree.slice a b c) = 3
selector_kind_of (tree.filter a) = 4

selector_kind_is : (x : Selector) → selector_kind_of (selector_view x) ≡ selector_kind x
selector_kind_is (Selector.Name a0) = let e : selector_view (Selector.Name a0) ≡ tree.name (string_bytes a0) = search layers in ap selector_kind_of e
selector_kind_is Selector.Wildcard = let e : selector_view Selector.Wildcard ≡ tree.wildcard = search layers in ap selector_kind_of e
selector_kind_is (Selector.Index a0) = let e : selector_view (Selector.Index a0) ≡ tree.index a0 = search layers in ap selector_kind_of e
selector_kind_is (Selector.Slice a0 a1 a2) = let e : selector_view (Selector.Slice a0 a1 a2) ≡ tree.slice a0 a1 a2 = search layers in ap selector_kind_of e
selector_kind_is (Selector.Filter a0) = let e : selector_view (Selector.Filter a0) ≡ tree.filter (filter_view a0) = search layers in ap selector_kind_of e

abbrev test_kind : Test → ℕ
test_kind (Test.RelQuery' sa0 a0) = 0
test_kind (Test.AbsQuery' sa0 a0) = 1
test_kind (Test.Function' pa0 a0) = 2

abbrev test_kind_of : tree.Test → ℕ
test_kind_of (tree.relative a) = 0
test_kind_of (tree.absolute a) = 1
test_kind_of (tree.call a) = 2

test_kind_is : (x : Test) → test_kind_of (test_view x) ≡ test_kind x
test_kind_is (Test.RelQuery' sa0 a0) = let e : test_view (Test.RelQuery' sa0 a0) ≡ tree.relative (segments_of (map segment_view (items-the_row-Segment _ a0))) = search layers in ap test_kind_of e
test_kind_is (Test.AbsQuery' sa0 a0) = let e : test_view (Test.AbsQuery' sa0 a0) ≡ tree.absolute (segments_of (map segment_view (items-the_row-Segment _ a0))) = search layers in ap test_kind_of e
test_kind_is (Test.Function' pa0 a0) = let e : test_view (Test.Function' pa0 a0) ≡ tree.call (call_view a0) = search layers in ap test_kind_of e

abbrev call_kind : TestFunction → ℕ
call_kind (TestFunction.Custom' a0 sa1 a1) = 0
call_kind (TestFunction.Length' pa0 a0) = 1
call_kind (TestFunction.Value a0) = 2
call_kind (TestFunction.Count a0) = 3
call_kind (TestFunction.Search a0 a1) = 4
call_kind (TestFunction.Match a0 a1) = 5

abbrev call_kind_of : tree.Call → ℕ
call_kind_of (tree.custom_call a b) = 0
call_kind_of (tree.length_call a) = 1
call_kind_of (tree.value_call a) = 2
call_kind_of (tree.count_call a) = 3
call_kind_of (tree.search_call a b) = 4
call_kind_of (tree.match_call a b) = 5

call_kind_is : (x : TestFunction) → call_kind_of (call_view x) ≡ call_kind x
call_kind_is (TestFunction.Custom' a0 sa1 a1) = let e : call_view (TestFunction.Custom' a0 sa1 a1) ≡ tree.custom_call (string_bytes a0) (arguments_of (map argument_view (items-the_row-FnArg _ a1))) = search layers in ap call_kind_of e
call_kind_is (TestFunction.Length' pa0 a0) = let e : call_view (TestFunction.Length' pa0 a0) ≡ tree.length_call (argument_view a0) = search layers in ap call_kind_of e
call_kind_is (TestFunction.Value a0) = let e : call_view (TestFunction.Value a0) ≡ tree.value_call (argument_view a0) = search layers in ap call_kind_of e
call_kind_is (TestFunction.Count a0) = let e : call_view (TestFunction.Count a0) ≡ tree.count_call (argument_view a0) = search layers in ap call_kind_of e
call_kind_is (TestFunction.Search a0 a1) = let e : call_view (TestFunction.Search a0 a1) ≡ tree.search_call (argument_view a0) (argument_view a1) = search layers in ap call_kind_of e
call_kind_is (TestFunction.Match a0 a1) = let e : call_view (TestFunction.Match a0 a1) ≡ tree.match_call (argument_view a0) (argument_view a1) = search layers in ap call_kind_of e

-- by recursion over both values: the same variant of equal parts, or two variants
mutual
  pub comparable_same : (x y : Comparable) → Decides (comparable_eq.eq-value.it x y) (comparable_view x ≡ comparable_view y)
  comparable_same (Comparable.Literal a0) (Comparable.Literal b0) = under tree.literal_argument (λ s t h. cc) (literal_same a0 b0) (comparable_laws.is (Comparable.Literal a0) (Comparable.Literal b0) ∙ search layers) (search layers) (search layers)
  comparable_same (Comparable.Function a0) (Comparable.Function b0) = under (λ c. tree.test_argument (tree.call c)) (λ s t h. cc) (call_same a0 b0) (comparable_laws.is (Comparable.Function a0) (Comparable.Function b0) ∙ search layers) (search layers) (search layers)
  comparable_same (Comparable.SingularQuery a0) (Comparable.SingularQuery b0) = under tree.test_argument (λ s t h. cc) (singular_same a0 b0) (comparable_laws.is (Comparable.SingularQuery a0) (Comparable.SingularQuery b0) ∙ search layers) (search layers) (search layers)
  comparable_same x y = differ (comparable_laws.is x y ∙ search layers) (λ e. let k : comparable_kind x ≡ comparable_kind y = sym (comparable_kind_is x) ∙ ap comparable_kind_of e ∙ comparable_kind_is y in absurd (omega (arith, k)))

  pub comparison_same : (x y : Comparison) → Decides (comparison_eq.eq-value.it x y) (comparison_view x ≡ comparison_view y)
  comparison_same (Comparison.Eq a0 a1) (Comparison.Eq b0 b1) = under_two (tree.compare tree.equal) (λ a c b d h. (cc, cc)) (comparable_same a0 b0) (comparable_same a1 b1) (comparison_laws.is (Comparison.Eq a0 a1) (Comparison.Eq b0 b1) ∙ search layers) (search layers) (search layers)
  comparison_same (Comparison.Ne a0 a1) (Comparison.Ne b0 b1) = under_two (tree.compare tree.not_equal) (λ a c b d h. (cc, cc)) (comparable_same a0 b0) (comparable_same a1 b1) (comparison_laws.is (Comparison.Ne a0 a1) (Comparison.Ne b0 b1) ∙ search layers) (search layers) (search layers)
  comparison_same (Comparison.Gt a0 a1) (Comparison.Gt b0 b1) = under_two (tree.compare tree.greater) (λ a c b d h. (cc, cc)) (comparable_same a0 b0) (comparable_same a1 b1) (comparison_laws.is (Comparison.Gt a0 a1) (Comparison.Gt b0 b1) ∙ search layers) (search layers) (search layers)
  comparison_same (Comparison.Gte a0 a1) (Comparison.Gte b0 b1) = under_two (tree.compare tree.greater_or_equal) (λ a c b d h. (cc, cc)) (comparable_same a0 b0) (comparable_same a1 b1) (comparison_laws.is (Comparison.Gte a0 a1) (Comparison.Gte b0 b1) ∙ search layers) (search layers) (search layers)
  comparison_same (Comparison.Lt a0 a1) (Comparison.Lt b0 b1) = under_two (tree.compare tree.less) (λ a c b d h. (cc, cc)) (comparable_same a0 b0) (comparable_same a1 b1) (comparison_laws.is (Comparison.Lt a0 a1) (Comparison.Lt b0 b1) ∙ search layers) (search layers) (search layers)
  comparison_same (Comparison.Lte a0 a1) (Comparison.Lte b0 b1) = under_two (tree.compare tree.less_or_equal) (λ a c b d h. (cc, cc)) (comparable_same a0 b0) (comparable_same a1 b1) (comparison_laws.is (Comparison.Lte a0 a1) (Comparison.Lte b0 b1) ∙ search layers) (search layers) (search layers)
  comparison_same x y = differ (comparison_laws.is x y ∙ search layers) (λ e. let k : comparison_kind x ≡ comparison_kind y = sym (comparison_kind_is x) ∙ ap comparison_kind_of e ∙ comparison_kind_is y in absurd (omega (arith, k)))

  pub filter_same : (x y : Filter) → Decides (filter_eq.eq-value.it x y) (filter_view x ≡ filter_view y)
  filter_same (Filter.Or' sa0 a0) (Filter.Or' sb0 b0) = under tree.or (λ s t h. cc) (filters_same a0 b0) (filter_laws.is (Filter.Or' sa0 a0) (Filter.Or' sb0 b0) ∙ search layers) (search layers) (search layers)
  filter_same (Filter.And' sa0 a0) (Filter.And' sb0 b0) = under tree.and (λ s t h. cc) (filters_same a0 b0) (filter_laws.is (Filter.And' sa0 a0) (Filter.And' sb0 b0) ∙ search layers) (search layers) (search layers)
  filter_same (Filter.Atom a0) (Filter.Atom b0) =
      let left : filter_view (Filter.Atom a0) ≡ atom_view a0 = search layers in
      let right : filter_view (Filter.Atom b0) ≡ atom_view b0 = search layers in
      under (λ v. v) (λ s t h. h) (atom_same a0 b0) (filter_laws.is (Filter.Atom a0) (Filter.Atom b0) ∙ search layers) left right
  filter_same x y = differ (filter_laws.is x y ∙ search layers) (λ e. let k : filter_kind x ≡ filter_kind y = sym (filter_kind_is x) ∙ ap filter_kind_of e ∙ filter_kind_is y in absurd (omega (arith, k)))

  pub atom_same : (x y : FilterAtom) → Decides (atom_eq.eq-value.it x y) (atom_view x ≡ atom_view y)
  atom_same (FilterAtom.Filter' pa0 a0 a1) (FilterAtom.Filter' pb0 b0 b1) = under_two (λ f b. tree.group b f) (λ a c b d h. (cc, cc)) (filter_same a0 b0) (bool_same a1 b1) (atom_laws.is (FilterAtom.Filter' pa0 a0 a1) (FilterAtom.Filter' pb0 b0 b1) ∙ search layers) (search layers) (search layers)
  atom_same (FilterAtom.Test' pa0 a0 a1) (FilterAtom.Test' pb0 b0 b1) = under_two (λ t b. tree.Filter.test b t) (λ a c b d h. (cc, cc)) (test_same a0 b0) (bool_same a1 b1) (atom_laws.is (FilterAtom.Test' pa0 a0 a1) (FilterAtom.Test' pb0 b0 b1) ∙ search layers) (search layers) (search layers)
  atom_same (FilterAtom.Comparison' pa0 a0) (FilterAtom.Comparison' pb0 b0) =
      let left : atom_view (FilterAtom.Comparison' pa0 a0) ≡ comparison_view a0 = search layers in
      let right : atom_view (FilterAtom.Comparison' pb0 b0) ≡ comparison_view b0 = search layers in
      under (λ v. v) (λ s t h. h) (comparison_same a0 b0) (atom_laws.is (FilterAtom.Comparison' pa0 a0) (FilterAtom.Comparison' pb0 b0) ∙ search layers) left right
  atom_same x y = differ (atom_laws.is x y ∙ search layers) (λ e. let k : atom_kind x ≡ atom_kind y = sym (atom_kind_is x) ∙ ap atom_kind_of e ∙ atom_kind_is y in absurd (omega (arith, k)))

  pub argument_same : (x y : FnArg) → Decides (argument_eq.eq-value.it x y) (argument_view x ≡ argument_view y)
  argument_same (FnArg.Literal a0) (FnArg.Literal b0) = under tree.literal_argument (λ s t h. cc) (literal_same a0 b0) (argument_laws.is (FnArg.Literal a0) (FnArg.Literal b0) ∙ search layers) (search layers) (search layers)
  argument_same (FnArg.Test' pa0 a0) (FnArg.Test' pb0 b0) = under tree.test_argument (λ s t h. cc) (test_same a0 b0) (argument_laws.is (FnArg.Test' pa0 a0) (FnArg.Test' pb0 b0) ∙ search layers) (search layers) (search layers)
  argument_same (FnArg.Filter a0) (FnArg.Filter b0) = under tree.filter_argument (λ s t h. cc) (filter_same a0 b0) (argument_laws.is (FnArg.Filter a0) (FnArg.Filter b0) ∙ search layers) (search layers) (search layers)
  argument_same x y = differ (argument_laws.is x y ∙ search layers) (λ e. let k : argument_kind x ≡ argument_kind y = sym (argument_kind_is x) ∙ ap argument_kind_of e ∙ argument_kind_is y in absurd (omega (arith, k)))

  pub segment_same : (x y : Segment) → Decides (segment_eq.eq-value.it x y) (segment_view x ≡ segment_view y)
  segment_same (Segment.Descendant' pa0 a0) (Segment.Descendant' pb0 b0) = under tree.descendant (λ s t h. cc) (segment_same a0 b0) (segment_laws.is (Segment.Descendant' pa0 a0) (Segment.Descendant' pb0 b0) ∙ search layers) (search layers) (search layers)
  segment_same (Segment.Selector a0) (Segment.Selector b0) = under tree.one (λ s t h. cc) (selector_same a0 b0) (segment_laws.is (Segment.Selector a0) (Segment.Selector b0) ∙ search layers) (search layers) (search layers)
  segment_same (Segment.Selectors' sa0 a0) (Segment.Selectors' sb0 b0) = under tree.several (λ s t h. cc) (selectors_same a0 b0) (segment_laws.is (Segment.Selectors' sa0 a0) (Segment.Selectors' sb0 b0) ∙ search layers) (search layers) (search layers)
  segment_same x y = differ (segment_laws.is x y ∙ search layers) (λ e. let k : segment_kind x ≡ segment_kind y = sym (segment_kind_is x) ∙ ap segment_kind_of e ∙ segment_kind_is y in absurd (omega (arith, k)))

  pub selector_same : (x y : Selector) → Decides (selector_eq.eq-value.it x y) (selector_view x ≡ selector_view y)
  selector_same (Selector.Name a0) (Selector.Name b0) = under tree.name (λ s t h. cc) (string_same a0 b0) (selector_laws.is (Selector.Name a0) (Selector.Name b0) ∙ search layers) (search layers) (search layers)
  selector_same Selector.Wildcard Selector.Wildcard = (λ _. refl, λ _. selector_laws.is Selector.Wildcard Selector.Wildcard ∙ search layers)
  selector_same (Selector.Index a0) (Selector.Index b0) = under tree.index (λ s t h. cc) (Decides-int_eq a0 b0) (selector_laws.is (Selector.Index a0) (Selector.Index b0) ∙ search layers) (search layers) (search layers)
  selector_same (Selector.Slice a0 a1 a2) (Selector.Slice b0 b1 b2) = under_two (λ a (q : Option ℤ × Option ℤ). tree.slice a q.0 q.1) (λ a c b d h. (cc, both (cc, cc))) (part_same a0 b0) (under_two (λ (a b : Option ℤ). (a, b)) (λ a c b d h. (ap (λ q. q.0) h, ap (λ q. q.1) h)) (part_same a1 b1) (part_same a2 b2) refl refl refl) (selector_laws.is (Selector.Slice a0 a1 a2) (Selector.Slice b0 b1 b2) ∙ search layers) (search layers) (search layers)
  selector_same (Selector.Filter a0) (Selector.Filter b0) = under tree.filter (λ s t h. cc) (filter_same a0 b0) (selector_laws.is (Selector.Filter a0) (Selector.Filter b0) ∙ search layers) (search layers) (search layers)
  selector_same x y = differ (selector_laws.is x y ∙ search layers) (λ e. let k : selector_kind x ≡ selector_kind y = sym (selector_kind_is x) ∙ ap selector_kind_of e ∙ selector_kind_is y in absurd (omega (arith, k)))

  pub test_same : (x y : Test) → Decides (test_eq.eq-value.it x y) (test_view x ≡ test_view y)
  test_same (Test.RelQuery' sa0 a0) (Test.RelQuery' sb0 b0) = under tree.relative (λ s t h. cc) (segments_same a0 b0) (test_laws.is (Test.RelQuery' sa0 a0) (Test.RelQuery' sb0 b0) ∙ search layers) (search layers) (search layers)
  test_same (Test.AbsQuery' sa0 a0) (Test.AbsQuery' sb0 b0) = under tree.absolute (λ s t h. cc) (segments_same a0 b0) (test_laws.is (Test.AbsQuery' sa0 a0) (Test.AbsQuery' sb0 b0) ∙ search (layers, query_laws.is)) (search layers) (search layers)
  test_same (Test.Function' pa0 a0) (Test.Function' pb0 b0) = under tree.call (λ s t h. cc) (call_same a0 b0) (test_laws.is (Test.Function' pa0 a0) (Test.Function' pb0 b0) ∙ search layers) (search layers) (search layers)
  test_same x y = differ (test_laws.is x y ∙ search layers) (λ e. let k : test_kind x ≡ test_kind y = sym (test_kind_is x) ∙ ap test_kind_of e ∙ test_kind_is y in absurd (omega (arith, k)))

  pub call_same : (x y : TestFunction) → Decides (call_eq.eq-value.it x y) (call_view x ≡ call_view y)
  call_same (TestFunction.Custom' a0 sa1 a1) (TestFunction.Custom' b0 sb1 b1) = under_two tree.custom_call (λ a c b d h. (cc, cc)) (string_same a0 b0) (arguments_same a1 b1) (call_laws.is (TestFunction.Custom' a0 sa1 a1) (TestFunction.Custom' b0 sb1 b1) ∙ search layers) (search layers) (search layers)
  call_same (TestFunction.Length' pa0 a0) (TestFunction.Length' pb0 b0) = under tree.length_call (λ s t h. cc) (argument_same a0 b0) (call_laws.is (TestFunction.Length' pa0 a0) (TestFunction.Length' pb0 b0) ∙ search layers) (search layers) (search layers)
  call_same (TestFunction.Value a0) (TestFunction.Value b0) = under tree.value_call (λ s t h. cc) (argument_same a0 b0) (call_laws.is (TestFunction.Value a0) (TestFunction.Value b0) ∙ search layers) (search layers) (search layers)
  call_same (TestFunction.Count a0) (TestFunction.Count b0) = under tree.count_call (λ s t h. cc) (argument_same a0 b0) (call_laws.is (TestFunction.Count a0) (TestFunction.Count b0) ∙ search layers) (search layers) (search layers)
  call_same (TestFunction.Search a0 a1) (TestFunction.Search b0 b1) = under_two tree.search_call (λ a c b d h. (cc, cc)) (argument_same a0 b0) (argument_same a1 b1) (call_laws.is (TestFunction.Search a0 a1) (TestFunction.Search b0 b1) ∙ search layers) (search layers) (search layers)
  call_same (TestFunction.Match a0 a1) (TestFunction.Match b0 b1) = under_two tree.match_call (λ a c b d h. (cc, cc)) (argument_same a0 b0) (argument_same a1 b1) (call_laws.is (TestFunction.Match a0 a1) (TestFunction.Match b0 b1) ∙ search layers) (search layers) (search layers)
  call_same x y = differ (call_laws.is x y ∙ search layers) (λ e. let k : call_kind x ≡ call_kind y = sym (call_kind_is x) ∙ ap call_kind_of e ∙ call_kind_is y in absurd (omega (arith, k)))

  pub segments_same : {n m : _} (k : Row_of-Segment n) (l : Row_of-Segment m) → Decides (pointwise segment_eq.eq-value.it (items-the_row-Segment n k) (items-the_row-Segment m l)) (segments_of (map segment_view (items-the_row-Segment n k)) ≡ segments_of (map segment_view (items-the_row-Segment m l)))
  segments_same end_of-Segment end_of-Segment = (λ _. refl, λ _. refl)
  segments_same end_of-Segment (more_of-Segment y l) = differ refl (λ h. cc)
  segments_same (more_of-Segment x k) end_of-Segment = differ refl (λ h. cc)
  segments_same (more_of-Segment x k) (more_of-Segment y l) = under_two tree.segment (λ a c b d h. (cc, cc)) (segment_same x y) (segments_same k l) refl refl refl

  pub selectors_same : {n m : _} (k : Row_of-Selector n) (l : Row_of-Selector m) → Decides (pointwise selector_eq.eq-value.it (items-the_row-Selector n k) (items-the_row-Selector m l)) (selectors_of (map selector_view (items-the_row-Selector n k)) ≡ selectors_of (map selector_view (items-the_row-Selector m l)))
  selectors_same end_of-Selector end_of-Selector = (λ _. refl, λ _. refl)
  selectors_same end_of-Selector (more_of-Selector y l) = differ refl (λ h. cc)
  selectors_same (more_of-Selector x k) end_of-Selector = differ refl (λ h. cc)
  selectors_same (more_of-Selector x k) (more_of-Selector y l) = under_two tree.selector (λ a c b d h. (cc, cc)) (selector_same x y) (selectors_same k l) refl refl refl

  pub filters_same : {n m : _} (k : Row_of-Filter n) (l : Row_of-Filter m) → Decides (pointwise filter_eq.eq-value.it (items-the_row-Filter n k) (items-the_row-Filter m l)) (filters_of (map filter_view (items-the_row-Filter n k)) ≡ filters_of (map filter_view (items-the_row-Filter m l)))
  filters_same end_of-Filter end_of-Filter = (λ _. refl, λ _. refl)
  filters_same end_of-Filter (more_of-Filter y l) = differ refl (λ h. cc)
  filters_same (more_of-Filter x k) end_of-Filter = differ refl (λ h. cc)
  filters_same (more_of-Filter x k) (more_of-Filter y l) = under_two tree.filter_then (λ a c b d h. (cc, cc)) (filter_same x y) (filters_same k l) refl refl refl

  pub arguments_same : {n m : _} (k : Row_of-FnArg n) (l : Row_of-FnArg m) → Decides (pointwise argument_eq.eq-value.it (items-the_row-FnArg n k) (items-the_row-FnArg m l)) (arguments_of (map argument_view (items-the_row-FnArg n k)) ≡ arguments_of (map argument_view (items-the_row-FnArg m l)))
  arguments_same end_of-FnArg end_of-FnArg = (λ _. refl, λ _. refl)
  arguments_same end_of-FnArg (more_of-FnArg y l) = differ refl (λ h. cc)
  arguments_same (more_of-FnArg x k) end_of-FnArg = differ refl (λ h. cc)
  arguments_same (more_of-FnArg x k) (more_of-FnArg y l) = under_two tree.argument (λ a c b d h. (cc, cc)) (argument_same x y) (arguments_same k l) refl refl refl

pub query_items : (xs ys : List Segment) → Decides (pointwise segment_eq.eq-value.it xs ys) (segments_of (map segment_view xs) ≡ segments_of (map segment_view ys))
query_items [] [] = (λ _. refl, λ _. refl)
query_items [] (y ∷ ys) = differ refl (λ h. cc)
query_items (x ∷ xs) [] = differ refl (λ h. cc)
query_items (x ∷ xs) (y ∷ ys) = under_two tree.segment (λ a c b d h. (cc, cc)) (segment_same x y) (query_items xs ys) refl refl refl

pub query_same : (x y : JpQuery) → Decides (query_eq.eq-value.it x y) (query_view x ≡ query_view y)
query_same x y = under (λ v. v) (λ s t h. h) (query_items x.segments.items y.segments.items) (query_laws.is x y ∙ search layers) (query_view-segments x) (query_view-segments y)
