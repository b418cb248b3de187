-- What is asked of a tree, seen through its answers: the first fault tells whether there is one.
use Rattle.std.proofs.Common.{◌≡◌, Bool, true, false, ◌&&◌, ℕ, List, [], ◌∷◌, map, Option, Some, None, refl, ◌∙◌, ap}
use Rattle.std.specs.Option.{is_none}
use Rattle.std.specs.Borrow.{Bor}
use Rattle.jsonpath_parser.specs.Prelude.{absolute, Argument, Call, Filter, is_singular, is_typed, is_typed_call, is_typed_filter, is_typed_segment, is_typed_selector, is_typed_side, relative, Segment, segments_of, Selector, SingularQuerySegment, step_view, Test, test_argument}
use Rattle.jsonpath_parser.specs.tree.Syntax as tree
use Rattle.jsonpath_parser.specs.tree.Typing.{TreeFold, is_truth_test, is_typed_test, is_value_argument, over_argument, over_arguments, over_call, over_filter, over_filters, over_segment, over_segments, over_selector, over_selectors, over_side, over_test, takes, typing}
use Rattle.jsonpath_parser.specs.tree.Reach.{first_other, is_local, is_one_of, locality, or_else, other_names}
use Rattle.jsonpath_parser.specs.inner.Faults.{faults, root_fault, side_fault, test_fault, unless}
use Rattle.jsonpath_parser.specs.declared.tree.asking.Question.{Question}
use Rattle.jsonpath_parser.specs.declared.tree.asking.Question.TheVariants.{Typed, Local, Known}
use Rattle.jsonpath_parser.specs.declared.tree.model.SingularQuerySegment.TheVariants.{Index, Name}
use Rattle.jsonpath_parser.proofs.laws.tree.Steps.{steps_singular}

-- what is seen of the answers to one question are those to another
record IsSeen {A B : Type 0} (see : A → B) (a : TreeFold A) (b : TreeFold B) : Type 0 where
  none : see a.none ≡ b.none
  both : (x y : A) → see (a.both x y) ≡ b.both (see x) (see y)
  of_test : (t : Test) → see (a.of_test t) ≡ b.of_test t
  of_side : (x : Argument) → see (a.of_side x) ≡ b.of_side x
  of_root : see a.of_root ≡ b.of_root
  of_call : (c : Call) → see (a.of_call c) ≡ b.of_call c

module _ {A B : Type 0} (see : A → B) (a : TreeFold A) (b : TreeFold B) (seen : IsSeen see a b) where
  joined : (x y : A) (v w : B) → see x ≡ v → see y ≡ w → see (a.both x y) ≡ b.both v w
  joined x y v w e f = seen.both x y ∙ ap (λ p. b.both p (see y)) e ∙ ap (b.both v) f

  mutual
    over_segments_seen : (gs : tree.Segments) → see (over_segments a gs) ≡ over_segments b gs
    over_segments_seen tree.no_segments = seen.none
    over_segments_seen (tree.segment g gs) = joined _ _ _ _ (over_segment_seen g) (over_segments_seen gs)

    over_segment_seen : (g : Segment) → see (over_segment a g) ≡ over_segment b g
    over_segment_seen (tree.one s) = over_selector_seen s
    over_segment_seen (tree.several ss) = over_selectors_seen ss
    over_segment_seen (tree.descendant g) = over_segment_seen g

    over_selectors_seen : (ss : tree.Selectors) → see (over_selectors a ss) ≡ over_selectors b ss
    over_selectors_seen tree.no_selectors = seen.none
    over_selectors_seen (tree.selector s ss) = joined _ _ _ _ (over_selector_seen s) (over_selectors_seen ss)

    over_selector_seen : (s : Selector) → see (over_selector a s) ≡ over_selector b s
    over_selector_seen (tree.name n) = seen.none
    over_selector_seen tree.wildcard = seen.none
    over_selector_seen (tree.index i) = seen.none
    over_selector_seen (tree.slice start end step) = seen.none
    over_selector_seen (tree.filter f) = over_filter_seen f

    over_filter_seen : (f : Filter) → see (over_filter a f) ≡ over_filter b f
    over_filter_seen (tree.or fs) = over_filters_seen fs
    over_filter_seen (tree.and fs) = over_filters_seen fs
    over_filter_seen (tree.group negated f) = over_filter_seen f
    over_filter_seen (tree.Filter.test negated t) = joined _ _ _ _ (seen.of_test t) (over_test_seen t)
    over_filter_seen (tree.compare op l r) = joined _ _ _ _ (joined _ _ _ _ (seen.of_side l) (over_argument_seen l)) (joined _ _ _ _ (seen.of_side r) (over_argument_seen r))

    over_filters_seen : (fs : tree.Filters) → see (over_filters a fs) ≡ over_filters b fs
    over_filters_seen tree.no_filters = seen.none
    over_filters_seen (tree.filter_then f fs) = joined _ _ _ _ (over_filter_seen f) (over_filters_seen fs)

    over_test_seen : (t : Test) → see (over_test a t) ≡ over_test b t
    over_test_seen (tree.relative gs) = over_segments_seen gs
    over_test_seen (tree.absolute gs) = joined _ _ _ _ seen.of_root (over_segments_seen gs)
    over_test_seen (tree.call c) = over_call_seen c

    over_call_seen : (c : Call) → see (over_call a c) ≡ over_call b c
    over_call_seen (tree.custom_call n xs) = joined _ _ _ _ (seen.of_call (tree.custom_call n xs)) (over_arguments_seen xs)
    over_call_seen (tree.length_call x) = joined _ _ _ _ (seen.of_call (tree.length_call x)) (over_argument_seen x)
    over_call_seen (tree.value_call x) = joined _ _ _ _ (seen.of_call (tree.value_call x)) (over_argument_seen x)
    over_call_seen (tree.count_call x) = joined _ _ _ _ (seen.of_call (tree.count_call x)) (over_argument_seen x)
    over_call_seen (tree.search_call x y) = joined _ _ _ _ (seen.of_call (tree.search_call x y)) (joined _ _ _ _ (over_argument_seen x) (over_argument_seen y))
    over_call_seen (tree.match_call x y) = joined _ _ _ _ (seen.of_call (tree.match_call x y)) (joined _ _ _ _ (over_argument_seen x) (over_argument_seen y))

    over_argument_seen : (x : Argument) → see (over_argument a x) ≡ over_argument b x
    over_argument_seen (tree.literal_argument l) = seen.none
    over_argument_seen (tree.test_argument t) = over_test_seen t
    over_argument_seen (tree.filter_argument f) = over_filter_seen f

    over_arguments_seen : (xs : tree.Arguments) → see (over_arguments a xs) ≡ over_arguments b xs
    over_arguments_seen tree.no_arguments = seen.none
    over_arguments_seen (tree.argument x xs) = joined _ _ _ _ (over_argument_seen x) (over_arguments_seen xs)

  over_side_seen : (x : Argument) → see (over_side a x) ≡ over_side b x
  over_side_seen x = joined _ _ _ _ (seen.of_side x) (over_argument_seen x)

none_unless : (b : Bool) → is_none (unless b) ≡ b
none_unless true = refl
none_unless false = refl

none_of_both : (x y : Option (List ℕ)) → is_none (or_else x y) ≡ (is_none x && is_none y)
none_of_both None y = refl
none_of_both (Some a) y = refl

typed_seen : IsSeen is_none (faults Typed) typing
typed_seen = record { none = refl; both = none_of_both; of_test = λ t. none_unless (is_truth_test t); of_side = λ x. none_unless (is_value_argument x); of_root = refl; of_call = λ c. none_unless (takes c) }

local_seen : IsSeen is_none (faults Local) locality
local_seen = record { none = refl; both = none_of_both; of_test = λ t. refl; of_side = λ x. refl; of_root = refl; of_call = λ c. refl }

pub typed_segments : (gs : tree.Segments) → is_none (over_segments (faults Typed) gs) ≡ is_typed gs
typed_segments = over_segments_seen is_none (faults Typed) typing typed_seen

pub typed_segment : (g : Segment) → is_none (over_segment (faults Typed) g) ≡ is_typed_segment g
typed_segment = over_segment_seen is_none (faults Typed) typing typed_seen

pub typed_selector : (s : Selector) → is_none (over_selector (faults Typed) s) ≡ is_typed_selector s
typed_selector = over_selector_seen is_none (faults Typed) typing typed_seen

pub typed_filter : (f : Filter) → is_none (over_filter (faults Typed) f) ≡ is_typed_filter f
typed_filter = over_filter_seen is_none (faults Typed) typing typed_seen

pub typed_side : (x : Argument) → is_none (over_side (faults Typed) x) ≡ is_typed_side x
typed_side = over_side_seen is_none (faults Typed) typing typed_seen

pub typed_test : (t : Test) → is_none (over_test (faults Typed) t) ≡ is_typed_test t
typed_test = over_test_seen is_none (faults Typed) typing typed_seen

pub truth_test : (t : Test) → is_none (test_fault Typed t) ≡ is_truth_test t
truth_test t = none_unless (is_truth_test t)

pub typed_call : (c : Call) → is_none (over_call (faults Typed) c) ≡ is_typed_call c
typed_call = over_call_seen is_none (faults Typed) typing typed_seen

pub local_segments : (gs : tree.Segments) → is_none (over_segments (faults Local) gs) ≡ is_local gs
local_segments = over_segments_seen is_none (faults Local) locality local_seen

known_seen : (names : Bor (List (Bor (List ℕ)))) → IsSeen (λ o. o) (faults (Known names)) (other_names (is_one_of names.now))
known_seen names = record { none = refl; both = λ x y. refl; of_test = λ t. refl; of_side = λ x. refl; of_root = refl; of_call = λ c. refl }

pub known_segments : (names : Bor (List (Bor (List ℕ)))) (gs : tree.Segments) → over_segments (faults (Known names)) gs ≡ first_other (is_one_of names.now) gs
known_segments names = over_segments_seen (λ o. o) (faults (Known names)) (other_names (is_one_of names.now)) (known_seen names)

-- the steps of a singular query have no fault, but that it may stand at the root
steps_fault : (q : Question) (ss : List SingularQuerySegment) → over_segments (faults q) (segments_of (map step_view ss)) ≡ None
steps_fault q [] = refl
steps_fault q (Index i ∷ ss) = steps_fault q ss
steps_fault q (Name s ∷ ss) = steps_fault q ss

no_fault : (b : Bool) → b ≡ true → unless b ≡ None
no_fault b h = rw h refl

pub current_fault : (q : Question) (ss : List SingularQuerySegment) → over_side (faults q) (test_argument (relative (segments_of (map step_view ss)))) ≡ None
current_fault Typed ss = rw (no_fault _ (steps_singular ss)) (steps_fault Typed ss)
current_fault Local ss = steps_fault Local ss
current_fault (Known names) ss = steps_fault (Known names) ss

pub rooted_fault : (q : Question) (ss : List SingularQuerySegment) → over_side (faults q) (test_argument (absolute (segments_of (map step_view ss)))) ≡ root_fault q
rooted_fault Typed ss = rw (no_fault _ (steps_singular ss)) (steps_fault Typed ss)
rooted_fault Local ss = refl
rooted_fault (Known names) ss = steps_fault (Known names) ss
