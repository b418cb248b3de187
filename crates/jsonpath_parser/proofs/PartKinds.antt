-- Each kind of tree is read as it is spelled.
use Rattle.std.proofs.Common.{◌≡◌, ℕ, suc, ◌<◌, ◌≤◌, ◌==◌, Bool, true, false, ℤ, List, [], ◌∷◌, ◌++◌, length, codes, Option, Some, le_refl, refl, sym, ap, ◌∙◌, subst, inl, inr, append-nil, arith, IsTrue}
use Rattle.std.proofs.lemmas.Option.{cond_some}
use Rattle.jsonpath_parser.specs.Prelude.{absolute, always, and, Any, Argument, argument_at, Between, Call, call, comparable_of, descendant, descendant_at, Filter, filter, filter_argument, filter_of, first, index, is_basic, is_comparison, is_int_first, is_singular_test, is_typed, is_typed_call, is_typed_filter, is_typed_segment, is_typed_selector, is_typed_side, IsAny, IsUnambiguous, IsValued, Literal, literal_argument, name, number_reading, numbered_at, NumberMode, one, or, Query, Read, relative, Segment, Segments, selection_at, Selector, several, shorthand_at, skip_blank, slice, slice_in, Spelling, Spells, SpellsArgument, SpellsBasic, SpellsCall, SpellsChild, SpellsComparable, SpellsComparison, SpellsConjunction, SpellsLiteral, SpellsLogical, SpellsNumber, SpellsRelative, SpellsSegment, SpellsSegments, SpellsSelector, SpellsSelectors, SpellsShorthand, SpellsSingular, SpellsSliceParts, SpellsSteps, SpellsTest, steps_in, taken_at, Test, test, test_argument, Valued, wildcard}
use Rattle.jsonpath_parser.specs.inner.ReadingParts.{inner_at, operand_in, basic_in, conjunction_in, logical_in, segments_in, segment_in, selector_in, child_in, literal_in, test_in, call_in, relative_in, query_in, singular_of, singular_in, where_it_is, atom_in, comparison_in}
use Rattle.jsonpath_parser.specs.tree.Typing.{is_typed_truth}
use Rattle.jsonpath_parser.proofs.Complete.{valued_start, valued_over, any_start, any_over, complete_argument}
use Rattle.jsonpath_parser.proofs.CompleteFilters.{complete_basic, complete_conjunction}
use Rattle.jsonpath_parser.proofs.CompleteOperands.{comparable_back, complete_literal, complete_test, complete_comparable, steps_made}
use Rattle.jsonpath_parser.proofs.CompleteParts.{EndsLogical, complete_shorthand, shorthand_start}
use Rattle.jsonpath_parser.proofs.CompleteSegments.{as_argument, filter_back, between_start, complete_logical, complete_one, complete_several, complete_segment, complete_all_segments}
use Rattle.jsonpath_parser.proofs.NumberComplete.{EndsNumber}
use Rattle.jsonpath_parser.proofs.PartLaws.{as_read, Law}
use Rattle.jsonpath_parser.proofs.PartSelectors.{whole_slice, whole_selector}
use Rattle.jsonpath_parser.proofs.Respelling.{from_any, as_any, and_alike, literal_again, selector_again, below_again, segment_again, segments_again, logical_again, conjunction_again, basic_again, comparison_again, comparable_again, test_again, call_again, query_again}
use Rattle.jsonpath_parser.proofs.Sound.{valued_sound, any_sound, sound_argument}
use Rattle.jsonpath_parser.proofs.SoundFilters.{SpellsAlone, SpellsBasicArgument, SpellsConjunctionArgument, basic_operand, conjunction_operand, comparable_spelled, sound_operand, sound_basic, sound_conjunction}
use Rattle.jsonpath_parser.proofs.SoundParts.{bind_ok, chosen, same_parts, Spelled, sound_numbered}
use Rattle.jsonpath_parser.proofs.SoundSegments.{steps_spelled, sound_logical, sound_selector, sound_descendant, sound_segment, sound_all_segments}
use Rattle.jsonpath_parser.proofs.Unambiguous.{query_unambiguous, segments_unambiguous, segment_unambiguous, child_unambiguous, selector_unambiguous, slice_unambiguous, logical_unambiguous, conjunction_unambiguous, basic_unambiguous, comparison_unambiguous, comparable_unambiguous, literal_unambiguous, singular_unambiguous, steps_unambiguous, test_unambiguous, relative_unambiguous, call_unambiguous}
use Rattle.jsonpath_parser.proofs.Whole.{as_written}
use Rattle.jsonpath_parser.proofs.Widening.{literal_wider, selector_wider, segment_wider, segments_wider, logical_wider, conjunction_wider, basic_wider, comparison_wider, comparable_wider, test_wider, call_wider, spells_wider}

-- ---- trees that are made of others

taken_is : {X V : Type 0} (take : X → Option V) (typed : V → Bool) (r : Read X) (v : V) (rest : List ℕ) → taken_at take typed r ≡ Some (v, rest)
    → (x : X) × (r ≡ Some (x, rest)) × (take x ≡ Some v) × (typed v ≡ true)
unfolding taken_at
taken_is {X} {V} take typed r v rest e =
    let (p, read, e1) = bind_ok _ r _ e in
    let (w, is, e2) = bind_ok _ (take p.0) _ e1 in
    let (holds, same) = cond_some (typed w) (w, p.1) (v, rest) e2 in
    let tree : w ≡ v = ap (λ (q : V × List ℕ). q.0) same in
    let after : p.1 ≡ rest = ap (λ (q : V × List ℕ). q.1) same in
    (p.0, read ∙ ap (λ s. Some (p.0, s)) after, is ∙ ap (λ u. Some u) tree, subst (λ u. typed u ≡ true) tree holds)

taken_made : {X V : Type 0} (take : X → Option V) (typed : V → Bool) (r : Read X) (x : X) (v : V) (rest : List ℕ) → r ≡ Some (x, rest) → take x ≡ Some v → typed v ≡ true → taken_at take typed r ≡ Some (v, rest)
unfolding taken_at
taken_made take typed r x v rest read is holds = rw (read, is, holds) refl

-- the law of a kind, from that of the kind that it is made of
taken_law : {X V : Type 0} (spells_base : Spelling X) (spells : Spelling V) (take : X → Option V) (typed : V → Bool) (base : NumberMode → List ℕ → Read X)
    → ((numbers : NumberMode) (x : X) (text rest : List ℕ) → base numbers text ≡ Some (x, rest) → Spelled (spells_base (as_read numbers)) x text rest)
    → ((numbers : NumberMode) (x : X) (v : V) (a : List ℕ) → spells_base (as_read numbers) x a → take x ≡ Some v → spells (as_read numbers) v a)
    → ((numbers : NumberMode) (v : V) (text : List ℕ) → spells (as_read numbers) v text → (x : X) × (base numbers text ≡ Some (x, [])) × (take x ≡ Some v))
    → ((v : V) (text : List ℕ) → spells IsValued v text → spells SpellsNumber v text)
    → IsUnambiguous spells
    → ((N M : Option ℤ → List ℕ → Type 0) → ((n : Option ℤ) (a : List ℕ) → N n a → (m : Option ℤ) × M m a) → (v : V) (text : List ℕ) → spells N v text → (w : V) × spells M w text × (typed w ≡ typed v))
    → Law spells typed (λ numbers text. taken_at take typed (base numbers text))
taken_law spells_base spells take typed base front is back wider law again = record {
  sound = λ numbers v text rest e.
      let (x, read, made, holds) = taken_is take typed (base numbers text) v rest e in
      let (a, ha, ea) = front numbers x text rest read in
      (a, is numbers x v a ha made, holds, ea);
  complete = λ numbers v text h holds.
      let (x, read, made) = back numbers v text h in
      taken_made take typed (base numbers text) x v [] read made holds;
  one_tree = λ v w text h k. law.written w v text k (wider v text h);
  from_any = again IsAny SpellsNumber from_any;
  as_any = again SpellsNumber IsAny as_any;
}

-- a kind that is read as it is
same_tree : {V : Type 0} (spells : Spelling V) (numbers : NumberMode) (x v : V) (a : List ℕ) → spells (as_read numbers) x a → Some x ≡ Some v → spells (as_read numbers) v a
same_tree spells numbers x v a h e = let same : x ≡ v = cc in subst (λ u. spells (as_read numbers) u a) same h

-- ---- number literals, and arguments inside

as_start : (numbers : NumberMode) (v : Option ℤ) (a more : List ℕ) → as_read numbers v a → is_int_first (first (a ++ more)) ≡ true
as_start Valued = valued_start
as_start Any = any_start

as_over : (numbers : NumberMode) (v : Option ℤ) (a more : List ℕ) → as_read numbers v a → EndsNumber more → number_reading numbers (a ++ more) ≡ Some (v, more)
as_over Valued = valued_over
as_over Any = any_over

as_sound : (numbers : NumberMode) (v : Option ℤ) (text rest : List ℕ) → number_reading numbers text ≡ Some (v, rest) → Spelled (as_read numbers) v text rest
as_sound Valued = valued_sound
as_sound Any = any_sound

inner_read : (numbers : NumberMode) (n : ℕ) (x : Argument) (a more : List ℕ) → SpellsArgument (as_read numbers) x a → EndsLogical more → length (a ++ more) < n → argument_at (number_reading numbers) n (a ++ more) ≡ Some (x, more)
inner_read numbers = complete_argument (as_read numbers) (as_start numbers) (number_reading numbers) (as_over numbers)

inner_sound : (numbers : NumberMode) (n : ℕ) (x : Argument) (text rest : List ℕ) → argument_at (number_reading numbers) n text ≡ Some (x, rest) → Spelled (SpellsArgument (as_read numbers)) x text rest
inner_sound numbers = sound_argument (as_read numbers) (number_reading numbers) (as_sound numbers)

-- a text with nothing behind it
all_of : (text : List ℕ) → length (text ++ []) ≤ length text
all_of text = rw append-nil (le_refl (length text))

-- ---- operands

operand_front : (numbers : NumberMode) (x : Argument) (text rest : List ℕ) → operand_in numbers text ≡ Some (x, rest) → Spelled (SpellsAlone (as_read numbers)) x text rest
operand_front numbers x text rest e = sound_operand (as_read numbers) (number_reading numbers) (as_sound numbers) (inner_at numbers text) (inner_sound numbers (length text)) x text rest e

literal_back : (numbers : NumberMode) (l : Literal) (text : List ℕ) → SpellsLiteral (as_read numbers) l text → operand_in numbers text ≡ Some (literal_argument l, [])
unfolding skip_blank
literal_back numbers l text h =
    rw append-nil at (complete_literal (as_read numbers) (as_start numbers) (number_reading numbers) (as_over numbers) (inner_at numbers text) (length text) (inner_read numbers (length text)) l text [] h refl)

test_back : (numbers : NumberMode) (t : Test) (text : List ℕ) → SpellsTest (as_read numbers) t text → operand_in numbers text ≡ Some (test_argument t, [])
unfolding skip_blank
test_back numbers t text h =
    rw append-nil at (complete_test (as_read numbers) (as_start numbers) (number_reading numbers) (as_over numbers) (inner_at numbers text) (length text) (inner_read numbers (length text)) t text [] h refl (all_of text))

comparable_back_at : (numbers : NumberMode) (x : Argument) (text : List ℕ) → SpellsComparable (as_read numbers) x text → operand_in numbers text ≡ Some (x, [])
unfolding skip_blank
comparable_back_at numbers x text h =
    rw append-nil at (complete_comparable (as_read numbers) (as_start numbers) (number_reading numbers) (as_over numbers) (inner_at numbers text) (length text) (inner_read numbers (length text)) x text [] h refl (all_of text))

literal_is : (numbers : NumberMode) (x : Argument) (l : Literal) (a : List ℕ) → SpellsAlone (as_read numbers) x a → literal_in x ≡ Some l → SpellsLiteral (as_read numbers) l a
literal_is numbers (literal_argument k) l a h e = same_tree SpellsLiteral numbers k l a h e
literal_is numbers (test_argument t) l a h e = absurd (cc)
literal_is numbers (filter_argument f) l a h e = absurd (cc)

pub literal_law : Law SpellsLiteral always (λ numbers text. taken_at literal_in always (operand_in numbers text))
literal_law = taken_law SpellsAlone SpellsLiteral literal_in always operand_in operand_front literal_is (λ numbers l text h. (literal_argument l, literal_back numbers l text h, refl)) (literal_wider IsValued SpellsNumber as_written) literal_unambiguous (λ N M again v a h. let (w, k) = literal_again N M again v a h in (w, k, refl))

test_is : (numbers : NumberMode) (x : Argument) (t : Test) (a : List ℕ) → SpellsAlone (as_read numbers) x a → test_in x ≡ Some t → SpellsTest (as_read numbers) t a
test_is numbers (literal_argument k) t a h e = absurd (cc)
test_is numbers (test_argument u) t a h e = same_tree SpellsTest numbers u t a h e
test_is numbers (filter_argument f) t a h e = absurd (cc)

pub test_law : Law SpellsTest is_typed_truth (λ numbers text. taken_at test_in is_typed_truth (operand_in numbers text))
test_law = taken_law SpellsAlone SpellsTest test_in is_typed_truth operand_in operand_front test_is (λ numbers t text h. (test_argument t, test_back numbers t text h, refl)) (test_wider IsValued SpellsNumber as_written) test_unambiguous (λ N M again v a h. let (w, k, alike) = test_again N M again v a h in (w, k, and_alike alike.1 alike.0))

call_is : (numbers : NumberMode) (x : Argument) (c : Call) (a : List ℕ) → SpellsAlone (as_read numbers) x a → call_in x ≡ Some c → SpellsCall (as_read numbers) c a
call_is numbers (literal_argument k) c a h e = absurd (cc)
call_is numbers (test_argument (relative gs)) c a h e = absurd (cc)
call_is numbers (test_argument (absolute gs)) c a h e = absurd (cc)
call_is numbers (test_argument (call d)) c a h e = same_tree SpellsCall numbers d c a h e
call_is numbers (filter_argument f) c a h e = absurd (cc)

pub call_law : Law SpellsCall is_typed_call (λ numbers text. taken_at call_in is_typed_call (operand_in numbers text))
call_law = taken_law SpellsAlone SpellsCall call_in is_typed_call operand_in operand_front call_is (λ numbers c text h. (test_argument (call c), test_back numbers (call c) text h, refl)) (call_wider IsValued SpellsNumber as_written) call_unambiguous (λ N M again v a h. let (w, k, alike) = call_again N M again v a h in (w, k, alike.0))

relative_is : (numbers : NumberMode) (x : Argument) (gs : Segments) (a : List ℕ) → SpellsAlone (as_read numbers) x a → relative_in x ≡ Some gs → SpellsRelative (as_read numbers) gs a
relative_is numbers (literal_argument k) gs a h e = absurd (cc)
relative_is numbers (test_argument (relative hs)) gs a h e = same_tree SpellsRelative numbers hs gs a h e
relative_is numbers (test_argument (absolute hs)) gs a h e = absurd (cc)
relative_is numbers (test_argument (call d)) gs a h e = absurd (cc)
relative_is numbers (filter_argument f) gs a h e = absurd (cc)

pub relative_law : Law SpellsRelative is_typed (λ numbers text. taken_at relative_in is_typed (operand_in numbers text))
relative_law = taken_law SpellsAlone SpellsRelative relative_in is_typed operand_in operand_front relative_is (λ numbers gs text h. (test_argument (relative gs), test_back numbers (relative gs) text h, refl)) (λ gs. test_wider IsValued SpellsNumber as_written (relative gs)) relative_unambiguous (λ N M again v a h. let (x, hx, e) = h in let (w, k, alike) = segments_again N M again v x hx in (w, (x, k, e), alike.0))

query_is : (numbers : NumberMode) (x : Argument) (q : Query) (a : List ℕ) → SpellsAlone (as_read numbers) x a → query_in x ≡ Some q → Spells (as_read numbers) q a
query_is numbers (literal_argument k) q a h e = absurd (cc)
query_is numbers (test_argument (relative hs)) q a h e = absurd (cc)
query_is numbers (test_argument (absolute hs)) q a h e = same_tree Spells numbers hs q a h e
query_is numbers (test_argument (call d)) q a h e = absurd (cc)
query_is numbers (filter_argument f) q a h e = absurd (cc)

pub query_law : Law Spells is_typed (λ numbers text. taken_at query_in is_typed (operand_in numbers text))
query_law = taken_law SpellsAlone Spells query_in is_typed operand_in operand_front query_is (λ numbers q text h. (test_argument (absolute q), test_back numbers (absolute q) text h, refl)) (spells_wider IsValued SpellsNumber as_written) query_unambiguous query_again

comparable_is : (numbers : NumberMode) (x c : Argument) (a : List ℕ) → SpellsAlone (as_read numbers) x a → comparable_of x ≡ Some c → SpellsComparable (as_read numbers) c a
comparable_is numbers = comparable_spelled (as_read numbers)

pub comparable_law : Law SpellsComparable is_typed_side (λ numbers text. taken_at comparable_of is_typed_side (operand_in numbers text))
comparable_law = taken_law SpellsAlone SpellsComparable comparable_of is_typed_side operand_in operand_front comparable_is (λ numbers x text h. (x, comparable_back_at numbers x text h, comparable_back x h.0)) (comparable_wider IsValued SpellsNumber as_written) comparable_unambiguous comparable_again

singular_side : (numbers : NumberMode) (x : Argument) (q : Test) (a : List ℕ) → SpellsComparable (as_read numbers) x a → singular_of x ≡ Some q → SpellsSingular (as_read numbers) q a
singular_side numbers (literal_argument l) q a h e = absurd (cc)
singular_side numbers (test_argument (relative gs)) q a h e = same_tree SpellsSingular numbers (relative gs) q a h e
singular_side numbers (test_argument (absolute gs)) q a h e = same_tree SpellsSingular numbers (absolute gs) q a h e
singular_side numbers (test_argument (call c)) q a h e = absurd (cc)
singular_side numbers (filter_argument f) q a h e = absurd (cc)

singular_is : (numbers : NumberMode) (x : Argument) (q : Test) (a : List ℕ) → SpellsAlone (as_read numbers) x a → singular_in x ≡ Some q → SpellsSingular (as_read numbers) q a
singular_is numbers x q a h e =
    let (c, is, e1) = bind_ok _ (comparable_of x) _ e in
    singular_side numbers c q a (comparable_is numbers x c a h is) e1

singular_made : (q : Test) → IsTrue (is_singular_test q) → singular_in (test_argument q) ≡ Some q
singular_made (relative gs) h = rw (steps_made gs h) refl
singular_made (absolute gs) h = rw (steps_made gs h) refl
singular_made (call c) h = absurd (cc)

pub singular_law : Law SpellsSingular always (λ numbers text. taken_at singular_in always (operand_in numbers text))
singular_law = taken_law SpellsAlone SpellsSingular singular_in always operand_in operand_front singular_is (λ numbers q text h. (test_argument q, test_back numbers q text h.1, singular_made q h.0)) (λ q a h. (h.0, test_wider IsValued SpellsNumber as_written q a h.1)) singular_unambiguous (λ N M again q a h. let (u, k, alike) = test_again N M again q a h.1 in (u, (alike.5 ∙ h.0, k), refl))

-- ---- operands of `&&` and of `||`

basic_front : (numbers : NumberMode) (x : Argument) (text rest : List ℕ) → basic_in numbers text ≡ Some (x, rest) → Spelled (SpellsBasicArgument (as_read numbers)) x text rest
basic_front numbers x text rest e = sound_basic (as_read numbers) (number_reading numbers) (as_sound numbers) (inner_at numbers text) (inner_sound numbers (length text)) x text rest e

basic_back : (numbers : NumberMode) (x : Filter) (text : List ℕ) → SpellsBasic (as_read numbers) x text → basic_in numbers text ≡ Some (as_argument x, [])
unfolding skip_blank
basic_back numbers x text h =
    rw append-nil at (complete_basic (as_read numbers) (as_start numbers) (number_reading numbers) (as_over numbers) (inner_at numbers text) (length text) (inner_read numbers (length text)) x text [] h refl (all_of text))

-- a filter that passes a test
passes : (keeps : Filter → Bool) (f x : Filter) → where_it_is keeps f ≡ Some x → (keeps f ≡ true) × (f ≡ x)
passes keeps f x e = cond_some (keeps f) f x e

atom_is : (numbers : NumberMode) (x : Argument) (y : Filter) (a : List ℕ) → SpellsBasicArgument (as_read numbers) x a → atom_in x ≡ Some y → SpellsBasic (as_read numbers) y a
atom_is numbers x y a h e =
    let (f, is, e1) = bind_ok _ (filter_of x) _ e in
    subst (λ v. SpellsBasic (as_read numbers) v a) (passes is_basic f y e1).1 (basic_operand (as_read numbers) x f a h is)

atom_made : (x : Filter) → IsTrue (is_basic x) → atom_in (as_argument x) ≡ Some x
atom_made x h = rw (filter_back x, h) refl

pub atom_law : Law SpellsBasic is_typed_filter (λ numbers text. taken_at atom_in is_typed_filter (basic_in numbers text))
atom_law = taken_law SpellsBasicArgument SpellsBasic atom_in is_typed_filter basic_in basic_front atom_is (λ numbers x text h. (as_argument x, basic_back numbers x text h, atom_made x h.0)) (basic_wider IsValued SpellsNumber as_written) basic_unambiguous (λ N M again v a h. let (w, k, alike) = basic_again N M again v a h in (w, k, alike.0))

comparison_is : (numbers : NumberMode) (x : Argument) (c : Filter) (a : List ℕ) → SpellsBasicArgument (as_read numbers) x a → comparison_in x ≡ Some c → SpellsComparison (as_read numbers) c a
comparison_is numbers x c a h e =
    let (y, is, e1) = bind_ok _ (atom_in x) _ e in
    let (holds, same) = passes is_comparison y c e1 in
    subst (λ v. SpellsComparison (as_read numbers) v a) same (holds, (atom_is numbers x y a h is).1)

comparison_is_basic : (f : Filter) → IsTrue (is_comparison f) → IsTrue (is_basic f)
comparison_is_basic (or fs) h = h
comparison_is_basic (and fs) h = h
comparison_is_basic f h = refl

comparison_made : (c : Filter) → IsTrue (is_comparison c) → comparison_in (as_argument c) ≡ Some c
comparison_made c h = rw (filter_back c, comparison_is_basic c h, h) refl

pub comparison_law : Law SpellsComparison is_typed_filter (λ numbers text. taken_at comparison_in is_typed_filter (basic_in numbers text))
comparison_law = taken_law SpellsBasicArgument SpellsComparison comparison_in is_typed_filter basic_in basic_front comparison_is (λ numbers c text h. (as_argument c, basic_back numbers c text (comparison_is_basic c h.0, h.1), comparison_made c h.0)) (comparison_wider IsValued SpellsNumber as_written) comparison_unambiguous (λ N M again v a h. let (w, k, alike) = comparison_again N M again v a h in (w, k, alike.0))

conjunction_front : (numbers : NumberMode) (x : Argument) (text rest : List ℕ) → conjunction_in numbers text ≡ Some (x, rest) → Spelled (SpellsConjunctionArgument (as_read numbers)) x text rest
conjunction_front numbers x text rest e = sound_conjunction (as_read numbers) (number_reading numbers) (as_sound numbers) (inner_at numbers text) (inner_sound numbers (length text)) x text rest e

conjunction_back : (numbers : NumberMode) (f : Filter) (text : List ℕ) → SpellsConjunction (as_read numbers) f text → conjunction_in numbers text ≡ Some (as_argument f, [])
unfolding skip_blank
conjunction_back numbers f text h =
    rw append-nil at (complete_conjunction (as_read numbers) (as_start numbers) (number_reading numbers) (as_over numbers) (inner_at numbers text) (length text) (inner_read numbers (length text)) f text [] h refl (all_of text))

conjunction_is : (numbers : NumberMode) (x : Argument) (f : Filter) (a : List ℕ) → SpellsConjunctionArgument (as_read numbers) x a → filter_of x ≡ Some f → SpellsConjunction (as_read numbers) f a
conjunction_is numbers = conjunction_operand (as_read numbers)

pub conjunction_law : Law SpellsConjunction is_typed_filter (λ numbers text. taken_at filter_of is_typed_filter (conjunction_in numbers text))
conjunction_law = taken_law SpellsConjunctionArgument SpellsConjunction filter_of is_typed_filter conjunction_in conjunction_front conjunction_is (λ numbers f text h. (as_argument f, conjunction_back numbers f text h, filter_back f)) (conjunction_wider IsValued SpellsNumber as_written) conjunction_unambiguous (λ N M again v a h. let (w, k, alike) = conjunction_again N M again v a h in (w, k, alike.0))

logical_front : (numbers : NumberMode) (f : Filter) (text rest : List ℕ) → logical_in numbers text ≡ Some (f, rest) → Spelled (SpellsLogical (as_read numbers)) f text rest
logical_front numbers f text rest e = sound_logical (as_read numbers) (number_reading numbers) (argument_at (number_reading numbers) (suc (length text))) (inner_sound numbers (suc (length text))) f text rest e

logical_back : (numbers : NumberMode) (f : Filter) (text : List ℕ) → SpellsLogical (as_read numbers) f text → logical_in numbers text ≡ Some (f, [])
unfolding skip_blank
logical_back numbers f text h =
    let size : length (text ++ []) < suc (length text) = rw append-nil (omega arith) in
    rw append-nil at (complete_logical (as_read numbers) (as_start numbers) (number_reading numbers) (argument_at (number_reading numbers) (suc (length text))) (suc (length text)) (inner_read numbers (suc (length text))) f text [] h refl size)

pub logical_law : Law SpellsLogical is_typed_filter (λ numbers text. taken_at (λ f. Some f) is_typed_filter (logical_in numbers text))
logical_law = taken_law SpellsLogical SpellsLogical (λ f. Some f) is_typed_filter logical_in logical_front (same_tree SpellsLogical) (λ numbers f text h. (f, logical_back numbers f text h, refl)) (logical_wider IsValued SpellsNumber as_written) logical_unambiguous (λ N M again v a h. let (w, k, alike) = logical_again N M again v a h in (w, k, alike.0))

-- ---- segments

segments_front : (numbers : NumberMode) (gs : Segments) (text rest : List ℕ) → segments_in numbers text ≡ Some (gs, rest) → Spelled (SpellsSegments (as_read numbers)) gs text rest
segments_front numbers gs text rest e = sound_all_segments (as_read numbers) (number_reading numbers) (inner_at numbers text) (inner_sound numbers (length text)) gs text rest e

segments_back : (numbers : NumberMode) (gs : Segments) (text : List ℕ) → SpellsSegments (as_read numbers) gs text → segments_in numbers text ≡ Some (gs, [])
unfolding skip_blank
segments_back numbers gs text h =
    rw append-nil at (complete_all_segments (as_read numbers) (as_start numbers) (number_reading numbers) (inner_at numbers text) (length text) (inner_read numbers (length text)) gs text [] h (refl, refl) (all_of text))

pub segments_law : Law SpellsSegments is_typed (λ numbers text. taken_at (λ gs. Some gs) is_typed (segments_in numbers text))
segments_law = taken_law SpellsSegments SpellsSegments (λ gs. Some gs) is_typed segments_in segments_front (same_tree SpellsSegments) (λ numbers gs text h. (gs, segments_back numbers gs text h, refl)) (segments_wider IsValued SpellsNumber as_written) segments_unambiguous (λ N M again v a h. let (w, k, alike) = segments_again N M again v a h in (w, k, alike.0))

steps_is : (numbers : NumberMode) (gs ss : Segments) (a : List ℕ) → SpellsSegments (as_read numbers) gs a → steps_in gs ≡ Some ss → SpellsSteps (as_read numbers) ss a
steps_is numbers gs ss a h e = let (same, is) = steps_spelled gs ss e in (is, subst (λ v. SpellsSegments (as_read numbers) v a) same h)

pub steps_law : Law SpellsSteps always (λ numbers text. taken_at steps_in always (segments_in numbers text))
steps_law = taken_law SpellsSegments SpellsSteps steps_in always segments_in segments_front steps_is (λ numbers gs text h. (gs, segments_back numbers gs text h.1, steps_made gs h.0)) (λ gs a h. (h.0, segments_wider IsValued SpellsNumber as_written gs a h.1)) steps_unambiguous (λ N M again gs a h. let (hs, k, alike) = segments_again N M again gs a h.1 in (hs, (alike.1 ∙ h.0, k), refl))

segment_front : (numbers : NumberMode) (g : Segment) (text rest : List ℕ) → segment_in numbers text ≡ Some (g, rest) → Spelled (SpellsSegment (as_read numbers)) g text rest
segment_front numbers g text rest e = sound_segment (as_read numbers) (number_reading numbers) (inner_at numbers text) (inner_sound numbers (length text)) g text rest e

segment_back : (numbers : NumberMode) (g : Segment) (text : List ℕ) → SpellsSegment (as_read numbers) g text → segment_in numbers text ≡ Some (g, [])
segment_back numbers g text h =
    rw append-nil at (complete_segment (as_read numbers) (as_start numbers) (number_reading numbers) (inner_at numbers text) (length text) (inner_read numbers (length text)) g text [] h refl (all_of text))

pub segment_law : Law SpellsSegment is_typed_segment (λ numbers text. taken_at (λ g. Some g) is_typed_segment (segment_in numbers text))
segment_law = taken_law SpellsSegment SpellsSegment (λ g. Some g) is_typed_segment segment_in segment_front (same_tree SpellsSegment) (λ numbers g text h. (g, segment_back numbers g text h, refl)) (segment_wider IsValued SpellsNumber as_written) segment_unambiguous (λ N M again v a h. let (w, k, alike) = segment_again N M again v a h in (w, k, alike.0))

-- what stands behind `..` is read as a child
child_below : (numbers : NumberMode) (text rest : List ℕ) (g : Segment) → child_in numbers text ≡ Some (g, rest) → descendant_at (number_reading numbers) (inner_at numbers text) text ≡ Some (descendant g, rest)
unfolding child_in descendant_at
child_below numbers text rest g e = elim (chosen (first text == 91) _ _ _ e) [
  | inl bracket ↦ rw (bracket.0, bracket.1) refl
  | inr other ↦ (
      let (s, read, e1) = bind_ok _ (shorthand_at text) _ other.1 in
      let (tree, after) = same_parts (one s.0) g s.1 rest e1 in
      rw (other.0, read, tree, after) refl)
]

child_front : (numbers : NumberMode) (g : Segment) (text rest : List ℕ) → child_in numbers text ≡ Some (g, rest) → Spelled (SpellsChild (as_read numbers)) g text rest
child_front numbers g text rest e = sound_descendant (as_read numbers) (number_reading numbers) (inner_at numbers text) (inner_sound numbers (length text)) (descendant g) text rest (child_below numbers text rest g e)

child_bracket : (numbers : NumberMode) (text : List ℕ) (g : Segment) → (first text == 91) ≡ true → selection_at (number_reading numbers) (inner_at numbers text) text ≡ Some (g, []) → child_in numbers text ≡ Some (g, [])
unfolding child_in
child_bracket numbers text g start read = rw (start, read) refl

child_shorthand : (numbers : NumberMode) (text : List ℕ) (x : Selector) → (first text == 91) ≡ false → shorthand_at text ≡ Some (x, []) → child_in numbers text ≡ Some (one x, [])
unfolding child_in
child_shorthand numbers text x start read = rw (start, read) refl

-- two bytes before a text
behind_two : (a b : List ℕ) → 46 ∷ 46 ∷ a ≡ 46 ∷ 46 ∷ b → b ≡ a
behind_two a b e = sym (cc)

child_back : (numbers : NumberMode) (g : Segment) (text : List ℕ) → SpellsChild (as_read numbers) g text → child_in numbers text ≡ Some (g, [])
child_back numbers (one x) text h =
    let (a, ha, e) = h in
    let same : a ≡ text = behind_two text a e in
    elim ha [
      | inl between ↦ (
          let is : Between (codes "[") (SpellsSelector (as_read numbers) x) (codes "]") text = subst (λ s. Between (codes "[") (SpellsSelector (as_read numbers) x) (codes "]") s) same between in
          let start = rw append-nil at ((between_start (as_read numbers) (as_start numbers) (number_reading numbers) (inner_at numbers text) (length text) (inner_read numbers (length text)) (SpellsSelector (as_read numbers) x) text [] is).1) in
          let read = rw append-nil at (complete_one (as_read numbers) (as_start numbers) (number_reading numbers) (inner_at numbers text) (length text) (inner_read numbers (length text)) x text [] is (all_of text)) in
          child_bracket numbers text (one x) start read)
      | inr short ↦ (
          let is : SpellsShorthand x text = subst (λ s. SpellsShorthand x s) same short in
          let start = rw append-nil at ((shorthand_start x text [] is).1) in
          let read = rw append-nil at (complete_shorthand x text [] is refl) in
          child_shorthand numbers text x start read)
    ]
child_back numbers (several xs) text h =
    let (a, some, between, e) = h in
    let same : a ≡ text = behind_two text a e in
    let is : Between (codes "[") (SpellsSelectors (as_read numbers) xs) (codes "]") text = subst (λ s. Between (codes "[") (SpellsSelectors (as_read numbers) xs) (codes "]") s) same between in
    let start = rw append-nil at ((between_start (as_read numbers) (as_start numbers) (number_reading numbers) (inner_at numbers text) (length text) (inner_read numbers (length text)) (SpellsSelectors (as_read numbers) xs) text [] is).1) in
    let read = rw append-nil at (complete_several (as_read numbers) (as_start numbers) (number_reading numbers) (inner_at numbers text) (length text) (inner_read numbers (length text)) xs text [] some is (all_of text)) in
    child_bracket numbers text (several xs) start read
child_back numbers (descendant g) text h = absurd h

pub child_law : Law SpellsChild is_typed_segment (λ numbers text. taken_at (λ g. Some g) is_typed_segment (child_in numbers text))
child_law = taken_law SpellsChild SpellsChild (λ g. Some g) is_typed_segment child_in child_front (same_tree SpellsChild) (λ numbers g text h. (g, child_back numbers g text h, refl)) (λ g a. segment_wider IsValued SpellsNumber as_written (descendant g) (codes ".." ++ a)) child_unambiguous (λ N M again v a h. below_again N M again v (codes ".." ++ a) h)

-- ---- selectors

selector_front : (numbers : NumberMode) (x : Selector) (text rest : List ℕ) → selector_in numbers text ≡ Some (x, rest) → Spelled (SpellsSelector (as_read numbers)) x text rest
selector_front numbers x text rest e = sound_selector (as_read numbers) (number_reading numbers) (inner_at numbers text) (inner_sound numbers (length text)) x text rest e

selector_back : (numbers : NumberMode) (x : Selector) (text : List ℕ) → SpellsSelector (as_read numbers) x text → selector_in numbers text ≡ Some (x, [])
selector_back numbers x text h = whole_selector (as_read numbers) (as_start numbers) (number_reading numbers) (inner_at numbers text) (length text) (inner_read numbers (length text)) x text h (le_refl (length text))

pub selector_law : Law SpellsSelector is_typed_selector (λ numbers text. taken_at (λ x. Some x) is_typed_selector (selector_in numbers text))
selector_law = taken_law SpellsSelector SpellsSelector (λ x. Some x) is_typed_selector selector_in selector_front (same_tree SpellsSelector) (λ numbers x text h. (x, selector_back numbers x text h, refl)) (selector_wider IsValued SpellsNumber as_written) selector_unambiguous (λ N M again v a h. let (w, k, alike) = selector_again N M again v a h in (w, k, alike.0))

slice_front : (numbers : NumberMode) (x : Selector) (text rest : List ℕ) → numbered_at text ≡ Some (x, rest) → Spelled (SpellsSelector (as_read numbers)) x text rest
slice_front numbers = sound_numbered (as_read numbers)

slice_is : (numbers : NumberMode) (x : Selector) (p : Option ℤ × Option ℤ × Option ℤ) (a : List ℕ) → SpellsSelector (as_read numbers) x a → slice_in x ≡ Some p → SpellsSliceParts (as_read numbers) p a
slice_is numbers (name n) p a h e = absurd (cc)
slice_is numbers wildcard p a h e = absurd (cc)
slice_is numbers (index i) p a h e = absurd (cc)
slice_is numbers (slice start end step) p a h e = same_tree SpellsSliceParts numbers (start, end, step) p a h e
slice_is numbers (filter f) p a h e = absurd (cc)

pub slice_law : Law SpellsSliceParts always (λ numbers text. taken_at slice_in always (numbered_at text))
slice_law = taken_law SpellsSelector SpellsSliceParts slice_in always (λ numbers text. numbered_at text) slice_front slice_is (λ numbers p text h. (slice p.0 p.1 p.2, whole_slice p.0 p.1 p.2 text h, refl)) (λ p a h. h) slice_unambiguous (λ N M again v a h. (v, h, refl))
