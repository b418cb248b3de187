-- What the code writes for a tree that some text derives is a text that derives it.
use Rattle.std.proofs.Common.{◌≡◌, refl, sym, ap, ◌∙◌, subst, inl, inr, ℕ, zero, suc, ◌^◌, ℤ, pos, negsuc, Bool, true, false, Option, Some, None, List, [], ◌++◌, append-nil, append_assoc, codes, le_refl, arith}
use Rattle.std.proofs.lemmas.Int.{ints}
use Rattle.std.specs.Prelude.{◌*ℤ◌}
use Rattle.jsonpath_parser.specs.Prelude.{absolute, and, Argument, argument, Arguments, Behind, Between, bool, Call, call, compare, count_call, custom_call, decimal, depth, Derives, descendant, digits_value, equal, Filter, filter, filter_argument, filter_then, Filters, greater, greater_or_equal, group, index, index_digits, IsInRange, IsLong, IsNothing, IsValued, IsWholePart, length_call, less, less_or_equal, Literal, literal_argument, match_call, name, no_arguments, no_filters, no_segments, no_selectors, not_equal, not_shown, null, number, one, Operator, or, Query, raised, relative, search_call, Segment, segment, Segments, Selector, selector, Selectors, several, signed, signed_decimal, slice, SpellsAnd, SpellsArgument, SpellsArguments, SpellsBasic, SpellsBound, SpellsCall, SpellsConjunction, SpellsIndex, SpellsInt, SpellsLiteral, SpellsLogical, SpellsMoreAnd, SpellsMoreArguments, SpellsMoreOr, SpellsMoreSelectors, SpellsNot, SpellsNumber, SpellsOperator, SpellsOr, SpellsSegment, SpellsSegments, SpellsSelector, SpellsSelectors, SpellsShorthand, SpellsSign, SpellsSlice, SpellsStep, SpellsTest, string, Test, test, test_argument, Then, value_call, wildcard}
use Rattle.jsonpath_parser.specs.tree.Shown.{operator_shown}
use Rattle.jsonpath_parser.specs.tree.QueryTexts.{arguments_text, argument_text, bound_text, call_text, filters_text, filter_text, literal_text, query_text, segments_text, segment_text, selectors_text, selector_text, slice_step_text, slice_text, test_text}
use Rattle.jsonpath_parser.proofs.NormalQueries.{name_spelled, index_spelled}
use Rattle.jsonpath_parser.proofs.laws.words.Quoting.{decimal_index}

-- ---- pieces without blanks

between_bare : (S : List ℕ → Type 0) (x a y : List ℕ) → S a → Between x S y (x ++ (a ++ y))
between_bare S x a y h = ([], a, [], tt, h, tt, refl)

behind_bare : (S T : List ℕ → Type 0) (mark a d : List ℕ) → S a → T d → Behind mark S T (mark ++ (a ++ d))
behind_bare S T mark a d h k = ([], [], a, d, tt, tt, h, k, refl)

two_parts : (x y : List ℕ) → x ++ (codes "," ++ (y ++ codes ")")) ≡ (x ++ (codes "," ++ (y ++ []))) ++ codes ")"
two_parts x y = ap (λ v. x ++ (codes "," ++ (v ++ codes ")"))) (sym (append-nil y)) ∙ sym (append_assoc x (codes "," ++ (y ++ [])) (codes ")"))

-- two arguments of a call
both_bare : (S T : List ℕ → Type 0) (before x y : List ℕ) → S x → T y → Between before (Then S (Behind (codes ",") T IsNothing)) (codes ")") (before ++ (x ++ (codes "," ++ (y ++ codes ")"))))
both_bare S T before x y h k =
    ([], x ++ (codes "," ++ (y ++ [])), [], tt, (x, codes "," ++ (y ++ []), h, behind_bare T IsNothing (codes ",") y [] k refl, refl), tt, ap (λ v. before ++ v) (two_parts x y))

-- ---- numbers

-- digits of a number below 2^64
int_spelled : (i : ℤ) → IsLong i → SpellsInt i (signed_decimal i)
int_spelled (pos n) h = subst (SpellsInt (pos n)) (sym (decimal_index n (omega (arith, ints, h.1)))) (index_spelled n)
int_spelled (negsuc n) h =
    let e : decimal (suc n) ≡ index_digits (suc n) = decimal_index (suc n) (omega (arith, ints, h.0)) in
    (index_digits (suc n), index_spelled (suc n), ap (λ t. codes "-" ++ t) e)

index_text : (i : ℤ) → IsInRange i → SpellsIndex i (signed_decimal i)
index_text i r = (int_spelled i (omega (arith, ints, r.0), omega (arith, ints, r.1)), r)

digits_whole : (n : ℕ) → IsWholePart (index_digits n)
digits_whole zero = inl refl
digits_whole (suc n) = let p = index_spelled (suc n) in inr (p.0, p.1)

digits_back : (n : ℕ) → digits_value 10 (index_digits n) ≡ n
digits_back zero = refl
digits_back (suc n) = let p = index_spelled (suc n) in sym p.2

number_parts : (minus : Bool) (n : ℕ) (sign : List ℕ) (v : ℤ) → SpellsSign minus sign → v ≡ signed minus n → IsLong v → SpellsNumber (Some v) (sign ++ index_digits n)
number_parts minus n sign v is_sign is fits =
    let back : digits_value 10 (index_digits n ++ []) ≡ n = ap (digits_value 10) (append-nil (index_digits n)) ∙ digits_back n in
    record {
      minus = minus;
      integer = index_digits n;
      fraction = [];
      exponent = raised 0;
      sign_text = sign;
      fraction_text = [];
      exponent_text = [];
      sign_spelled = is_sign;
      is_whole_part = digits_whole n;
      fraction_spelled = refl;
      exponent_spelled = inl (refl, refl);
      is_value = (fits, ap (λ m. m *ℤ pos (10 ^ 0)) (is ∙ ap (signed minus) (sym back)));
      spelled = ap (λ t. sign ++ t) (sym (append-nil (index_digits n)));
    }

number_spelled : (v : ℤ) → IsLong v → SpellsNumber (Some v) (signed_decimal v)
number_spelled (pos n) h = subst (SpellsNumber (Some (pos n))) (sym (decimal_index n (omega (arith, ints, h.1)))) (number_parts false n [] (pos n) refl refl h)
number_spelled (negsuc n) h =
    subst (λ t. SpellsNumber (Some (negsuc n)) (codes "-" ++ t)) (sym (decimal_index (suc n) (omega (arith, ints, h.0)))) (number_parts true (suc n) (codes "-") (negsuc n) refl refl h)

-- ---- words

bound_spelled : (o : Option ℤ) (a : List ℕ) → SpellsBound o a → SpellsBound o (bound_text o)
bound_spelled None a h = refl
bound_spelled (Some i) a h = let (x, b, hx, hb, e) = h in (signed_decimal i, [], index_text i hx.1, tt, sym (append-nil (signed_decimal i)))

slice_step_spelled : (o : Option ℤ) (a : List ℕ) → SpellsStep o a → SpellsStep o (slice_step_text o)
slice_step_spelled None a h = inl refl
slice_step_spelled (Some i) a h = let (b, x, hb, hx, e) = h in ([], signed_decimal i, tt, index_text i hx.1, refl)

slice_spelled : (start end step : Option ℤ) (a : List ℕ) → SpellsSlice start end step a → SpellsSlice start end step (slice_text start end step)
slice_spelled start end step a h =
    let (x, b, y, z, hx, hb, hy, hz, e) = h in
    (bound_text start, [], bound_text end, slice_step_text step, bound_spelled start x hx, tt, bound_spelled end y hy, slice_step_spelled step z hz, refl)

literal_spelled : (l : Literal) (a : List ℕ) → SpellsLiteral IsValued l a → SpellsLiteral IsValued l (literal_text l)
literal_spelled (number None) a h = let none = h.1 in absurd (cc)
literal_spelled (number (Some v)) a h = (number_spelled v h.0.is_value.0, refl)
literal_spelled (string s) a h = name_spelled s
literal_spelled (bool true) a h = refl
literal_spelled (bool false) a h = refl
literal_spelled null a h = refl

operator_spelled : (op : Operator) → SpellsOperator op (operator_shown op)
operator_spelled equal = refl
operator_spelled not_equal = refl
operator_spelled greater = refl
operator_spelled greater_or_equal = refl
operator_spelled less = refl
operator_spelled less_or_equal = refl

not_spelled : (negated : Bool) → SpellsNot negated (not_shown negated)
not_spelled true = ([], tt, refl)
not_spelled false = refl

-- ---- each kind of tree

-- a name or `*` behind dots, in brackets
shorthand_spelled : (s : Selector) (a : List ℕ) → SpellsShorthand s a → SpellsSelector IsValued s (selector_text s)
shorthand_spelled (name n) a h = name_spelled n
shorthand_spelled wildcard a h = refl
shorthand_spelled (index i) a h = absurd h
shorthand_spelled (slice start end step) a h = absurd h
shorthand_spelled (filter f) a h = absurd h

mutual
  selector_spelled : (s : Selector) (a : List ℕ) → SpellsSelector IsValued s a → SpellsSelector IsValued s (selector_text s)
  selector_spelled (name n) a h = name_spelled n
  selector_spelled wildcard a h = refl
  selector_spelled (index i) a h = index_text i h.1
  selector_spelled (slice start end step) a h = slice_spelled start end step a h
  selector_spelled (filter f) a h = let (b, x, hb, hx, e) = h in ([], filter_text f, tt, logical_spelled f x hx, refl)

  selectors_spelled : (ss : Selectors) (a : List ℕ) → SpellsSelectors IsValued ss a → SpellsSelectors IsValued ss (selectors_text [] ss)
  selectors_spelled no_selectors a h = absurd h
  selectors_spelled (selector s ss) a h =
      let (x, d, hx, hd, e) = h in
      (selector_text s, selectors_text (codes ",") ss, selector_spelled s x hx, more_selectors_spelled ss d hd, refl)

  more_selectors_spelled : (ss : Selectors) (a : List ℕ) → SpellsMoreSelectors IsValued ss a → SpellsMoreSelectors IsValued ss (selectors_text (codes ",") ss)
  more_selectors_spelled no_selectors a h = refl
  more_selectors_spelled (selector s ss) a h =
      let (b, c, x, d, hb, hc, hx, hd, e) = h in
      behind_bare (SpellsSelector IsValued s) (SpellsMoreSelectors IsValued ss) (codes ",") (selector_text s) (selectors_text (codes ",") ss) (selector_spelled s x hx) (more_selectors_spelled ss d hd)

  segment_spelled : (g : Segment) (a : List ℕ) → SpellsSegment IsValued g a → SpellsSegment IsValued g (segment_text g)
  segment_spelled (one s) a (inl h) = let (b, x, c, hb, hx, hc, e) = h in inl (between_bare (SpellsSelector IsValued s) (codes "[") (selector_text s) (codes "]") (selector_spelled s x hx))
  segment_spelled (one s) a (inr h) = let (x, hx, e) = h in inl (between_bare (SpellsSelector IsValued s) (codes "[") (selector_text s) (codes "]") (shorthand_spelled s x hx))
  segment_spelled (several ss) a h =
      let (two, (b, x, c, hb, hx, hc, e)) = h in
      (two, between_bare (SpellsSelectors IsValued ss) (codes "[") (selectors_text [] ss) (codes "]") (selectors_spelled ss x hx))
  segment_spelled (descendant (one s)) a (y, inl h, e) =
      let (b, x, c, hb, hx, hc, e2) = h in
      (segment_text (one s), inl (between_bare (SpellsSelector IsValued s) (codes "[") (selector_text s) (codes "]") (selector_spelled s x hx)), refl)
  segment_spelled (descendant (one s)) a (y, inr h, e) =
      (segment_text (one s), inl (between_bare (SpellsSelector IsValued s) (codes "[") (selector_text s) (codes "]") (shorthand_spelled s y h)), refl)
  segment_spelled (descendant (several ss)) a (y, two, h, e) =
      let (b, x, c, hb, hx, hc, e2) = h in
      (segment_text (several ss), two, between_bare (SpellsSelectors IsValued ss) (codes "[") (selectors_text [] ss) (codes "]") (selectors_spelled ss x hx), refl)
  segment_spelled (descendant (descendant g)) a h = absurd h

  segments_spelled : (gs : Segments) (a : List ℕ) → SpellsSegments IsValued gs a → SpellsSegments IsValued gs (segments_text gs)
  segments_spelled no_segments a h = refl
  segments_spelled (segment g gs) a h =
      let (b, x, c, hb, hx, hc, e) = h in
      ([], segment_text g, segments_text gs, tt, segment_spelled g x hx, segments_spelled gs c hc, refl)

  logical_spelled : (f : Filter) (a : List ℕ) → SpellsLogical IsValued f a → SpellsLogical IsValued f (filter_text f)
  logical_spelled (or fs) a h = (h.0, or_spelled fs a h.1)
  logical_spelled (and fs) a h = (h.0, and_spelled fs a h.1)
  logical_spelled (group negated f) a h =
      let (b, c, hb, hc, e) = h in
      let (p, y, q, hp, hy, hq, e2) = hc in
      (not_shown negated, codes "(" ++ (filter_text f ++ codes ")"), not_spelled negated, between_bare (SpellsLogical IsValued f) (codes "(") (filter_text f) (codes ")") (logical_spelled f y hy), refl)
  logical_spelled (test negated t) a h = let (b, c, hb, hc, e) = h in (not_shown negated, test_text t, not_spelled negated, test_spelled t c hc, refl)
  logical_spelled (compare op l r) a h =
      let (x, b, o, c, y, hx, hb, ho, hc, hy, e) = h in
      (argument_text l, [], operator_shown op, [], argument_text r, (hx.0, argument_spelled l x hx.1), tt, operator_spelled op, tt, (hy.0, argument_spelled r y hy.1), refl)

  or_spelled : (fs : Filters) (a : List ℕ) → SpellsOr IsValued fs a → SpellsOr IsValued fs (filters_text (codes "||") [] fs)
  or_spelled no_filters a h = absurd h
  or_spelled (filter_then f fs) a h =
      let (x, d, hx, hd, e) = h in
      (filter_text f, filters_text (codes "||") (codes "||") fs, (hx.0, logical_spelled f x hx.1), more_or_spelled fs d hd, refl)

  more_or_spelled : (fs : Filters) (a : List ℕ) → SpellsMoreOr IsValued fs a → SpellsMoreOr IsValued fs (filters_text (codes "||") (codes "||") fs)
  more_or_spelled no_filters a h = refl
  more_or_spelled (filter_then f fs) a h =
      let (b, c, x, d, hb, hc, hx, hd, e) = h in
      behind_bare (SpellsConjunction IsValued f) (SpellsMoreOr IsValued fs) (codes "||") (filter_text f) (filters_text (codes "||") (codes "||") fs) (hx.0, logical_spelled f x hx.1) (more_or_spelled fs d hd)

  and_spelled : (fs : Filters) (a : List ℕ) → SpellsAnd IsValued fs a → SpellsAnd IsValued fs (filters_text (codes "&&") [] fs)
  and_spelled no_filters a h = absurd h
  and_spelled (filter_then f fs) a h =
      let (x, d, hx, hd, e) = h in
      (filter_text f, filters_text (codes "&&") (codes "&&") fs, (hx.0, logical_spelled f x hx.1), more_and_spelled fs d hd, refl)

  more_and_spelled : (fs : Filters) (a : List ℕ) → SpellsMoreAnd IsValued fs a → SpellsMoreAnd IsValued fs (filters_text (codes "&&") (codes "&&") fs)
  more_and_spelled no_filters a h = refl
  more_and_spelled (filter_then f fs) a h =
      let (b, c, x, d, hb, hc, hx, hd, e) = h in
      behind_bare (SpellsBasic IsValued f) (SpellsMoreAnd IsValued fs) (codes "&&") (filter_text f) (filters_text (codes "&&") (codes "&&") fs) (hx.0, logical_spelled f x hx.1) (more_and_spelled fs d hd)

  test_spelled : (t : Test) (a : List ℕ) → SpellsTest IsValued t a → SpellsTest IsValued t (test_text t)
  test_spelled (relative gs) a h = let (x, hx, e) = h in (segments_text gs, segments_spelled gs x hx, refl)
  test_spelled (absolute gs) a h = let (x, hx, e) = h in (segments_text gs, segments_spelled gs x hx, refl)
  test_spelled (call c) a h = call_spelled c a h

  call_spelled : (c : Call) (a : List ℕ) → SpellsCall IsValued c a → SpellsCall IsValued c (call_text c)
  call_spelled (custom_call n xs) a h =
      let (called, (b, x, c, hb, hx, hc, e)) = h in
      (called, ([], arguments_text [] xs, [], tt, arguments_spelled xs x hx, tt, sym (append_assoc n (codes "(") (arguments_text [] xs ++ codes ")"))))
  call_spelled (length_call x) a h = let (b, y, c, hb, hy, hc, e) = h in between_bare (SpellsArgument IsValued x) (codes "length(") (argument_text x) (codes ")") (argument_spelled x y hy)
  call_spelled (value_call x) a h = let (b, y, c, hb, hy, hc, e) = h in between_bare (SpellsArgument IsValued x) (codes "value(") (argument_text x) (codes ")") (argument_spelled x y hy)
  call_spelled (count_call x) a h = let (b, y, c, hb, hy, hc, e) = h in between_bare (SpellsArgument IsValued x) (codes "count(") (argument_text x) (codes ")") (argument_spelled x y hy)
  call_spelled (search_call x y) a h =
      let (b, z, c, hb, hz, hc, e) = h in let (p, d, hp, hd, e2) = hz in let (i, j, q, k, hi, hj, hq, hk, e3) = hd in
      both_bare (SpellsArgument IsValued x) (SpellsArgument IsValued y) (codes "search(") (argument_text x) (argument_text y) (argument_spelled x p hp) (argument_spelled y q hq)
  call_spelled (match_call x y) a h =
      let (b, z, c, hb, hz, hc, e) = h in let (p, d, hp, hd, e2) = hz in let (i, j, q, k, hi, hj, hq, hk, e3) = hd in
      both_bare (SpellsArgument IsValued x) (SpellsArgument IsValued y) (codes "match(") (argument_text x) (argument_text y) (argument_spelled x p hp) (argument_spelled y q hq)

  argument_spelled : (x : Argument) (a : List ℕ) → SpellsArgument IsValued x a → SpellsArgument IsValued x (argument_text x)
  argument_spelled (literal_argument l) a h = literal_spelled l a h
  argument_spelled (test_argument t) a h = test_spelled t a h
  argument_spelled (filter_argument f) a h = (h.0, logical_spelled f a h.1)

  arguments_spelled : (xs : Arguments) (a : List ℕ) → SpellsArguments IsValued xs a → SpellsArguments IsValued xs (arguments_text [] xs)
  arguments_spelled no_arguments a h = refl
  arguments_spelled (argument x xs) a h =
      let (y, d, hy, hd, e) = h in
      (argument_text x, arguments_text (codes ",") xs, argument_spelled x y hy, more_arguments_spelled xs d hd, refl)

  more_arguments_spelled : (xs : Arguments) (a : List ℕ) → SpellsMoreArguments IsValued xs a → SpellsMoreArguments IsValued xs (arguments_text (codes ",") xs)
  more_arguments_spelled no_arguments a h = refl
  more_arguments_spelled (argument x xs) a h =
      let (b, c, y, d, hb, hc, hy, hd, e) = h in
      behind_bare (SpellsArgument IsValued x) (SpellsMoreArguments IsValued xs) (codes ",") (argument_text x) (arguments_text (codes ",") xs) (argument_spelled x y hy) (more_arguments_spelled xs d hd)

-- so what is written for a tree that some text derives is a query, and this one
pub text_derives : (limit : ℕ) (a : List ℕ) (q : Query) → Derives limit a q → Derives (depth (query_text q)) (query_text q) q
text_derives limit a q h =
    let (x, hx, e) = h.spelled in
    record { within = le_refl (depth (query_text q)); spelled = (segments_text q, segments_spelled q x hx, refl); typed = h.typed }
