-- What is spelled with some number literals is spelled with more of them.
use Rattle.std.proofs.Common.{inl, inr, ℕ, ℤ, true, false, Option, List, ◌++◌, codes}
use Rattle.jsonpath_parser.specs.Prelude.{absolute, and, Argument, argument, Arguments, Behind, Between, bool, Call, call, compare, count_call, custom_call, descendant, Filter, filter, filter_argument, filter_then, Filters, group, index, IsNothing, length_call, Literal, literal_argument, match_call, name, no_arguments, no_filters, no_segments, no_selectors, null, number, one, or, Query, relative, search_call, Segment, segment, Segments, Selector, selector, Selectors, several, slice, Spells, SpellsAnd, SpellsArgument, SpellsArguments, SpellsBasic, SpellsCall, SpellsComparable, SpellsComparison, SpellsConjunction, SpellsLiteral, SpellsLogical, SpellsMoreAnd, SpellsMoreArguments, SpellsMoreOr, SpellsMoreSelectors, SpellsOr, SpellsSegment, SpellsSegments, SpellsSelector, SpellsSelectors, SpellsTest, string, Test, test, test_argument, Then, value_call, wildcard}

between_wider : (S T : List ℕ → Type 0) → ((a : List ℕ) → S a → T a) → (x y text : List ℕ) → Between x S y text → Between x T y text
between_wider S T wider x y text h = let (b, a, c, hb, ha, hc, e) = h in (b, a, c, hb, wider a ha, hc, e)

then_wider : (S T U V : List ℕ → Type 0) → ((a : List ℕ) → S a → T a) → ((a : List ℕ) → U a → V a) → (text : List ℕ) → Then S U text → Then T V text
then_wider S T U V first others text h = let (a, d, ha, hd, e) = h in (a, d, first a ha, others d hd, e)

behind_wider : (S T U V : List ℕ → Type 0) → ((a : List ℕ) → S a → T a) → ((a : List ℕ) → U a → V a) → (mark text : List ℕ) → Behind mark S U text → Behind mark T V text
behind_wider S T U V first others mark text h = let (b, c, a, d, hb, hc, ha, hd, e) = h in (b, c, a, d, hb, hc, first a ha, others d hd, e)

module _ (N M : Option ℤ → List ℕ → Type 0) (wider : (v : Option ℤ) (a : List ℕ) → N v a → M v a) where
  pub literal_wider : (l : Literal) (a : List ℕ) → SpellsLiteral N l a → SpellsLiteral M l a
  literal_wider (number v) a h = wider v a h
  literal_wider (string s) a h = h
  literal_wider (bool true) a h = h
  literal_wider (bool false) a h = h
  literal_wider null a h = h

  mutual
    pub selector_wider : (s : Selector) (a : List ℕ) → SpellsSelector N s a → SpellsSelector M s a
    selector_wider (name n) a h = h
    selector_wider wildcard a h = h
    selector_wider (index i) a h = h
    selector_wider (slice start end step) a h = h
    selector_wider (filter f) a h = let (b, x, hb, hx, e) = h in (b, x, hb, logical_wider f x hx, e)

    selectors_wider : (ss : Selectors) (a : List ℕ) → SpellsSelectors N ss a → SpellsSelectors M ss a
    selectors_wider no_selectors a h = h
    selectors_wider (selector s ss) a h = then_wider (SpellsSelector N s) (SpellsSelector M s) (SpellsMoreSelectors N ss) (SpellsMoreSelectors M ss) (selector_wider s) (more_selectors_wider ss) a h

    more_selectors_wider : (ss : Selectors) (a : List ℕ) → SpellsMoreSelectors N ss a → SpellsMoreSelectors M ss a
    more_selectors_wider no_selectors a h = h
    more_selectors_wider (selector s ss) a h = behind_wider (SpellsSelector N s) (SpellsSelector M s) (SpellsMoreSelectors N ss) (SpellsMoreSelectors M ss) (selector_wider s) (more_selectors_wider ss) (codes ",") a h

    pub segment_wider : (g : Segment) (a : List ℕ) → SpellsSegment N g a → SpellsSegment M g a
    segment_wider (one s) a (inl h) = inl (between_wider (SpellsSelector N s) (SpellsSelector M s) (selector_wider s) (codes "[") (codes "]") a h)
    segment_wider (one s) a (inr h) = inr h
    segment_wider (several ss) a h = (h.0, between_wider (SpellsSelectors N ss) (SpellsSelectors M ss) (selectors_wider ss) (codes "[") (codes "]") a h.1)
    segment_wider (descendant (one s)) a (x, inl h, e) = (x, inl (between_wider (SpellsSelector N s) (SpellsSelector M s) (selector_wider s) (codes "[") (codes "]") x h), e)
    segment_wider (descendant (one s)) a (x, inr h, e) = (x, inr h, e)
    segment_wider (descendant (several ss)) a (x, plural, h, e) = (x, plural, between_wider (SpellsSelectors N ss) (SpellsSelectors M ss) (selectors_wider ss) (codes "[") (codes "]") x h, e)
    segment_wider (descendant (descendant g)) a h = absurd h

    pub segments_wider : (gs : Segments) (a : List ℕ) → SpellsSegments N gs a → SpellsSegments M gs a
    segments_wider no_segments a h = h
    segments_wider (segment g gs) a h = let (b, x, c, hb, hx, hc, e) = h in (b, x, c, hb, segment_wider g x hx, segments_wider gs c hc, e)

    pub logical_wider : (f : Filter) (a : List ℕ) → SpellsLogical N f a → SpellsLogical M f a
    logical_wider (or fs) a h = (h.0, or_wider fs a h.1)
    logical_wider (and fs) a h = (h.0, and_wider fs a h.1)
    logical_wider (group negated f) a h = let (b, c, hb, hc, e) = h in (b, c, hb, between_wider (SpellsLogical N f) (SpellsLogical M f) (logical_wider f) (codes "(") (codes ")") c hc, e)
    logical_wider (test negated t) a h = let (b, c, hb, hc, e) = h in (b, c, hb, test_wider t c hc, e)
    logical_wider (compare op l r) a h = let (x, b, o, c, y, hx, hb, ho, hc, hy, e) = h in (x, b, o, c, y, (hx.0, argument_wider l x hx.1), hb, ho, hc, (hy.0, argument_wider r y hy.1), e)

    or_wider : (fs : Filters) (a : List ℕ) → SpellsOr N fs a → SpellsOr M fs a
    or_wider no_filters a h = absurd h
    or_wider (filter_then f fs) a h = then_wider (SpellsConjunction N f) (SpellsConjunction M f) (SpellsMoreOr N fs) (SpellsMoreOr M fs) (λ x hx. (hx.0, logical_wider f x hx.1)) (more_or_wider fs) a h

    more_or_wider : (fs : Filters) (a : List ℕ) → SpellsMoreOr N fs a → SpellsMoreOr M fs a
    more_or_wider no_filters a h = h
    more_or_wider (filter_then f fs) a h = behind_wider (SpellsConjunction N f) (SpellsConjunction M f) (SpellsMoreOr N fs) (SpellsMoreOr M fs) (λ x hx. (hx.0, logical_wider f x hx.1)) (more_or_wider fs) (codes "||") a h

    and_wider : (fs : Filters) (a : List ℕ) → SpellsAnd N fs a → SpellsAnd M fs a
    and_wider no_filters a h = absurd h
    and_wider (filter_then f fs) a h = then_wider (SpellsBasic N f) (SpellsBasic M f) (SpellsMoreAnd N fs) (SpellsMoreAnd M fs) (λ x hx. (hx.0, logical_wider f x hx.1)) (more_and_wider fs) a h

    more_and_wider : (fs : Filters) (a : List ℕ) → SpellsMoreAnd N fs a → SpellsMoreAnd M fs a
    more_and_wider no_filters a h = h
    more_and_wider (filter_then f fs) a h = behind_wider (SpellsBasic N f) (SpellsBasic M f) (SpellsMoreAnd N fs) (SpellsMoreAnd M fs) (λ x hx. (hx.0, logical_wider f x hx.1)) (more_and_wider fs) (codes "&&") a h

    pub test_wider : (t : Test) (a : List ℕ) → SpellsTest N t a → SpellsTest M t a
    test_wider (relative gs) a h = let (x, hx, e) = h in (x, segments_wider gs x hx, e)
    test_wider (absolute gs) a h = let (x, hx, e) = h in (x, segments_wider gs x hx, e)
    test_wider (call c) a h = call_wider c a h

    pub call_wider : (c : Call) (a : List ℕ) → SpellsCall N c a → SpellsCall M c a
    call_wider (custom_call n xs) a h = (h.0, between_wider (SpellsArguments N xs) (SpellsArguments M xs) (arguments_wider xs) (n ++ codes "(") (codes ")") a h.1)
    call_wider (length_call x) a h = between_wider (SpellsArgument N x) (SpellsArgument M x) (argument_wider x) (codes "length" ++ codes "(") (codes ")") a h
    call_wider (value_call x) a h = between_wider (SpellsArgument N x) (SpellsArgument M x) (argument_wider x) (codes "value" ++ codes "(") (codes ")") a h
    call_wider (count_call x) a h = between_wider (SpellsArgument N x) (SpellsArgument M x) (argument_wider x) (codes "count" ++ codes "(") (codes ")") a h
    call_wider (search_call x y) a h = let (b, p, c, hb, hp, hc, e) = h in let (q, r, hq, hr, e2) = hp in
        (b, p, c, hb, (q, r, argument_wider x q hq, behind_wider (SpellsArgument N y) (SpellsArgument M y) IsNothing IsNothing (argument_wider y) (λ d n. n) (codes ",") r hr, e2), hc, e)
    call_wider (match_call x y) a h = let (b, p, c, hb, hp, hc, e) = h in let (q, r, hq, hr, e2) = hp in
        (b, p, c, hb, (q, r, argument_wider x q hq, behind_wider (SpellsArgument N y) (SpellsArgument M y) IsNothing IsNothing (argument_wider y) (λ d n. n) (codes ",") r hr, e2), hc, e)

    argument_wider : (x : Argument) (a : List ℕ) → SpellsArgument N x a → SpellsArgument M x a
    argument_wider (literal_argument l) a h = literal_wider l a h
    argument_wider (test_argument t) a h = test_wider t a h
    argument_wider (filter_argument f) a h = (h.0, logical_wider f a h.1)

    arguments_wider : (xs : Arguments) (a : List ℕ) → SpellsArguments N xs a → SpellsArguments M xs a
    arguments_wider no_arguments a h = h
    arguments_wider (argument x xs) a h = then_wider (SpellsArgument N x) (SpellsArgument M x) (SpellsMoreArguments N xs) (SpellsMoreArguments M xs) (argument_wider x) (more_arguments_wider xs) a h

    more_arguments_wider : (xs : Arguments) (a : List ℕ) → SpellsMoreArguments N xs a → SpellsMoreArguments M xs a
    more_arguments_wider no_arguments a h = h
    more_arguments_wider (argument x xs) a h = behind_wider (SpellsArgument N x) (SpellsArgument M x) (SpellsMoreArguments N xs) (SpellsMoreArguments M xs) (argument_wider x) (more_arguments_wider xs) (codes ",") a h

  pub conjunction_wider : (f : Filter) (a : List ℕ) → SpellsConjunction N f a → SpellsConjunction M f a
  conjunction_wider f a h = (h.0, logical_wider f a h.1)

  pub basic_wider : (f : Filter) (a : List ℕ) → SpellsBasic N f a → SpellsBasic M f a
  basic_wider f a h = (h.0, logical_wider f a h.1)

  pub comparison_wider : (f : Filter) (a : List ℕ) → SpellsComparison N f a → SpellsComparison M f a
  comparison_wider f a h = (h.0, logical_wider f a h.1)

  pub comparable_wider : (x : Argument) (a : List ℕ) → SpellsComparable N x a → SpellsComparable M x a
  comparable_wider x a h = (h.0, argument_wider x a h.1)

  pub spells_wider : (q : Query) (a : List ℕ) → Spells N q a → Spells M q a
  spells_wider q a h = let (x, hx, e) = h in (x, segments_wider q x hx, e)
