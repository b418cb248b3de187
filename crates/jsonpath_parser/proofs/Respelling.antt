-- What is spelled with some number literals is spelled as another tree with others in their place, typed as it is.
use Rattle.std.proofs.Common.{◌∙◌, ◌≡◌, refl, ap, inl, inr, ℕ, ℤ, pos, Bool, true, false, not, ◌&&◌, Option, Some, unwrap_or, List, ◌++◌, codes}
use Rattle.jsonpath_parser.specs.Prelude.{absolute, and, are_typed_arguments, are_typed_filters, are_typed_selectors, Argument, argument, Arguments, Behind, Between, bool, Call, call, compare, count_call, custom_call, descendant, Filter, filter, filter_argument, filter_then, Filters, group, index, is_basic, is_comparable, is_comparison, is_conjunction, is_singular, is_singular_test, is_step, is_typed, is_typed_argument, is_typed_call, is_typed_filter, is_typed_segment, is_typed_selector, is_typed_side, IsAny, IsNoBareTest, IsPlural, IsSeveral, length_call, Literal, literal_argument, match_call, name, no_arguments, no_filters, no_segments, no_selectors, null, number, one, or, Query, relative, search_call, Segment, segment, Segments, Selector, selector, Selectors, several, slice, Spells, SpellsAnd, SpellsArgument, SpellsArguments, SpellsBasic, SpellsCall, SpellsComparable, SpellsComparison, SpellsConjunction, SpellsLiteral, SpellsLogical, SpellsMoreAnd, SpellsMoreArguments, SpellsMoreOr, SpellsMoreSelectors, SpellsNumber, SpellsOr, SpellsSegment, SpellsSegments, SpellsSelector, SpellsSelectors, SpellsTest, string, Test, test, test_argument, Then, value_call, wildcard}
use Rattle.jsonpath_parser.specs.tree.Typing.{gives_value, is_value_test, is_query_test, is_truth_test, is_value_argument, is_query_argument, is_typed_test}

-- a number literal as it is written, whatever stands for it
pub from_any : (v : Option ℤ) (a : List ℕ) → IsAny v a → (w : Option ℤ) × SpellsNumber w a
from_any v a h = let (w, hw, e) = h in (w, hw)

pub as_any : (v : Option ℤ) (a : List ℕ) → SpellsNumber v a → (w : Option ℤ) × IsAny w a
as_any v a h = (Some (unwrap_or v (pos 0)), (v, h, refl))

pub and_alike : {a b c d : Bool} → a ≡ b → c ≡ d → (a && c) ≡ (b && d)
and_alike e f = cc

between_again : {V : Type 0} (S : List ℕ → Type 0) (T : V → List ℕ → Type 0) (F : V → Type 0) → ((a : List ℕ) → S a → (w : V) × T w a × F w) → (x y text : List ℕ) → Between x S y text → (w : V) × Between x (T w) y text × F w
between_again S T F again x y text h = let (b, a, c, hb, ha, hc, e) = h in let (w, hw, f) = again a ha in (w, (b, a, c, hb, hw, hc, e), f)

then_again : {V W : Type 0} (S U : List ℕ → Type 0) (T : V → List ℕ → Type 0) (X : W → List ℕ → Type 0) (F : V → Type 0) (G : W → Type 0)
    → ((a : List ℕ) → S a → (v : V) × T v a × F v) → ((a : List ℕ) → U a → (w : W) × X w a × G w) → (text : List ℕ) → Then S U text → (v : V) × (w : W) × Then (T v) (X w) text × F v × G w
then_again S U T X F G first others text h =
    let (a, d, ha, hd, e) = h in let (v, hv, f) = first a ha in let (w, hw, g) = others d hd in (v, w, (a, d, hv, hw, e), f, g)

behind_again : {V W : Type 0} (S U : List ℕ → Type 0) (T : V → List ℕ → Type 0) (X : W → List ℕ → Type 0) (F : V → Type 0) (G : W → Type 0)
    → ((a : List ℕ) → S a → (v : V) × T v a × F v) → ((a : List ℕ) → U a → (w : W) × X w a × G w) → (mark text : List ℕ) → Behind mark S U text → (v : V) × (w : W) × Behind mark (T v) (X w) text × F v × G w
behind_again S U T X F G first others mark text h =
    let (b, c, a, d, hb, hc, ha, hd, e) = h in let (v, hv, f) = first a ha in let (w, hw, g) = others d hd in (v, w, (b, c, a, d, hb, hc, hv, hw, e), f, g)

-- a filter that passes a test gives way to one that passes it
kept_again : (keeps : Filter → Bool) (f : Filter) (S : List ℕ → Type 0) (T : Filter → List ℕ → Type 0) (F : Filter → Type 0) → ((a : List ℕ) → S a → (g : Filter) × T g a × F g) → ((g : Filter) → F g → keeps g ≡ keeps f)
    → (a : List ℕ) → (keeps f ≡ true) × S a → (g : Filter) × ((keeps g ≡ true) × T g a) × F g
kept_again keeps f S T F again alike a h = let (g, k, is) = again a h.1 in (g, (alike g is ∙ h.0, k), is)

-- ---- what two trees have in common, whatever their number literals are

abbrev pub AlikeSelector : Selector → Selector → Type 0
AlikeSelector s t = (is_typed_selector t ≡ is_typed_selector s) × (is_step (one t) ≡ is_step (one s))

abbrev pub AlikeSelectors : Selectors → Selectors → Type 0
AlikeSelectors ss ts = (are_typed_selectors ts ≡ are_typed_selectors ss) × (IsSeveral ss → IsSeveral ts)

abbrev pub AlikeMoreSelectors : Selectors → Selectors → Type 0
AlikeMoreSelectors ss ts = (are_typed_selectors ts ≡ are_typed_selectors ss) × ((s t : Selector) → IsSeveral (selector s ss) → IsSeveral (selector t ts))

abbrev pub AlikeSegment : Segment → Segment → Type 0
AlikeSegment g h = (is_typed_segment h ≡ is_typed_segment g) × (is_step h ≡ is_step g)

abbrev pub AlikeSegments : Segments → Segments → Type 0
AlikeSegments gs hs = (is_typed hs ≡ is_typed gs) × (is_singular hs ≡ is_singular gs)

abbrev pub AlikeFilter : Filter → Filter → Type 0
AlikeFilter f g = (is_typed_filter g ≡ is_typed_filter f) × (IsNoBareTest f → IsNoBareTest g) × (is_conjunction g ≡ is_conjunction f) × (is_basic g ≡ is_basic f) × (is_comparison g ≡ is_comparison f)

abbrev pub AlikeFilters : Filters → Filters → Type 0
AlikeFilters fs gs = (are_typed_filters gs ≡ are_typed_filters fs) × (IsPlural fs → IsPlural gs)

abbrev pub AlikeMoreFilters : Filters → Filters → Type 0
AlikeMoreFilters fs gs = (are_typed_filters gs ≡ are_typed_filters fs) × ((f g : Filter) → IsPlural (filter_then f fs) → IsPlural (filter_then g gs))

abbrev pub AlikeTest : Test → Test → Type 0
AlikeTest t u = (is_typed_test u ≡ is_typed_test t) × (is_truth_test u ≡ is_truth_test t) × (is_value_test u ≡ is_value_test t) × (is_query_test u ≡ is_query_test t) × (is_comparable (test_argument u) ≡ is_comparable (test_argument t)) × (is_singular_test u ≡ is_singular_test t)

abbrev pub AlikeCall : Call → Call → Type 0
AlikeCall c d = (is_typed_call d ≡ is_typed_call c) × (gives_value d ≡ gives_value c)

abbrev pub AlikeArgument : Argument → Argument → Type 0
AlikeArgument x y = (is_typed_argument y ≡ is_typed_argument x) × (is_value_argument y ≡ is_value_argument x) × (is_query_argument y ≡ is_query_argument x) × (is_comparable y ≡ is_comparable x)

abbrev pub AlikeArguments : Arguments → Arguments → Type 0
AlikeArguments xs ys = are_typed_arguments ys ≡ are_typed_arguments xs

-- ---- each kind of tree

module _ (N M : Option ℤ → List ℕ → Type 0) (again : (v : Option ℤ) (a : List ℕ) → N v a → (w : Option ℤ) × M w a) where
  pub literal_again : (l : Literal) (a : List ℕ) → SpellsLiteral N l a → (m : Literal) × SpellsLiteral M m a
  literal_again (number v) a h = let (w, k) = again v a h in (number w, k)
  literal_again (string s) a h = (string s, h)
  literal_again (bool true) a h = (bool true, h)
  literal_again (bool false) a h = (bool false, h)
  literal_again null a h = (null, h)

  mutual
    pub selector_again : (s : Selector) (a : List ℕ) → SpellsSelector N s a → (t : Selector) × SpellsSelector M t a × AlikeSelector s t
    selector_again (name n) a h = (name n, h, (refl, refl))
    selector_again wildcard a h = (wildcard, h, (refl, refl))
    selector_again (index i) a h = (index i, h, (refl, refl))
    selector_again (slice start end step) a h = (slice start end step, h, (refl, refl))
    selector_again (filter f) a h =
        let (b, x, hb, hx, e) = h in let (g, k, alike) = logical_again f x hx in
        (filter g, (b, x, hb, k, e), (alike.0, refl))

    selectors_again : (ss : Selectors) (a : List ℕ) → SpellsSelectors N ss a → (ts : Selectors) × SpellsSelectors M ts a × AlikeSelectors ss ts
    selectors_again no_selectors a h = absurd h
    selectors_again (selector s ss) a h =
        let (t, ts, k, first, others) = then_again (SpellsSelector N s) (SpellsMoreSelectors N ss) (SpellsSelector M) (SpellsMoreSelectors M) (AlikeSelector s) (AlikeMoreSelectors ss) (selector_again s) (more_selectors_again ss) a h in
        (selector t ts, k, (and_alike first.0 others.0, others.1 s t))

    more_selectors_again : (ss : Selectors) (a : List ℕ) → SpellsMoreSelectors N ss a → (ts : Selectors) × SpellsMoreSelectors M ts a × AlikeMoreSelectors ss ts
    more_selectors_again no_selectors a h = (no_selectors, h, (refl, λ s t k. k))
    more_selectors_again (selector s ss) a h =
        let (t, ts, k, first, others) = behind_again (SpellsSelector N s) (SpellsMoreSelectors N ss) (SpellsSelector M) (SpellsMoreSelectors M) (AlikeSelector s) (AlikeMoreSelectors ss) (selector_again s) (more_selectors_again ss) (codes ",") a h in
        (selector t ts, k, (and_alike first.0 others.0, λ x y n. n))

    pub segment_again : (g : Segment) (a : List ℕ) → SpellsSegment N g a → (h : Segment) × SpellsSegment M h a × AlikeSegment g h
    segment_again (one s) a (inl h) =
        let (t, k, alike) = between_again (SpellsSelector N s) (SpellsSelector M) (AlikeSelector s) (selector_again s) (codes "[") (codes "]") a h in
        (one t, inl k, (alike.0, alike.1))
    segment_again (one s) a (inr h) = (one s, inr h, (refl, refl))
    segment_again (several ss) a h =
        let (ts, k, alike) = between_again (SpellsSelectors N ss) (SpellsSelectors M) (AlikeSelectors ss) (selectors_again ss) (codes "[") (codes "]") a h.1 in
        (several ts, (alike.1 h.0, k), (alike.0, refl))
    segment_again (descendant g) a h = let (k, spelled, alike) = below_again g a h in (descendant k, spelled, (alike, refl))

    pub below_again : (g : Segment) (a : List ℕ) → SpellsSegment N (descendant g) a → (k : Segment) × SpellsSegment M (descendant k) a × (is_typed_segment k ≡ is_typed_segment g)
    below_again (one s) a (x, inl h, e) =
        let (t, k, alike) = between_again (SpellsSelector N s) (SpellsSelector M) (AlikeSelector s) (selector_again s) (codes "[") (codes "]") x h in
        (one t, (x, inl k, e), alike.0)
    below_again (one s) a (x, inr h, e) = (one s, (x, inr h, e), refl)
    below_again (several ss) a (x, plural, h, e) =
        let (ts, k, alike) = between_again (SpellsSelectors N ss) (SpellsSelectors M) (AlikeSelectors ss) (selectors_again ss) (codes "[") (codes "]") x h in
        (several ts, (x, alike.1 plural, k, e), alike.0)
    below_again (descendant g) a h = absurd h

    pub segments_again : (gs : Segments) (a : List ℕ) → SpellsSegments N gs a → (hs : Segments) × SpellsSegments M hs a × AlikeSegments gs hs
    segments_again no_segments a h = (no_segments, h, (refl, refl))
    segments_again (segment g gs) a h =
        let (b, x, c, hb, hx, hc, e) = h in
        let (first, k, alike) = segment_again g x hx in
        let (others, ks, all_alike) = segments_again gs c hc in
        (segment first others, (b, x, c, hb, k, ks, e), (and_alike alike.0 all_alike.0, and_alike alike.1 all_alike.1))

    pub logical_again : (f : Filter) (a : List ℕ) → SpellsLogical N f a → (g : Filter) × SpellsLogical M g a × AlikeFilter f g
    logical_again (or fs) a h = let (gs, k, alike) = or_again fs a h.1 in (or gs, (alike.1 h.0, k), (alike.0, λ n. n, refl, refl, refl))
    logical_again (and fs) a h = let (gs, k, alike) = and_again fs a h.1 in (and gs, (alike.1 h.0, k), (alike.0, λ n. n, refl, refl, refl))
    logical_again (group negated f) a h =
        let (b, c, hb, hc, e) = h in
        let (g, k, alike) = between_again (SpellsLogical N f) (SpellsLogical M) (AlikeFilter f) (logical_again f) (codes "(") (codes ")") c hc in
        (group negated g, (b, c, hb, k, e), (alike.0, λ n. n, refl, refl, refl))
    logical_again (test true t) a h =
        let (b, c, hb, hc, e) = h in let (u, k, alike) = test_again t c hc in
        (test true u, (b, c, hb, k, e), (and_alike alike.1 alike.0, λ n. n, refl, refl, refl))
    logical_again (test false t) a h =
        let (b, c, hb, hc, e) = h in let (u, k, alike) = test_again t c hc in
        (test false u, (b, c, hb, k, e), (and_alike alike.1 alike.0, λ n. n, refl, refl, refl))
    logical_again (compare op l r) a h =
        let (x, b, o, c, y, hx, hb, ho, hc, hy, e) = h in
        let (left, kl, al) = argument_again l x hx.1 in
        let (right, kr, ar) = argument_again r y hy.1 in
        (compare op left right, (x, b, o, c, y, (al.3 ∙ hx.0, kl), hb, ho, hc, (ar.3 ∙ hy.0, kr), e), (and_alike (and_alike al.1 al.0) (and_alike ar.1 ar.0), λ n. n, refl, refl, refl))

    or_again : (fs : Filters) (a : List ℕ) → SpellsOr N fs a → (gs : Filters) × SpellsOr M gs a × AlikeFilters fs gs
    or_again no_filters a h = absurd h
    or_again (filter_then f fs) a h =
        let (g, gs, k, first, others) = then_again (SpellsConjunction N f) (SpellsMoreOr N fs) (SpellsConjunction M) (SpellsMoreOr M) (AlikeFilter f) (AlikeMoreFilters fs) (kept_again is_conjunction f (SpellsLogical N f) (SpellsLogical M) (AlikeFilter f) (logical_again f) (λ g alike. alike.2)) (more_or_again fs) a h in
        (filter_then g gs, k, (and_alike first.0 others.0, others.1 f g))

    more_or_again : (fs : Filters) (a : List ℕ) → SpellsMoreOr N fs a → (gs : Filters) × SpellsMoreOr M gs a × AlikeMoreFilters fs gs
    more_or_again no_filters a h = (no_filters, h, (refl, λ f g k. k))
    more_or_again (filter_then f fs) a h =
        let (g, gs, k, first, others) = behind_again (SpellsConjunction N f) (SpellsMoreOr N fs) (SpellsConjunction M) (SpellsMoreOr M) (AlikeFilter f) (AlikeMoreFilters fs) (kept_again is_conjunction f (SpellsLogical N f) (SpellsLogical M) (AlikeFilter f) (logical_again f) (λ g alike. alike.2)) (more_or_again fs) (codes "||") a h in
        (filter_then g gs, k, (and_alike first.0 others.0, λ x y n. n))

    and_again : (fs : Filters) (a : List ℕ) → SpellsAnd N fs a → (gs : Filters) × SpellsAnd M gs a × AlikeFilters fs gs
    and_again no_filters a h = absurd h
    and_again (filter_then f fs) a h =
        let (g, gs, k, first, others) = then_again (SpellsBasic N f) (SpellsMoreAnd N fs) (SpellsBasic M) (SpellsMoreAnd M) (AlikeFilter f) (AlikeMoreFilters fs) (kept_again is_basic f (SpellsLogical N f) (SpellsLogical M) (AlikeFilter f) (logical_again f) (λ g alike. alike.3)) (more_and_again fs) a h in
        (filter_then g gs, k, (and_alike first.0 others.0, others.1 f g))

    more_and_again : (fs : Filters) (a : List ℕ) → SpellsMoreAnd N fs a → (gs : Filters) × SpellsMoreAnd M gs a × AlikeMoreFilters fs gs
    more_and_again no_filters a h = (no_filters, h, (refl, λ f g k. k))
    more_and_again (filter_then f fs) a h =
        let (g, gs, k, first, others) = behind_again (SpellsBasic N f) (SpellsMoreAnd N fs) (SpellsBasic M) (SpellsMoreAnd M) (AlikeFilter f) (AlikeMoreFilters fs) (kept_again is_basic f (SpellsLogical N f) (SpellsLogical M) (AlikeFilter f) (logical_again f) (λ g alike. alike.3)) (more_and_again fs) (codes "&&") a h in
        (filter_then g gs, k, (and_alike first.0 others.0, λ x y n. n))

    pub test_again : (t : Test) (a : List ℕ) → SpellsTest N t a → (u : Test) × SpellsTest M u a × AlikeTest t u
    test_again (relative gs) a h = let (x, hx, e) = h in let (hs, k, alike) = segments_again gs x hx in (relative hs, (x, k, e), (alike.0, refl, alike.1, refl, alike.1, alike.1))
    test_again (absolute gs) a h = let (x, hx, e) = h in let (hs, k, alike) = segments_again gs x hx in (absolute hs, (x, k, e), (alike.0, refl, alike.1, refl, alike.1, alike.1))
    test_again (call c) a h = let (d, k, alike) = call_again c a h in (call d, k, (alike.0, ap not alike.1, alike.1, refl, refl, refl))

    pub call_again : (c : Call) (a : List ℕ) → SpellsCall N c a → (d : Call) × SpellsCall M d a × AlikeCall c d
    call_again (custom_call n xs) a h =
        let (ys, k, alike) = between_again (SpellsArguments N xs) (SpellsArguments M) (AlikeArguments xs) (arguments_again xs) (n ++ codes "(") (codes ")") a h.1 in
        (custom_call n ys, (h.0, k), (alike, refl))
    call_again (length_call x) a h =
        let (y, k, alike) = between_again (SpellsArgument N x) (SpellsArgument M) (AlikeArgument x) (argument_again x) (codes "length" ++ codes "(") (codes ")") a h in
        (length_call y, k, (and_alike alike.1 alike.0, refl))
    call_again (value_call x) a h =
        let (y, k, alike) = between_again (SpellsArgument N x) (SpellsArgument M) (AlikeArgument x) (argument_again x) (codes "value" ++ codes "(") (codes ")") a h in
        (value_call y, k, (and_alike alike.2 alike.0, refl))
    call_again (count_call x) a h =
        let (y, k, alike) = between_again (SpellsArgument N x) (SpellsArgument M) (AlikeArgument x) (argument_again x) (codes "count" ++ codes "(") (codes ")") a h in
        (count_call y, k, (and_alike alike.2 alike.0, refl))
    call_again (search_call x y) a h =
        let (b, p, c, hb, hp, hc, e) = h in
        let (q, r, hq, hr, e2) = hp in
        let (b2, c2, s, d, hb2, hc2, hs, hd, e3) = hr in
        let (v, k, alike) = argument_again x q hq in
        let (w, m, other) = argument_again y s hs in
        (search_call v w, (b, p, c, hb, (q, r, k, (b2, c2, s, d, hb2, hc2, m, hd, e3), e2), hc, e), (and_alike (and_alike alike.1 other.1) (and_alike alike.0 other.0), refl))
    call_again (match_call x y) a h =
        let (b, p, c, hb, hp, hc, e) = h in
        let (q, r, hq, hr, e2) = hp in
        let (b2, c2, s, d, hb2, hc2, hs, hd, e3) = hr in
        let (v, k, alike) = argument_again x q hq in
        let (w, m, other) = argument_again y s hs in
        (match_call v w, (b, p, c, hb, (q, r, k, (b2, c2, s, d, hb2, hc2, m, hd, e3), e2), hc, e), (and_alike (and_alike alike.1 other.1) (and_alike alike.0 other.0), refl))

    argument_again : (x : Argument) (a : List ℕ) → SpellsArgument N x a → (y : Argument) × SpellsArgument M y a × AlikeArgument x y
    argument_again (literal_argument l) a h = let (m, k) = literal_again l a h in (literal_argument m, k, (refl, refl, refl, refl))
    argument_again (test_argument t) a h = let (u, k, alike) = test_again t a h in (test_argument u, k, (alike.0, alike.2, alike.3, alike.4))
    argument_again (filter_argument f) a h = let (g, k, alike) = logical_again f a h.1 in (filter_argument g, (alike.1 h.0, k), (alike.0, refl, refl, refl))

    arguments_again : (xs : Arguments) (a : List ℕ) → SpellsArguments N xs a → (ys : Arguments) × SpellsArguments M ys a × AlikeArguments xs ys
    arguments_again no_arguments a h = (no_arguments, h, refl)
    arguments_again (argument x xs) a h =
        let (y, ys, k, first, others) = then_again (SpellsArgument N x) (SpellsMoreArguments N xs) (SpellsArgument M) (SpellsMoreArguments M) (AlikeArgument x) (AlikeArguments xs) (argument_again x) (more_arguments_again xs) a h in
        (argument y ys, k, and_alike first.0 others)

    more_arguments_again : (xs : Arguments) (a : List ℕ) → SpellsMoreArguments N xs a → (ys : Arguments) × SpellsMoreArguments M ys a × AlikeArguments xs ys
    more_arguments_again no_arguments a h = (no_arguments, h, refl)
    more_arguments_again (argument x xs) a h =
        let (y, ys, k, first, others) = behind_again (SpellsArgument N x) (SpellsMoreArguments N xs) (SpellsArgument M) (SpellsMoreArguments M) (AlikeArgument x) (AlikeArguments xs) (argument_again x) (more_arguments_again xs) (codes ",") a h in
        (argument y ys, k, and_alike first.0 others)

  pub conjunction_again : (f : Filter) (a : List ℕ) → SpellsConjunction N f a → (g : Filter) × SpellsConjunction M g a × AlikeFilter f g
  conjunction_again f = kept_again is_conjunction f (SpellsLogical N f) (SpellsLogical M) (AlikeFilter f) (logical_again f) (λ g alike. alike.2)

  pub basic_again : (f : Filter) (a : List ℕ) → SpellsBasic N f a → (g : Filter) × SpellsBasic M g a × AlikeFilter f g
  basic_again f = kept_again is_basic f (SpellsLogical N f) (SpellsLogical M) (AlikeFilter f) (logical_again f) (λ g alike. alike.3)

  pub comparison_again : (f : Filter) (a : List ℕ) → SpellsComparison N f a → (g : Filter) × SpellsComparison M g a × AlikeFilter f g
  comparison_again f = kept_again is_comparison f (SpellsLogical N f) (SpellsLogical M) (AlikeFilter f) (logical_again f) (λ g alike. alike.4)

  pub comparable_again : (x : Argument) (a : List ℕ) → SpellsComparable N x a → (y : Argument) × SpellsComparable M y a × (is_typed_side y ≡ is_typed_side x)
  comparable_again x a h = let (y, k, alike) = argument_again x a h.1 in (y, (alike.3 ∙ h.0, k), and_alike alike.1 alike.0)

  pub query_again : (q : Query) (a : List ℕ) → Spells N q a → (p : Query) × Spells M p a × (is_typed p ≡ is_typed q)
  query_again q a h = let (x, hx, e) = h in let (p, k, alike) = segments_again q x hx in (p, (x, k, e), alike.0)
