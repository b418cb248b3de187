-- How each part of the grammar begins.
use Rattle.std.proofs.Common.{◌≡◌, ℕ, ◌<◌, Bool, true, false, ◌||◌, ◌==◌, ℤ, List, ◌++◌, length, codes, Option, refl, inl, inr, append_assoc, arith}
use Rattle.std.proofs.lemmas.Bool.Decides.{nat_tests}
use Rattle.jsonpath_parser.specs.Prelude.{absolute, and, Argument, bool, Call, call, compare, count_call, custom_call, descendant, Filter, filter, filter_argument, filter_then, Filters, first, group, index, is_blank, is_function_first, is_int_first, is_name_byte, is_quote, length_call, Literal, literal_argument, match_call, name, no_filters, no_segments, null, number, one, or, relative, search_call, Segment, segment, Segments, Selector, several, slice, SpellsAnd, SpellsArgument, SpellsCall, SpellsComparable, SpellsLiteral, SpellsLogical, SpellsNot, SpellsOr, SpellsSegment, SpellsSegments, SpellsSelector, SpellsTest, starts_segment, string, Test, test, test_argument, value_call, wildcard}
use Rattle.jsonpath_parser.proofs.CompleteParts.{front_other}
use Rattle.jsonpath_parser.proofs.CompleteSlices.{numbered_other, index_start, slice_start}
use Rattle.jsonpath_parser.proofs.CompleteWords.{word_start, string_start}

-- `@`, `$`, a quote, a digit, `-` or a letter begins a literal, a query or a call
abbrev pub starts_operand : ℕ → Bool
starts_operand b = (((is_int_first b || is_function_first b) || is_quote b) || b == 64) || b == 36

-- and `!` or `(` any other operand of `&&`
abbrev pub starts_basic : ℕ → Bool
starts_basic b = (starts_operand b || b == 33) || b == 40

-- no operand begins with a blank, `!`, `(` or `=`
pub operand_other : (b : ℕ) → starts_operand b ≡ true → (is_blank b ≡ false) × ((b == 33) ≡ false) × ((b == 40) ≡ false) × ((b == 61) ≡ false)
operand_other b h = (grind (arith, nat_tests), grind (arith, nat_tests), grind (arith, nat_tests), grind (arith, nat_tests))

-- no logical expression begins with a blank or `)`
pub basic_other : (b : ℕ) → starts_basic b ≡ true → (is_blank b ≡ false) × ((b == 41) ≡ false)
basic_other b h = (grind (arith, nat_tests), grind (arith, nat_tests))

-- an operand is the one or the other
operand_basic : (b : ℕ) → starts_operand b ≡ true → starts_basic b ≡ true
operand_basic b h = rw h refl

quote_operand : (b : ℕ) → is_quote b ≡ true → starts_operand b ≡ true
quote_operand b h = grind (arith, nat_tests)

letter_operand : (b : ℕ) → is_function_first b ≡ true → starts_operand b ≡ true
letter_operand b h = grind (arith, nat_tests)

quote_blank : (b : ℕ) → is_quote b ≡ true → is_blank b ≡ false
quote_blank b h = grind (arith, nat_tests)

-- three pieces and a rest
pub regroup : (a b c d : List ℕ) → (a ++ (b ++ c)) ++ d ≡ a ++ (b ++ (c ++ d))
regroup a b c d = simp append_assoc

-- `!` or what follows
not_start : (negated : Bool) (a rest : List ℕ) → SpellsNot negated a → starts_basic (first rest) ≡ true → starts_basic (first (a ++ rest)) ≡ true
not_start true a rest h start = let (b, hb, e) = h in rw e refl
not_start false a rest h start = rw h start

module _ (Number : Option ℤ → List ℕ → Type 0) where
  -- a segment begins with a dot or a bracket
  pub segment_start : (g : Segment) (x rest : List ℕ) → SpellsSegment Number g x → (starts_segment (x ++ rest) ≡ true) × (is_blank (first (x ++ rest)) ≡ false) × (is_name_byte (first (x ++ rest)) ≡ false)
  segment_start (one s) x rest h = elim h [
    | inl h ↦ (let (b, a, c, hb, ha, hc, e) = h in rw e (refl, refl, refl))
    | inr h ↦ (let (a, ha, e) = h in rw e (refl, refl, refl))
  ]
  segment_start (several ss) x rest h = let (b, a, c, hb, ha, hc, e) = h.1 in rw e (refl, refl, refl)
  segment_start (descendant (one s)) x rest h = let (a, ha, e) = h in rw e (refl, refl, refl)
  segment_start (descendant (several ss)) x rest h = let (a, some, ha, e) = h in rw e (refl, refl, refl)
  segment_start (descendant (descendant g)) x rest h = absurd h

  -- and none is empty
  pub segment_some : (g : Segment) (x : List ℕ) → SpellsSegment Number g x → 0 < length x
  segment_some (one s) x h = elim h [
    | inl h ↦ (let (b, a, c, hb, ha, hc, e) = h in rw e (omega arith))
    | inr h ↦ (let (a, ha, e) = h in rw e (omega arith))
  ]
  segment_some (several ss) x h = let (b, a, c, hb, ha, hc, e) = h.1 in rw e (omega arith)
  segment_some (descendant (one s)) x h = let (a, ha, e) = h in rw e (omega arith)
  segment_some (descendant (several ss)) x h = let (a, some, ha, e) = h in rw e (omega arith)
  segment_some (descendant (descendant g)) x h = absurd h

  -- what a name ends at, before further segments
  pub name_ends : (gs : Segments) (c more : List ℕ) → SpellsSegments Number gs c → is_name_byte (first more) ≡ false → is_name_byte (first (c ++ more)) ≡ false
  name_ends no_segments c more h stop = rw h stop
  name_ends (segment g gs) c more h stop =
      let (b, x, r, hb, hx, hr, e) = h in
      rw (e, regroup b x r more) (front_other is_name_byte b (x ++ (r ++ more)) hb (λ d blank. grind (arith, nat_tests)) (segment_start g x (r ++ more) hx).2)

  module _ (number_first : (v : Option ℤ) (a more : List ℕ) → Number v a → is_int_first (first (a ++ more)) ≡ true) where
    pub literal_start : (l : Literal) (a more : List ℕ) → SpellsLiteral Number l a → starts_operand (first (a ++ more)) ≡ true
    literal_start (number v) a more h = rw (number_first v a more h) refl
    literal_start (string s) a more h = quote_operand (first (a ++ more)) (string_start s a more h)
    literal_start (bool true) a more h = rw h refl
    literal_start (bool false) a more h = rw h refl
    literal_start null a more h = rw h refl

    pub call_start : (c : Call) (a more : List ℕ) → SpellsCall Number c a → is_function_first (first (a ++ more)) ≡ true
    call_start (custom_call n xs) a more h =
        let (b, x, c, hb, hx, hc, e) = h.1 in
        let text : a ++ more ≡ n ++ ((codes "(" ++ (b ++ (x ++ (c ++ codes ")")))) ++ more) = rw e (simp append_assoc) in
        rw text (word_start n ((codes "(" ++ (b ++ (x ++ (c ++ codes ")")))) ++ more) h.0.0)
    call_start (length_call x) a more h = let (b, r, c, hb, hr, hc, e) = h in rw e refl
    call_start (value_call x) a more h = let (b, r, c, hb, hr, hc, e) = h in rw e refl
    call_start (count_call x) a more h = let (b, r, c, hb, hr, hc, e) = h in rw e refl
    call_start (search_call x y) a more h = let (b, r, c, hb, hr, hc, e) = h in rw e refl
    call_start (match_call x y) a more h = let (b, r, c, hb, hr, hc, e) = h in rw e refl

    pub test_start : (t : Test) (a more : List ℕ) → SpellsTest Number t a → starts_operand (first (a ++ more)) ≡ true
    test_start (relative gs) a more h = let (r, hr, e) = h in rw e refl
    test_start (absolute gs) a more h = let (r, hr, e) = h in rw e refl
    test_start (call c) a more h = letter_operand (first (a ++ more)) (call_start c a more h)

    pub comparable_start : (x : Argument) (a more : List ℕ) → SpellsComparable Number x a → starts_operand (first (a ++ more)) ≡ true
    comparable_start (literal_argument l) a more h = literal_start l a more h.1
    comparable_start (test_argument t) a more h = test_start t a more h.1
    comparable_start (filter_argument f) a more h = let none = h.0 in absurd (cc)

    mutual
      -- a logical expression; all its operands are such
      pub logical_start : (f : Filter) (a more : List ℕ) → SpellsLogical Number f a → starts_basic (first (a ++ more)) ≡ true
      logical_start (or fs) a more h = or_start fs a more h.1
      logical_start (and fs) a more h = and_start fs a more h.1
      logical_start (group negated f) a more h =
          let (p, q, hp, hq, e) = h in
          let (b, x, c, hb, hx, hc, eq) = hq in
          let behind : starts_basic (first (q ++ more)) ≡ true = rw eq refl in
          rw (e, append_assoc p q more) (not_start negated p (q ++ more) hp behind)
      logical_start (test negated t) a more h =
          let (p, q, hp, hq, e) = h in
          let behind : starts_basic (first (q ++ more)) ≡ true = operand_basic (first (q ++ more)) (test_start t q more hq) in
          rw (e, append_assoc p q more) (not_start negated p (q ++ more) hp behind)
      logical_start (compare op l r) a more h =
          let (x, b, o, c, d, hx, hb, ho, hc, hd, e) = h in
          rw (e, append_assoc x (b ++ (o ++ (c ++ d))) more) (operand_basic (first (x ++ ((b ++ (o ++ (c ++ d))) ++ more))) (comparable_start l x ((b ++ (o ++ (c ++ d))) ++ more) hx))

      and_start : (fs : Filters) (a more : List ℕ) → SpellsAnd Number fs a → starts_basic (first (a ++ more)) ≡ true
      and_start no_filters a more h = absurd h
      and_start (filter_then f fs) a more h = let (x, d, hx, hd, e) = h in rw (e, append_assoc x d more) (logical_start f x (d ++ more) hx.1)

      or_start : (fs : Filters) (a more : List ℕ) → SpellsOr Number fs a → starts_basic (first (a ++ more)) ≡ true
      or_start no_filters a more h = absurd h
      or_start (filter_then f fs) a more h = let (x, d, hx, hd, e) = h in rw (e, append_assoc x d more) (logical_start f x (d ++ more) hx.1)

    pub argument_start : (x : Argument) (a more : List ℕ) → SpellsArgument Number x a → starts_basic (first (a ++ more)) ≡ true
    argument_start (literal_argument l) a more h = operand_basic (first (a ++ more)) (literal_start l a more h)
    argument_start (test_argument t) a more h = operand_basic (first (a ++ more)) (test_start t a more h)
    argument_start (filter_argument f) a more h = logical_start f a more h.1

  -- no selector begins with a blank
  pub selector_start : (x : Selector) (a more : List ℕ) → SpellsSelector Number x a → is_blank (first (a ++ more)) ≡ false
  selector_start (name n) a more h = quote_blank (first (a ++ more)) (string_start n a more h)
  selector_start wildcard a more h = rw h refl
  selector_start (index i) a more h = (numbered_other (first (a ++ more)) (index_start i a more h)).0
  selector_start (slice start end step) a more h = (numbered_other (first (a ++ more)) (slice_start start end step a more h)).0
  selector_start (filter f) a more h = let (b, r, hb, hr, e) = h in rw e refl
