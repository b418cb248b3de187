-- Filters and arguments that are spelled are read, where the text after them cannot continue them.
use Rattle.std.proofs.Common.{◌≡◌, ℕ, suc, ◌+◌, ◌-◌, ◌<◌, ◌≤◌, Bool, true, false, ◌==◌, ℤ, List, [], ◌∷◌, ◌++◌, length, drop, codes, Option, Some, refl, ap, ◌∙◌, append_assoc, length-append, arith}
use Rattle.std.proofs.lemmas.Bool.Decides.{nat_tests}
use Rattle.jsonpath_parser.specs.Prelude.{and, ands_at, Argument, basic_at, Between, comparable_of, compare, compared_at, conjunction_at, disjunction_at, Filter, filter_argument, filter_of, filter_then, Filters, first, group, group_at, is_blank, is_int_first, is_operator_first, is_twice, IsNoBareTest, literal_argument, logical_at, negated_at, no_filters, operand_at, operand_behind, Operator, operator_at, or, ors_at, plain_at, Read, skip_blank, SpellsArgument, SpellsBasic, SpellsConjunction, SpellsLogical, SpellsMoreAnd, SpellsMoreOr, SpellsTest, Test, test, test_argument}
use Rattle.jsonpath_parser.proofs.laws.words.Fronts.{skip_over}
use Rattle.jsonpath_parser.proofs.Turns.{many_end, many_read, operand_read}
use Rattle.jsonpath_parser.proofs.NumberComplete.{EndsNumber}
use Rattle.jsonpath_parser.proofs.CompleteParts.{ends_logical, ends_conjunction, ends_basic, ends_operand, EndsLogical, EndsConjunction, EndsBasic, EndsOperand, logical_ends, conjunction_ends, basic_ends, follows, front_other}
use Rattle.jsonpath_parser.proofs.CompleteStarts.{starts_operand, operand_other, basic_other, literal_start, comparable_start, test_start, logical_start}
use Rattle.jsonpath_parser.proofs.CompleteWords.{operator_over, operator_start}
use Rattle.jsonpath_parser.proofs.CompleteSegments.{as_argument, filter_back, complete_logical}
use Rattle.jsonpath_parser.proofs.CompleteOperands.{comparable_back, complete_literal, complete_test, complete_comparable}

-- ---- bytes

-- an operator is no blank, and ends an operand
operator_byte : (b : ℕ) → is_operator_first b ≡ true → (is_blank b ≡ false) × (ends_operand b ≡ true)
operator_byte b h = (grind (arith, nat_tests), grind (arith, nat_tests))

-- what ends an operand of `&&` is no operator
no_operator : (b : ℕ) → ends_basic b ≡ true → is_operator_first b ≡ false
no_operator b h = grind (arith, nat_tests)

no_and : (b : ℕ) → ends_conjunction b ≡ true → (b == 38) ≡ false
no_and b h = grind (arith, nat_tests)

no_or : (b : ℕ) → ends_logical b ≡ true → (b == 124) ≡ false
no_or b h = grind (arith, nat_tests)

-- no blank is `=`
blank_equal : (c : ℕ) → is_blank c ≡ true → (c == 61) ≡ false
blank_equal c h = grind (arith, nat_tests)

-- a byte that does not stand at the front does not stand there twice
once : (byte : ℕ) (text : List ℕ) → (first text == byte) ≡ false → is_twice byte text ≡ false
once byte text h = rw h refl

-- ---- pieces

-- a comparison and the text after it
comparison_pieces : (a b o c d more : List ℕ) → (a ++ (b ++ (o ++ (c ++ d)))) ++ more ≡ a ++ (b ++ (o ++ (c ++ (d ++ more))))
comparison_pieces a b o c d more = simp append_assoc

-- a group
group_pieces : (b a c more : List ℕ) → (40 ∷ (b ++ (a ++ (c ++ 41 ∷ [])))) ++ more ≡ 40 ∷ (b ++ (a ++ (c ++ 41 ∷ more)))
group_pieces b a c more = simp append_assoc

-- a text behind a mark of two bytes
twice_pieces : (b c a d more : List ℕ) (mark : ℕ) → (b ++ (mark ∷ mark ∷ (c ++ (a ++ d)))) ++ more ≡ b ++ (mark ∷ mark ∷ (c ++ (a ++ (d ++ more))))
twice_pieces b c a d more mark = simp append_assoc

module _ (Number : Option ℤ → List ℕ → Type 0) where
  -- what follows an operand of `&&`
  and_ends : (fs : Filters) (r more : List ℕ) → SpellsMoreAnd Number fs r → EndsConjunction more → EndsBasic (r ++ more)
  and_ends no_filters r more h stop = rw h (conjunction_ends more stop)
  and_ends (filter_then f fs) r more h stop =
      let (b, c, a, d, hb, hc, ha, hd, e) = h in
      let skipped : skip_blank (r ++ more) ≡ 38 ∷ 38 ∷ (c ++ (a ++ (d ++ more))) = rw (e, twice_pieces b c a d more 38) (follows b (38 ∷ (c ++ (a ++ (d ++ more)))) 38 hb refl) in
      rw skipped refl

  -- what follows an operand of `||`
  or_ends : (fs : Filters) (r more : List ℕ) → SpellsMoreOr Number fs r → EndsLogical more → EndsConjunction (r ++ more)
  or_ends no_filters r more h stop = rw h (logical_ends more stop)
  or_ends (filter_then f fs) r more h stop =
      let (b, c, a, d, hb, hc, ha, hd, e) = h in
      let skipped : skip_blank (r ++ more) ≡ 124 ∷ 124 ∷ (c ++ (a ++ (d ++ more))) = rw (e, twice_pieces b c a d more 124) (follows b (124 ∷ (c ++ (a ++ (d ++ more)))) 124 hb refl) in
      rw skipped refl

module _ (Number : Option ℤ → List ℕ → Type 0) (number_first : (v : Option ℤ) (a more : List ℕ) → Number v a → is_int_first (first (a ++ more)) ≡ true)
    (literal_at : List ℕ → Read (Option ℤ)) (number_over : (v : Option ℤ) (a more : List ℕ) → Number v a → EndsNumber more → literal_at (a ++ more) ≡ Some (v, more))
    (argument_at : List ℕ → Read Argument) (n : ℕ)
    (oracle : (x : Argument) (a more : List ℕ) → SpellsArgument Number x a → EndsLogical more → length (a ++ more) < n → argument_at (a ++ more) ≡ Some (x, more)) where
  -- ---- groups

  group_reads : (negated : Bool) (inner start rest behind : List ℕ) (f : Filter) → skip_blank inner ≡ start → logical_at literal_at argument_at start ≡ Some (f, rest) → skip_blank rest ≡ 41 ∷ behind
      → group_at literal_at argument_at negated (40 ∷ inner) ≡ Some (filter_argument (group negated f), behind)
  unfolding group_at
  group_reads negated inner start rest behind f skipped read close = rw (skipped, read, close) refl

  complete_group : (negated : Bool) (f : Filter) (a more : List ℕ) → Between (codes "(") (SpellsLogical Number f) (codes ")") a → length (a ++ more) ≤ n
      → group_at literal_at argument_at negated (a ++ more) ≡ Some (filter_argument (group negated f), more)
  complete_group negated f a more h fits =
      let (b, s, c, hb, hs, hc, e) = h in
      let tail : List ℕ = c ++ 41 ∷ more in
      let text : a ++ more ≡ 40 ∷ (b ++ (s ++ tail)) = rw e (group_pieces b s c more) in
      let close : skip_blank tail ≡ 41 ∷ more = follows c more 41 hc refl in
      let stop : EndsLogical tail = rw close refl in
      let skipped : skip_blank (b ++ (s ++ tail)) ≡ s ++ tail = skip_over b (s ++ tail) hb (basic_other (first (s ++ tail)) (logical_start Number number_first f s tail hs)).0 in
      let size : length (s ++ tail) < n = omega (arith, fits, ap length text, length-append b (s ++ tail)) in
      rw text (group_reads negated (b ++ (s ++ tail)) (s ++ tail) tail more f skipped (complete_logical Number number_first literal_at argument_at n oracle f s tail hs stop size) close)

  -- a group begins with `(`
  group_first : (f : Filter) (a more : List ℕ) → Between (codes "(") (SpellsLogical Number f) (codes ")") a → first (a ++ more) ≡ 40
  group_first f a more h = let (b, s, c, hb, hs, hc, e) = h in rw e refl

  -- ---- comparisons

  compared_reads : (text behind start rest : List ℕ) (op : Operator) (x y l r : Argument) → operator_at text ≡ Some (op, behind) → skip_blank behind ≡ start
      → operand_at literal_at argument_at start ≡ Some (y, rest)
      → comparable_of x ≡ Some l → comparable_of y ≡ Some r → compared_at literal_at argument_at x text ≡ Some (filter_argument (compare op l r), rest)
  unfolding compared_at
  compared_reads text behind start rest op x y l r mark skipped read left right = rw (mark, skipped, read, left, right) refl

  plain_alone : (text rest : List ℕ) (x : Argument) → operand_at literal_at argument_at text ≡ Some (x, rest) → is_operator_first (first (skip_blank rest)) ≡ false → plain_at literal_at argument_at text ≡ Some (x, rest)
  unfolding plain_at
  plain_alone text rest x read other = rw (read, other) refl

  plain_compared : (text rest start : List ℕ) (x : Argument) → operand_at literal_at argument_at text ≡ Some (x, rest) → skip_blank rest ≡ start → is_operator_first (first start) ≡ true
      → plain_at literal_at argument_at text ≡ compared_at literal_at argument_at x start
  unfolding plain_at
  plain_compared text rest start x read skipped mark = rw (read, skipped, mark) refl

  complete_comparison : (op : Operator) (l r : Argument) (a more : List ℕ) → SpellsLogical Number (compare op l r) a → EndsOperand more → length (a ++ more) ≤ n
      → plain_at literal_at argument_at (a ++ more) ≡ Some (filter_argument (compare op l r), more)
  complete_comparison op l r a more h stop fits =
      let (x, b, o, c, d, hx, hb, ho, hc, hd, e) = h in
      let right : List ℕ = d ++ more in
      let behind : List ℕ = c ++ right in
      let start : List ℕ = o ++ behind in
      let text : a ++ more ≡ x ++ (b ++ start) = rw e (comparison_pieces x b o c d more) in
      let size : length (x ++ (b ++ start)) ≤ n = rw text at fits in
      let size_right : length right ≤ n = omega (arith, size, length-append x (b ++ start), length-append b start, length-append o behind, length-append c right) in
      let mark : is_operator_first (first start) ≡ true = operator_start op o behind ho in
      let facts = operator_byte (first start) mark in
      let skipped : skip_blank (b ++ start) ≡ start = skip_over b start hb facts.0 in
      let ends : EndsOperand (b ++ start) = rw skipped facts.1 in
      let others = operand_other (first right) (comparable_start Number number_first r d more hd) in
      let read_left = complete_comparable Number number_first literal_at number_over argument_at n oracle l x (b ++ start) hx ends size in
      let read_right = complete_comparable Number number_first literal_at number_over argument_at n oracle r d more hd stop size_right in
      let read_mark = operator_over op o behind ho (front_other (λ v. v == 61) c right hc blank_equal others.3) in
      rw text (plain_compared (x ++ (b ++ start)) (b ++ start) start l read_left skipped mark
      ∙ compared_reads start behind right more op l r l r read_mark (skip_over c right hc others.0) read_right (comparable_back l hx.0) (comparable_back r hd.0))

  -- ---- operands of `&&`

  basic_plain : (text : List ℕ) → starts_operand (first text) ≡ true → basic_at literal_at argument_at text ≡ plain_at literal_at argument_at text
  unfolding basic_at
  basic_plain text start = let facts = operand_other (first text) start in rw (facts.1, facts.2) refl

  basic_group : (text : List ℕ) → first text ≡ 40 → basic_at literal_at argument_at text ≡ group_at literal_at argument_at false text
  unfolding basic_at
  basic_group text open_ = rw open_ refl

  basic_not : (text start : List ℕ) → skip_blank text ≡ start → basic_at literal_at argument_at (33 ∷ text) ≡ negated_at literal_at argument_at start
  unfolding basic_at
  basic_not text start skipped = rw skipped refl

  negated_group : (text : List ℕ) → first text ≡ 40 → negated_at literal_at argument_at text ≡ group_at literal_at argument_at true text
  unfolding negated_at
  negated_group text open_ = rw open_ refl

  negated_test : (text rest : List ℕ) (t : Test) → (first text == 40) ≡ false → operand_at literal_at argument_at text ≡ Some (test_argument t, rest)
      → negated_at literal_at argument_at text ≡ Some (filter_argument (test true t), rest)
  unfolding negated_at
  negated_test text rest t other read = rw (other, read) refl

  -- a comparison begins as its left side does
  comparison_start : (op : Operator) (l r : Argument) (a more : List ℕ) → SpellsLogical Number (compare op l r) a → starts_operand (first (a ++ more)) ≡ true
  comparison_start op l r a more h =
      let (x, b, o, c, d, hx, hb, ho, hc, hd, e) = h in
      rw (e, comparison_pieces x b o c d more) (comparable_start Number number_first l x (b ++ (o ++ (c ++ (d ++ more)))) hx)

  -- a query or a call alone
  complete_alone : (t : Test) (a more : List ℕ) → SpellsTest Number t a → EndsBasic more → length (a ++ more) ≤ n → basic_at literal_at argument_at (a ++ more) ≡ Some (test_argument t, more)
  complete_alone t a more h stop fits =
      basic_plain (a ++ more) (test_start Number number_first t a more h)
      ∙ plain_alone (a ++ more) more (test_argument t) (complete_test Number number_first literal_at number_over argument_at n oracle t a more h (basic_ends more stop) fits) (no_operator (first (skip_blank more)) stop)

  pub complete_basic : (f : Filter) (a more : List ℕ) → SpellsBasic Number f a → EndsBasic more → length (a ++ more) ≤ n → basic_at literal_at argument_at (a ++ more) ≡ Some (as_argument f, more)
  complete_basic (or fs) a more h stop fits = let none = h.0 in absurd (cc)
  complete_basic (and fs) a more h stop fits = let none = h.0 in absurd (cc)
  complete_basic (group false f) a more h stop fits =
      let (p, q, hp, hq, e) = h.1 in
      let text : a ++ more ≡ q ++ more = rw (e, hp) refl in
      let size : length (q ++ more) ≤ n = rw text at fits in
      rw text (basic_group (q ++ more) (group_first f q more hq) ∙ complete_group false f q more hq size)
  complete_basic (group true f) a more h stop fits =
      let (p, q, hp, hq, e) = h.1 in
      let (b, hb, ep) = hp in
      let text : a ++ more ≡ 33 ∷ (b ++ (q ++ more)) = rw (e, ep) (ap (λ t. 33 ∷ t) (append_assoc b q more)) in
      let open_ : first (q ++ more) ≡ 40 = group_first f q more hq in
      let other : is_blank (first (q ++ more)) ≡ false = rw open_ refl in
      let size : length (q ++ more) ≤ n = omega (arith, fits, ap length text, length-append b (q ++ more)) in
      rw text (basic_not (b ++ (q ++ more)) (q ++ more) (skip_over b (q ++ more) hb other) ∙ negated_group (q ++ more) open_ ∙ complete_group true f q more hq size)
  complete_basic (test false t) a more h stop fits =
      let (p, q, hp, hq, e) = h.1 in
      let text : a ++ more ≡ q ++ more = rw (e, hp) refl in
      let size : length (q ++ more) ≤ n = rw text at fits in
      rw text (complete_alone t q more hq stop size)
  complete_basic (test true t) a more h stop fits =
      let (p, q, hp, hq, e) = h.1 in
      let (b, hb, ep) = hp in
      let text : a ++ more ≡ 33 ∷ (b ++ (q ++ more)) = rw (e, ep) (ap (λ t. 33 ∷ t) (append_assoc b q more)) in
      let facts = operand_other (first (q ++ more)) (test_start Number number_first t q more hq) in
      let size : length (q ++ more) ≤ n = omega (arith, fits, ap length text, length-append b (q ++ more)) in
      let read = complete_test Number number_first literal_at number_over argument_at n oracle t q more hq (basic_ends more stop) size in
      rw text (basic_not (b ++ (q ++ more)) (q ++ more) (skip_over b (q ++ more) hb facts.0) ∙ negated_test (q ++ more) more t facts.2 read)
  complete_basic (compare op l r) a more h stop fits =
      basic_plain (a ++ more) (comparison_start op l r a more h.1) ∙ complete_comparison op l r a more h.1 (basic_ends more stop) fits

  -- ---- `&&`

  -- the operands of `&&` behind the first one
  complete_ands : (fs : Filters) (k : ℕ) (r more : List ℕ) → SpellsMoreAnd Number fs r → EndsConjunction more → length (r ++ more) ≤ n → length (r ++ more) < k
      → ands_at literal_at argument_at k (r ++ more) ≡ Some (fs, more)
  complete_ands no_filters k r more h stop fits room =
      let other : is_twice 38 (skip_blank more) ≡ false = once 38 (skip_blank more) (no_and (first (skip_blank more)) stop) in
      rw h (many_end filter_then no_filters (operand_behind (basic_at literal_at argument_at)) (λ t. is_twice 38 (skip_blank t)) k more (omega (arith, room)) other)
  complete_ands (filter_then f fs) k r more h stop fits room =
      let (b, c, a, d, hb, hc, ha, hd, e) = h in
      let rest : List ℕ = d ++ more in
      let start : List ℕ = a ++ rest in
      let text : r ++ more ≡ b ++ (38 ∷ 38 ∷ (c ++ start)) = rw e (twice_pieces b c a d more 38) in
      let mark : skip_blank (r ++ more) ≡ 38 ∷ 38 ∷ (c ++ start) = rw text (follows b (38 ∷ (c ++ start)) 38 hb refl) in
      let skipped : skip_blank (c ++ start) ≡ start = skip_over c start hc (basic_other (first start) (logical_start Number number_first f a rest ha.1)).0 in
      let size : length (r ++ more) ≡ length b + (2 + (length c + (length a + length rest))) =
      omega (arith, ap length text, length-append b (38 ∷ 38 ∷ (c ++ start)), length-append c start, length-append a rest) in
      let small : length start ≤ n = omega (arith, fits, size, length-append a rest) in
      let read = complete_basic f a rest ha (and_ends Number fs d more hd stop) small in
      many_read filter_then no_filters (operand_behind (basic_at literal_at argument_at)) (λ t. is_twice 38 (skip_blank t)) k (r ++ more) f rest fs more (omega (arith, room)) (ap (is_twice 38) mark) (operand_read (basic_at literal_at argument_at) (r ++ more) (as_argument f) rest f (ap (λ t. basic_at literal_at argument_at (skip_blank (drop 2 t))) mark ∙ ap (basic_at literal_at argument_at) skipped ∙ read) (filter_back f))
      (complete_ands fs (k - 1) d more hd stop (omega (arith, fits, size)) (omega (arith, room, size)))

  conjunction_alone : (text rest : List ℕ) (x : Argument) → basic_at literal_at argument_at text ≡ Some (x, rest) → is_twice 38 (skip_blank rest) ≡ false → conjunction_at literal_at argument_at text ≡ Some (x, rest)
  unfolding conjunction_at
  conjunction_alone text rest x read other = rw (read, other) refl

  conjunction_more : (text middle rest : List ℕ) (x : Argument) (f : Filter) (fs : Filters) → basic_at literal_at argument_at text ≡ Some (x, middle) → is_twice 38 (skip_blank middle) ≡ true → filter_of x ≡ Some f
      → ands_at literal_at argument_at (suc (length middle)) middle ≡ Some (fs, rest) → conjunction_at literal_at argument_at text ≡ Some (filter_argument (and (filter_then f fs)), rest)
  unfolding conjunction_at
  conjunction_more text middle rest x f fs read mark is more_read = rw (read, mark, is, more_read) refl

  -- more operands begin with `&&`
  and_twice : (f : Filter) (fs : Filters) (r more : List ℕ) → SpellsMoreAnd Number (filter_then f fs) r → is_twice 38 (skip_blank (r ++ more)) ≡ true
  and_twice f fs r more h =
      let (b, c, a, d, hb, hc, ha, hd, e) = h in
      let skipped : skip_blank (r ++ more) ≡ 38 ∷ 38 ∷ (c ++ (a ++ (d ++ more))) = rw (e, twice_pieces b c a d more 38) (follows b (38 ∷ (c ++ (a ++ (d ++ more)))) 38 hb refl) in
      rw skipped refl

  -- a text of two or more operands
  complete_and : (y g : Filter) (gs : Filters) (a x r more : List ℕ) → SpellsBasic Number y x → SpellsMoreAnd Number (filter_then g gs) r → a ≡ x ++ r → EndsConjunction more → length (a ++ more) ≤ n
      → conjunction_at literal_at argument_at (a ++ more) ≡ Some (filter_argument (and (filter_then y (filter_then g gs))), more)
  complete_and y g gs a x r more hx hr e stop fits =
      let middle : List ℕ = r ++ more in
      let text : a ++ more ≡ x ++ middle = rw e (append_assoc x r more) in
      let size : length (x ++ middle) ≤ n = rw text at fits in
      let size_middle : length middle ≤ n = omega (arith, size, length-append x middle) in
      let read = complete_basic y x middle hx (and_ends Number (filter_then g gs) r more hr stop) size in
      rw text (conjunction_more (x ++ middle) middle more (as_argument y) y (filter_then g gs) read (and_twice g gs r more hr) (filter_back y)
      (complete_ands (filter_then g gs) (suc (length middle)) r more hr stop size_middle (omega arith)))

  -- a text of one operand
  complete_only : (f : Filter) (a more : List ℕ) → SpellsBasic Number f a → EndsConjunction more → length (a ++ more) ≤ n → conjunction_at literal_at argument_at (a ++ more) ≡ Some (as_argument f, more)
  complete_only f a more h stop fits =
      conjunction_alone (a ++ more) more (as_argument f) (complete_basic f a more h (conjunction_ends more stop) fits) (once 38 (skip_blank more) (no_and (first (skip_blank more)) stop))

  -- an operand of `||`
  pub complete_conjunction : (f : Filter) (a more : List ℕ) → SpellsConjunction Number f a → EndsConjunction more → length (a ++ more) ≤ n → conjunction_at literal_at argument_at (a ++ more) ≡ Some (as_argument f, more)
  complete_conjunction (or fs) a more h stop fits = let none = h.0 in absurd (cc)
  complete_conjunction (and no_filters) a more h stop fits = absurd h.1.0
  complete_conjunction (and (filter_then f no_filters)) a more h stop fits = absurd h.1.0
  complete_conjunction (and (filter_then f (filter_then g gs))) a more h stop fits = let (x, r, hx, hr, e) = h.1.1 in complete_and f g gs a x r more hx hr e stop fits
  complete_conjunction (group negated f) a more h stop fits = complete_only (group negated f) a more (refl, h.1) stop fits
  complete_conjunction (test negated t) a more h stop fits = complete_only (test negated t) a more (refl, h.1) stop fits
  complete_conjunction (compare op l r) a more h stop fits = complete_only (compare op l r) a more (refl, h.1) stop fits

  -- ---- `||`

  -- the operands of `||` behind the first one
  complete_ors : (fs : Filters) (k : ℕ) (r more : List ℕ) → SpellsMoreOr Number fs r → EndsLogical more → length (r ++ more) ≤ n → length (r ++ more) < k
      → ors_at literal_at argument_at k (r ++ more) ≡ Some (fs, more)
  complete_ors no_filters k r more h stop fits room =
      let other : is_twice 124 (skip_blank more) ≡ false = once 124 (skip_blank more) (no_or (first (skip_blank more)) stop) in
      rw h (many_end filter_then no_filters (operand_behind (conjunction_at literal_at argument_at)) (λ t. is_twice 124 (skip_blank t)) k more (omega (arith, room)) other)
  complete_ors (filter_then f fs) k r more h stop fits room =
      let (b, c, a, d, hb, hc, ha, hd, e) = h in
      let rest : List ℕ = d ++ more in
      let start : List ℕ = a ++ rest in
      let text : r ++ more ≡ b ++ (124 ∷ 124 ∷ (c ++ start)) = rw e (twice_pieces b c a d more 124) in
      let mark : skip_blank (r ++ more) ≡ 124 ∷ 124 ∷ (c ++ start) = rw text (follows b (124 ∷ (c ++ start)) 124 hb refl) in
      let skipped : skip_blank (c ++ start) ≡ start = skip_over c start hc (basic_other (first start) (logical_start Number number_first f a rest ha.1)).0 in
      let size : length (r ++ more) ≡ length b + (2 + (length c + (length a + length rest))) =
      omega (arith, ap length text, length-append b (124 ∷ 124 ∷ (c ++ start)), length-append c start, length-append a rest) in
      let small : length start ≤ n = omega (arith, fits, size, length-append a rest) in
      let read = complete_conjunction f a rest ha (or_ends Number fs d more hd stop) small in
      many_read filter_then no_filters (operand_behind (conjunction_at literal_at argument_at)) (λ t. is_twice 124 (skip_blank t)) k (r ++ more) f rest fs more (omega (arith, room)) (ap (is_twice 124) mark) (operand_read (conjunction_at literal_at argument_at) (r ++ more) (as_argument f) rest f (ap (λ t. conjunction_at literal_at argument_at (skip_blank (drop 2 t))) mark ∙ ap (conjunction_at literal_at argument_at) skipped ∙ read) (filter_back f))
      (complete_ors fs (k - 1) d more hd stop (omega (arith, fits, size)) (omega (arith, room, size)))

  disjunction_alone : (text rest : List ℕ) (x : Argument) → conjunction_at literal_at argument_at text ≡ Some (x, rest) → is_twice 124 (skip_blank rest) ≡ false
      → disjunction_at literal_at argument_at text ≡ Some (x, rest)
  unfolding disjunction_at
  disjunction_alone text rest x read other = rw (read, other) refl

  disjunction_more : (text middle rest : List ℕ) (x : Argument) (f : Filter) (fs : Filters) → conjunction_at literal_at argument_at text ≡ Some (x, middle) → is_twice 124 (skip_blank middle) ≡ true → filter_of x ≡ Some f
      → ors_at literal_at argument_at (suc (length middle)) middle ≡ Some (fs, rest) → disjunction_at literal_at argument_at text ≡ Some (filter_argument (or (filter_then f fs)), rest)
  unfolding disjunction_at
  disjunction_more text middle rest x f fs read mark is more_read = rw (read, mark, is, more_read) refl

  -- more operands begin with `||`
  or_twice : (f : Filter) (fs : Filters) (r more : List ℕ) → SpellsMoreOr Number (filter_then f fs) r → is_twice 124 (skip_blank (r ++ more)) ≡ true
  or_twice f fs r more h =
      let (b, c, a, d, hb, hc, ha, hd, e) = h in
      let skipped : skip_blank (r ++ more) ≡ 124 ∷ 124 ∷ (c ++ (a ++ (d ++ more))) = rw (e, twice_pieces b c a d more 124) (follows b (124 ∷ (c ++ (a ++ (d ++ more)))) 124 hb refl) in
      rw skipped refl

  -- an operand of `||` alone
  complete_lone : (f : Filter) (a more : List ℕ) → SpellsConjunction Number f a → EndsLogical more → length (a ++ more) ≤ n → disjunction_at literal_at argument_at (a ++ more) ≡ Some (as_argument f, more)
  complete_lone f a more h stop fits =
      disjunction_alone (a ++ more) more (as_argument f) (complete_conjunction f a more h (logical_ends more stop) fits) (once 124 (skip_blank more) (no_or (first (skip_blank more)) stop))

  complete_disjunction : (f : Filter) (a more : List ℕ) → SpellsLogical Number f a → EndsLogical more → length (a ++ more) ≤ n → disjunction_at literal_at argument_at (a ++ more) ≡ Some (as_argument f, more)
  complete_disjunction (or no_filters) a more h stop fits = absurd h.0
  complete_disjunction (or (filter_then f no_filters)) a more h stop fits = absurd h.0
  complete_disjunction (or (filter_then f (filter_then g gs))) a more h stop fits =
      let (x, r, hx, hr, e) = h.1 in
      let middle : List ℕ = r ++ more in
      let text : a ++ more ≡ x ++ middle = rw e (append_assoc x r more) in
      let size : length (x ++ middle) ≤ n = rw text at fits in
      let size_middle : length middle ≤ n = omega (arith, size, length-append x middle) in
      let read = complete_conjunction f x middle hx (or_ends Number (filter_then g gs) r more hr stop) size in
      rw text (disjunction_more (x ++ middle) middle more (as_argument f) f (filter_then g gs) read (or_twice g gs r more hr) (filter_back f)
      (complete_ors (filter_then g gs) (suc (length middle)) r more hr stop size_middle (omega arith)))
  complete_disjunction (and fs) a more h stop fits = complete_lone (and fs) a more (refl, h) stop fits
  complete_disjunction (group negated f) a more h stop fits = complete_lone (group negated f) a more (refl, h) stop fits
  complete_disjunction (test negated t) a more h stop fits = complete_lone (test negated t) a more (refl, h) stop fits
  complete_disjunction (compare op l r) a more h stop fits = complete_lone (compare op l r) a more (refl, h) stop fits

  -- ---- arguments

  -- no bare test is its own argument
  bare : (f : Filter) → IsNoBareTest f → as_argument f ≡ filter_argument f
  bare (or fs) h = refl
  bare (and fs) h = refl
  bare (group negated f) h = refl
  bare (test true t) h = refl
  bare (test false t) h = absurd h
  bare (compare op l r) h = refl

  -- what is read at once, up to what ends an argument
  complete_single : (x : Argument) (text more : List ℕ) → basic_at literal_at argument_at text ≡ Some (x, more) → EndsLogical more → disjunction_at literal_at argument_at text ≡ Some (x, more)
  complete_single x text more read stop =
      disjunction_alone text more x
      (conjunction_alone text more x read (once 38 (skip_blank more) (no_and (first (skip_blank more)) (logical_ends more stop))))
      (once 124 (skip_blank more) (no_or (first (skip_blank more)) stop))

  -- an argument, where the text after it ends one
  pub complete_body : (x : Argument) (a more : List ℕ) → SpellsArgument Number x a → EndsLogical more → length (a ++ more) ≤ n → disjunction_at literal_at argument_at (a ++ more) ≡ Some (x, more)
  complete_body (literal_argument l) a more h stop fits =
      let ends = conjunction_ends more (logical_ends more stop) in
      let read = complete_literal Number number_first literal_at number_over argument_at n oracle l a more h (basic_ends more ends) in
      complete_single (literal_argument l) (a ++ more) more
      (basic_plain (a ++ more) (literal_start Number number_first l a more h) ∙ plain_alone (a ++ more) more (literal_argument l) read (no_operator (first (skip_blank more)) ends)) stop
  complete_body (test_argument t) a more h stop fits = complete_single (test_argument t) (a ++ more) more (complete_alone t a more h (conjunction_ends more (logical_ends more stop)) fits) stop
  complete_body (filter_argument f) a more h stop fits = complete_disjunction f a more h.1 stop fits ∙ ap (λ x. Some (x, more)) (bare f h.0)
