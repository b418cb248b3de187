-- Literals, queries and calls that are spelled are read, where the text after them cannot continue them.
use Rattle.std.proofs.Common.{◌≡◌, ℕ, suc, ◌+◌, ◌-◌, ◌<◌, ◌≤◌, true, false, ◌==◌, ℤ, List, [], ◌∷◌, ◌++◌, length, codes, Option, Some, refl, sym, ap, ◌∙◌, append_assoc, append-nil, length-append, arith, IsTrue}
use Rattle.std.proofs.lemmas.Bool.Decides.{nat_tests}
use Rattle.jsonpath_parser.specs.Prelude.{absolute, all_arguments_at, all_segments_at, Argument, argument, Arguments, arguments_at, bool, Call, call, call_of, called_at, comparable_of, count_call, custom_call, descendant, filter, filter_argument, first, index, is_comparable, is_function_first, is_int_first, is_quote, is_singular, IsBlank, IsFunctionName, length_call, list_of, Literal, literal_argument, match_call, name, no_arguments, no_segments, null, number, one, operand_at, Read, relative, search_call, Segment, segment, Segments, several, skip_blank, slice, SpellsArgument, SpellsArguments, SpellsCall, SpellsCalled, SpellsComparable, SpellsLiteral, SpellsMoreArguments, SpellsSegments, SpellsTest, steps_in, steps_of, string, string_at, Test, test_argument, value_call, wildcard, word_at, word_literal, word_operand_at}
use Rattle.jsonpath_parser.proofs.laws.words.Fronts.{skip_over}
use Rattle.jsonpath_parser.proofs.Turns.{separated_end, separated_read}
use Rattle.jsonpath_parser.proofs.NumberComplete.{EndsNumber}
use Rattle.jsonpath_parser.proofs.laws.words.StringComplete.{complete_string}
use Rattle.jsonpath_parser.proofs.CompleteParts.{EndsLogical, EndsOperand, EndsSegments, stops, ends_segments, skip_more, follows}
use Rattle.jsonpath_parser.proofs.CompleteStarts.{basic_other, call_start, argument_start}
use Rattle.jsonpath_parser.proofs.CompleteWords.{word_over, word_start, string_start, custom_of}
use Rattle.jsonpath_parser.proofs.CompleteSegments.{behind_mark, complete_all_segments}

-- ---- singular queries

-- segments that are steps are found as they are
steps_found : (gs : Segments) → IsTrue (is_singular gs) → (ss : List Segment) × (steps_of gs ≡ Some ss) × (list_of segment no_segments ss ≡ gs)
steps_found no_segments h = ([], refl, refl)
steps_found (segment (one (name n)) gs) h = let (ss, e, k) = steps_found gs h in (one (name n) ∷ ss, rw e refl, ap (segment (one (name n))) k)
steps_found (segment (one (index i)) gs) h = let (ss, e, k) = steps_found gs h in (one (index i) ∷ ss, rw e refl, ap (segment (one (index i))) k)
steps_found (segment (one wildcard) gs) h = absurd (cc)
steps_found (segment (one (slice i j k)) gs) h = absurd (cc)
steps_found (segment (one (filter f)) gs) h = absurd (cc)
steps_found (segment (several ss) gs) h = absurd (cc)
steps_found (segment (descendant g) gs) h = absurd (cc)

pub steps_made : (gs : Segments) → IsTrue (is_singular gs) → steps_in gs ≡ Some gs
steps_made gs h = let (ss, e, k) = steps_found gs h in rw e (ap (λ v. Some v) k)

-- a side of a comparison is read as it is
pub comparable_back : (x : Argument) → IsTrue (is_comparable x) → comparable_of x ≡ Some x
comparable_back (literal_argument l) h = refl
comparable_back (test_argument (relative gs)) h = rw (steps_made gs h) refl
comparable_back (test_argument (absolute gs)) h = rw (steps_made gs h) refl
comparable_back (test_argument (call c)) h = refl
comparable_back (filter_argument f) h = absurd (cc)

-- ---- bytes

quote_other : (b : ℕ) → is_quote b ≡ true → ((b == 64) ≡ false) × ((b == 36) ≡ false)
quote_other b h = (grind (arith, nat_tests), grind (arith, nat_tests))

int_other : (b : ℕ) → is_int_first b ≡ true → ((b == 64) ≡ false) × ((b == 36) ≡ false) × (is_quote b ≡ false)
int_other b h = (grind (arith, nat_tests), grind (arith, nat_tests), grind (arith, nat_tests))

letter_other : (b : ℕ) → is_function_first b ≡ true → ((b == 64) ≡ false) × ((b == 36) ≡ false) × (is_quote b ≡ false) × (is_int_first b ≡ false)
letter_other b h = (grind (arith, nat_tests), grind (arith, nat_tests), grind (arith, nat_tests), grind (arith, nat_tests))

-- a call and the text after it
call_pieces : (w b a c more : List ℕ) → ((w ++ (40 ∷ [])) ++ (b ++ (a ++ (c ++ 41 ∷ [])))) ++ more ≡ w ++ (40 ∷ (b ++ (a ++ (c ++ 41 ∷ more))))
call_pieces w b a c more = simp append_assoc

-- ---- the five names

length_name : IsFunctionName (codes "length")
length_name = (refl, (refl, (refl, (refl, (refl, (refl, tt))))))

value_name : IsFunctionName (codes "value")
value_name = (refl, (refl, (refl, (refl, (refl, tt)))))

count_name : IsFunctionName (codes "count")
count_name = (refl, (refl, (refl, (refl, (refl, tt)))))

search_name : IsFunctionName (codes "search")
search_name = (refl, (refl, (refl, (refl, (refl, (refl, tt))))))

match_name : IsFunctionName (codes "match")
match_name = (refl, (refl, (refl, (refl, (refl, tt)))))

true_name : IsFunctionName (codes "true")
true_name = (refl, (refl, (refl, (refl, tt))))

false_name : IsFunctionName (codes "false")
false_name = (refl, (refl, (refl, (refl, (refl, tt)))))

null_name : IsFunctionName (codes "null")
null_name = (refl, (refl, (refl, (refl, tt))))

module _ (Number : Option ℤ → List ℕ → Type 0) (number_first : (v : Option ℤ) (a more : List ℕ) → Number v a → is_int_first (first (a ++ more)) ≡ true)
    (literal_at : List ℕ → Read (Option ℤ)) (number_over : (v : Option ℤ) (a more : List ℕ) → Number v a → EndsNumber more → literal_at (a ++ more) ≡ Some (v, more))
    (argument_at : List ℕ → Read Argument) (n : ℕ)
    (oracle : (x : Argument) (a more : List ℕ) → SpellsArgument Number x a → EndsLogical more → length (a ++ more) < n → argument_at (a ++ more) ≡ Some (x, more)) where
  -- ---- arguments of calls

  -- all arguments up to `)`
  complete_arguments : (x : Argument) (xs : Arguments) (k : ℕ) (s r more behind : List ℕ) → SpellsArgument Number x s → SpellsMoreArguments Number xs r → skip_blank more ≡ 41 ∷ behind
      → length (s ++ (r ++ more)) < n → length (s ++ (r ++ more)) < k → arguments_at literal_at argument_at k (s ++ (r ++ more)) ≡ Some (argument x xs, more)
  complete_arguments x no_arguments k s r more behind hs hr close fits room =
      let text : s ++ (r ++ more) ≡ s ++ more = rw hr refl in
      let size : length (s ++ more) < n = rw text at fits in
      let stop : EndsLogical more = rw close refl in
      let other : (first (skip_blank more) == 44) ≡ false = rw close refl in
      rw text (separated_end argument no_arguments argument_at k (s ++ more) x more (omega (arith, room)) (oracle x s more hs stop size) other)
  complete_arguments x (argument y ys) k s r more behind hs hr close fits room =
      let (b, c, s', r', hb, hc, hy, hys, e) = hr in
      let next : List ℕ = s' ++ (r' ++ more) in
      let after : r ++ more ≡ b ++ (44 ∷ (c ++ next)) = rw e (behind_mark b c s' r' more 44) in
      let skipped : skip_blank (r ++ more) ≡ 44 ∷ (c ++ next) = rw after (follows b (c ++ next) 44 hb refl) in
      let stop : EndsLogical (r ++ more) = rw skipped refl in
      let start : skip_blank (c ++ next) ≡ next = skip_over c next hc (basic_other (first next) (argument_start Number number_first y s' (r' ++ more) hy)).0 in
      let size : length (s ++ (r ++ more)) ≡ length s + (length b + (1 + (length c + length next))) =
      omega (arith, length-append s (r ++ more), ap length after, length-append b (44 ∷ (c ++ next)), length-append c next) in
      separated_read argument no_arguments argument_at k (s ++ (r ++ more)) x (r ++ more) (c ++ next) next (argument y ys) more (omega (arith, room)) (oracle x s (r ++ more) hs stop fits) skipped start
      (complete_arguments y ys (k - 1) s' r' more behind hy hys close (omega (arith, size, fits)) (omega (arith, size, room)))

  none_reads : (text : List ℕ) → (first text == 41) ≡ true → all_arguments_at literal_at argument_at text ≡ Some (no_arguments, text)
  unfolding all_arguments_at
  none_reads text close = rw close refl

  some_read : (text rest : List ℕ) (xs : Arguments) → (first text == 41) ≡ false → arguments_at literal_at argument_at (suc (length text)) text ≡ Some (xs, rest)
      → all_arguments_at literal_at argument_at text ≡ Some (xs, rest)
  unfolding all_arguments_at
  some_read text rest xs other read = rw (other, read) refl

  called_reads : (w inner start rest behind : List ℕ) (xs : Arguments) (c : Call) → skip_blank inner ≡ start → all_arguments_at literal_at argument_at start ≡ Some (xs, rest)
      → skip_blank rest ≡ 41 ∷ behind → call_of w xs ≡ Some c
      → called_at literal_at argument_at w inner ≡ Some (c, behind)
  unfolding called_at
  called_reads w inner start rest behind xs c skipped read close is = rw (skipped, read, close, is) refl

  -- what stands in the parentheses of a call
  complete_called : (w : List ℕ) (xs : Arguments) (c : Call) (b a d more : List ℕ) → IsBlank b → SpellsArguments Number xs a → IsBlank d → call_of w xs ≡ Some c → length (b ++ (a ++ (d ++ 41 ∷ more))) < n
      → called_at literal_at argument_at w (b ++ (a ++ (d ++ 41 ∷ more))) ≡ Some (c, more)
  complete_called w no_arguments c b a d more hb ha hd is fits =
      let start : skip_blank (b ++ (d ++ 41 ∷ more)) ≡ 41 ∷ more = skip_more b (d ++ 41 ∷ more) hb ∙ follows d more 41 hd refl in
      let close : skip_blank (41 ∷ more) ≡ 41 ∷ more = follows [] more 41 tt refl in
      rw ha (called_reads w (b ++ (d ++ 41 ∷ more)) (41 ∷ more) (41 ∷ more) more no_arguments c start (none_reads (41 ∷ more) refl) close is)
  complete_called w (argument x xs) c b a d more hb ha hd is fits =
      let (s, r, hs, hr, e) = ha in
      let tail : List ℕ = d ++ 41 ∷ more in
      let start : List ℕ = s ++ (r ++ tail) in
      let inner : b ++ (a ++ tail) ≡ b ++ start = rw e (ap (λ t. b ++ t) (append_assoc s r tail)) in
      let facts = basic_other (first start) (argument_start Number number_first x s (r ++ tail) hs) in
      let skipped : skip_blank (b ++ start) ≡ start = skip_over b start hb facts.0 in
      let close : skip_blank tail ≡ 41 ∷ more = follows d more 41 hd refl in
      let size : length start < n = omega (arith, fits, ap length inner, length-append b start) in
      let read = complete_arguments x xs (suc (length start)) s r tail more hs hr close size (omega arith) in
      rw inner (called_reads w (b ++ start) start tail more (argument x xs) c skipped (some_read start tail (argument x xs) facts.1 read) close is)

  -- ---- words

  word_call : (text w behind rest : List ℕ) (c : Call) → word_at text ≡ Some (w, 40 ∷ behind) → called_at literal_at argument_at w behind ≡ Some (c, rest)
      → word_operand_at literal_at argument_at text ≡ Some (test_argument (call c), rest)
  unfolding word_operand_at
  word_call text w behind rest c word read = rw (word, read) refl

  word_alone : (text w rest : List ℕ) (l : Literal) → word_at text ≡ Some (w, rest) → (first rest == 40) ≡ false → word_literal w ≡ Some l → word_operand_at literal_at argument_at text ≡ Some (literal_argument l, rest)
  unfolding word_operand_at
  word_alone text w rest l word other is = rw (word, other, is) refl

  -- a call of this name
  complete_named : (w : List ℕ) (xs : Arguments) (c : Call) (a more : List ℕ) → IsFunctionName w → SpellsCalled w (SpellsArguments Number xs) a → call_of w xs ≡ Some c → length (a ++ more) ≤ n
      → word_operand_at literal_at argument_at (a ++ more) ≡ Some (test_argument (call c), more)
  complete_named w xs c a more named h is fits =
      let (b, s, d, hb, hs, hd, e) = h in
      let inner : List ℕ = b ++ (s ++ (d ++ 41 ∷ more)) in
      let text : a ++ more ≡ w ++ (40 ∷ inner) = rw e (call_pieces w b s d more) in
      let size : length inner < n = omega (arith, fits, ap length text, length-append w (40 ∷ inner)) in
      rw text (word_call (w ++ (40 ∷ inner)) w inner more c (word_over w (40 ∷ inner) named refl) (complete_called w xs c b s d more hb hs hd is size))

  -- one argument, and two, as arguments
  one_spelled : (w : List ℕ) (x : Argument) (a : List ℕ) → SpellsCalled w (SpellsArgument Number x) a → SpellsCalled w (SpellsArguments Number (argument x no_arguments)) a
  one_spelled w x a h = let (b, s, d, hb, hs, hd, e) = h in (b, s, d, hb, (s, [], hs, refl, sym (append-nil s)), hd, e)

  complete_call : (c : Call) (a more : List ℕ) → SpellsCall Number c a → length (a ++ more) ≤ n → word_operand_at literal_at argument_at (a ++ more) ≡ Some (test_argument (call c), more)
  complete_call (custom_call w xs) a more h fits = complete_named w xs (custom_call w xs) a more h.0.0 h.1 (custom_of w xs h.0.1) fits
  complete_call (length_call x) a more h fits = complete_named (codes "length") (argument x no_arguments) (length_call x) a more length_name (one_spelled (codes "length") x a h) refl fits
  complete_call (value_call x) a more h fits = complete_named (codes "value") (argument x no_arguments) (value_call x) a more value_name (one_spelled (codes "value") x a h) refl fits
  complete_call (count_call x) a more h fits = complete_named (codes "count") (argument x no_arguments) (count_call x) a more count_name (one_spelled (codes "count") x a h) refl fits
  complete_call (search_call x y) a more h fits = complete_named (codes "search") (argument x (argument y no_arguments)) (search_call x y) a more search_name h refl fits
  complete_call (match_call x y) a more h fits = complete_named (codes "match") (argument x (argument y no_arguments)) (match_call x y) a more match_name h refl fits

  -- ---- operands

  operand_current : (text rest : List ℕ) (gs : Segments) → all_segments_at literal_at argument_at text ≡ Some (gs, rest) → operand_at literal_at argument_at (64 ∷ text) ≡ Some (test_argument (relative gs), rest)
  unfolding operand_at
  operand_current text rest gs read = rw read refl

  operand_root : (text rest : List ℕ) (gs : Segments) → all_segments_at literal_at argument_at text ≡ Some (gs, rest) → operand_at literal_at argument_at (36 ∷ text) ≡ Some (test_argument (absolute gs), rest)
  unfolding operand_at
  operand_root text rest gs read = rw read refl

  operand_string : (text v rest : List ℕ) → is_quote (first text) ≡ true → string_at text ≡ Some (v, rest) → operand_at literal_at argument_at text ≡ Some (literal_argument (string v), rest)
  unfolding operand_at
  operand_string text v rest start read = let (now, top) = quote_other (first text) start in rw (now, top, start, read) refl

  operand_number : (text rest : List ℕ) (v : Option ℤ) → is_int_first (first text) ≡ true → literal_at text ≡ Some (v, rest) → operand_at literal_at argument_at text ≡ Some (literal_argument (number v), rest)
  unfolding operand_at
  operand_number text rest v start read = let (now, top, quote) = int_other (first text) start in rw (now, top, quote, start, read) refl

  operand_word : (text : List ℕ) → is_function_first (first text) ≡ true → operand_at literal_at argument_at text ≡ word_operand_at literal_at argument_at text
  unfolding operand_at
  operand_word text start = let (now, top, quote, int) = letter_other (first text) start in rw (now, top, quote, int) refl

  -- a word that is a literal
  complete_word : (w : List ℕ) (l : Literal) (more : List ℕ) → IsFunctionName w → word_literal w ≡ Some l → EndsOperand more → operand_at literal_at argument_at (w ++ more) ≡ Some (literal_argument l, more)
  complete_word w l more named is stop =
      operand_word (w ++ more) (word_start w more named) ∙ word_alone (w ++ more) w more l (word_over w more named (stops more stop).no_function) (stops more stop).no_call is

  pub complete_literal : (l : Literal) (a more : List ℕ) → SpellsLiteral Number l a → EndsOperand more → operand_at literal_at argument_at (a ++ more) ≡ Some (literal_argument l, more)
  complete_literal (number v) a more h stop = operand_number (a ++ more) more v (number_first v a more h) (number_over v a more h (stops more stop).no_number)
  complete_literal (string s) a more h stop = operand_string (a ++ more) s more (string_start s a more h) (complete_string s a more h)
  complete_literal (bool true) a more h stop = rw h (complete_word (codes "true") (bool true) more true_name refl stop)
  complete_literal (bool false) a more h stop = rw h (complete_word (codes "false") (bool false) more false_name refl stop)
  complete_literal null a more h stop = rw h (complete_word (codes "null") null more null_name refl stop)

  complete_current : (gs : Segments) (a r more : List ℕ) → SpellsSegments Number gs r → a ≡ 64 ∷ r → EndsSegments more → length (a ++ more) ≤ n
      → operand_at literal_at argument_at (a ++ more) ≡ Some (test_argument (relative gs), more)
  complete_current gs a r more h e stop fits =
      let text : a ++ more ≡ 64 ∷ (r ++ more) = rw e refl in
      rw text (operand_current (r ++ more) more gs (complete_all_segments Number number_first literal_at argument_at n oracle gs r more h stop (omega (arith, fits, ap length text))))

  complete_root : (gs : Segments) (a r more : List ℕ) → SpellsSegments Number gs r → a ≡ 36 ∷ r → EndsSegments more → length (a ++ more) ≤ n
      → operand_at literal_at argument_at (a ++ more) ≡ Some (test_argument (absolute gs), more)
  complete_root gs a r more h e stop fits =
      let text : a ++ more ≡ 36 ∷ (r ++ more) = rw e refl in
      rw text (operand_root (r ++ more) more gs (complete_all_segments Number number_first literal_at argument_at n oracle gs r more h stop (omega (arith, fits, ap length text))))

  complete_function : (c : Call) (a more : List ℕ) → SpellsCall Number c a → length (a ++ more) ≤ n → operand_at literal_at argument_at (a ++ more) ≡ Some (test_argument (call c), more)
  complete_function c a more h fits = operand_word (a ++ more) (call_start Number number_first c a more h) ∙ complete_call c a more h fits

  -- a query or a call
  pub complete_test : (t : Test) (a more : List ℕ) → SpellsTest Number t a → EndsOperand more → length (a ++ more) ≤ n → operand_at literal_at argument_at (a ++ more) ≡ Some (test_argument t, more)
  complete_test (relative gs) a more h stop fits = let (r, hr, e) = h in complete_current gs a r more hr e (ends_segments more stop) fits
  complete_test (absolute gs) a more h stop fits = let (r, hr, e) = h in complete_root gs a r more hr e (ends_segments more stop) fits
  complete_test (call c) a more h stop fits = complete_function c a more h fits

  -- a side of a comparison
  pub complete_comparable : (x : Argument) (a more : List ℕ) → SpellsComparable Number x a → EndsOperand more → length (a ++ more) ≤ n
      → operand_at literal_at argument_at (a ++ more) ≡ Some (x, more)
  complete_comparable (literal_argument l) a more h stop fits = complete_literal l a more h.1 stop
  complete_comparable (test_argument t) a more h stop fits = complete_test t a more h.1 stop fits
  complete_comparable (filter_argument f) a more h stop fits = let none = h.0 in absurd (cc)
