-- Selectors and segments that are spelled are read, where the text after them cannot continue them.
--
-- That arguments of shorter texts are read is assumed: the law of arguments closes the circle.
use Rattle.std.proofs.Common.{◌≡◌, ℕ, suc, ◌+◌, ◌-◌, ◌<◌, ◌≤◌, true, false, ◌==◌, ℤ, List, [], ◌∷◌, ◌++◌, length, codes, Option, Some, refl, sym, ap, ◌∙◌, subst, inl, inr, append_assoc, length-append, arith}
use Rattle.std.proofs.lemmas.Bool.Decides.{nat_tests}
use Rattle.jsonpath_parser.specs.Prelude.{all_segments_at, and, Argument, Between, compare, descendant, descendant_at, Filter, filter, filter_argument, filter_of, first, group, index, is_int_first, is_name_byte, is_quote, IsBlank, IsSeveral, logical_at, name, no_segments, no_selectors, numbered_at, one, or, Read, Segment, segment, segment_at, Segments, segments_at, selection_at, selection_of, Selector, selector, selector_at, Selectors, selectors_at, several, shorthand_at, skip_blank, slice, SpellsArgument, SpellsLogical, SpellsMoreSelectors, SpellsSegment, SpellsSegments, SpellsSelector, SpellsSelectors, SpellsTest, starts_segment, string_at, test, test_argument, wildcard}
use Rattle.jsonpath_parser.proofs.laws.words.Fronts.{skip_over}
use Rattle.jsonpath_parser.proofs.Turns.{many_end, many_read, separated_end, separated_read}
use Rattle.jsonpath_parser.proofs.laws.words.StringComplete.{complete_string}
use Rattle.jsonpath_parser.proofs.CompleteParts.{EndsLogical, EndsSegments, follows, complete_shorthand, shorthand_start}
use Rattle.jsonpath_parser.proofs.CompleteSlices.{Taken, starts_numbered, numbered_other, index_start, slice_start, complete_index, complete_slice}
use Rattle.jsonpath_parser.proofs.CompleteStarts.{regroup, basic_other, segment_start, segment_some, name_ends, logical_start, selector_start}
use Rattle.jsonpath_parser.proofs.CompleteWords.{string_start}

-- ---- selections

-- two or more selectors stay what they are
selection_several : (ss : Selectors) → IsSeveral ss → selection_of ss ≡ several ss
selection_several no_selectors h = absurd h
selection_several (selector s no_selectors) h = absurd h
selection_several (selector s (selector t ss)) h = refl

-- ---- filters as arguments

-- the argument that is read where this filter stands
abbrev pub as_argument : Filter → Argument
as_argument (test false t) = test_argument t
as_argument f = filter_argument f

pub filter_back : (f : Filter) → filter_of (as_argument f) ≡ Some f
filter_back (or fs) = refl
filter_back (and fs) = refl
filter_back (group negated f) = refl
filter_back (test false t) = refl
filter_back (test true t) = refl
filter_back (compare op l r) = refl

-- ---- pieces

-- what a text between brackets is, with the text after it
brackets : (b a c more : List ℕ) → (91 ∷ (b ++ (a ++ (c ++ 93 ∷ [])))) ++ more ≡ 91 ∷ (b ++ (a ++ (c ++ 93 ∷ more)))
brackets b a c more = simp append_assoc

-- a text behind a mark
pub behind_mark : (b c a d more : List ℕ) (mark : ℕ) → (b ++ (mark ∷ (c ++ (a ++ d)))) ++ more ≡ b ++ (mark ∷ (c ++ (a ++ (d ++ more))))
behind_mark b c a d more mark = simp append_assoc

module _ (Number : Option ℤ → List ℕ → Type 0) where
  -- a filter spells its argument
  pub spells_argument : (f : Filter) (a : List ℕ) → SpellsLogical Number f a → SpellsArgument Number (as_argument f) a
  spells_argument (or fs) a h = (tt, h)
  spells_argument (and fs) a h = (tt, h)
  spells_argument (group negated f) a h = (tt, h)
  spells_argument (test true t) a h = (tt, h)
  spells_argument (compare op l r) a h = (tt, h)
  spells_argument (test false t) a h = let (p, q, hp, hq, e) = h in let same : a ≡ q = rw (e, hp) refl in subst (λ v. SpellsTest Number t v) (sym same) hq

module _ (Number : Option ℤ → List ℕ → Type 0) (number_first : (v : Option ℤ) (a more : List ℕ) → Number v a → is_int_first (first (a ++ more)) ≡ true)
    (literal_at : List ℕ → Read (Option ℤ)) (argument_at : List ℕ → Read Argument) (n : ℕ)
    (oracle : (x : Argument) (a more : List ℕ) → SpellsArgument Number x a → EndsLogical more → length (a ++ more) < n → argument_at (a ++ more) ≡ Some (x, more)) where
  logical_reads : (text rest : List ℕ) (x : Argument) (f : Filter) → argument_at text ≡ Some (x, rest) → filter_of x ≡ Some f → logical_at literal_at argument_at text ≡ Some (f, rest)
  unfolding logical_at
  logical_reads text rest x f read is = rw (read, is) refl

  -- a logical expression
  pub complete_logical : (f : Filter) (a more : List ℕ) → SpellsLogical Number f a → EndsLogical more → length (a ++ more) < n → logical_at literal_at argument_at (a ++ more) ≡ Some (f, more)
  complete_logical f a more h stop fits = logical_reads (a ++ more) more (as_argument f) f (oracle (as_argument f) a more (spells_argument Number f a h) stop fits) (filter_back f)

  -- ---- selectors

  pub selector_string : (text v rest : List ℕ) → is_quote (first text) ≡ true → string_at text ≡ Some (v, rest) → selector_at literal_at argument_at text ≡ Some (name v, rest)
  unfolding selector_at
  selector_string text v rest start read =
      let star : (first text == 42) ≡ false = grind (arith, nat_tests) in
      let mark : (first text == 63) ≡ false = grind (arith, nat_tests) in
      rw (star, mark, start, read) refl

  pub selector_numbered : (text : List ℕ) → starts_numbered (first text) ≡ true → selector_at literal_at argument_at text ≡ numbered_at text
  unfolding selector_at
  selector_numbered text start = let (blank, star, mark, quote) = numbered_other (first text) start in rw (star, mark, quote) refl

  pub selector_filter : (text rest : List ℕ) (f : Filter) → logical_at literal_at argument_at (skip_blank text) ≡ Some (f, rest) → selector_at literal_at argument_at (63 ∷ text) ≡ Some (filter f, rest)
  unfolding selector_at
  selector_filter text rest f read = rw read refl

  pub selector_star : (text : List ℕ) → selector_at literal_at argument_at (42 ∷ text) ≡ Some (wildcard, text)
  unfolding selector_at
  selector_star text = refl

  -- a selector, up to what ends one
  complete_selector : (x : Selector) (a more : List ℕ) → SpellsSelector Number x a → EndsLogical more → length (a ++ more) ≤ n → Taken (selector_at literal_at argument_at) (a ++ more) x more
  complete_selector (name v) a more h stop fits = (more, selector_string (a ++ more) v more (string_start v a more h) (complete_string v a more h), refl)
  complete_selector wildcard a more h stop fits = (more, rw h (selector_star more), refl)
  complete_selector (index i) a more h stop fits = (more, selector_numbered (a ++ more) (index_start i a more h) ∙ complete_index i a more h stop, refl)
  complete_selector (slice start end step) a more h stop fits =
      let (rest, read, left) = complete_slice start end step a more h stop in
      (rest, selector_numbered (a ++ more) (slice_start start end step a more h) ∙ read, left)
  complete_selector (filter f) a more h stop fits =
      let (b, r, hb, hr, e) = h in
      let text : a ++ more ≡ 63 ∷ (b ++ (r ++ more)) = rw e (ap (λ t. 63 ∷ t) (append_assoc b r more)) in
      let skipped : skip_blank (b ++ (r ++ more)) ≡ r ++ more = skip_over b (r ++ more) hb (basic_other (first (r ++ more)) (logical_start Number number_first f r more hr)).0 in
      let size : length (r ++ more) < n = omega (arith, fits, ap length text, length-append b (r ++ more)) in
      (more, rw text (selector_filter (b ++ (r ++ more)) more f (rw skipped (complete_logical f r more hr stop size))), refl)

  -- all selectors up to a bracket
  complete_selectors : (x : Selector) (xs : Selectors) (k : ℕ) (s r more behind : List ℕ) → SpellsSelector Number x s → SpellsMoreSelectors Number xs r → skip_blank more ≡ 93 ∷ behind
      → length (s ++ (r ++ more)) ≤ n → length (s ++ (r ++ more)) < k
      → (rest : List ℕ) × (selectors_at literal_at argument_at k (s ++ (r ++ more)) ≡ Some (selector x xs, rest)) × (skip_blank rest ≡ skip_blank more)
  complete_selectors x no_selectors k s r more behind hs hr close fits room =
      let text : s ++ (r ++ more) ≡ s ++ more = rw hr refl in
      let size : length (s ++ more) ≤ n = rw text at fits in
      let stop : EndsLogical more = rw close refl in
      let (rest, read, left) = complete_selector x s more hs stop size in
      let other : (first (skip_blank rest) == 44) ≡ false = rw (left, close) refl in
      (rest, rw text (separated_end selector no_selectors (selector_at literal_at argument_at) k (s ++ more) x rest (omega (arith, room)) read other), left)
  complete_selectors x (selector y ys) k s r more behind hs hr close fits room =
      let (b, c, s', r', hb, hc, hy, hys, e) = hr in
      let next : List ℕ = s' ++ (r' ++ more) in
      let after : r ++ more ≡ b ++ (44 ∷ (c ++ next)) = rw e (behind_mark b c s' r' more 44) in
      let skipped : skip_blank (r ++ more) ≡ 44 ∷ (c ++ next) = rw after (follows b (c ++ next) 44 hb refl) in
      let stop : EndsLogical (r ++ more) = rw skipped refl in
      let (rest, read, left) = complete_selector x s (r ++ more) hs stop fits in
      let start : skip_blank (c ++ next) ≡ next = skip_over c next hc (selector_start Number y s' (r' ++ more) hy) in
      let size : length (s ++ (r ++ more)) ≡ length s + (length b + (1 + (length c + length next))) =
      omega (arith, length-append s (r ++ more), ap length after, length-append b (44 ∷ (c ++ next)), length-append c next) in
      let (rest', read', left') = complete_selectors y ys (k - 1) s' r' more behind hy hys close (omega (arith, size, fits)) (omega (arith, size, room)) in
      (rest', separated_read selector no_selectors (selector_at literal_at argument_at) k (s ++ (r ++ more)) x rest (c ++ next) next (selector y ys) rest' (omega (arith, room)) read (left ∙ skipped) start read', left')

  selection_reads : (inner start rest behind : List ℕ) (ss : Selectors) → skip_blank inner ≡ start → selectors_at literal_at argument_at (suc (length inner)) start ≡ Some (ss, rest)
      → skip_blank rest ≡ 93 ∷ behind
      → selection_at literal_at argument_at (91 ∷ inner) ≡ Some (selection_of ss, behind)
  unfolding selection_at
  selection_reads inner start rest behind ss skipped read close = rw (skipped, read, close) refl

  -- selectors between brackets, wherever they end
  complete_between : (x : Selector) (xs : Selectors) (b s r c more : List ℕ) → IsBlank b → SpellsSelector Number x s → SpellsMoreSelectors Number xs r → IsBlank c → length (91 ∷ (b ++ (s ++ (r ++ (c ++ 93 ∷ more))))) ≤ n
      → selection_at literal_at argument_at (91 ∷ (b ++ (s ++ (r ++ (c ++ 93 ∷ more))))) ≡ Some (selection_of (selector x xs), more)
  complete_between x xs b s r c more hb hs hr hc fits =
      let tail : List ℕ = c ++ 93 ∷ more in
      let start : List ℕ = s ++ (r ++ tail) in
      let close : skip_blank tail ≡ 93 ∷ more = follows c more 93 hc refl in
      let skipped : skip_blank (b ++ start) ≡ start = skip_over b start hb (selector_start Number x s (r ++ tail) hs) in
      let size : length (b ++ start) ≡ length b + length start = length-append b start in
      let (rest, read, left) = complete_selectors x xs (suc (length (b ++ start))) s r tail more hs hr close (omega (arith, size, fits)) (omega (arith, size)) in
      selection_reads (b ++ start) start rest more (selector x xs) skipped read (left ∙ close)

  -- one between brackets
  pub complete_one : (x : Selector) (a more : List ℕ) → Between (codes "[") (SpellsSelector Number x) (codes "]") a → length (a ++ more) ≤ n → selection_at literal_at argument_at (a ++ more) ≡ Some (one x, more)
  complete_one x a more h fits =
      let (b, s, c, hb, hs, hc, e) = h in
      let text : a ++ more ≡ 91 ∷ (b ++ (s ++ (c ++ 93 ∷ more))) = rw e (brackets b s c more) in
      let size : length (91 ∷ (b ++ (s ++ (c ++ 93 ∷ more)))) ≤ n = rw text at fits in
      rw text (complete_between x no_selectors b s [] c more hb hs refl hc size)

  -- several
  pub complete_several : (xs : Selectors) (a more : List ℕ) → IsSeveral xs → Between (codes "[") (SpellsSelectors Number xs) (codes "]") a → length (a ++ more) ≤ n
      → selection_at literal_at argument_at (a ++ more) ≡ Some (several xs, more)
  complete_several no_selectors a more some h fits = absurd some
  complete_several (selector x xs) a more some h fits =
      let (b, m, c, hb, hm, hc, e) = h in
      let (s, r, hs, hr, em) = hm in
      let text : a ++ more ≡ 91 ∷ (b ++ (s ++ (r ++ (c ++ 93 ∷ more)))) = rw e (brackets b m c more ∙ rw em (ap (λ t. 91 ∷ (b ++ t)) (append_assoc s r (c ++ 93 ∷ more)))) in
      let size : length (91 ∷ (b ++ (s ++ (r ++ (c ++ 93 ∷ more))))) ≤ n = rw text at fits in
      rw text (complete_between x xs b s r c more hb hs hr hc size ∙ ap (λ g. Some (g, more)) (selection_several (selector x xs) some))

  -- ---- segments

  dot_reads : (text rest : List ℕ) (x : Selector) → (first text == 46) ≡ false → shorthand_at text ≡ Some (x, rest) → segment_at literal_at argument_at (46 ∷ text) ≡ Some (one x, rest)
  unfolding segment_at
  dot_reads text rest x other read = rw (other, read) refl

  dots_read : (text : List ℕ) → segment_at literal_at argument_at (46 ∷ 46 ∷ text) ≡ descendant_at literal_at argument_at text
  unfolding segment_at
  dots_read text = refl

  bracket_reads : (text : List ℕ) → (first text == 46) ≡ false → segment_at literal_at argument_at text ≡ selection_at literal_at argument_at text
  unfolding segment_at
  bracket_reads text other = rw other refl

  descendant_bracket : (text rest : List ℕ) (g : Segment) → (first text == 91) ≡ true → selection_at literal_at argument_at text ≡ Some (g, rest) → descendant_at literal_at argument_at text ≡ Some (descendant g, rest)
  unfolding descendant_at
  descendant_bracket text rest g open_ read = rw (open_, read) refl

  descendant_shorthand : (text rest : List ℕ) (x : Selector) → (first text == 91) ≡ false → shorthand_at text ≡ Some (x, rest) → descendant_at literal_at argument_at text ≡ Some (descendant (one x), rest)
  unfolding descendant_at
  descendant_shorthand text rest x other read = rw (other, read) refl

  -- what stands between brackets begins with one
  pub between_start : (spells : List ℕ → Type 0) (a more : List ℕ) → Between (codes "[") spells (codes "]") a → ((first (a ++ more) == 46) ≡ false) × ((first (a ++ more) == 91) ≡ true)
  between_start spells a more h = let (b, s, c, hb, hs, hc, e) = h in rw e (refl, refl)

  -- a segment, up to a byte of no name
  pub complete_segment : (g : Segment) (a more : List ℕ) → SpellsSegment Number g a → is_name_byte (first more) ≡ false → length (a ++ more) ≤ n → segment_at literal_at argument_at (a ++ more) ≡ Some (g, more)
  complete_segment (one x) a more h stop fits = elim h [
    | inl h ↦ bracket_reads (a ++ more) (between_start (SpellsSelector Number x) a more h).0 ∙ complete_one x a more h fits
    | inr h ↦ (let (s, hs, e) = h in rw e (dot_reads (s ++ more) more x (shorthand_start x s more hs).0 (complete_shorthand x s more hs stop)))
  ]
  complete_segment (several xs) a more h stop fits =
      bracket_reads (a ++ more) (between_start (SpellsSelectors Number xs) a more h.1).0 ∙ complete_several xs a more h.0 h.1 fits
  complete_segment (descendant (one x)) a more h stop fits =
      let (s, hs, e) = h in
      let text : a ++ more ≡ 46 ∷ 46 ∷ (s ++ more) = rw e refl in
      let size : length (s ++ more) ≤ n = omega (arith, fits, ap length text) in
      rw text (dots_read (s ++ more) ∙ elim hs [
        | inl hs ↦ descendant_bracket (s ++ more) more (one x) (between_start (SpellsSelector Number x) s more hs).1 (complete_one x s more hs size)
        | inr hs ↦ descendant_shorthand (s ++ more) more x (shorthand_start x s more hs).1 (complete_shorthand x s more hs stop)
      ])
  complete_segment (descendant (several xs)) a more h stop fits =
      let (s, some, hs, e) = h in
      let text : a ++ more ≡ 46 ∷ 46 ∷ (s ++ more) = rw e refl in
      let size : length (s ++ more) ≤ n = omega (arith, fits, ap length text) in
      rw text (dots_read (s ++ more) ∙ descendant_bracket (s ++ more) more (several xs) (between_start (SpellsSelectors Number xs) s more hs).1 (complete_several xs s more some hs size))
  complete_segment (descendant (descendant g)) a more h stop fits = absurd h

  -- all segments
  complete_segments : (gs : Segments) (k : ℕ) (a more : List ℕ) → SpellsSegments Number gs a → EndsSegments more → length (a ++ more) ≤ n → length (a ++ more) < k → segments_at literal_at argument_at k (a ++ more) ≡ Some (gs, more)
  complete_segments no_segments k a more h stop fits room = rw h (many_end segment no_segments (λ t. segment_at literal_at argument_at (skip_blank t)) (λ t. starts_segment (skip_blank t)) k more (omega (arith, room)) stop.0)
  complete_segments (segment g gs) k a more h stop fits room =
      let (b, x, c, hb, hx, hc, e) = h in
      let text : a ++ more ≡ b ++ (x ++ (c ++ more)) = rw e (regroup b x c more) in
      let size : length (a ++ more) ≡ length b + (length x + length (c ++ more)) = omega (arith, ap length text, length-append b (x ++ (c ++ more)), length-append x (c ++ more)) in
      let some : 0 < length x = segment_some Number g x hx in
      let start = segment_start Number g x (c ++ more) hx in
      let skipped : skip_blank (b ++ (x ++ (c ++ more))) ≡ x ++ (c ++ more) = skip_over b (x ++ (c ++ more)) hb start.1 in
      let read = complete_segment g x (c ++ more) hx (name_ends Number gs c more hc stop.1) (omega (arith, fits, size, length-append x (c ++ more))) in
      rw text (many_read segment no_segments (λ t. segment_at literal_at argument_at (skip_blank t)) (λ t. starts_segment (skip_blank t)) k (b ++ (x ++ (c ++ more))) g (c ++ more) gs more (omega (arith, room)) (ap starts_segment skipped ∙ start.0) (ap (segment_at literal_at argument_at) skipped ∙ read)
      (complete_segments gs (k - 1) c more hc stop (omega (arith, fits, size)) (omega (arith, size, room, some))))

  -- the segments of a query, up to what is none
  pub complete_all_segments : (gs : Segments) (a more : List ℕ) → SpellsSegments Number gs a → EndsSegments more → length (a ++ more) ≤ n → all_segments_at literal_at argument_at (a ++ more) ≡ Some (gs, more)
  unfolding all_segments_at
  complete_all_segments gs a more h stop fits = complete_segments gs (suc (length (a ++ more))) a more h stop fits (omega arith)
