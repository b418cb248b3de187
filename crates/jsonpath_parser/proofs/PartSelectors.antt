-- A slice and a selector that the whole text is: also the blanks at its end are read.
use Rattle.jsonpath_parser.specs.Prelude.{Argument, filter, first, index, is_ascii_digit, is_int_first, IsBlank, name, numbered_at, Read, Selector, selector_at, skip_blank, slice, slice_at, SpellsArgument, SpellsBound, SpellsSelector, SpellsSlice, SpellsStep, wildcard}
use Rattle.std.proofs.Common.{◌≡◌, ℕ, ◌<◌, ◌≤◌, true, ℤ, List, [], ◌∷◌, ◌++◌, length, Option, Some, None, refl, ap, ◌∙◌, inl, inr, append_assoc, append-nil, length-append, arith}
use Rattle.jsonpath_parser.proofs.CompleteParts.{EndsLogical, front_other, int_start, int_over}
use Rattle.jsonpath_parser.proofs.CompleteSegments.{complete_logical, selector_string, selector_numbered, selector_filter, selector_star}
use Rattle.jsonpath_parser.proofs.CompleteSlices.{blank_digit, int_other, end_over, end_colon, step_none, step_over, slice_short, slice_long, pieces, numbered_colon, numbered_slice, complete_index, index_start, slice_start}
use Rattle.jsonpath_parser.proofs.CompleteStarts.{basic_other, logical_start}
use Rattle.jsonpath_parser.proofs.CompleteWords.{string_start}
use Rattle.jsonpath_parser.proofs.laws.words.Fronts.{skip_over}
use Rattle.jsonpath_parser.proofs.laws.words.StringComplete.{complete_string}

-- what follows the first `:` of a slice, to the end of the text
slice_end : (start end step : Option ℤ) (b c d : List ℕ) → IsBlank b → SpellsBound end c → SpellsStep step d → slice_at start (b ++ (c ++ (d ++ []))) ≡ Some (slice start end step, [])
unfolding skip_blank
slice_end start end None b c d hb hc hd = elim hd [
  | inl none ↦ rw none (slice_short start end (b ++ (c ++ [])) [] (end_over end b c [] hb hc (refl, refl)) refl)
  | inr colon ↦ rw colon (slice_long start end None (b ++ (c ++ 58 ∷ [])) [] [] (end_colon end b c [] hb hc) (step_none [] refl))
]
slice_end start end (Some i) b c d hb hc hd =
    let (p, x, hp, hx, e) = hd in
    let text : d ++ [] ≡ 58 ∷ (p ++ (x ++ [])) = rw e (ap (λ t. 58 ∷ t) (append_assoc p x [])) in
    rw text (slice_long start end (Some i) (b ++ (c ++ 58 ∷ (p ++ (x ++ [])))) (p ++ (x ++ [])) [] (end_colon end b c (p ++ (x ++ [])) hb hc) (step_over i p x [] hp hx refl))

slice_rest : (start end step : Option ℤ) (a : List ℕ) → SpellsSlice start end step a → numbered_at (a ++ []) ≡ Some (slice start end step, [])
slice_rest None end step a h =
    let (s, b, c, d, hs, hb, hc, hd, e) = h in
    let text : a ++ [] ≡ 58 ∷ (b ++ (c ++ (d ++ []))) = rw (e, hs) (pieces [] b c d []) in
    rw text (numbered_colon (b ++ (c ++ (d ++ []))) ∙ slice_end None end step b c d hb hc hd)
slice_rest (Some i) end step a h =
    let (s, b, c, d, hs, hb, hc, hd, e) = h in
    let (x, y, hx, hy, es) = hs in
    let behind : List ℕ = b ++ (c ++ (d ++ [])) in
    let text : a ++ [] ≡ x ++ (y ++ 58 ∷ behind) = rw e (pieces s b c d [] ∙ rw es (append_assoc x y (58 ∷ behind))) in
    let start = int_start i x (y ++ 58 ∷ behind) hx.0 in
    let number = int_over i x (y ++ 58 ∷ behind) hx.0 hx.1 (front_other is_ascii_digit y (58 ∷ behind) hy blank_digit refl) in
    rw text (numbered_slice (x ++ (y ++ 58 ∷ behind)) behind (y ++ 58 ∷ behind) i (int_other (first (x ++ (y ++ 58 ∷ behind))) start).1 number (skip_over y (58 ∷ behind) hy refl) ∙ slice_end (Some i) end step b c d hb hc hd)

-- a slice that the whole text is
pub whole_slice : (start end step : Option ℤ) (a : List ℕ) → SpellsSlice start end step a → numbered_at a ≡ Some (slice start end step, [])
whole_slice start end step a h = rw append-nil at (slice_rest start end step a h)

module _ (Number : Option ℤ → List ℕ → Type 0) (number_first : (v : Option ℤ) (a more : List ℕ) → Number v a → is_int_first (first (a ++ more)) ≡ true)
    (num : List ℕ → Read (Option ℤ)) (arg : List ℕ → Read Argument) (n : ℕ)
    (oracle : (x : Argument) (a more : List ℕ) → SpellsArgument Number x a → EndsLogical more → length (a ++ more) < n → arg (a ++ more) ≡ Some (x, more)) where
  selector_rest : (x : Selector) (a : List ℕ) → SpellsSelector Number x a → length (a ++ []) ≤ n → selector_at num arg (a ++ []) ≡ Some (x, [])
  unfolding skip_blank
  selector_rest (name v) a h fits = selector_string Number number_first num arg n oracle (a ++ []) v [] (string_start v a [] h) (complete_string v a [] h)
  selector_rest wildcard a h fits = rw h (selector_star Number number_first num arg n oracle [])
  selector_rest (index i) a h fits = selector_numbered Number number_first num arg n oracle (a ++ []) (index_start i a [] h) ∙ complete_index i a [] h refl
  selector_rest (slice start end step) a h fits = selector_numbered Number number_first num arg n oracle (a ++ []) (slice_start start end step a [] h) ∙ slice_rest start end step a h
  selector_rest (filter f) a h fits =
      let (b, r, hb, hr, e) = h in
      let text : a ++ [] ≡ 63 ∷ (b ++ (r ++ [])) = rw e (ap (λ t. 63 ∷ t) (append_assoc b r [])) in
      let skipped : skip_blank (b ++ (r ++ [])) ≡ r ++ [] = skip_over b (r ++ []) hb (basic_other (first (r ++ [])) (logical_start Number number_first f r [] hr)).0 in
      let size : length (r ++ []) < n = omega (arith, fits, ap length text, length-append b (r ++ [])) in
      rw text (selector_filter Number number_first num arg n oracle (b ++ (r ++ [])) [] f (rw skipped (complete_logical Number number_first num arg n oracle f r [] hr refl size)))

  -- a selector that the whole text is
  pub whole_selector : (x : Selector) (a : List ℕ) → SpellsSelector Number x a → length a ≤ n → selector_at num arg a ≡ Some (x, [])
  whole_selector x a h fits = let size : length (a ++ []) ≤ n = rw append-nil fits in rw append-nil at (selector_rest x a h size)
