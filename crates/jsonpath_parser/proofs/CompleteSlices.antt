-- An index or a slice that is spelled is read.
--
-- A slice without its second `:` takes the blanks behind it along, so what is left is the text after it up to blanks.
use Rattle.jsonpath_parser.specs.Prelude.{end_at, first, index, int_at, is_ascii_digit, is_blank, is_int_first, is_quote, IsBlank, numbered_at, Selector, skip_blank, slice, slice_at, SpellsBound, SpellsIndex, SpellsSlice, SpellsStep, step_at}
use Rattle.std.proofs.Common.{◌≡◌, ℕ, Bool, true, false, ◌||◌, ◌==◌, ℤ, List, [], ◌∷◌, ◌++◌, Option, Some, None, refl, ap, ◌∙◌, inl, inr, append_assoc, arith}
use Rattle.std.proofs.lemmas.Bool.Decides.{nat_tests}
use Rattle.jsonpath_parser.proofs.laws.words.Fronts.{skip_over}
use Rattle.jsonpath_parser.proofs.CompleteParts.{ends_logical, EndsLogical, logical_stops, skip_more, skip_again, front_other, int_start, int_over}

-- a byte that begins an index or a slice
abbrev pub starts_numbered : ℕ → Bool
starts_numbered b = is_int_first b || b == 58

-- it is no blank and begins no other selector
pub numbered_other : (b : ℕ) → starts_numbered b ≡ true → (is_blank b ≡ false) × ((b == 42) ≡ false) × ((b == 63) ≡ false) × (is_quote b ≡ false)
numbered_other b h = (grind (arith, nat_tests), grind (arith, nat_tests), grind (arith, nat_tests), grind (arith, nat_tests))

-- it is no blank and no `:`
pub int_other : (b : ℕ) → is_int_first b ≡ true → (is_blank b ≡ false) × ((b == 58) ≡ false)
int_other b h = (grind (arith, nat_tests), grind (arith, nat_tests))

-- what ends a selector is no part of a slice
logical_other : (b : ℕ) → ends_logical b ≡ true → (is_int_first b ≡ false) × ((b == 58) ≡ false)
logical_other b h = (grind (arith, nat_tests), grind (arith, nat_tests))

pub blank_digit : (c : ℕ) → is_blank c ≡ true → is_ascii_digit c ≡ false
blank_digit c h = grind (arith, nat_tests)

-- what follows a bound: no digit, and behind blanks no int
abbrev pub EndsBound : List ℕ → Type 0
EndsBound next = (is_ascii_digit (first next) ≡ false) × (is_int_first (first (skip_blank next)) ≡ false)

-- ---- the end and the step

end_some : (text rest : List ℕ) (i : ℤ) → is_int_first (first text) ≡ true → int_at text ≡ Some (i, rest) → end_at text ≡ Some (Some i, skip_blank rest)
unfolding end_at
end_some text rest i start read = rw (start, read) refl

end_none : (text : List ℕ) → is_int_first (first text) ≡ false → end_at text ≡ Some (None, text)
unfolding end_at
end_none text start = rw start refl

-- an end, with the blanks around it
pub end_over : (end : Option ℤ) (b c next : List ℕ) → IsBlank b → SpellsBound end c → EndsBound next → end_at (skip_blank (b ++ (c ++ next))) ≡ Some (end, skip_blank next)
end_over None b c next hb hc stop = rw (hc, skip_more b next hb) (end_none (skip_blank next) stop.1)
end_over (Some i) b c next hb hc stop =
    let (x, y, hx, hy, e) = hc in
    let text : c ++ next ≡ x ++ (y ++ next) = rw e (append_assoc x y next) in
    let start = int_start i x (y ++ next) hx.0 in
    let read = int_over i x (y ++ next) hx.0 hx.1 (front_other is_ascii_digit y next hy blank_digit stop.0) in
    rw (text, skip_over b (x ++ (y ++ next)) hb (int_other (first (x ++ (y ++ next))) start).0) (end_some (x ++ (y ++ next)) (y ++ next) i start read ∙ ap (λ r. Some (Some i, r)) (skip_more y next hy))

step_some : (text rest : List ℕ) (i : ℤ) → is_int_first (first (skip_blank text)) ≡ true → int_at (skip_blank text) ≡ Some (i, rest) → step_at text ≡ Some (Some i, rest)
unfolding step_at
step_some text rest i start read = rw (start, read) refl

pub step_none : (text : List ℕ) → is_int_first (first (skip_blank text)) ≡ false → step_at text ≡ Some (None, text)
unfolding step_at
step_none text start = rw start refl

-- a step, behind its `:`
pub step_over : (i : ℤ) (b a more : List ℕ) → IsBlank b → SpellsIndex i a → is_ascii_digit (first more) ≡ false → step_at (b ++ (a ++ more)) ≡ Some (Some i, more)
step_over i b a more hb ha stop =
    let start = int_start i a more ha.0 in
    let skipped = skip_over b (a ++ more) hb (int_other (first (a ++ more)) start).0 in
    step_some (b ++ (a ++ more)) more i (rw skipped start) (rw skipped (int_over i a more ha.0 ha.1 stop))

-- ---- slices behind their first `:`

-- the text after the selector, and that it was read
abbrev pub Taken : (List ℕ → Option (Selector × List ℕ)) → List ℕ → Selector → List ℕ → Type 0
Taken reading text x more = (rest : List ℕ) × (reading text ≡ Some (x, rest)) × (skip_blank rest ≡ skip_blank more)

pub slice_short : (start end : Option ℤ) (text rest : List ℕ) → end_at (skip_blank text) ≡ Some (end, rest) → (first rest == 58) ≡ false → slice_at start text ≡ Some (slice start end None, rest)
unfolding slice_at
slice_short start end text rest read other = rw (read, other) refl

pub slice_long : (start end step : Option ℤ) (text behind rest : List ℕ) → end_at (skip_blank text) ≡ Some (end, 58 ∷ behind) → step_at behind ≡ Some (step, rest) → slice_at start text ≡ Some (slice start end step, rest)
unfolding slice_at
slice_long start end step text behind rest read next = rw (read, next) refl

-- `:` ends a bound
colon_ends : (behind : List ℕ) → EndsBound (58 ∷ behind)
colon_ends behind = (refl, rw (skip_over [] (58 ∷ behind) tt refl) refl)

-- up to `:`
pub end_colon : (end : Option ℤ) (b c behind : List ℕ) → IsBlank b → SpellsBound end c → end_at (skip_blank (b ++ (c ++ 58 ∷ behind))) ≡ Some (end, 58 ∷ behind)
end_colon end b c behind hb hc = end_over end b c (58 ∷ behind) hb hc (colon_ends behind) ∙ ap (λ r. Some (end, r)) (skip_over [] (58 ∷ behind) tt refl)

slice_over : (start end step : Option ℤ) (b c d more : List ℕ) → IsBlank b → SpellsBound end c → SpellsStep step d → EndsLogical more
    → Taken (slice_at start) (b ++ (c ++ (d ++ more))) (slice start end step) more
slice_over start end None b c d more hb hc hd stop = elim hd [
  | inl none ↦ (
      let facts = logical_other (first (skip_blank more)) stop in
      let read = end_over end b c more hb hc ((logical_stops more stop).no_digit, facts.0) in
      (skip_blank more, rw none (slice_short start end (b ++ (c ++ more)) (skip_blank more) read facts.1), skip_again more))
  | inr colon ↦ (
      let facts = logical_other (first (skip_blank more)) stop in
      (more, rw colon (slice_long start end None (b ++ (c ++ 58 ∷ more)) more more (end_colon end b c more hb hc) (step_none more facts.0)), refl))
]
slice_over start end (Some i) b c d more hb hc hd stop =
    let (p, x, hp, hx, e) = hd in
    let text : d ++ more ≡ 58 ∷ (p ++ (x ++ more)) = rw e (ap (λ t. 58 ∷ t) (append_assoc p x more)) in
    let read = slice_long start end (Some i) (b ++ (c ++ 58 ∷ (p ++ (x ++ more)))) (p ++ (x ++ more)) more (end_colon end b c (p ++ (x ++ more)) hb hc) (step_over i p x more hp hx (logical_stops more stop).no_digit) in
    (more, rw text read, refl)

-- ---- indexes and slices

pub numbered_colon : (text : List ℕ) → numbered_at (58 ∷ text) ≡ slice_at None text
unfolding numbered_at
numbered_colon text = refl

pub numbered_slice : (text behind rest : List ℕ) (i : ℤ) → (first text == 58) ≡ false → int_at text ≡ Some (i, rest) → skip_blank rest ≡ 58 ∷ behind → numbered_at text ≡ slice_at (Some i) behind
unfolding numbered_at
numbered_slice text behind rest i other read skipped = rw (other, read, skipped) refl

numbered_index : (text rest : List ℕ) (i : ℤ) → (first text == 58) ≡ false → int_at text ≡ Some (i, rest) → (first (skip_blank rest) == 58) ≡ false → numbered_at text ≡ Some (index i, rest)
unfolding numbered_at
numbered_index text rest i other read next = rw (other, read, next) refl

-- an index, up to what ends a selector
pub complete_index : (i : ℤ) (a more : List ℕ) → SpellsIndex i a → EndsLogical more → numbered_at (a ++ more) ≡ Some (index i, more)
complete_index i a more h stop =
    let start = int_start i a more h.0 in
    numbered_index (a ++ more) more i (int_other (first (a ++ more)) start).1 (int_over i a more h.0 h.1 (logical_stops more stop).no_digit) (logical_other (first (skip_blank more)) stop).1

-- four pieces behind a start
pub pieces : (a b c d more : List ℕ) → (a ++ (58 ∷ (b ++ (c ++ d)))) ++ more ≡ a ++ (58 ∷ (b ++ (c ++ (d ++ more))))
pieces a b c d more = simp append_assoc

-- a slice, up to what ends a selector
pub complete_slice : (start end step : Option ℤ) (a more : List ℕ) → SpellsSlice start end step a → EndsLogical more → Taken numbered_at (a ++ more) (slice start end step) more
complete_slice None end step a more h stop =
    let (s, b, c, d, hs, hb, hc, hd, e) = h in
    let (rest, read, left) = slice_over None end step b c d more hb hc hd stop in
    let text : a ++ more ≡ 58 ∷ (b ++ (c ++ (d ++ more))) = rw (e, hs) (pieces [] b c d more) in
    (rest, rw text (numbered_colon (b ++ (c ++ (d ++ more))) ∙ read), left)
complete_slice (Some i) end step a more h stop =
    let (s, b, c, d, hs, hb, hc, hd, e) = h in
    let (x, y, hx, hy, es) = hs in
    let (rest, read, left) = slice_over (Some i) end step b c d more hb hc hd stop in
    let behind : List ℕ = b ++ (c ++ (d ++ more)) in
    let text : a ++ more ≡ x ++ (y ++ 58 ∷ behind) = rw e (pieces s b c d more ∙ rw es (append_assoc x y (58 ∷ behind))) in
    let start = int_start i x (y ++ 58 ∷ behind) hx.0 in
    let number = int_over i x (y ++ 58 ∷ behind) hx.0 hx.1 (front_other is_ascii_digit y (58 ∷ behind) hy blank_digit refl) in
    (rest, rw text (numbered_slice (x ++ (y ++ 58 ∷ behind)) behind (y ++ 58 ∷ behind) i (int_other (first (x ++ (y ++ 58 ∷ behind))) start).1 number (skip_over y (58 ∷ behind) hy refl) ∙ read), left)

-- how an index and a slice begin
pub index_start : (i : ℤ) (a more : List ℕ) → SpellsIndex i a → starts_numbered (first (a ++ more)) ≡ true
index_start i a more h = rw (int_start i a more h.0) refl

pub slice_start : (start end step : Option ℤ) (a more : List ℕ) → SpellsSlice start end step a → starts_numbered (first (a ++ more)) ≡ true
slice_start None end step a more h =
    let (s, b, c, d, hs, hb, hc, hd, e) = h in
    let text : a ++ more ≡ 58 ∷ (b ++ (c ++ (d ++ more))) = rw (e, hs) (pieces [] b c d more) in
    rw text refl
slice_start (Some i) end step a more h =
    let (s, b, c, d, hs, hb, hc, hd, e) = h in
    let (x, y, hx, hy, es) = hs in
    let behind : List ℕ = b ++ (c ++ (d ++ more)) in
    let text : a ++ more ≡ x ++ (y ++ 58 ∷ behind) = rw e (pieces s b c d more ∙ rw es (append_assoc x y (58 ∷ behind))) in
    rw text (rw (int_start i x (y ++ 58 ∷ behind) hx.0) refl)
