-- The loop over the characters of a string, a turn at a time.
use Rattle.std.proofs.Common.{◌≡◌, ℕ, zero, suc, ◌+◌, ◌<◌, ◌≤◌, true, false, ◌==◌, List, [], ◌∷◌, ◌++◌, length, take, drop, Some, None, option_and_then, refl, ap, ◌∙◌, inl, inr, arith, append_assoc, append-nil}
use Rattle.std.proofs.lemmas.Bool.{cases_Bool}
use Rattle.std.proofs.lemmas.Bool.Decides.{nat_tests}
use Rattle.jsonpath_parser.specs.Prelude.{char_at, chars_at, encode_utf8, escape_at, first, is_plain, is_quote, prefix_len, split_while}

-- the loop has read what was found, and goes on at the rest
abbrev pub HasRead : ℕ → List ℕ → List ℕ → List ℕ → Type 0
HasRead q s found rest = (m : ℕ) × (length rest < m) × (chars_at q (suc (length s)) [] s ≡ chars_at q m found rest)

-- a byte that stands for itself
pub char_plain : (q b : ℕ) (text : List ℕ) → is_plain q b ≡ true → char_at q (b ∷ text) ≡ Some (b ∷ [], text)
unfolding char_at
char_plain q b text h = rw h refl

-- a backslash
pub char_escape : (q : ℕ) (text : List ℕ) → char_at q (92 ∷ text) ≡ option_and_then (λ c. Some (encode_utf8 c.0, c.1)) (escape_at q text)
unfolding char_at
char_escape q text = let other : is_plain q 92 ≡ false = grind (arith, nat_tests) in rw other refl

-- any other byte
char_other : (q : ℕ) (text : List ℕ) → is_plain q (first text) ≡ false → (first text == 92) ≡ false → char_at q text ≡ None
unfolding char_at
char_other q text plain slash = rw (plain, slash) refl

-- at the quote
pub chars_end : (q k : ℕ) (found text : List ℕ) → (first text == q) ≡ true → chars_at q (suc k) found text ≡ Some (found, drop 1 text)
unfolding chars_at
chars_end q k found text h = rw h refl

-- before it
pub chars_more : (q k : ℕ) (found text : List ℕ) → (first text == q) ≡ false
    → chars_at q (suc k) found text ≡ option_and_then (λ c. chars_at q k (found ++ c.0) c.1) (char_at q text)
unfolding chars_at
chars_more q k found text h = rw h refl

-- a run is taken as it is
chars_run : (q : ℕ) (text found : List ℕ) (n : ℕ) → length text < n
    → (m : ℕ) × (length (drop (prefix_len (is_plain q) text) text) < m) × (chars_at q n found text ≡ chars_at q m (found ++ take (prefix_len (is_plain q) text) text) (drop (prefix_len (is_plain q) text) text))
chars_run q text found zero room = absurd (omega arith)
chars_run q [] found (suc n) room = (suc n, room, rw append-nil refl)
chars_run q (b ∷ text) found (suc n) room = elim (cases_Bool (is_plain q b)) [
  | inl plain ↦ (
      let (m, fits, more) = chars_run q text (found ++ b ∷ []) n (omega arith) in
      let k = prefix_len (is_plain q) text in
      let next : 1 + k ≡ suc k = omega arith in
      let other : (b == q) ≡ false = grind (arith, nat_tests) in
      rw (plain, next) (m, fits, chars_more q n found (b ∷ text) other ∙ rw (char_plain q b text plain, more) (rw append_assoc refl)))
  | inr stop ↦ rw stop (suc n, room, rw append-nil refl)
]

-- the byte behind a run does not stand for itself
run_stops : (q : ℕ) (text : List ℕ) → is_plain q (first (drop (prefix_len (is_plain q) text) text)) ≡ false
run_stops q [] = grind (arith, nat_tests)
run_stops q (b ∷ text) = elim (cases_Bool (is_plain q b)) [
  | inl plain ↦ (let k = prefix_len (is_plain q) text in let next : 1 + k ≡ suc k = omega arith in rw (plain, next) (run_stops q text))
  | inr stop ↦ rw stop stop
]

-- the loop, behind a run
pub after_run : (q : ℕ) (s found rest run after : List ℕ) → HasRead q s found rest → (run, after) ≡ split_while (is_plain q) rest
    → HasRead q s (found ++ run) after × (is_plain q (first after) ≡ false)
after_run q s found rest run after h parts =
    let (n, room, loop) = h in
    let (m, fits, more) = chars_run q rest found n room in
    let front : run ≡ take (prefix_len (is_plain q) rest) rest = ap (λ (p : List ℕ × List ℕ). p.0) parts in
    let back : after ≡ drop (prefix_len (is_plain q) rest) rest = ap (λ (p : List ℕ × List ℕ). p.1) parts in
    rw (front, back) ((m, fits, loop ∙ more), run_stops q rest)

-- the quote ends it
pub at_quote : (q : ℕ) (s found after : List ℕ) → HasRead q s found after → first after ≡ q → chars_at q (suc (length s)) [] s ≡ Some (found, drop 1 after)
at_quote q s found after h here =
    let (m, room, loop) = h in
    let test : (first after == q) ≡ true = grind (arith, nat_tests) in
    loop ∙ turn m room test
  where
    turn : (m : ℕ) → length after < m → (first after == q) ≡ true → chars_at q m found after ≡ Some (found, drop 1 after)
    turn zero room test = absurd (omega arith)
    turn (suc k) room test = chars_end q k found after test

-- before the quote, the loop reads one character
turn_more : (q : ℕ) (s found after : List ℕ) → HasRead q s found after → (first after == q) ≡ false
    → (k : ℕ) × (length after ≤ k) × (chars_at q (suc (length s)) [] s ≡ option_and_then (λ c. chars_at q k (found ++ c.0) c.1) (char_at q after))
turn_more q s found after h other =
    let (m, room, loop) = h in
    let (k, fits, read) = turn m room other in
    (k, fits, loop ∙ read)
  where
    turn : (m : ℕ) → length after < m → (first after == q) ≡ false → (k : ℕ) × (length after ≤ k) × (chars_at q m found after ≡ option_and_then (λ c. chars_at q k (found ++ c.0) c.1) (char_at q after))
    turn zero room test = absurd (omega arith)
    turn (suc k) room test = (k, omega arith, chars_more q k found after test)

-- a byte that may not stand in a string
pub at_other : (q : ℕ) (s found after : List ℕ) → HasRead q s found after → is_plain q (first after) ≡ false → (first after ≡ q → ⊥) → (first after ≡ 92 → ⊥) → chars_at q (suc (length s)) [] s ≡ None
at_other q s found after h plain quote slash =
    let (k, fits, read) = turn_more q s found after h (grind (arith, nat_tests)) in
    read ∙ rw (char_other q after plain (grind (arith, nat_tests))) refl

-- a backslash, with what stands behind it
at_slash : (q : ℕ) (s found after : List ℕ) → HasRead q s found after → is_quote q ≡ true → first after ≡ 92
    → (k : ℕ) × (length after ≤ k) × (chars_at q (suc (length s)) [] s ≡ option_and_then (λ (p : List ℕ × List ℕ). chars_at q k (found ++ p.0) p.1) (option_and_then (λ (c : ℕ × List ℕ). Some (encode_utf8 c.0, c.1)) (escape_at q (drop 1 after))))
at_slash q s found [] h quote slash = absurd (omega arith)
at_slash q s found (b ∷ t) h quote slash =
    let (k, fits, read) = turn_more q s found (b ∷ t) h (grind (arith, nat_tests)) in
    let same : char_at q (b ∷ t) ≡ char_at q (92 ∷ t) = ap (λ v. char_at q (v ∷ t)) slash in
    (k, fits, read ∙ rw (same, char_escape q t) refl)

-- no escape
pub at_no_escape : (q : ℕ) (s found after : List ℕ) → HasRead q s found after → is_quote q ≡ true → first after ≡ 92 → escape_at q (drop 1 after) ≡ None → chars_at q (suc (length s)) [] s ≡ None
at_no_escape q s found after h quote slash none =
    let (k, fits, read) = at_slash q s found after h quote slash in
    read ∙ rw none refl

-- an escape
pub at_escape : (q : ℕ) (s found after : List ℕ) (c : ℕ) (next : List ℕ) → HasRead q s found after → is_quote q ≡ true → first after ≡ 92 → escape_at q (drop 1 after) ≡ Some (c, next) → length next < length after
    → HasRead q s (found ++ encode_utf8 c) next
at_escape q s found after c next h quote slash some shorter =
    let (k, fits, read) = at_slash q s found after h quote slash in
    (k, omega arith, read ∙ rw some refl)
