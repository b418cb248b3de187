-- What is spelled is read, where the text after it cannot continue it: names, whole numbers, slices, operators and words.
use Rattle.std.proofs.Common.{◌≡◌, ℕ, zero, suc, ◌≤◌, Bool, true, false, ◌||◌, ◌==◌, ℤ, pos, negsuc, List, [], ◌∷◌, ◌++◌, drop, Some, refl, sym, ap, ◌⊎◌, inl, inr, arith}
use Rattle.std.proofs.lemmas.Bool.Decides.{nat_tests}
use Rattle.std.proofs.lemmas.Int.{ints}
use Rattle.jsonpath_parser.specs.Prelude.{digits_value, filter, first, index, int_at, is_ascii_digit, is_blank, is_function_byte, is_int_first, is_magnitude, is_name_byte, is_name_first, is_operator_first, IsBlank, IsInRange, IsName, IsRun, magnitude_at, name, name_at, prefix_len, Selector, shorthand_at, skip_blank, slice, SpellsInt, SpellsPositive, SpellsShorthand, split_while, starts_segment, wildcard}
use Rattle.jsonpath_parser.proofs.laws.words.Fronts.{run_over, skip_over, back, front}
use Rattle.jsonpath_parser.proofs.NumberComplete.{continues_number}

-- ---- what may follow, after blanks

-- what ends a selector, an argument or a logical expression: the end of the text, `]`, `)` or `,`
abbrev pub ends_logical : ℕ → Bool
ends_logical b = ((b == 0 || b == 93) || b == 41) || b == 44

-- or an operand of `||`
abbrev pub ends_conjunction : ℕ → Bool
ends_conjunction b = ends_logical b || b == 124

-- or an operand of `&&`
abbrev pub ends_basic : ℕ → Bool
ends_basic b = ends_conjunction b || b == 38

-- or a side of a comparison
abbrev pub ends_operand : ℕ → Bool
ends_operand b = ends_basic b || is_operator_first b

abbrev pub EndsLogical : List ℕ → Type 0
EndsLogical more = ends_logical (first (skip_blank more)) ≡ true

abbrev pub EndsConjunction : List ℕ → Type 0
EndsConjunction more = ends_conjunction (first (skip_blank more)) ≡ true

abbrev pub EndsBasic : List ℕ → Type 0
EndsBasic more = ends_basic (first (skip_blank more)) ≡ true

abbrev pub EndsOperand : List ℕ → Type 0
EndsOperand more = ends_operand (first (skip_blank more)) ≡ true

-- neither a further segment nor more of a name
abbrev pub EndsSegments : List ℕ → Type 0
EndsSegments more = (starts_segment (skip_blank more) ≡ false) × (is_name_byte (first more) ≡ false)

-- a byte that continues no name, no word and no number, and opens no call
pub record Stops (b : ℕ) : Type 0 where
  pub no_name : is_name_byte b ≡ false
  pub no_function : is_function_byte b ≡ false
  pub no_number : continues_number b ≡ false
  pub no_digit : is_ascii_digit b ≡ false
  pub no_call : (b == 40) ≡ false

blank_stops : (b : ℕ) → is_blank b ≡ true → Stops b
blank_stops b h = record {
  no_name = grind (arith, nat_tests);
  no_function = grind (arith, nat_tests);
  no_number = grind (arith, nat_tests);
  no_digit = grind (arith, nat_tests);
  no_call = grind (arith, nat_tests);
}

end_stops : (b : ℕ) → ends_operand b ≡ true → Stops b
end_stops b h = record {
  no_name = grind (arith, nat_tests);
  no_function = grind (arith, nat_tests);
  no_number = grind (arith, nat_tests);
  no_digit = grind (arith, nat_tests);
  no_call = grind (arith, nat_tests);
}

no_segment : (b : ℕ) → ends_operand b ≡ true → (b == 46 || b == 91) ≡ false
no_segment b h = grind (arith, nat_tests)

-- a blank at the front, or none to skip
blank_or_here : (more : List ℕ) → (is_blank (first more) ≡ true) ⊎ (skip_blank more ≡ more)
blank_or_here more = by_test more (is_blank (first more)) refl
  where
    by_test : (more : List ℕ) (b : Bool) → is_blank (first more) ≡ b → (is_blank (first more) ≡ true) ⊎ (skip_blank more ≡ more)
    by_test more true e = inl e
    by_test more false e = inr (skip_over [] more tt e)

-- what ends an operand stops what is read there
pub stops : (more : List ℕ) → EndsOperand more → Stops (first more)
stops more h = elim (blank_or_here more) [ inl b ↦ blank_stops (first more) b | inr e ↦ end_stops (first more) (rw e at h) ]

pub ends_segments : (more : List ℕ) → EndsOperand more → EndsSegments more
ends_segments more h = (no_segment (first (skip_blank more)) h, (stops more h).no_name)

-- each end is one of what stands inside
pub logical_ends : (more : List ℕ) → EndsLogical more → EndsConjunction more
logical_ends more h = rw h refl

pub conjunction_ends : (more : List ℕ) → EndsConjunction more → EndsBasic more
conjunction_ends more h = rw h refl

pub basic_ends : (more : List ℕ) → EndsBasic more → EndsOperand more
basic_ends more h = rw h refl

pub logical_stops : (more : List ℕ) → EndsLogical more → Stops (first more)
logical_stops more h = stops more (basic_ends more (conjunction_ends more (logical_ends more h)))

-- a byte behind blanks is what follows
pub follows : (b rest : List ℕ) (c : ℕ) → IsBlank b → is_blank c ≡ false → skip_blank (b ++ c ∷ rest) ≡ c ∷ rest
follows b rest c h other = skip_over b (c ∷ rest) h other

-- ---- blanks

-- blanks in front are skipped with what follows
pub skip_more : (b more : List ℕ) → IsBlank b → skip_blank (b ++ more) ≡ skip_blank more
unfolding skip_blank
skip_more [] more h = refl
skip_more (d ∷ b) more h =
    let k : prefix_len is_blank ((d ∷ b) ++ more) ≡ suc (prefix_len is_blank (b ++ more)) = rw h.0 (omega arith) in
    rw k (skip_more b more h.1)

-- no blank is left
pub skip_stops : (text : List ℕ) → is_blank (first (skip_blank text)) ≡ false
unfolding skip_blank
skip_stops [] = refl
skip_stops (d ∷ s) = by_test (is_blank d) refl (skip_stops s)
  where
    by_test : (v : Bool) → is_blank d ≡ v → is_blank (first (drop (prefix_len is_blank s) s)) ≡ false → is_blank (first (drop (prefix_len is_blank (d ∷ s)) (d ∷ s))) ≡ false
    by_test true e ih =
        let k : prefix_len is_blank (d ∷ s) ≡ suc (prefix_len is_blank s) = rw e (omega arith) in
        rw k ih
    by_test false e ih = rw e e

pub skip_again : (text : List ℕ) → skip_blank (skip_blank text) ≡ skip_blank text
skip_again text = skip_over [] (skip_blank text) tt (skip_stops text)

-- what no blank is and what does not follow them does not stand at the front
pub front_other : (p : ℕ → Bool) (b rest : List ℕ) → IsBlank b → ((c : ℕ) → is_blank c ≡ true → p c ≡ false) → p (first rest) ≡ false → p (first (b ++ rest)) ≡ false
front_other p [] rest h other stop = stop
front_other p (d ∷ b) rest h other stop = other d h.0

-- ---- whole numbers

-- digits in range, up to a byte that is none
magnitude_over : (n : ℕ) (a more : List ℕ) → IsRun is_ascii_digit a → is_magnitude a ≡ true → n ≡ digits_value 10 a → is_ascii_digit (first more) ≡ false → magnitude_at (a ++ more) ≡ Some (n, more)
unfolding magnitude_at
magnitude_over n a more run h value stop =
    let parts = sym (run_over is_ascii_digit a more run stop refl) in
    rw (front is_ascii_digit (a ++ more) a more parts, back is_ascii_digit (a ++ more) a more parts, h, value) refl

-- a number in range has its digits in range
positive_magnitude : (n : ℕ) (a : List ℕ) → SpellsPositive n a → n ≤ 9007199254740991 → is_magnitude a ≡ true
positive_magnitude n [] h small = absurd (omega (arith, h.1))
positive_magnitude n (d ∷ s) h small = let value : digits_value 10 (d ∷ s) ≤ 9007199254740991 = omega (arith, h.2) in let some : 49 ≤ d = h.1 in grind (arith, nat_tests)

-- a number without a sign
int_plain : (text : List ℕ) (n : ℕ) (more : List ℕ) → (first text == 45) ≡ false → magnitude_at text ≡ Some (n, more) → int_at text ≡ Some (pos n, more)
unfolding int_at
int_plain text n more other read = rw (other, read) refl

-- and one behind `-`
int_behind : (text : List ℕ) (n : ℕ) (more : List ℕ) → magnitude_at text ≡ Some (suc n, more) → int_at (45 ∷ text) ≡ Some (negsuc n, more)
unfolding int_at
int_behind text n more read = let some : (suc n == 0) ≡ false = grind (arith, nat_tests) in rw (read, some) refl

-- how a number begins
pub int_start : (i : ℤ) (a more : List ℕ) → SpellsInt i a → is_int_first (first (a ++ more)) ≡ true
int_start (pos zero) a more h = rw h refl
int_start (pos (suc n)) [] more h = absurd (omega (arith, h.1))
int_start (pos (suc n)) (d ∷ s) more h = rw (h.0.0) refl
int_start (negsuc n) a more h = let (digits, its, e) = h in rw e refl

-- a number in range, up to a byte that is no digit
pub int_over : (i : ℤ) (a more : List ℕ) → SpellsInt i a → IsInRange i → is_ascii_digit (first more) ≡ false → int_at (a ++ more) ≡ Some (i, more)
int_over (pos zero) a more h range stop = rw h (int_plain (48 ∷ more) 0 more refl (magnitude_over 0 (48 ∷ []) more (refl, tt) refl refl stop))
int_over (pos (suc n)) [] more h range stop = absurd (omega (arith, h.1))
int_over (pos (suc n)) (d ∷ s) more h range stop =
    let small : suc n ≤ 9007199254740991 = omega (arith, ints, range.1) in
    let some : 49 ≤ d = h.1 in
    int_plain ((d ∷ s) ++ more) (suc n) more (grind (arith, nat_tests)) (magnitude_over (suc n) (d ∷ s) more h.0 (positive_magnitude (suc n) (d ∷ s) h small) h.2 stop)
int_over (negsuc n) a more h range stop =
    let (digits, its, e) = h in
    let small : suc n ≤ 9007199254740991 = omega (arith, ints, range.0) in
    rw e (int_behind (digits ++ more) n more (magnitude_over (suc n) digits more its.0 (positive_magnitude (suc n) digits its small) its.2 stop))

-- ---- names

-- a name is the run at the front
name_reads : (text : List ℕ) (parts : List ℕ × List ℕ) → is_name_first (first text) ≡ true → split_while is_name_byte text ≡ parts → name_at text ≡ Some parts
unfolding name_at
name_reads text parts h e = rw h (ap Some e)

-- a name, up to a byte of none
name_over : (n more : List ℕ) → IsName n → is_name_byte (first more) ≡ false → name_at (n ++ more) ≡ Some (n, more)
name_over [] more h stop = absurd h
name_over (b ∷ s) more h stop =
    let named : is_name_byte b ≡ true = rw h.0 refl in
    name_reads ((b ∷ s) ++ more) (b ∷ s, more) h.0 (run_over is_name_byte (b ∷ s) more (named, h.1) stop refl)

-- how a name begins
name_start : (n more : List ℕ) → IsName n → is_name_first (first (n ++ more)) ≡ true
name_start [] more h = absurd h
name_start (b ∷ s) more h = h.0

-- a name is no wildcard
shorthand_name : (text n more : List ℕ) → is_name_first (first text) ≡ true → name_at text ≡ Some (n, more) → shorthand_at text ≡ Some (name n, more)
unfolding shorthand_at
shorthand_name text n more start read = let star : (first text == 42) ≡ false = grind (arith, nat_tests) in rw (star, read) refl

-- a shorthand, up to a byte of no name
pub complete_shorthand : (x : Selector) (a more : List ℕ) → SpellsShorthand x a → is_name_byte (first more) ≡ false → shorthand_at (a ++ more) ≡ Some (x, more)
unfolding shorthand_at
complete_shorthand (name n) a more h stop = rw h.1 (shorthand_name (n ++ more) n more (name_start n more h.0) (name_over n more h.0 stop))
complete_shorthand wildcard a more h stop = rw h refl
complete_shorthand (index i) a more h stop = absurd h
complete_shorthand (slice i j k) a more h stop = absurd h
complete_shorthand (filter f) a more h stop = absurd h

-- neither a dot nor a bracket begins a shorthand
pub shorthand_start : (x : Selector) (a more : List ℕ) → SpellsShorthand x a → ((first (a ++ more) == 46) ≡ false) × ((first (a ++ more) == 91) ≡ false)
shorthand_start (name n) a more h = let start = name_start n more h.0 in rw h.1 (grind (arith, nat_tests), grind (arith, nat_tests))
shorthand_start wildcard a more h = rw h (refl, refl)
shorthand_start (index i) a more h = absurd h
shorthand_start (slice i j k) a more h = absurd h
shorthand_start (filter f) a more h = absurd h
