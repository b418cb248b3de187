-- A Normalized Path derives the query of its steps.
use Rattle.std.proofs.Common.{◌≡◌, ℕ, zero, suc, ◌+◌, ◌<◌, ◌≤◌, true, false, pos, Some, List, [], ◌∷◌, ◌++◌, length, map, refl, sym, ap, ◌∙◌, subst, codes, ne_eqb, inl, inr, append_assoc, get_or, lit≤, arith}
use Rattle.std.proofs.lemmas.Bool.{cond-false}
use Rattle.std.proofs.lemmas.Bool.Decides.{nat_tests}
use Rattle.std.proofs.lemmas.Int.Digits.{digits_value_is, number_digits_of, all_below_base_digits_of}
use Rattle.std.proofs.lemmas.Str.{digit_value-digit_char}
use Rattle.std.proofs.lemmas.Str.Ascii.{encode_ascii}
use Rattle.std.specs.Prelude.{nat_lt}
use Rattle.jsonpath_parser.specs.Prelude.{AllBelowBase, closes, concat, depth_from, Derives, digit_char, digit_value, digits_of, digits_value, HasIndexesInRange, index_digits, inside, is_ascii_digit, is_hex_digit, is_quote, IsNormal, IsRun, IsValued, Location, name_char, name_chars, next_place, opens, outside, SpellsChar, SpellsChars, SpellsInt, SpellsPositive, SpellsSegment, SpellsSegments, SpellsString, Step, step_text, steps_query, steps_text, Typed}
use Rattle.std.specs.Int.Digits.{number_from_digits}
use Rattle.jsonpath_parser.specs.Location.{name, index}
use Rattle.jsonpath_parser.specs.tree.Steps.{step_segment}
use Rattle.jsonpath_parser.specs.words.Strings as strings
use Rattle.jsonpath_parser.proofs.NormalLemmas.{at_char, quoted, bracketed, nonzero, positive}
use Rattle.jsonpath_parser.proofs.SoundParts.{pos_range}

-- ---- names

-- a character below U+0020 by its code
by_code : (c : ℕ) (digits : List ℕ) → c < 32 → length digits ≡ 4 → IsRun is_hex_digit digits → c ≡ digits_value 16 digits → SpellsChar 39 (c ∷ []) (codes "\\u" ++ digits)
by_code c digits small size run value =
    inr (inr (inl (c, (digits, size, run, value, refl), grind (arith, nat_tests), grind (arith, nat_tests), sym (encode_ascii c (omega (arith, small))))))

hex_value : (d : ℕ) → d < 16 → digit_value (digit_char d) ≡ d
hex_value d small = digit_value-digit_char d (omega (arith, small))

hex_digit : (d : ℕ) → d < 16 → is_hex_digit (digit_char d) ≡ true
hex_digit d small = rw (hex_value d small) (grind (arith, nat_tests))

-- each character of a name is spelled in a quoted string
char_spelled : (c : ℕ) → SpellsChar 39 (c ∷ []) (name_char c)
char_spelled =
    at_char (λ c t. SpellsChar 39 (c ∷ []) t)
    (letter 98 8 refl) (letter 116 9 refl) (letter 110 10 refl) (letter 102 12 refl) (letter 114 13 refl) (letter 39 39 refl) (letter 92 92 refl)
    (λ d small. by_code d (48 ∷ 48 ∷ 48 ∷ digit_char d ∷ []) (omega (arith, small)) refl (refl, (refl, (refl, (hex_digit d small, tt)))) (omega (arith, hex_value d small)))
    (λ d small. by_code (16 + d) (48 ∷ 48 ∷ 49 ∷ digit_char d ∷ []) (omega (arith, small)) refl (refl, (refl, (refl, (hex_digit d small, tt)))) (omega (arith, hex_value d small)))
    (λ c above quote slash. inl (c, rw (ne_eqb c 39 quote, ne_eqb c 92 slash) (grind (arith, nat_tests, above)), refl, refl))
  where
    letter : (b u : ℕ) → strings.escaped 39 b ≡ Some u → SpellsChar 39 (u ∷ []) (codes "\\" ++ b ∷ [])
    letter b u e = inr (inl (b, u, e, refl, refl))

-- and so is the name
chars_spelled : (k : List ℕ) → SpellsChars 39 (map (λ c. c ∷ []) k) (name_chars k)
unfolding name_chars
chars_spelled [] = refl
chars_spelled (c ∷ cs) = (name_char c, name_chars cs, char_spelled c, chars_spelled cs, refl)

single_chars : (k : List ℕ) → k ≡ concat (map (λ c. c ∷ []) k)
single_chars [] = refl
single_chars (c ∷ cs) = ap (λ v. c ∷ v) (single_chars cs)

pub name_spelled : (k : List ℕ) → SpellsString k (39 ∷ (name_chars k ++ 39 ∷ []))
name_spelled k = (39, map (λ c. c ∷ []) k, name_chars k, refl, chars_spelled k, single_chars k, refl)

-- ---- indexes

digits_run : (ds : List ℕ) → AllBelowBase 10 ds → IsRun is_ascii_digit (map (λ d. 48 + d) ds)
digits_run [] h = tt
digits_run (d ∷ ds) h = (grind (arith, nat_tests, h.0), digits_run ds h.1)

digits_back : (ds : List ℕ) → AllBelowBase 10 ds → map digit_value (map (λ d. 48 + d) ds) ≡ ds
digits_back [] h = refl
digits_back (d ∷ ds) h =
    let low : nat_lt d 10 ≡ true = grind (arith, nat_tests, h.0) in
    let one : digit_value (48 + d) ≡ d = rw low at (digit_value-digit_char d (omega (arith, h.0))) in
    let rest = digits_back ds h.1 in cc

first_digit : (ds : List ℕ) → 0 < get_or ds 0 0 → 49 ≤ get_or (map (λ d. 48 + d) ds) 0 0
first_digit [] h = absurd (omega (arith, h))
first_digit (d ∷ ds) h = omega (arith, h)

-- the digits of an index are an int
pub index_spelled : (i : ℕ) → SpellsInt (pos i) (index_digits i)
index_spelled zero = refl
index_spelled (suc n) =
    let some : suc n ≡ 0 → ⊥ = λ e. cc in
    let below = all_below_base_digits_of 10 (suc n) (lit≤ tt) in
    let value : suc n ≡ digits_value 10 (map (λ d. 48 + d) (digits_of 10 (suc n))) = sym (digits_value_is 10 (map (λ d. 48 + d) (digits_of 10 (suc n))) ∙ ap (number_from_digits 10) (digits_back _ below) ∙ number_digits_of 10 (suc n) (lit≤ tt)) in
    subst (SpellsPositive (suc n)) (sym (nonzero (suc n) some)) (digits_run _ below, first_digit _ (positive (suc n) some), value)

-- ---- steps

-- a step is a child segment
step_spelled : (s : Step) → HasIndexesInRange (s ∷ []) → SpellsSegment IsValued (step_segment s) (step_text s)
step_spelled (name k) h = inl ([], 39 ∷ (name_chars k ++ 39 ∷ []), [], tt, name_spelled k, tt, ap (λ t. 91 ∷ 39 ∷ t) (sym (append_assoc (name_chars k) (39 ∷ []) (93 ∷ []))))
step_spelled (index i) h = inl ([], index_digits i, [], tt, (index_spelled i, pos_range i (omega (arith, h.0))), tt, refl)

steps_spelled : (l : Location) → HasIndexesInRange l → SpellsSegments IsValued (steps_query l) (steps_text l)
steps_spelled [] h = refl
steps_spelled (name k ∷ ss) h = ([], step_text (name k), steps_text ss, tt, step_spelled (name k) tt, steps_spelled ss h, refl)
steps_spelled (index i ∷ ss) h = ([], step_text (index i), steps_text ss, tt, step_spelled (index i) (h.0, tt), steps_spelled ss h.1, refl)

steps_typed : (l : Location) → Typed (steps_query l)
steps_typed [] = refl
steps_typed (name k ∷ ss) = steps_typed ss
steps_typed (index i ∷ ss) = steps_typed ss

-- ---- depth

-- the brackets of what follows, from inside a name on
abbrev inside_name : List ℕ → ℕ
inside_name x = depth_from (inside 39) 1 x

-- a byte of a name that neither ends it nor escapes the next
inside_byte : (b : ℕ) (x : List ℕ) → (b ≡ 39 → ⊥) → (b ≡ 92 → ⊥) → inside_name x ≤ 1 → inside_name (b ∷ x) ≤ 1
inside_byte b x quote slash h =
    let stays : next_place (inside 39) b ≡ inside 39 = cond-false _ _ _ (ne_eqb b 92 slash) ∙ cond-false _ _ _ (ne_eqb b 39 quote) in
    omega (arith, h, ap (λ p. depth_from p 1 x) stays)

inside_hex : (d : ℕ) (x : List ℕ) → d < 16 → inside_name x ≤ 1 → inside_name (digit_char d ∷ x) ≤ 1
inside_hex d x small h = inside_byte (digit_char d) x (λ e. grind (arith, nat_tests)) (λ e. grind (arith, nat_tests)) h

-- a character of a name opens no bracket
char_flat : (x : List ℕ) → inside_name x ≤ 1 → (c : ℕ) → inside_name (name_char c ++ x) ≤ 1
char_flat x h =
    at_char (λ c t. inside_name (t ++ x) ≤ 1) (omega (arith, h)) (omega (arith, h)) (omega (arith, h)) (omega (arith, h)) (omega (arith, h)) (omega (arith, h)) (omega (arith, h))
    (λ d small. omega (arith, inside_hex d x small h))
    (λ d small. omega (arith, inside_hex d x small h))
    (λ c above quote slash. inside_byte c x quote slash h)

name_flat : (k x : List ℕ) → inside_name x ≤ 1 → inside_name (name_chars k ++ x) ≤ 1
unfolding name_chars
name_flat [] x h = h
name_flat (c ∷ cs) x h = rw (append_assoc (name_char c) (name_chars cs) x) (char_flat (name_chars cs ++ x) (name_flat cs x h) c)

digits_flat : (ds x : List ℕ) → AllBelowBase 10 ds → depth_from outside 1 x ≤ 1 → depth_from outside 1 (map (λ d. 48 + d) ds ++ x) ≤ 1
digits_flat [] x low h = h
digits_flat (d ∷ ds) x low h =
    let quote : is_quote (48 + d) ≡ false = grind (arith, nat_tests, low.0) in
    let open_ : opens (48 + d) ≡ false = grind (arith, nat_tests, low.0) in
    let close : closes (48 + d) ≡ false = grind (arith, nat_tests, low.0) in
    rw (quote, open_, close) (omega (arith, digits_flat ds x low.1 h))

index_flat : (i : ℕ) (x : List ℕ) → depth_from outside 1 x ≤ 1 → depth_from outside 1 (index_digits i ++ x) ≤ 1
index_flat zero x h = omega (arith, h)
index_flat (suc n) x h =
    rw (nonzero (suc n) (λ e. cc)) (digits_flat (digits_of 10 (suc n)) x (all_below_base_digits_of 10 (suc n) (lit≤ tt)) h)

steps_flat : (l : Location) → depth_from outside 0 (steps_text l) ≤ 1
steps_flat [] = omega arith
steps_flat (name k ∷ ss) =
    let rest : inside_name (name_chars k ++ 39 ∷ 93 ∷ steps_text ss) ≤ 1 = name_flat k (39 ∷ 93 ∷ steps_text ss) (omega (arith, steps_flat ss)) in
    subst (λ t. depth_from outside 0 t ≤ 1) (sym (quoted k (steps_text ss))) (omega (arith, rest))
steps_flat (index i ∷ ss) =
    let rest : depth_from outside 1 (index_digits i ++ 93 ∷ steps_text ss) ≤ 1 = index_flat i (93 ∷ steps_text ss) (omega (arith, steps_flat ss)) in
    subst (λ t. depth_from outside 0 t ≤ 1) (sym (bracketed i (steps_text ss))) (omega (arith, rest))

-- ---- paths

-- A Normalized Path whose indexes are in range derives the query of its steps, at any limit from 1 on.
pub normal_derives : (limit : ℕ) (l : Location) (text : List ℕ) → IsNormal l text → HasIndexesInRange l → 1 ≤ limit → Derives limit text (steps_query l)
normal_derives limit l text is small deep =
    subst (λ t. Derives limit t (steps_query l)) (sym is) (record {
      within = omega (arith, steps_flat l, deep);
      spelled = (steps_text l, steps_spelled l small, refl);
      typed = steps_typed l;
    })
