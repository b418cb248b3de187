-- A string that is read is spelled so.
use Rattle.std.proofs.Common.{◌≡◌, ℕ, zero, suc, ◌<◌, true, ◌&&◌, ◌==◌, ◌⊎◌, List, [], ◌∷◌, ◌++◌, length, drop, slice_index, Some, refl, sym, ap, ◌∙◌, subst, inl, inr, append_assoc, append-nil, arith}
use Rattle.std.proofs.lemmas.Bool.{cases_Bool, and_parts}
use Rattle.std.proofs.lemmas.Bool.Decides.{nat_tests}
use Rattle.std.proofs.lemmas.Option.{cond_some, option_and_then_some, some_pair_parts}
use Rattle.std.proofs.lemmas.Str.Ascii.{encode_ascii}
use Rattle.jsonpath_parser.specs.Prelude.{char_at, chars_at, code_value, concat, digits_value, encode_utf8, escape_at, escaped, first, is_hex_digit, is_high_surrogate, is_low_surrogate, is_plain, is_quote, IsRun, low_at, pair_code, SpellsChar, SpellsChars, SpellsCode, SpellsString, string_at, unicode_at}
use Rattle.jsonpath_parser.specs.words.Strings.{SpellsScalar, SpellsPair}

-- four digits at the front
digits_front : (text : List ℕ) → is_hex_digit (slice_index text 0) ≡ true → is_hex_digit (slice_index text 1) ≡ true → is_hex_digit (slice_index text 2) ≡ true → is_hex_digit (slice_index text 3) ≡ true
    → text ≡ slice_index text 0 ∷ slice_index text 1 ∷ slice_index text 2 ∷ slice_index text 3 ∷ drop 4 text
digits_front [] h0 h1 h2 h3 = absurd (cc)
digits_front (a ∷ []) h0 h1 h2 h3 = absurd (cc)
digits_front (a ∷ b ∷ []) h0 h1 h2 h3 = absurd (cc)
digits_front (a ∷ b ∷ c ∷ []) h0 h1 h2 h3 = absurd (cc)
digits_front (a ∷ b ∷ c ∷ d ∷ text) h0 h1 h2 h3 = refl

-- a code that is read
sound_code : (text : List ℕ) (u : ℕ) → code_value text ≡ Some u → (digits : List ℕ) × (length digits ≡ 4) × IsRun is_hex_digit digits × (u ≡ digits_value 16 digits) × (text ≡ digits ++ drop 4 text)
unfolding code_value
sound_code text u e =
    let digits : List ℕ = slice_index text 0 ∷ slice_index text 1 ∷ slice_index text 2 ∷ slice_index text 3 ∷ [] in
    let (tests, value) = cond_some _ (digits_value 16 digits) u e in
    let (h012, h3) = and_parts _ (is_hex_digit (slice_index text 3)) tests in
    let (h01, h2) = and_parts _ (is_hex_digit (slice_index text 2)) h012 in
    let (h0, h1) = and_parts (is_hex_digit (slice_index text 0)) (is_hex_digit (slice_index text 1)) h01 in
    (digits, refl, (h0, (h1, (h2, (h3, tt)))), sym value, digits_front text h0 h1 h2 h3)

-- two bytes at the front
two_front : (text : List ℕ) (b c : ℕ) → (first text == b) ≡ true → (slice_index text 1 == c) ≡ true → 0 < b → 0 < c → text ≡ b ∷ c ∷ drop 2 text
two_front [] b c h k some more = absurd (grind (arith, nat_tests))
two_front (x ∷ []) b c h k some more = absurd (grind (arith, nat_tests))
two_front (x ∷ y ∷ text) b c h k some more =
    let first_is : x ≡ b = grind (arith, nat_tests) in
    let second_is : y ≡ c = grind (arith, nat_tests) in
    rw (first_is, second_is) refl

-- one byte at the front
one_front : (text : List ℕ) (b : ℕ) → (first text == b) ≡ true → 0 < b → text ≡ b ∷ drop 1 text
one_front [] b h some = absurd (grind (arith, nat_tests))
one_front (x ∷ text) b h some = let is : x ≡ b = grind (arith, nat_tests) in rw is refl

-- a low surrogate that is read
sound_low : (high : ℕ) (text : List ℕ) (c : ℕ) (rest : List ℕ) → low_at high text ≡ Some (c, rest)
    → (low : ℕ) × (b : List ℕ) × SpellsCode low b × (is_low_surrogate low ≡ true) × (c ≡ pair_code high low) × (text ≡ b ++ rest)
unfolding low_at
sound_low high text c rest e = elim (cases_Bool (first text == 92 && slice_index text 1 == 117)) [
  | inl here ↦ (
      let (slash, letter) = and_parts (first text == 92) (slice_index text 1 == 117) here in
      option_and_then_some _ (code_value (drop 2 text)) (c, rest) (rw here at e) λ low read e2.
      let (its, parts) = cond_some (is_low_surrogate low) (pair_code high low, drop 4 (drop 2 text)) (c, rest) e2 in
      let (digits, size, run, value, front) = sound_code (drop 2 text) low read in
      let after : drop 4 (drop 2 text) ≡ rest = ap (λ (p : ℕ × List ℕ). p.1) parts in
      let code : pair_code high low ≡ c = ap (λ (p : ℕ × List ℕ). p.0) parts in
      (low, 92 ∷ 117 ∷ digits, (digits, size, run, value, refl), its, sym code, two_front text 92 117 slash letter (omega arith) (omega arith) ∙ ap (λ t. 92 ∷ 117 ∷ t) (front ∙ ap (λ t. digits ++ t) after)))
  | inr other ↦ absurd (let none = rw other at e in cc)
]

-- what is read behind `\u`
abbrev SpellsUnicode : ℕ → List ℕ → List ℕ → Type 0
SpellsUnicode c text rest = (a : List ℕ) × (SpellsScalar (encode_utf8 c) a ⊎ SpellsPair (encode_utf8 c) a) × (92 ∷ 117 ∷ text ≡ a ++ rest)

-- a character by its code that is read
sound_unicode : (text : List ℕ) (c : ℕ) (rest : List ℕ) → unicode_at text ≡ Some (c, rest) → SpellsUnicode c text rest
unfolding unicode_at
sound_unicode text c rest e =
    option_and_then_some _ (code_value text) (c, rest) e λ u read e2.
    let (digits, size, run, value, front) = sound_code text u read in
    let code : SpellsCode u (92 ∷ 117 ∷ digits) = (digits, size, run, value, refl) in
    elim (cases_Bool (is_high_surrogate u)) [
      | inl high ↦ (
          let (low, b, its, is_low, is, more) = sound_low u (drop 4 text) c rest (rw high at e2) in
          ((92 ∷ 117 ∷ digits) ++ b, inr (u, low, 92 ∷ 117 ∷ digits, b, code, its, high, is_low, ap encode_utf8 is, refl), ap (λ t. 92 ∷ 117 ∷ t) (front ∙ ap (λ t. digits ++ t) more ∙ sym (append_assoc digits b rest))))
      | inr plain ↦ elim (cases_Bool (is_low_surrogate u)) [
        | inl low ↦ absurd (let none = rw (plain, low) at e2 in cc)
        | inr scalar ↦ (
            let (is, after) = some_pair_parts u c (drop 4 text) rest (rw (plain, scalar) at e2) in
            (92 ∷ 117 ∷ digits, inl (u, code, plain, scalar, ap encode_utf8 (sym is)), ap (λ t. 92 ∷ 117 ∷ t) (front ∙ ap (λ t. digits ++ t) after)))
      ]
    ]

-- what a backslash stands before is ASCII, and some byte
escaped_ascii : (q b u : ℕ) → is_quote q ≡ true → escaped q b ≡ Some u → (u < 128) × (0 < b)
escaped_ascii q b u quote h = (grind (arith, nat_tests), grind (arith, nat_tests))

-- an escape that is read
sound_escape : (q : ℕ) (text : List ℕ) (c : ℕ) (rest : List ℕ) → is_quote q ≡ true → escape_at q text ≡ Some (c, rest) → (a : List ℕ) × SpellsChar q (encode_utf8 c) a × (92 ∷ text ≡ a ++ rest)
unfolding escape_at
sound_escape q text c rest quote e = elim (cases_Bool (first text == 117)) [
  | inl letter ↦ (
      let (a, its, split) = sound_unicode (drop 1 text) c rest (rw letter at e) in
      (a, inr (inr its), ap (λ t. 92 ∷ t) (one_front text 117 letter (omega arith)) ∙ split))
  | inr other ↦ (
      option_and_then_some _ (escaped q (first text)) (c, rest) (rw other at e) λ u read e2.
      let (is, after) = some_pair_parts u c (drop 1 text) rest e2 in
      let (ascii, some) = escaped_ascii q (first text) u quote read in
      let test : (first text == first text) ≡ true = grind (arith, nat_tests) in
      (92 ∷ first text ∷ [], inr (inl (first text, c, read ∙ ap Some is, encode_ascii c (omega arith), refl)), ap (λ t. 92 ∷ t) (one_front text (first text) test some ∙ ap (λ t. first text ∷ t) after)))
]

-- a character that is read
sound_char : (q : ℕ) (text c rest : List ℕ) → is_quote q ≡ true → char_at q text ≡ Some (c, rest) → (a : List ℕ) × SpellsChar q c a × (text ≡ a ++ rest)
unfolding char_at
sound_char q text c rest quote e = elim (cases_Bool (is_plain q (first text))) [
  | inl plain ↦ (
      let (is, after) = some_pair_parts (first text ∷ []) c (drop 1 text) rest (rw plain at e) in
      let some : 0 < first text = grind (arith, nat_tests) in
      let test : (first text == first text) ≡ true = grind (arith, nat_tests) in
      (first text ∷ [], inl (first text, plain, sym is, refl), one_front text (first text) test some ∙ ap (λ t. first text ∷ t) after))
  | inr stop ↦ elim (cases_Bool (first text == 92)) [
    | inl slash ↦ (
        option_and_then_some _ (escape_at q (drop 1 text)) (c, rest) (rw (stop, slash) at e) λ u read e2.
        let (is, after) = some_pair_parts (encode_utf8 u.0) c u.1 rest e2 in
        let (a, its, split) = sound_escape q (drop 1 text) u.0 u.1 quote read in
        (a, subst (λ v. SpellsChar q v a) is its, one_front text 92 slash (omega arith) ∙ split ∙ ap (λ t. a ++ t) after))
    | inr other ↦ absurd (let none = rw (stop, other) at e in cc)
  ]
]

-- characters that are read, after those found
sound_chars : (q k : ℕ) (found text v rest : List ℕ) → is_quote q ≡ true → chars_at q k found text ≡ Some (v, rest)
    → (cs : List (List ℕ)) × (a : List ℕ) × SpellsChars q cs a × (v ≡ found ++ concat cs) × (text ≡ a ++ q ∷ rest)
unfolding chars_at
sound_chars q zero found text v rest quote e = absurd (cc)
sound_chars q (suc k) found text v rest quote e = elim (cases_Bool (first text == q)) [
  | inl here ↦ (
      let (is, after) = some_pair_parts found v (drop 1 text) rest (rw here at e) in
      let some : 0 < q = grind (arith, nat_tests) in
      ([], [], refl, sym is ∙ sym (append-nil found), one_front text q here some ∙ ap (λ t. q ∷ t) after))
  | inr other ↦ (
      option_and_then_some _ (char_at q text) (v, rest) (rw other at e) λ c read e2.
      let (x, hx, ex) = sound_char q text c.0 c.1 quote read in
      let (cs, y, hy, value, ey) = sound_chars q k (found ++ c.0) c.1 v rest quote e2 in
      (c.0 ∷ cs, x ++ y, (x, y, hx, hy, refl), value ∙ append_assoc found c.0 (concat cs), ex ∙ ap (λ t. x ++ t) ey ∙ sym (append_assoc x y (q ∷ rest))))
]

-- a string that is read is a front of the text that spells the value
pub sound_string : (v text rest : List ℕ) → string_at text ≡ Some (v, rest) → (a : List ℕ) × SpellsString v a × (text ≡ a ++ rest)
unfolding string_at
sound_string v text rest e = elim (cases_Bool (is_quote (first text))) [
  | inl quote ↦ (
      let q = first text in
      let (cs, x, hx, value, ex) = sound_chars q (suc (length (drop 1 text))) [] (drop 1 text) v rest quote (rw quote at e) in
      let some : 0 < first text = grind (arith, nat_tests) in
      let test : (first text == first text) ≡ true = grind (arith, nat_tests) in
      (q ∷ (x ++ q ∷ []), (q, cs, x, quote, hx, value, refl), one_front text q test some ∙ ap (λ t. q ∷ t) (ex ∙ sym (append_assoc x (q ∷ []) rest))))
  | inr other ↦ absurd (let none = rw other at e in cc)
]
