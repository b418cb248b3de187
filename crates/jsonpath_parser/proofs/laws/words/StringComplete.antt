-- A string that is spelled is read, whatever follows it, and has one value.
use Rattle.std.proofs.Common.{◌≡◌, ℕ, zero, suc, ◌+◌, ◌<◌, true, false, ◌==◌, List, [], ◌∷◌, ◌++◌, length, drop, Some, option_and_then, refl, sym, ap, ◌∙◌, inl, inr, append_assoc, append-nil, length-append, arith}
use Rattle.std.proofs.lemmas.Bool.Decides.{nat_tests}
use Rattle.std.proofs.lemmas.Str.Ascii.{encode_ascii}
use Rattle.jsonpath_parser.specs.Prelude.{char_at, chars_at, code_value, concat, digits_value, encode_utf8, escape_at, escaped, first, is_hex_digit, is_high_surrogate, is_low_surrogate, is_quote, IsRun, low_at, pair_code, SpellsChar, SpellsChars, SpellsString, string_at, unicode_at}
use Rattle.jsonpath_parser.proofs.laws.words.StringTurns.{char_plain, char_escape, chars_end, chars_more}

-- four digits, and what follows them
four_over : (digits more : List ℕ) → length digits ≡ 4 → IsRun is_hex_digit digits → (code_value (digits ++ more) ≡ Some (digits_value 16 digits)) × (drop 4 (digits ++ more) ≡ more)
unfolding code_value
four_over [] more size run = absurd (omega arith)
four_over (a ∷ []) more size run = absurd (omega arith)
four_over (a ∷ b ∷ []) more size run = absurd (omega arith)
four_over (a ∷ b ∷ c ∷ []) more size run = absurd (omega arith)
four_over (a ∷ b ∷ c ∷ d ∷ []) more size run = (rw (run.0, run.1.0, run.1.1.0, run.1.1.1.0) refl, refl)
four_over (a ∷ b ∷ c ∷ d ∷ e ∷ digits) more size run = absurd (omega arith)

-- a code that is no surrogate
scalar_over : (u : ℕ) (digits more : List ℕ) → length digits ≡ 4 → IsRun is_hex_digit digits → u ≡ digits_value 16 digits → is_high_surrogate u ≡ false → is_low_surrogate u ≡ false
    → unicode_at (digits ++ more) ≡ Some (u, more)
unfolding unicode_at
scalar_over u digits more size run value high low =
    let (read, rest) = four_over digits more size run in
    rw (read, ← value, high, low, rest) refl

-- a low surrogate
low_over : (high low : ℕ) (digits more : List ℕ) → length digits ≡ 4 → IsRun is_hex_digit digits → low ≡ digits_value 16 digits → is_low_surrogate low ≡ true
    → low_at high (92 ∷ 117 ∷ (digits ++ more)) ≡ Some (pair_code high low, more)
unfolding low_at
low_over high low digits more size run value its =
    let (read, rest) = four_over digits more size run in
    rw (read, ← value, its, rest) refl

-- a high one, with what follows it
high_over : (high : ℕ) (digits more : List ℕ) → length digits ≡ 4 → IsRun is_hex_digit digits → high ≡ digits_value 16 digits → is_high_surrogate high ≡ true
    → unicode_at (digits ++ more) ≡ low_at high more
unfolding unicode_at
high_over high digits more size run value its =
    let (read, rest) = four_over digits more size run in
    rw (read, ← value, its, rest) refl

-- behind `\u`
escape_unicode : (q : ℕ) (text : List ℕ) → escape_at q (117 ∷ text) ≡ unicode_at text
unfolding escape_at
escape_unicode q text = refl

-- behind any other backslash
escape_other : (q b u : ℕ) (text : List ℕ) → is_quote q ≡ true → escaped q b ≡ Some u → escape_at q (b ∷ text) ≡ Some (u, text)
unfolding escape_at
escape_other q b u text quote h =
    let other : (b == 117) ≡ false = grind (arith, nat_tests) in
    rw (other, h) refl

-- what a backslash stands before is ASCII
escaped_ascii : (q b u : ℕ) → is_quote q ≡ true → escaped q b ≡ Some u → u < 128
escaped_ascii q b u quote h = grind (arith, nat_tests)

-- an escape that is read
char_escaped : (q u : ℕ) (text more : List ℕ) → escape_at q text ≡ Some (u, more) → char_at q (92 ∷ text) ≡ Some (encode_utf8 u, more)
char_escaped q u text more read = char_escape q text ∙ rw read refl

-- the pieces of a surrogate pair
pair_over : (q high low : ℕ) (a b more : List ℕ) → length a ≡ 4 → IsRun is_hex_digit a → high ≡ digits_value 16 a → is_high_surrogate high ≡ true
    → length b ≡ 4 → IsRun is_hex_digit b → low ≡ digits_value 16 b → is_low_surrogate low ≡ true
    → char_at q (((92 ∷ 117 ∷ a) ++ (92 ∷ 117 ∷ b)) ++ more) ≡ Some (encode_utf8 (pair_code high low), more)
pair_over q high low a b more sa ra va ha sb rb vb hb =
    rw (append_assoc (92 ∷ 117 ∷ a) (92 ∷ 117 ∷ b) more)
    (char_escaped q (pair_code high low) (117 ∷ (a ++ (92 ∷ 117 ∷ (b ++ more)))) more
    (escape_unicode q _ ∙ high_over high a (92 ∷ 117 ∷ (b ++ more)) sa ra va ha ∙ low_over high low b more sb rb vb hb))

-- a character that is spelled
char_over : (q : ℕ) (c a more : List ℕ) → is_quote q ≡ true → SpellsChar q c a → char_at q (a ++ more) ≡ Some (c, more)
char_over q c a more quote h = elim h [
  | inl plain ↦ (let (b, its, value, text) = plain in rw (value, text) (char_plain q b more its))
  | inr (inl short) ↦ (let (b, u, its, value, text) = short in rw (text, value, ← encode_ascii u (escaped_ascii q b u quote its)) (char_escaped q u (b ∷ more) more (escape_other q b u more quote its)))
  | inr (inr (inl scalar)) ↦ (
      let (u, code, high, low, value) = scalar in
      let (digits, size, run, is, text) = code in
      rw (text, value) (char_escaped q u (117 ∷ (digits ++ more)) more (escape_unicode q _ ∙ scalar_over u digits more size run is high low)))
  | inr (inr (inr pair)) ↦ (
      let (high, low, a1, b1, first_code, second_code, its_high, its_low, value, text) = pair in
      let (da, sa, ra, va, ta) = first_code in
      let (db, sb, rb, vb, tb) = second_code in
      rw (text, ta, tb, value) (pair_over q high low da db more sa ra va its_high sb rb vb its_low))
]

-- no character is empty or begins with the quote
char_start : (q : ℕ) (c a more : List ℕ) → is_quote q ≡ true → SpellsChar q c a → ((first (a ++ more) == q) ≡ false) × (0 < length a)
char_start q c a more quote h = elim h [
  | inl plain ↦ (let (b, its, value, text) = plain in rw text (grind (arith, nat_tests), omega arith))
  | inr (inl short) ↦ (let (b, u, its, value, text) = short in rw text (grind (arith, nat_tests), omega arith))
  | inr (inr (inl scalar)) ↦ (let (u, code, high, low, value) = scalar in let (digits, size, run, is, text) = code in rw text (grind (arith, nat_tests), omega arith))
  | inr (inr (inr pair)) ↦ (
      let (high, low, a1, b1, first_code, second_code, its_high, its_low, value, text) = pair in
      let (da, sa, ra, va, ta) = first_code in
      rw (text, ta) (grind (arith, nat_tests), omega arith))
]

-- all characters, after those found
chars_over : (q k : ℕ) (found : List ℕ) (cs : List (List ℕ)) (a more : List ℕ) → is_quote q ≡ true → SpellsChars q cs a → length a < k
    → chars_at q k found (a ++ q ∷ more) ≡ Some (found ++ concat cs, more)
chars_over q zero found cs a more quote h room = absurd (omega arith)
chars_over q (suc k) found [] a more quote h room =
    let test : (q == q) ≡ true = grind (arith, nat_tests) in
    rw h (chars_end q k found (q ∷ more) test ∙ ap (λ v. Some (v, more)) (sym (append-nil found)))
chars_over q (suc k) found (c ∷ cs) a more quote h room =
    let (x, y, hx, hy, text) = h in
    let (start, some) = char_start q c x (y ++ q ∷ more) quote hx in
    let size : length a ≡ length x + length y = rw text (length-append x y) in
    let split : a ++ q ∷ more ≡ x ++ (y ++ q ∷ more) = rw text (append_assoc x y (q ∷ more)) in
    rw split (chars_more q k found (x ++ (y ++ q ∷ more)) start)
    ∙ ap (option_and_then (λ (p : List ℕ × List ℕ). chars_at q k (found ++ p.0) p.1)) (char_over q c x (y ++ q ∷ more) quote hx)
    ∙ chars_over q k (found ++ c) cs y more quote hy (omega arith)
    ∙ ap (λ v. Some (v, more)) (append_assoc found c (concat cs))

-- at its quote
string_quote : (q : ℕ) (text : List ℕ) → is_quote q ≡ true → string_at (q ∷ text) ≡ chars_at q (suc (length text)) [] text
unfolding string_at
string_quote q text quote = rw quote refl

-- a string that is spelled is read, whatever follows it
pub complete_string : (v a more : List ℕ) → SpellsString v a → string_at (a ++ more) ≡ Some (v, more)
complete_string v a more h =
    let (q, cs, x, quote, hx, value, text) = h in
    let split : a ++ more ≡ q ∷ (x ++ q ∷ more) = rw text (ap (λ t. q ∷ t) (append_assoc x (q ∷ []) more)) in
    let room : length x < suc (length (x ++ q ∷ more)) = omega (arith, length-append x (q ∷ more)) in
    rw (split, value) (string_quote q (x ++ q ∷ more) quote ∙ chars_over q (suc (length (x ++ q ∷ more))) [] cs x more quote hx room)
