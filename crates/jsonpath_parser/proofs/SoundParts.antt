-- What is read is spelled so: whole numbers, names, slices, operators and words.
use Rattle.std.proofs.Common.{◌≡◌, ℕ, zero, suc, ◌+◌, ◌*◌, ◌<◌, ◌≤◌, Bool, true, false, cond, ◌==◌, bytes_eq, ℤ, pos, neg_ℤ, List, [], ◌∷◌, ◌++◌, length, take, drop, slice_index, codes, Option, Some, None, option_and_then, option_map, le_refl, refl, sym, ap, ◌∙◌, subst, ◌⊎◌, inl, inr, append_assoc, arith}
use Rattle.std.proofs.lemmas.Bool.Decides.{nat_tests}
use Rattle.std.proofs.lemmas.Bool.{cases_eq}
use Rattle.std.proofs.lemmas.Int.{ints}
use Rattle.std.proofs.lemmas.Option.{cond_some}
use Rattle.std.proofs.lemmas.Slice.Eq.{bytes_eq-Decides}
use Rattle.jsonpath_parser.specs.Prelude.{after_byte, bool, digit_value, digits_value, digits_value_after, end_at, equal, first, greater, greater_or_equal, index, int_at, is_ascii_digit, is_function_byte, is_function_first, is_int_first, is_magnitude, is_name_byte, is_name_first, IsFunctionName, IsInRange, IsName, IsRun, less, less_or_equal, Literal, magnitude_at, name, name_at, not_equal, null, numbered_at, Operator, operator_at, prefix_len, Selector, shorthand_at, skip_blank, slice, slice_at, SpellsBound, SpellsIndex, SpellsInt, SpellsLiteral, SpellsOperator, SpellsSelector, SpellsShorthand, SpellsStep, split_while, step_at, wildcard, word_at, word_literal}
use Rattle.jsonpath_parser.proofs.laws.words.Fronts.{run_holds, skip_split}
use Rattle.jsonpath_parser.proofs.laws.words.Ints.{magnitude_tells}

-- ---- chains, choices and pieces

-- what a chain that gives something has read first
pub bind_ok : {A B : Type 0} (f : A → Option B) (o : Option A) (y : B) → option_and_then f o ≡ Some y → (x : A) × (o ≡ Some x) × (f x ≡ Some y)
bind_ok f (Some x) y e = (x, refl, e)
bind_ok f None y e = absurd (cc)

-- what a map that gives something has got
pub map_ok : {A B : Type 0} (f : A → B) (o : Option A) (y : B) → option_map f o ≡ Some y → (x : A) × (o ≡ Some x) × (f x ≡ y)
map_ok f (Some x) y e = (x, refl, cc)
map_ok f None y e = absurd (cc)

-- which side a choice took
pub chosen : {A : Type 0} (b : Bool) (x y z : A) → cond b x y ≡ z → ((b ≡ true) × (x ≡ z)) ⊎ ((b ≡ false) × (y ≡ z))
chosen true x y z e = inl (refl, e)
chosen false x y z e = inr (refl, e)

-- the byte at the front
pub at_front : (text : List ℕ) (c : ℕ) → (first text == c) ≡ true → 0 < c → text ≡ c ∷ drop 1 text
at_front [] c e some = absurd (grind (arith, nat_tests))
at_front (b ∷ s) c e some = let same : b ≡ c = grind (arith, nat_tests) in rw same refl

-- two bytes at the front
pub two_front : (text : List ℕ) (b c : ℕ) → (first text == b) ≡ true → (slice_index text 1 == c) ≡ true → 0 < b → 0 < c → text ≡ b ∷ c ∷ drop 2 text
two_front [] b c h k some more = absurd (grind (arith, nat_tests))
two_front (x ∷ []) b c h k some more = absurd (grind (arith, nat_tests))
two_front (x ∷ y ∷ text) b c h k some more =
    let p : x ≡ b = grind (arith, nat_tests) in
    let q : y ≡ c = grind (arith, nat_tests) in
    rw (p, q) refl

-- the byte that was read, and the text after it
pub byte_read : (text : List ℕ) (c : ℕ) (rest : List ℕ) → after_byte c text ≡ Some rest → 0 < c → text ≡ c ∷ rest
byte_read text c rest e some =
    let (test, same) = cond_some (first text == c) (drop 1 text) rest e in
    at_front text c test some ∙ ap (λ v. c ∷ v) same

-- a front of the text spells x
abbrev pub Spelled : {A : Type 0} → (A → List ℕ → Type 0) → A → List ℕ → List ℕ → Type 0
Spelled spells x text rest = (a : List ℕ) × spells x a × (text ≡ a ++ rest)

-- a tree and a text, each by itself
pub same_parts : {A : Type 0} (x y : A) (s t : List ℕ) → ◌≡◌ {A = Option (A × List ℕ)} (Some (x, s)) (Some (y, t)) → (x ≡ y) × (s ≡ t)
same_parts {A} x y s t e =
    let p : ◌≡◌ {A = A × List ℕ} (x, s) (y, t) = cc in
    (ap (λ (q : A × List ℕ). q.0) p, ap (λ (q : A × List ℕ). q.1) p)

-- what was read, with its rest, was spelled
pub moved : {A : Type 0} (spells : A → List ℕ → Type 0) (x y : A) (text s t : List ℕ) → ◌≡◌ {A = Option (A × List ℕ)} (Some (x, s)) (Some (y, t)) → Spelled spells x text s → Spelled spells y text t
moved spells x y text s t e h =
    let (a, ha, ea) = h in
    let (same, rest) = same_parts x y s t e in
    (a, subst (λ v. spells v a) same ha, ea ∙ ap (λ v. a ++ v) rest)

-- two pieces and a rest
pub glue : (t b s a u : List ℕ) → t ≡ b ++ s → s ≡ a ++ u → t ≡ (b ++ a) ++ u
glue t b s a u e f = e ∙ ap (λ v. b ++ v) f ∙ sym (append_assoc b a u)

-- the same bytes
pub same_word : (a b : List ℕ) → bytes_eq a b ≡ true → a ≡ b
same_word a b e = (bytes_eq-Decides a b).0 e

-- ---- whole numbers

-- more digits make no number smaller
digits_value_after-ge : (m : ℕ) (s : List ℕ) → m ≤ digits_value_after 10 m s
digits_value_after-ge m [] = le_refl m
digits_value_after-ge m (c ∷ s) = omega (arith, digits_value_after-ge (m * 10 + digit_value c) s)

-- a digit other than 0
some_digit : (d : ℕ) → is_ascii_digit d ≡ true → (d ≡ 48 → ⊥) → (49 ≤ d) × (1 ≤ digit_value d)
some_digit d h other = (grind (arith, nat_tests), grind (arith, nat_tests))

-- digits of a number above 0
some_pos : (n : ℕ) (a : List ℕ) → IsRun is_ascii_digit a → 49 ≤ first a → n ≡ digits_value 10 a → 0 < digits_value 10 a → SpellsInt (pos n) a
some_pos zero a run high value some = absurd (omega arith)
some_pos (suc n) a run high value some = (run, high, value)

-- digits of a number from 0 on
int_pos : (n : ℕ) (a : List ℕ) → IsRun is_ascii_digit a → is_magnitude a ≡ true → n ≡ digits_value 10 a → SpellsInt (pos n) a
int_pos n [] run h value = absurd (omega (arith, (magnitude_tells [] h).0))
int_pos n (d ∷ s) run h value = elim (cases_eq d 48) [
  | inl lead ↦ (let short = (magnitude_tells (d ∷ s) h).2 lead in alone n d s lead (omega arith) value)
  | inr other ↦ (let some = some_digit d run.0 other in some_pos n (d ∷ s) run some.0 value (omega (arith, some.1, digits_value_after-ge (0 * 10 + digit_value d) s)))
]
  where
    alone : (n d : ℕ) (s : List ℕ) → d ≡ 48 → length s ≡ 0 → n ≡ digits_value 10 (d ∷ s) → SpellsInt (pos n) (d ∷ s)
    alone n d [] lead short value = let none : n ≡ 0 = value ∙ ap (λ v. digits_value 10 (v ∷ [])) lead in rw (none, lead) refl
    alone n d (c ∷ s) lead short value = absurd (omega arith)

-- digits that are read
magnitude_sound : (text rest : List ℕ) (n : ℕ) → magnitude_at text ≡ Some (n, rest) → (a : List ℕ) × SpellsInt (pos n) a × (n ≤ 9007199254740991) × (text ≡ a ++ rest)
unfolding magnitude_at
magnitude_sound text rest n e =
    let digits : List ℕ = take (prefix_len is_ascii_digit text) text in
    let (test, parts) = cond_some (is_magnitude digits) (digits_value 10 digits, drop (prefix_len is_ascii_digit text) text) (n, rest) e in
    let run = run_holds is_ascii_digit text in
    let value : digits_value 10 digits ≡ n = ap (λ (q : ℕ × List ℕ). q.0) parts in
    let after : drop (prefix_len is_ascii_digit text) text ≡ rest = ap (λ (q : ℕ × List ℕ). q.1) parts in
    let facts = magnitude_tells digits test in
    (digits, int_pos n digits run.0 test (sym value), omega (arith, facts.1), run.1 ∙ ap (λ v. digits ++ v) after)

-- a number without a sign is in range
pub pos_range : (n : ℕ) → n ≤ 9007199254740991 → IsInRange (pos n)
pos_range n small = (omega (arith, ints), omega (arith, ints))

-- behind `-`
neg_int : (n : ℕ) (a : List ℕ) → (n == 0) ≡ false → n ≤ 9007199254740991 → SpellsInt (pos n) a → SpellsIndex (neg_ℤ (pos n)) (45 ∷ a)
neg_int zero a some small h = absurd (grind (arith, nat_tests))
neg_int (suc n) a some small h = ((a, h, refl), (omega (arith, ints), omega (arith, ints)))

-- an index that is read
pub sound_index : (i : ℤ) (text rest : List ℕ) → int_at text ≡ Some (i, rest) → Spelled SpellsIndex i text rest
unfolding int_at
sound_index i text rest e = elim (chosen (first text == 45) _ _ _ e) [
  | inl minus ↦ (
      let (n, read, e2) = bind_ok _ (magnitude_at (drop 1 text)) _ minus.1 in
      let (a, ha, small, ea) = magnitude_sound (drop 1 text) n.1 n.0 read in
      elim (chosen (n.0 == 0) _ _ _ e2) [
        | inl none ↦ absurd (cc)
        | inr some ↦ moved SpellsIndex (neg_ℤ (pos n.0)) i text n.1 rest some.1 (45 ∷ a, neg_int n.0 a some.0 small ha, at_front text 45 minus.0 (omega arith) ∙ ap (λ v. 45 ∷ v) ea)
      ])
  | inr plain ↦ (
      let (n, read, e2) = bind_ok _ (magnitude_at text) _ plain.1 in
      let (a, ha, small, ea) = magnitude_sound text n.1 n.0 read in
      moved SpellsIndex (pos n.0) i text n.1 rest e2 (a, (ha, pos_range n.0 small), ea))
]

-- ---- names and words

-- a name that is read
name_sound : (text n rest : List ℕ) → name_at text ≡ Some (n, rest) → IsName n × (text ≡ n ++ rest)
unfolding name_at
name_sound [] n rest e = absurd (cc)
name_sound (b ∷ s) n rest e =
    let (start, parts) = cond_some (is_name_first b) (split_while is_name_byte (b ∷ s)) (n, rest) e in
    let named : is_name_byte b ≡ true = rw start refl in
    let k : prefix_len is_name_byte (b ∷ s) ≡ suc (prefix_len is_name_byte s) = rw named (omega arith) in
    let its : IsName (take (suc (prefix_len is_name_byte s)) (b ∷ s)) = (start, (run_holds is_name_byte s).0) in
    let whole = run_holds is_name_byte (b ∷ s) in
    let left : take (prefix_len is_name_byte (b ∷ s)) (b ∷ s) ≡ n = ap (λ (q : List ℕ × List ℕ). q.0) parts in
    let right : drop (prefix_len is_name_byte (b ∷ s)) (b ∷ s) ≡ rest = ap (λ (q : List ℕ × List ℕ). q.1) parts in
    let same : take (suc (prefix_len is_name_byte s)) (b ∷ s) ≡ n = ap (λ j. take j (b ∷ s)) (sym k) ∙ left in
    (subst (λ v. IsName v) same its, whole.1 ∙ ap (λ v. v ++ drop (prefix_len is_name_byte (b ∷ s)) (b ∷ s)) left ∙ ap (λ v. n ++ v) right)

-- a shorthand that is read
pub sound_shorthand : (x : Selector) (text rest : List ℕ) → shorthand_at text ≡ Some (x, rest) → Spelled SpellsShorthand x text rest
unfolding shorthand_at
sound_shorthand x text rest e = elim (chosen (first text == 42) _ _ _ e) [
  | inl star ↦ moved SpellsShorthand wildcard x text (drop 1 text) rest star.1 (42 ∷ [], refl, at_front text 42 star.0 (omega arith))
  | inr other ↦ (
      let (n, read, e2) = bind_ok _ (name_at text) _ other.1 in
      let (its, en) = name_sound text n.0 n.1 read in
      moved SpellsShorthand (name n.0) x text n.1 rest e2 (n.0, (its, refl), en))
]

-- the name of a function that is read
pub word_sound : (text w rest : List ℕ) → word_at text ≡ Some (w, rest) → IsFunctionName w × (text ≡ w ++ rest)
unfolding word_at
word_sound [] w rest e = absurd (cc)
word_sound (b ∷ s) w rest e =
    let (start, parts) = cond_some (is_function_first b) (split_while is_function_byte (b ∷ s)) (w, rest) e in
    let named : is_function_byte b ≡ true = rw start refl in
    let k : prefix_len is_function_byte (b ∷ s) ≡ suc (prefix_len is_function_byte s) = rw named (omega arith) in
    let its : IsFunctionName (take (suc (prefix_len is_function_byte s)) (b ∷ s)) = (start, (run_holds is_function_byte s).0) in
    let whole = run_holds is_function_byte (b ∷ s) in
    let left : take (prefix_len is_function_byte (b ∷ s)) (b ∷ s) ≡ w = ap (λ (q : List ℕ × List ℕ). q.0) parts in
    let right : drop (prefix_len is_function_byte (b ∷ s)) (b ∷ s) ≡ rest = ap (λ (q : List ℕ × List ℕ). q.1) parts in
    let same : take (suc (prefix_len is_function_byte s)) (b ∷ s) ≡ w = ap (λ j. take j (b ∷ s)) (sym k) ∙ left in
    (subst (λ v. IsFunctionName v) same its, whole.1 ∙ ap (λ v. v ++ drop (prefix_len is_function_byte (b ∷ s)) (b ∷ s)) left ∙ ap (λ v. w ++ v) right)

-- an operator that is read
pub sound_operator : (o : Operator) (text rest : List ℕ) → operator_at text ≡ Some (o, rest) → Spelled SpellsOperator o text rest
unfolding operator_at
sound_operator o text rest e = elim (chosen (slice_index text 1 == 61) _ _ _ e) [
  | inl two ↦ elim (chosen (first text == 61) _ _ _ two.1) [
    | inl here ↦ moved SpellsOperator equal o text (drop 2 text) rest here.1 (61 ∷ 61 ∷ [], refl, two_front text 61 61 here.0 two.0 (omega arith) (omega arith))
    | inr no_equal ↦ elim (chosen (first text == 33) _ _ _ no_equal.1) [
      | inl here ↦ moved SpellsOperator not_equal o text (drop 2 text) rest here.1 (33 ∷ 61 ∷ [], refl, two_front text 33 61 here.0 two.0 (omega arith) (omega arith))
      | inr no_mark ↦ elim (chosen (first text == 60) _ _ _ no_mark.1) [
        | inl here ↦ moved SpellsOperator less_or_equal o text (drop 2 text) rest here.1 (60 ∷ 61 ∷ [], refl, two_front text 60 61 here.0 two.0 (omega arith) (omega arith))
        | inr no_less ↦ elim (chosen (first text == 62) _ _ _ no_less.1) [
          | inl here ↦ moved SpellsOperator greater_or_equal o text (drop 2 text) rest here.1 (62 ∷ 61 ∷ [], refl, two_front text 62 61 here.0 two.0 (omega arith) (omega arith))
          | inr none ↦ absurd (cc)
        ]
      ]
    ]
  ]
  | inr lone ↦ elim (chosen (first text == 60) _ _ _ lone.1) [
    | inl here ↦ moved SpellsOperator less o text (drop 1 text) rest here.1 (60 ∷ [], refl, at_front text 60 here.0 (omega arith))
    | inr no_less ↦ elim (chosen (first text == 62) _ _ _ no_less.1) [
      | inl here ↦ moved SpellsOperator greater o text (drop 1 text) rest here.1 (62 ∷ [], refl, at_front text 62 here.0 (omega arith))
      | inr none ↦ absurd (cc)
    ]
  ]
]

-- ---- slices

-- the end of a slice that is read
sound_end : (v : Option ℤ) (text rest : List ℕ) → end_at text ≡ Some (v, rest) → Spelled SpellsBound v text rest
unfolding end_at
sound_end v text rest e = elim (chosen (is_int_first (first text)) _ _ _ e) [
  | inl go ↦ (
      let (i, read, e2) = bind_ok _ (int_at text) _ go.1 in
      let (a, ha, ea) = sound_index i.0 text i.1 read in
      let (b, hb, eb) = skip_split i.1 in
      moved SpellsBound (Some i.0) v text (skip_blank i.1) rest e2 (a ++ b, (a, b, ha, hb, refl), glue text a i.1 b (skip_blank i.1) ea eb))
  | inr none ↦ moved SpellsBound None v text text rest none.1 ([], refl, refl)
]

-- the step of a slice that is read, with its `:`
sound_step : (v : Option ℤ) (text rest : List ℕ) → step_at text ≡ Some (v, rest) → Spelled SpellsStep v (58 ∷ text) rest
unfolding step_at
sound_step v text rest e = elim (chosen (is_int_first (first (skip_blank text))) _ _ _ e) [
  | inl go ↦ (
      let (i, read, e2) = bind_ok _ (int_at (skip_blank text)) _ go.1 in
      let (b, hb, eb) = skip_split text in
      let (a, ha, ea) = sound_index i.0 (skip_blank text) i.1 read in
      moved SpellsStep (Some i.0) v (58 ∷ text) i.1 rest e2 (58 ∷ (b ++ a), (b, a, hb, ha, refl), ap (λ t. 58 ∷ t) (glue text b (skip_blank text) a i.1 eb ea)))
  | inr none ↦ moved SpellsStep None v (58 ∷ text) text rest none.1 (58 ∷ [], inr refl, refl)
]

-- the pieces of a slice
slice_pieces : (a text t1 t2 rest b c d : List ℕ) → text ≡ b ++ t1 → t1 ≡ c ++ t2 → t2 ≡ d ++ rest → a ++ (58 ∷ text) ≡ (a ++ (58 ∷ (b ++ (c ++ d)))) ++ rest
slice_pieces a text t1 t2 rest b c d e1 e2 e3 = rw (e1, e2, e3) (simp append_assoc)

module _ (Number : Option ℤ → List ℕ → Type 0) where
  -- a slice that is read, with its start
  sound_slice : (start : Option ℤ) (x : Selector) (a text rest : List ℕ) → SpellsBound start a → slice_at start text ≡ Some (x, rest) → Spelled (SpellsSelector Number) x (a ++ (58 ∷ text)) rest
  unfolding slice_at
  sound_slice start x a text rest ha e =
      let (v, read, e1) = bind_ok _ (end_at (skip_blank text)) _ e in
      let (b, hb, eb) = skip_split text in
      let (c, hc, ec) = sound_end v.0 (skip_blank text) v.1 read in
      elim (chosen (first v.1 == 58) _ _ _ e1) [
        | inl colon ↦ (
            let (s, read2, e2) = bind_ok _ (step_at (drop 1 v.1)) _ colon.1 in
            let (d, hd, ed) = sound_step s.0 (drop 1 v.1) s.1 read2 in
            moved (SpellsSelector Number) (slice start v.0 s.0) x (a ++ (58 ∷ text)) s.1 rest e2
            (a ++ (58 ∷ (b ++ (c ++ d))), (a, b, c, d, ha, hb, hc, hd, refl), slice_pieces a text (skip_blank text) v.1 s.1 b c d eb ec (at_front v.1 58 colon.0 (omega arith) ∙ ed)))
        | inr none ↦ moved (SpellsSelector Number) (slice start v.0 None) x (a ++ (58 ∷ text)) v.1 rest none.1
            (a ++ (58 ∷ (b ++ (c ++ []))), (a, b, c, [], ha, hb, hc, inl refl, refl), slice_pieces a text (skip_blank text) v.1 v.1 b c [] eb ec refl)
      ]

  -- an index or a slice that is read
  pub sound_numbered : (x : Selector) (text rest : List ℕ) → numbered_at text ≡ Some (x, rest) → Spelled (SpellsSelector Number) x text rest
  unfolding numbered_at
  sound_numbered x text rest e = elim (chosen (first text == 58) _ _ _ e) [
    | inl colon ↦ (
        let (a, ha, ea) = sound_slice None x [] (drop 1 text) rest refl colon.1 in
        (a, ha, at_front text 58 colon.0 (omega arith) ∙ ea))
    | inr other ↦ (
        let (i, read, e2) = bind_ok _ (int_at text) _ other.1 in
        let (a, ha, ea) = sound_index i.0 text i.1 read in
        let (b, hb, eb) = skip_split i.1 in
        elim (chosen (first (skip_blank i.1) == 58) _ _ _ e2) [
          | inl colon ↦ (
              let (z, hz, ez) = sound_slice (Some i.0) x (a ++ b) (drop 1 (skip_blank i.1)) rest (a, b, ha, hb, refl) colon.1 in
              (z, hz, glue text a i.1 b (skip_blank i.1) ea eb ∙ ap (λ t. (a ++ b) ++ t) (at_front (skip_blank i.1) 58 colon.0 (omega arith)) ∙ ez))
          | inr plain ↦ moved (SpellsSelector Number) (index i.0) x text i.1 rest plain.1 (a, ha, ea)
        ])
  ]

  -- a literal that is a word
  literal_is : (m l : Literal) (w : List ℕ) → ◌≡◌ {A = Option Literal} (Some m) (Some l) → SpellsLiteral Number m w → SpellsLiteral Number l w
  literal_is m l w e h = let k : m ≡ l = cc in subst (λ v. SpellsLiteral Number v w) k h

  pub word_spelled : (w : List ℕ) (l : Literal) → word_literal w ≡ Some l → SpellsLiteral Number l w
  word_spelled w l e = elim (chosen (bytes_eq w (codes "true")) _ _ _ e) [
    | inl here ↦ literal_is (bool true) l w here.1 (same_word w (codes "true") here.0)
    | inr no_true ↦ elim (chosen (bytes_eq w (codes "false")) _ _ _ no_true.1) [
      | inl here ↦ literal_is (bool false) l w here.1 (same_word w (codes "false") here.0)
      | inr no_false ↦ elim (chosen (bytes_eq w (codes "null")) _ _ _ no_false.1) [
        | inl here ↦ literal_is null l w here.1 (same_word w (codes "null") here.0)
        | inr none ↦ absurd (cc)
      ]
    ]
  ]
