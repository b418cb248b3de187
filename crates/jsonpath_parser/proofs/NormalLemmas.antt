-- A path's text is read back one step at a time.
use Rattle.std.proofs.Common.{◌≡◌, ◌↔◌, ℕ, ◌+◌, ◌-◌, ◌*◌, ◌<◌, ◌≤◌, true, false, List, [], ◌∷◌, ◌++◌, map, Option, None, Some, sym, ap, ◌∙◌, refl, subst, arith, codes, ne_eqb, inl, inr, append_assoc, lit≤, lit<, zero-add, get_or}
use Rattle.std.proofs.Math.Nat.{pos_of_ne-zero}
use Rattle.std.proofs.lemmas.Bool.{cases_eq, cases_lt, cond-true, cond-false}
use Rattle.std.proofs.lemmas.Bool.Decides.{nat_tests}
use Rattle.std.proofs.lemmas.Option.{same_Some}
use Rattle.std.specs.Prelude.{if◌then◌else◌, ◌==◌, nat_lt}
use Rattle.jsonpath_parser.specs.Prelude.{AllBelowBase, Begins, digit_char, digits_of, index_digits, IsNormal, Location, name_char, name_chars, Step, step_text, steps_text}
use Rattle.std.proofs.lemmas.Int.Digits.{same_from_digits_of, all_below_base_digits_of, first_digits_of}
use Rattle.jsonpath_parser.specs.Location.{name, index}
use Rattle.jsonpath_parser.specs.Normal.{normal, IsOnlyPath}

abbrev hex_value : ℕ → ℕ
hex_value d = if nat_lt d 58 then d - 48 else d - 87

abbrev hex : List ℕ → Option (ℕ × List ℕ)
hex (a ∷ b ∷ h ∷ l ∷ cs) = Some ((h - 48) * 16 + hex_value l, cs)
hex cs = None

abbrev escaped : List ℕ → Option (ℕ × List ℕ)
escaped [] = None
escaped (k ∷ cs) =
    if k == 98 then Some (8, cs)
    else (if k == 116 then Some (9, cs)
    else (if k == 110 then Some (10, cs)
    else (if k == 102 then Some (12, cs)
    else (if k == 114 then Some (13, cs)
    else (if k == 39 then Some (39, cs)
    else (if k == 92 then Some (92, cs)
    else hex cs))))))

-- the first character of a name, and what stands after its spelling
abbrev read_char : List ℕ → Option (ℕ × List ℕ)
read_char [] = None
read_char (c ∷ cs) = if c == 92 then escaped cs else Some (c, cs)

digit_back : (c : ℕ) → c < 16 → hex_value (digit_char c) ≡ c
digit_back c small =
    elim (cases_lt c 10) [
      | inl low ↦ let a : nat_lt c 10 ≡ true = grind (arith, nat_tests) in let b : nat_lt (48 + c) 58 ≡ true = grind (arith, nat_tests) in
          rw (a, b) (omega arith)
      | inr high ↦ let a : nat_lt c 10 ≡ false = grind (arith, nat_tests) in let b : nat_lt (87 + c) 58 ≡ false = grind (arith, nat_tests) in
          rw (a, b) (omega arith)
    ]

-- what a character is spelled as where it has no letter of its own
abbrev plain : ℕ → List ℕ
plain c =
    if nat_lt c 16 then codes "\\u000" ++ digit_char c ∷ []
    else (if nat_lt c 32 then codes "\\u001" ++ digit_char (c - 16) ∷ [] else c ∷ [])

is_plain : (c : ℕ) → (c ≡ 8 → ⊥) → (c ≡ 9 → ⊥) → (c ≡ 10 → ⊥) → (c ≡ 12 → ⊥) → (c ≡ 13 → ⊥) → (c ≡ 39 → ⊥) → (c ≡ 92 → ⊥) → name_char c ≡ plain c
is_plain c a b d e f g h =
    cond-false _ _ _ (ne_eqb c 8 a) ∙ cond-false _ _ _ (ne_eqb c 9 b) ∙ cond-false _ _ _ (ne_eqb c 10 d) ∙ cond-false _ _ _ (ne_eqb c 12 e)
    ∙ cond-false _ _ _ (ne_eqb c 13 f) ∙ cond-false _ _ _ (ne_eqb c 39 g) ∙ cond-false _ _ _ (ne_eqb c 92 h)

-- A fact of characters and their spellings holds where it holds of those with a letter, of those with two hex digits, and of those that stand for themselves.
module _ (P : ℕ → List ℕ → Type 0)
    (at_8 : P 8 (codes "\\b")) (at_9 : P 9 (codes "\\t")) (at_10 : P 10 (codes "\\n")) (at_12 : P 12 (codes "\\f")) (at_13 : P 13 (codes "\\r"))
    (at_39 : P 39 (codes "\\'")) (at_92 : P 92 (codes "\\\\"))
    (low : (d : ℕ) → d < 16 → P d (codes "\\u000" ++ digit_char d ∷ []))
    (high : (d : ℕ) → d < 16 → P (16 + d) (codes "\\u001" ++ digit_char d ∷ []))
    (itself : (c : ℕ) → 32 ≤ c → (c ≡ 39 → ⊥) → (c ≡ 92 → ⊥) → P c (c ∷ [])) where
  at_plain : (c : ℕ) → (c ≡ 39 → ⊥) → (c ≡ 92 → ⊥) → P c (plain c)
  at_plain c quote slash =
      elim (cases_lt c 16) [
        | inl below ↦
            let a : nat_lt c 16 ≡ true = grind (arith, nat_tests) in
            subst (P c) (sym (cond-true _ _ _ a)) (low c below)
        | inr above ↦
            let a : nat_lt c 16 ≡ false = grind (arith, nat_tests) in
            elim (cases_lt c 32) [
              | inl below ↦
                  let b : nat_lt c 32 ≡ true = grind (arith, nat_tests) in
                  let sum : 16 + (c - 16) ≡ c = omega (arith, above) in
                  subst (P c) (sym (cond-false _ _ _ a ∙ cond-true _ _ _ b)) (subst (λ n. P n (codes "\\u001" ++ digit_char (c - 16) ∷ [])) sum (high (c - 16) (omega (arith, below))))
              | inr over ↦
                  let b : nat_lt c 32 ≡ false = grind (arith, nat_tests) in
                  subst (P c) (sym (cond-false _ _ _ a ∙ cond-false _ _ _ b)) (itself c over quote slash)
            ]
      ]

  pub at_char : (c : ℕ) → P c (name_char c)
  at_char c =
      let at : (n : ℕ) → c ≡ n → P n (name_char n) → P c (name_char c) = λ n e h. subst (λ m. P m (name_char m)) (sym e) h in
      elim (cases_eq c 8) [
        | inl e ↦ at 8 e at_8
        | inr a ↦ elim (cases_eq c 9) [
          | inl e ↦ at 9 e at_9
          | inr b ↦ elim (cases_eq c 10) [
            | inl e ↦ at 10 e at_10
            | inr d ↦ elim (cases_eq c 12) [
              | inl e ↦ at 12 e at_12
              | inr f ↦ elim (cases_eq c 13) [
                | inl e ↦ at 13 e at_13
                | inr g ↦ elim (cases_eq c 39) [
                  | inl e ↦ at 39 e at_39
                  | inr h ↦ elim (cases_eq c 92) [
                    | inl e ↦ at 92 e at_92
                    | inr i ↦ subst (P c) (sym (is_plain c a b d f g h i)) (at_plain c h i)
                  ]
                ]
              ]
            ]
          ]
        ]
      ]

-- the spelling of a character is read back, whatever stands after it
pub char_read : (c : ℕ) (x : List ℕ) → read_char (name_char c ++ x) ≡ Some (c, x)
char_read c x =
    at_char (λ c t. read_char (t ++ x) ≡ Some (c, x)) refl refl refl refl refl refl refl
    (λ d small. ap (λ n. Some (n, x)) (ap (λ n. 0 + n) (digit_back d small) ∙ zero-add d))
    (λ d small. ap (λ n. Some (16 + n, x)) (digit_back d small))
    (λ c above quote slash. cond-false _ _ _ (ne_eqb c 92 slash)) c

same_char : (c d : ℕ) (x y : List ℕ) → name_char c ++ x ≡ name_char d ++ y → (c ≡ d) × (x ≡ y)
same_char c d x y e =
    let both = same_Some _ _ (sym (char_read c x) ∙ ap read_char e ∙ char_read d y) in
    (ap (λ (p : ℕ × List ℕ). p.0) both, ap (λ (p : ℕ × List ℕ). p.1) both)

-- no spelling begins with the quote
no_quote : (d : ℕ) (x y : List ℕ) → 39 ∷ x ≡ name_char d ++ y → ⊥
no_quote d x y e =
    let both = same_Some _ _ (ap read_char e ∙ char_read d y) in
    let is : d ≡ 39 = sym (ap (λ (p : ℕ × List ℕ). p.0) both) in
    let q : 39 ∷ x ≡ name_char 39 ++ y = subst (λ n. 39 ∷ x ≡ name_char n ++ y) is e in
    cc

pub same_names : (cs ds x y : List ℕ) → name_chars cs ++ 39 ∷ x ≡ name_chars ds ++ 39 ∷ y → (cs ≡ ds) × (x ≡ y)
unfolding name_chars
same_names [] [] x y e = (refl, cc)
same_names [] (d ∷ ds) x y e = absurd (no_quote d x (name_chars ds ++ 39 ∷ y) (e ∙ append_assoc (name_char d) (name_chars ds) (39 ∷ y)))
same_names (c ∷ cs) [] x y e = absurd (no_quote c y (name_chars cs ++ 39 ∷ x) (sym e ∙ append_assoc (name_char c) (name_chars cs) (39 ∷ x)))
same_names (c ∷ cs) (d ∷ ds) x y e =
    let both = same_char c d _ _ (sym (append_assoc (name_char c) (name_chars cs) (39 ∷ x)) ∙ e ∙ append_assoc (name_char d) (name_chars ds) (39 ∷ y)) in
    let rest = same_names cs ds x y both.1 in
    let head = both.0 in
    let tail = rest.0 in
    (cc, rest.1)

-- ---- indexes

-- each element is below the closing bracket
abbrev AllLow : List ℕ → Type 0
AllLow [] = Unit {0}
AllLow (d ∷ ds) = (d < 93) × AllLow ds

same_before : (xs ys x y : List ℕ) → AllLow xs → AllLow ys → xs ++ 93 ∷ x ≡ ys ++ 93 ∷ y → (xs ≡ ys) × (x ≡ y)
same_before [] [] x y p q e = (refl, cc)
same_before [] (b ∷ ys) x y p q e = let h : 93 ≡ b = cc in absurd (omega (arith, h, q.0))
same_before (a ∷ xs) [] x y p q e = let h : a ≡ 93 = cc in absurd (omega (arith, h, p.0))
same_before (a ∷ xs) (b ∷ ys) x y p q e =
    let head : a ≡ b = cc in
    let tail : xs ++ 93 ∷ x ≡ ys ++ 93 ∷ y = cc in
    let rest = same_before xs ys x y p.1 q.1 tail in
    let same = rest.0 in
    (cc, rest.1)

low_map : (ds : List ℕ) → AllBelowBase 10 ds → AllLow (map (λ d. 48 + d) ds)
low_map [] h = tt
low_map (d ∷ ds) h = (omega (arith, h.0), low_map ds h.1)

same_map : (ds es : List ℕ) → map (λ d. 48 + d) ds ≡ map (λ d. 48 + d) es → ds ≡ es
same_map [] [] e = refl
same_map [] (y ∷ ys) e = absurd cc
same_map (x ∷ xs) [] e = absurd cc
same_map (x ∷ xs) (y ∷ ys) e =
    let head : 48 + x ≡ 48 + y = cc in
    let one : x ≡ y = omega (arith, head) in
    let tail : map (λ d. 48 + d) xs ≡ map (λ d. 48 + d) ys = cc in
    let rest = same_map xs ys tail in cc

low_index : (n : ℕ) → AllLow (index_digits n)
low_index n =
    elim (cases_eq n 0) [
      | inl none ↦ let e : index_digits n ≡ 48 ∷ [] = ap index_digits none in subst AllLow (sym e) (lit< tt, tt)
      | inr some ↦
          let e : index_digits n ≡ map (λ d. 48 + d) (digits_of 10 n) = cond-false _ _ _ (ne_eqb n 0 some) in
          subst AllLow (sym e) (low_map (digits_of 10 n) (all_below_base_digits_of 10 n (lit≤ tt)))
    ]

-- ---- one step

abbrev same_after : Step → Step → List ℕ → List ℕ → Type 0
same_after s t x y = (s ≡ t) × (x ≡ y)

pub quoted : (k x : List ℕ) → step_text (name k) ++ x ≡ 91 ∷ 39 ∷ (name_chars k ++ 39 ∷ 93 ∷ x)
quoted k x = append_assoc (codes "['" ++ name_chars k) (codes "']") x

pub bracketed : (n : ℕ) (x : List ℕ) → step_text (index n) ++ x ≡ 91 ∷ (index_digits n ++ 93 ∷ x)
bracketed n x = append_assoc (codes "[" ++ index_digits n) (codes "]") x

pub nonzero : (n : ℕ) → (n ≡ 0 → ⊥) → index_digits n ≡ map (λ d. 48 + d) (digits_of 10 n)
nonzero n some = cond-false _ _ _ (ne_eqb n 0 some)

not_zero_digits : (ds : List ℕ) → 0 < get_or ds 0 0 → 48 ∷ [] ≡ map (λ d. 48 + d) ds → ⊥
not_zero_digits [] h e = cc
not_zero_digits (d ∷ ds) h e = let head : 48 ≡ 48 + d = cc in omega (arith, head, h)

pub positive : (n : ℕ) → (n ≡ 0 → ⊥) → 0 < get_or (digits_of 10 n) 0 0
positive n some = first_digits_of 10 n (lit≤ tt) (pos_of_ne-zero some)

same_index : (m n : ℕ) → index_digits m ≡ index_digits n → m ≡ n
same_index m n e =
    elim (cases_eq m 0) [
      | inl a ↦ elim (cases_eq n 0) [
        | inl b ↦ a ∙ sym b
        | inr b ↦ absurd (not_zero_digits (digits_of 10 n) (positive n b) (sym (ap index_digits a) ∙ e ∙ nonzero n b))
      ]
      | inr a ↦ elim (cases_eq n 0) [
        | inl b ↦ absurd (not_zero_digits (digits_of 10 m) (positive m a) (sym (ap index_digits b) ∙ sym e ∙ nonzero m a))
        | inr b ↦ same_from_digits_of 10 m n (lit≤ tt) (same_map _ _ (sym (nonzero m a) ∙ e ∙ nonzero n b))
      ]
    ]

no_quote_digit : (ds : List ℕ) (x y : List ℕ) → 0 < get_or ds 0 0 → 39 ∷ x ≡ map (λ d. 48 + d) ds ++ y → ⊥
no_quote_digit [] x y h e = omega (arith, h)
no_quote_digit (d ∷ ds) x y h e = let head : 39 ≡ 48 + d = cc in omega (arith, head)

no_mix : (n : ℕ) (x y : List ℕ) → 39 ∷ x ≡ index_digits n ++ y → ⊥
no_mix n x y e =
    elim (cases_eq n 0) [
      | inl a ↦ let q : 39 ∷ x ≡ 48 ∷ y = e ∙ ap (λ k. index_digits k ++ y) a in cc
      | inr a ↦ no_quote_digit (digits_of 10 n) x y (positive n a) (e ∙ ap (λ t. t ++ y) (nonzero n a))
    ]

pub same_step : (s t : Step) (x y : List ℕ) → step_text s ++ x ≡ step_text t ++ y → same_after s t x y
same_step (name a) (name b) x y e =
    let open_ : 91 ∷ 39 ∷ (name_chars a ++ 39 ∷ 93 ∷ x) ≡ 91 ∷ 39 ∷ (name_chars b ++ 39 ∷ 93 ∷ y) = sym (quoted a x) ∙ e ∙ quoted b y in
    let inner : name_chars a ++ 39 ∷ 93 ∷ x ≡ name_chars b ++ 39 ∷ 93 ∷ y = cc in
    let both = same_names a b (93 ∷ x) (93 ∷ y) inner in
    let tail = both.1 in
    (ap name both.0, cc)
same_step (name a) (index n) x y e =
    let open_ : 91 ∷ 39 ∷ (name_chars a ++ 39 ∷ 93 ∷ x) ≡ 91 ∷ (index_digits n ++ 93 ∷ y) = sym (quoted a x) ∙ e ∙ bracketed n y in
    let inner : 39 ∷ (name_chars a ++ 39 ∷ 93 ∷ x) ≡ index_digits n ++ 93 ∷ y = cc in
    absurd (no_mix n _ _ inner)
same_step (index m) (name b) x y e =
    let open_ : 91 ∷ (index_digits m ++ 93 ∷ x) ≡ 91 ∷ 39 ∷ (name_chars b ++ 39 ∷ 93 ∷ y) = sym (bracketed m x) ∙ e ∙ quoted b y in
    let inner : 39 ∷ (name_chars b ++ 39 ∷ 93 ∷ y) ≡ index_digits m ++ 93 ∷ x = cc in
    absurd (no_mix m _ _ inner)
same_step (index m) (index n) x y e =
    let open_ : 91 ∷ (index_digits m ++ 93 ∷ x) ≡ 91 ∷ (index_digits n ++ 93 ∷ y) = sym (bracketed m x) ∙ e ∙ bracketed n y in
    let inner : index_digits m ++ 93 ∷ x ≡ index_digits n ++ 93 ∷ y = cc in
    let both = same_before _ _ _ _ (low_index m) (low_index n) inner in
    (ap index (same_index m n both.0), both.1)

-- ---- whole paths

starts : (s : Step) (x : List ℕ) → [] ≡ step_text s ++ x → ⊥
starts (name a) x e = cc
starts (index n) x e = cc

begins_steps : (l m : Location) (r : List ℕ) → steps_text m ≡ steps_text l ++ r → Begins l m
begins_steps [] m r e = (m, refl)
begins_steps (s ∷ ss) [] r e = absurd (starts s (steps_text ss ++ r) (e ∙ append_assoc (step_text s) (steps_text ss) r))
begins_steps (s ∷ ss) (t ∷ ts) r e =
    let both = same_step t s (steps_text ts) (steps_text ss ++ r) (e ∙ append_assoc (step_text s) (steps_text ss) r) in
    let rest = begins_steps ss ts r both.1 in
    let head = both.0 in
    let tail = rest.1 in
    (rest.0, cc)

steps_append : (l r : Location) → steps_text (l ++ r) ≡ steps_text l ++ steps_text r
steps_append [] r = refl
steps_append (s ∷ ss) r = ap (λ x. step_text s ++ x) (steps_append ss r) ∙ sym (append_assoc (step_text s) (steps_text ss) (steps_text r))

-- a path begins another exactly where its location begins the other's
pub begins_normal : (l m : Location) → Begins (normal l) (normal m) → Begins l m
begins_normal l m h = let e = h.1 in let tail : steps_text m ≡ steps_text l ++ h.0 = cc in begins_steps l m h.0 tail

pub normal_begins : (l m : Location) → Begins l m → Begins (normal l) (normal m)
normal_begins l m h = (steps_text h.0, ap normal h.1 ∙ ap (λ x. 36 ∷ x) (steps_append l h.0))

same_steps : (l m : Location) → steps_text l ≡ steps_text m → l ≡ m
same_steps [] [] e = refl
same_steps [] (t ∷ ts) e = absurd (starts t (steps_text ts) e)
same_steps (s ∷ ss) [] e = absurd (starts s (steps_text ss) (sym e))
same_steps (s ∷ ss) (t ∷ ts) e =
    let both = same_step s t (steps_text ss) (steps_text ts) e in
    let head = both.0 in
    let tail = same_steps ss ts both.1 in
    cc

-- the path of a location is the path of no other
pub same_normal : (l m : Location) → normal l ≡ normal m → l ≡ m
same_normal l m e = let tail : steps_text l ≡ steps_text m = cc in same_steps l m tail

begins_text : (l m : Location) (text : List ℕ) → IsNormal m text → Begins (normal l) text ↔ Begins l m
begins_text l m text e =
    (λ h. begins_normal l m (h.0, sym e ∙ h.1), λ h. let b = normal_begins l m h in (b.0, e ∙ b.1))

-- Normal is one to one and keeps beginnings
pub only_path : (l : Location) → IsOnlyPath l (normal l)
only_path l = record {
  only_text = λ text e. e;
  only_location = λ m e. same_normal m l (sym e);
  beginnings = begins_text l;
}
