-- What the text of a tree is made of: runs of a name that stand for themselves, and the digits of a number.
use Rattle.std.proofs.Common.{◌≡◌, ◌≢◌, ℕ, zero, suc, ◌+◌, ◌^◌, ◌<◌, ◌≤◌, List, [], ◌∷◌, ◌++◌, length, get_or, take, drop, sym, ap, ◌∙◌, refl, arith, ne_eqb, false, append_assoc}
use Rattle.std.proofs.lemmas.Bool.{cond-false}
use Rattle.std.proofs.lemmas.Bool.Decides.{nat_tests}
use Rattle.std.proofs.lemmas.Fmt.{decimal-digits_of}
use Rattle.std.proofs.lemmas.List.{take_more, drop_more, take-append-drop}
use Rattle.std.proofs.lemmas.Slice.{between_from_start}
use Rattle.std.specs.Prelude.{nat_lt, slice_range}
use Rattle.jsonpath_parser.specs.Prelude.{Begins, decimal, index_digits, name_char, name_chars}
use Rattle.std.specs.Fmt.{digits}

-- ---- names

pub name_chars-append : (xs ys : List ℕ) → name_chars (xs ++ ys) ≡ name_chars xs ++ name_chars ys
unfolding name_chars
name_chars-append [] ys = refl
name_chars-append (x ∷ xs) ys = ap (λ t. name_char x ++ t) (name_chars-append xs ys) ∙ sym (append_assoc (name_char x) (name_chars xs) (name_chars ys))

-- a character that stands for itself
plain_char : (c : ℕ) → 32 ≤ c → c ≢ 39 → c ≢ 92 → name_char c ≡ c ∷ []
plain_char c low quote slash =
    let a : nat_lt c 16 ≡ false = grind (arith, nat_tests) in
    let b : nat_lt c 32 ≡ false = grind (arith, nat_tests) in
    cond-false _ _ _ (ne_eqb c 8 (omega arith)) ∙ cond-false _ _ _ (ne_eqb c 9 (omega arith)) ∙ cond-false _ _ _ (ne_eqb c 10 (omega arith))
    ∙ cond-false _ _ _ (ne_eqb c 12 (omega arith)) ∙ cond-false _ _ _ (ne_eqb c 13 (omega arith)) ∙ cond-false _ _ _ (ne_eqb c 39 quote)
    ∙ cond-false _ _ _ (ne_eqb c 92 slash) ∙ cond-false _ _ _ a ∙ cond-false _ _ _ b

one_char : (c : ℕ) → name_chars (c ∷ []) ≡ name_char c ++ []
unfolding name_chars
one_char c = refl

-- a run of them grows
pub plain_more : (bs : List ℕ) (i c : ℕ) → i < length bs → c ≡ get_or bs i 0 → (32 ≤ c) × (c ≢ 39) × (c ≢ 92) →
    name_chars (take i bs) ≡ take i bs → name_chars (take (i + 1) bs) ≡ take (i + 1) bs
plain_more bs i c in_range is plain before =
    let more : take (i + 1) bs ≡ take i bs ++ c ∷ [] = take_more bs i 0 in_range ∙ ap (λ x. take i bs ++ x ∷ []) (sym is) in
    rw (more, name_chars-append, before, one_char c, plain_char c plain.0 plain.1 plain.2) refl

-- one turn of the loop over a name: a run and one character behind it are written
pub name_turn : (path rest all bytes run next middle out : List ℕ) (i : ℕ) → i < length rest → bytes ≡ rest → run ≡ slice_range rest 0 i → middle ≡ path ++ run →
    out ≡ middle ++ name_char (get_or bytes i 0) → next ≡ drop (i + 1) rest → name_chars (take i bytes) ≡ take i bytes →
    path ++ name_chars rest ≡ all → out ++ name_chars next ≡ all
unfolding name_chars
name_turn path rest all bytes run next middle out i in_range is run_is middle_is out_is next_is plain before =
    let c = get_or rest i 0 in
    let cut : rest ≡ take i rest ++ c ∷ drop (i + 1) rest = sym (take-append-drop i rest) ∙ ap (λ x. take i rest ++ x) (drop_more rest i 0 in_range) in
    let spelled : name_chars rest ≡ take i rest ++ (name_char c ++ name_chars (drop (i + 1) rest)) =
    ap name_chars cut ∙ name_chars-append (take i rest) (c ∷ drop (i + 1) rest) ∙ ap (λ x. x ++ (name_char c ++ name_chars (drop (i + 1) rest))) (rw is at plain) in
    let written : out ≡ (path ++ take i rest) ++ name_char c = rw (out_is, middle_is, run_is, is, between_from_start rest i) refl in
    rw (written, next_is)
    (append_assoc (path ++ take i rest) (name_char c) _ ∙ append_assoc path (take i rest) _ ∙ ap (λ x. path ++ x) (sym spelled) ∙ before)

pub Begins-more : (was path run mark middle out : List ℕ) → Begins was path → middle ≡ path ++ run → out ≡ middle ++ mark → Begins was out
Begins-more was path run mark middle out begun e f =
    (begun.0 ++ run ++ mark, f ∙ ap (λ x. x ++ mark) (e ∙ ap (λ x. x ++ run) begun.1) ∙ simp append_assoc)

-- ---- digits

-- those of a number are what std has
pub decimal_index : (n : ℕ) → n < 2 ^ 64 → decimal n ≡ index_digits n
unfolding digits
decimal_index zero small = refl
decimal_index (suc n) small = decimal-digits_of (suc n) (omega arith) small ∙ sym (cond-false _ _ _ (ne_eqb (suc n) 0 (omega arith)))
