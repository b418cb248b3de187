-- Operators, words and strings that are spelled are read, where the text after them cannot continue them.
use Rattle.std.proofs.Common.{◌≡◌, ℕ, Bool, true, false, ◌||◌, ◌==◌, bytes_eq, List, [], ◌∷◌, ◌++◌, codes, Some, refl, ap}
use Rattle.jsonpath_parser.specs.Prelude.{Arguments, call_of, custom_call, equal, first, greater, greater_or_equal, is_function_byte, is_function_first, is_operator_first, is_quote, is_table_name, IsFunctionName, less, less_or_equal, not_equal, Operator, operator_at, SpellsOperator, SpellsString, split_while, word_at}
use Rattle.jsonpath_parser.proofs.laws.words.Fronts.{run_over}

-- an operator, where no `=` follows it
pub operator_over : (op : Operator) (o more : List ℕ) → SpellsOperator op o → (first more == 61) ≡ false → operator_at (o ++ more) ≡ Some (op, more)
unfolding operator_at
operator_over equal o more h stop = rw h refl
operator_over not_equal o more h stop = rw h refl
operator_over less_or_equal o more h stop = rw h refl
operator_over greater_or_equal o more h stop = rw h refl
operator_over less o more h stop = rw (h, stop) refl
operator_over greater o more h stop = rw (h, stop) refl

-- how an operator begins
pub operator_start : (op : Operator) (o more : List ℕ) → SpellsOperator op o → is_operator_first (first (o ++ more)) ≡ true
operator_start equal o more h = rw h refl
operator_start not_equal o more h = rw h refl
operator_start less_or_equal o more h = rw h refl
operator_start greater_or_equal o more h = rw h refl
operator_start less o more h = rw h refl
operator_start greater o more h = rw h refl

-- a word is the run at the front
word_reads : (text : List ℕ) (parts : List ℕ × List ℕ) → is_function_first (first text) ≡ true → split_while is_function_byte text ≡ parts → word_at text ≡ Some parts
unfolding word_at
word_reads text parts h e = rw h (ap Some e)

-- a word, up to a byte of none
pub word_over : (n more : List ℕ) → IsFunctionName n → is_function_byte (first more) ≡ false → word_at (n ++ more) ≡ Some (n, more)
word_over [] more h stop = absurd h
word_over (b ∷ s) more h stop =
    let named : is_function_byte b ≡ true = rw h.0 refl in
    word_reads ((b ∷ s) ++ more) (b ∷ s, more) h.0 (run_over is_function_byte (b ∷ s) more (named, h.1) stop refl)

-- how a word begins
pub word_start : (n more : List ℕ) → IsFunctionName n → is_function_first (first (n ++ more)) ≡ true
word_start [] more h = absurd h
word_start (b ∷ s) more h = h.0

-- how a string begins
pub string_start : (v a more : List ℕ) → SpellsString v a → is_quote (first (a ++ more)) ≡ true
string_start v a more h = let (q, cs, x, quote, hx, value, text) = h in rw text quote

-- none of five tests holds
none_of : (a b c d e : Bool) → ((((a || b) || c) || d) || e) ≡ false → (a ≡ false) × (b ≡ false) × (c ≡ false) × (d ≡ false) × (e ≡ false)
none_of false false false false e h = (refl, refl, refl, refl, h)
none_of true b c d e h = absurd (cc)
none_of false true c d e h = absurd (cc)
none_of false false true d e h = absurd (cc)
none_of false false false true e h = absurd (cc)

-- a name outside the table is that of a custom call
pub custom_of : (n : List ℕ) (xs : Arguments) → is_table_name n ≡ false → call_of n xs ≡ Some (custom_call n xs)
custom_of n xs h =
    let (a, b, c, d, e) = none_of (bytes_eq n (codes "length")) (bytes_eq n (codes "value")) (bytes_eq n (codes "count")) (bytes_eq n (codes "search")) (bytes_eq n (codes "match")) h in
    rw (a, b, c, d, e) refl
