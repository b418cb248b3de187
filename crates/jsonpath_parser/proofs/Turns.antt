-- The loops of the reading functions, a turn at a time.
use Rattle.std.proofs.Common.{◌≡◌, ℕ, zero, suc, ◌-◌, ◌<◌, ℤ, Bool, true, false, ◌==◌, List, [], ◌∷◌, ◌++◌, length, drop, map, Vec, Global, Option, Some, None, refl, sym, ap, ◌∙◌, arith}
use Rattle.std.proofs.lemmas.List.{map-append}
use Rattle.jsonpath_parser.specs.Prelude.{all_segments_at, Argument, argument_at, disjunction_at, Filter, filter_of, first, found_then, list_of, many_at, operand_behind, Read, segment_view, segments_at, selection_of, selector_view, selectors_of, selectors_view, separated_at, skip_blank}
use Rattle.jsonpath_parser.specs.tree.Syntax as tree
use Rattle.jsonpath_parser.specs.declared.tree.model.Segment
use Rattle.jsonpath_parser.specs.declared.tree.model.Selector.{Selector as CodeSelector}
use Rattle.jsonpath_parser.proofs.laws.tree.ViewEquations.{segment_view-Selectors}

less : (m : ℕ) → suc m - 1 ≡ m
less m = omega arith

module _ {A B : Type 0} (more : A → B → B) (none : B) (part_at : List ℕ → Read A) where
  -- no part is left
  pub many_end : (goes_on : List ℕ → Bool) (m : ℕ) (text : List ℕ) → 0 < m → goes_on text ≡ false → many_at more none part_at goes_on m text ≡ Some (none, text)
  unfolding many_at
  many_end goes_on zero text some stop = absurd (omega arith)
  many_end goes_on (suc m) text some stop = rw stop

  -- one is refused
  pub many_none : (goes_on : List ℕ → Bool) (m : ℕ) (text : List ℕ) → 0 < m → goes_on text ≡ true → part_at text ≡ None → many_at more none part_at goes_on m text ≡ None
  unfolding many_at
  many_none goes_on zero text some go refused = absurd (omega arith)
  many_none goes_on (suc m) text some go refused = rw (go, refused)

  -- one more
  pub many_next : (goes_on : List ℕ → Bool) (m : ℕ) (text : List ℕ) (x : A) (rest : List ℕ) → 0 < m → goes_on text ≡ true → part_at text ≡ Some (x, rest)
      → many_at more none part_at goes_on m text ≡ found_then more (x ∷ []) (many_at more none part_at goes_on (m - 1) rest)
  unfolding many_at
  many_next goes_on zero text x rest some go one = absurd (omega arith)
  many_next goes_on (suc m) text x rest some go one = rw (go, one, less m)

  -- a part is refused
  pub separated_none : (m : ℕ) (text : List ℕ) → 0 < m → part_at text ≡ None → separated_at more none part_at m text ≡ None
  unfolding separated_at
  separated_none zero text some refused = absurd (omega arith)
  separated_none (suc m) text some refused = rw refused

  -- the last one
  pub separated_end : (m : ℕ) (text : List ℕ) (x : A) (rest : List ℕ) → 0 < m → part_at text ≡ Some (x, rest) → (first (skip_blank rest) == 44) ≡ false
      → separated_at more none part_at m text ≡ Some (more x none, rest)
  unfolding separated_at
  separated_end zero text x rest some one stop = absurd (omega arith)
  separated_end (suc m) text x rest some one stop = rw (one, stop)

  -- one more, and a comma
  pub separated_next : (m : ℕ) (text : List ℕ) (x : A) (rest : List ℕ) → 0 < m → part_at text ≡ Some (x, rest) → (first (skip_blank rest) == 44) ≡ true
      → separated_at more none part_at m text ≡ found_then more (x ∷ []) (separated_at more none part_at (m - 1) (skip_blank (drop 1 (skip_blank rest))))
  unfolding separated_at
  separated_next zero text x rest some one go = absurd (omega arith)
  separated_next (suc m) text x rest some one go = rw (one, go, less m)

module _ {A B : Type 0} (more : A → B → B) (none : B) (part_at : List ℕ → Read A) where
  -- a part and others
  pub many_read : (goes_on : List ℕ → Bool) (m : ℕ) (text : List ℕ) (x : A) (rest : List ℕ) (xs : B) (end : List ℕ) → 0 < m → goes_on text ≡ true → part_at text ≡ Some (x, rest) → many_at more none part_at goes_on (m - 1) rest ≡ Some (xs, end)
      → many_at more none part_at goes_on m text ≡ Some (more x xs, end)
  many_read goes_on m text x rest xs end some go one others = many_next more none part_at goes_on m text x rest some go one ∙ ap (found_then more (x ∷ [])) others

  -- a part, a comma and others
  pub separated_read : (m : ℕ) (text : List ℕ) (x : A) (rest after start : List ℕ) (xs : B) (end : List ℕ) → 0 < m → part_at text ≡ Some (x, rest) → skip_blank rest ≡ 44 ∷ after → skip_blank after ≡ start → separated_at more none part_at (m - 1) start ≡ Some (xs, end)
      → separated_at more none part_at m text ≡ Some (more x xs, end)
  separated_read m text x rest after start xs end some one comma skipped others =
      let go : (first (skip_blank rest) == 44) ≡ true = rw comma refl in
      let here : skip_blank (drop 1 (skip_blank rest)) ≡ start = rw comma skipped in
      separated_next more none part_at m text x rest some one go ∙ ap (λ t. found_then more (x ∷ []) (separated_at more none part_at (m - 1) t)) here ∙ ap (found_then more (x ∷ [])) others

-- an operand behind two of a mark is refused
pub operand_none : (part_at : List ℕ → Read Argument) (text : List ℕ) → part_at (skip_blank (drop 2 (skip_blank text))) ≡ None → operand_behind part_at text ≡ None
operand_none part_at text refused = rw refused

-- or is no logical expression
pub operand_other : (part_at : List ℕ → Read Argument) (text : List ℕ) (x : Argument) (rest : List ℕ) → part_at (skip_blank (drop 2 (skip_blank text))) ≡ Some (x, rest) → filter_of x ≡ None → operand_behind part_at text ≡ None
operand_other part_at text x rest one none = rw (one, none)

pub operand_read : (part_at : List ℕ → Read Argument) (text : List ℕ) (x : Argument) (rest : List ℕ) (f : Filter) → part_at (skip_blank (drop 2 (skip_blank text))) ≡ Some (x, rest) → filter_of x ≡ Some f → operand_behind part_at text ≡ Some (f, rest)
operand_read part_at text x rest f one is = rw (one, is)

-- all segments are as many as there may be
pub all_segments : (literal : List ℕ → Read (Option ℤ)) (inner : List ℕ → Read Argument) (text : List ℕ) → all_segments_at literal inner text ≡ segments_at literal inner (suc (length text)) text
unfolding all_segments_at
all_segments literal inner text = refl

-- an argument, a turn of the recursion
pub argument_turn : (literal : List ℕ → Read (Option ℤ)) (n : ℕ) (text : List ℕ) → 0 < n
    → argument_at literal n text ≡ disjunction_at literal (argument_at literal (n - 1)) text
unfolding argument_at
argument_turn literal zero text h = absurd (omega arith)
argument_turn literal (suc n) text h = rw (less n)

-- ---- parts that were found

-- none yet
pub found_none : {A B : Type 0} (more : A → B → B) (read : Read B) → found_then more [] read ≡ read
found_none more None = refl
found_none more (Some r) = refl

list_of-push : {A B : Type 0} (more : A → B → B) (others : B) (xs : List A) (x : A) → list_of more others (xs ++ x ∷ []) ≡ list_of more (more x others) xs
list_of-push more others [] x = refl
list_of-push more others (y ∷ ys) x = ap (more y) (list_of-push more others ys x)

one_more : {A B : Type 0} (more : A → B → B) (xs : List A) (x : A) (read : Read B) → found_then more xs (found_then more (x ∷ []) read) ≡ found_then more (xs ++ x ∷ []) read
one_more more xs x None = refl
one_more more xs x (Some r) = ap (λ b. Some (b, r.1)) (sym (list_of-push more r.0 xs x))

-- one more, as the code has it
pub found_push : {A B V : Type 0} (view : V → A) (more : A → B → B) (vs : List V) (v : V) (read : Read B) → found_then more (map view vs) (found_then more (view v ∷ []) read) ≡ found_then more (map view (vs ++ v ∷ [])) read
found_push view more vs v read = one_more more (map view vs) (view v) read ∙ ap (λ xs. found_then more xs read) (sym (map-append view vs (v ∷ [])))

-- several selectors, or none
several_all : (xs : List CodeSelector) → (length xs ≡ 1 → ⊥) → tree.several (selectors_of (map selector_view xs)) ≡ selection_of (selectors_of (map selector_view xs))
several_all [] h = refl
several_all (x ∷ []) h = absurd (h refl)
several_all (x ∷ y ∷ xs) h = refl

pub selection_several : (v : Vec CodeSelector Global) → (length v.items ≡ 1 → ⊥) → segment_view (Segment.Selectors v) ≡ selection_of (selectors_view v)
selection_several v h = segment_view-Selectors v ∙ several_all v.items h
