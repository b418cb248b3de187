-- What is read is spelled so: calls, operands, comparisons, groups, and what `&&` and `||` join.
--
-- What an argument of a call reads is taken as a premise, so no law is mutual.
use Rattle.std.proofs.Common.{◌≡◌, ℕ, suc, Bool, true, false, ◌==◌, bytes_eq, ℤ, List, [], ◌∷◌, ◌++◌, length, drop, codes, Option, Some, option_map, refl, sym, ap, ◌∙◌, subst, inl, inr, append_assoc, arith, IsTrue}
use Rattle.jsonpath_parser.specs.Prelude.{absolute, after_byte, all_arguments_at, all_segments_at, and, ands_at, Argument, argument, Arguments, basic_at, Call, call, call_of, called_at, comparable_of, compare, compared_at, conjunction_at, count_call, custom_call, disjunction_at, Filter, filter_argument, filter_of, filter_then, Filters, first, found_then, group, group_at, is_basic, is_conjunction, is_int_first, is_operator_first, is_quote, is_table_name, is_twice, IsBlank, IsFunctionName, IsNoBareTest, length_call, literal_argument, logical_at, match_call, negated_at, no_arguments, no_filters, number, one_argument, operand_at, operand_behind, operator_at, or, ors_at, plain_at, Read, relative, search_call, skip_blank, SpellsArgument, SpellsArguments, SpellsBasic, SpellsCall, SpellsCalled, SpellsComparable, SpellsConjunction, SpellsLiteral, SpellsMoreAnd, SpellsMoreArguments, SpellsMoreOr, SpellsNot, SpellsTest, steps_in, string, string_at, test, test_argument, two_arguments, value_call, word_at, word_literal, word_operand_at}
use Rattle.jsonpath_parser.specs.inner.ReadingGrammar.{negated_of}
use Rattle.jsonpath_parser.proofs.laws.words.Fronts.{skip_split}
use Rattle.jsonpath_parser.proofs.FilterPieces.{twice_front, marked, marked_others, call_pieces, group_pieces, compared_pieces, within, one_spelled, SpellsTwo, two_spelled}
use Rattle.jsonpath_parser.proofs.SoundLists.{sound_many, many_some, sound_separated}
use Rattle.jsonpath_parser.proofs.SoundParts.{bind_ok, map_ok, chosen, at_front, byte_read, Spelled, same_parts, moved, glue, same_word, word_sound, sound_operator, word_spelled}
use Rattle.jsonpath_parser.proofs.SoundSegments.{gathered, steps_spelled, sound_logical, sound_all_segments}
use Rattle.jsonpath_parser.proofs.laws.words.StringSound.{sound_string}

module _ (Number : Option ℤ → List ℕ → Type 0) where
  -- ---- arguments

  -- what is spelled by an argument that is read, where a filter is spelled as S says
  abbrev pub SpellsBy : (Filter → List ℕ → Type 0) → Argument → List ℕ → Type 0
  SpellsBy S (literal_argument l) text = SpellsLiteral Number l text
  SpellsBy S (test_argument t) text = SpellsTest Number t text
  SpellsBy S (filter_argument f) text = IsNoBareTest f × S f text

  -- where it is no filter
  abbrev pub SpellsAlone : Argument → List ℕ → Type 0
  SpellsAlone x text = SpellsBy (λ f a. ⊥) x text

  -- an operand of `&&`
  abbrev pub SpellsBasicArgument : Argument → List ℕ → Type 0
  SpellsBasicArgument x text = SpellsBy (SpellsBasic Number) x text

  -- an operand of `||`
  abbrev pub SpellsConjunctionArgument : Argument → List ℕ → Type 0
  SpellsConjunctionArgument x text = SpellsBy (SpellsConjunction Number) x text

  -- each is one of what stands around it
  alone_basic : (x : Argument) (a : List ℕ) → SpellsAlone x a → SpellsBasicArgument x a
  alone_basic (literal_argument l) a h = h
  alone_basic (test_argument t) a h = h
  alone_basic (filter_argument f) a h = absurd h.1

  basic_is_conjunction : (f : Filter) → IsTrue (is_basic f) → IsTrue (is_conjunction f)
  basic_is_conjunction (or fs) h = h
  basic_is_conjunction f h = refl

  basic_conjunction : (x : Argument) (a : List ℕ) → SpellsBasicArgument x a → SpellsConjunctionArgument x a
  basic_conjunction (literal_argument l) a h = h
  basic_conjunction (test_argument t) a h = h
  basic_conjunction (filter_argument f) a h = (h.0, (basic_is_conjunction f h.1.0, h.1.1))

  conjunction_argument : (x : Argument) (a : List ℕ) → SpellsConjunctionArgument x a → SpellsArgument Number x a
  conjunction_argument (literal_argument l) a h = h
  conjunction_argument (test_argument t) a h = h
  conjunction_argument (filter_argument f) a h = (h.0, h.1.1)

  -- as a filter
  pub basic_operand : (x : Argument) (f : Filter) (a : List ℕ) → SpellsBasicArgument x a → filter_of x ≡ Some f → SpellsBasic Number f a
  basic_operand (literal_argument l) f a h e = absurd (cc)
  basic_operand (test_argument t) f a h e = let k : test false t ≡ f = cc in subst (λ v. SpellsBasic Number v a) k (refl, ([], a, refl, h, refl))
  basic_operand (filter_argument g) f a h e = let k : g ≡ f = cc in subst (λ v. SpellsBasic Number v a) k h.1

  pub conjunction_operand : (x : Argument) (f : Filter) (a : List ℕ) → SpellsConjunctionArgument x a → filter_of x ≡ Some f → SpellsConjunction Number f a
  conjunction_operand (literal_argument l) f a h e = absurd (cc)
  conjunction_operand (test_argument t) f a h e = let k : test false t ≡ f = cc in subst (λ v. SpellsConjunction Number v a) k (refl, ([], a, refl, h, refl))
  conjunction_operand (filter_argument g) f a h e = let k : g ≡ f = cc in subst (λ v. SpellsConjunction Number v a) k h.1

  -- as a side of a comparison
  pub comparable_spelled : (x c : Argument) (a : List ℕ) → SpellsAlone x a → comparable_of x ≡ Some c → SpellsComparable Number c a
  comparable_spelled (literal_argument l) c a h e = let k : literal_argument l ≡ c = cc in subst (λ v. SpellsComparable Number v a) k (refl, h)
  comparable_spelled (test_argument (relative gs)) c a h e =
      let (ss, are, e1) = bind_ok _ (steps_in gs) c e in
      let (same, is) = steps_spelled gs ss are in
      let k : test_argument (relative ss) ≡ c = cc in
      subst (λ v. SpellsComparable Number v a) k (is, subst (λ v. SpellsArgument Number (test_argument (relative v)) a) same h)
  comparable_spelled (test_argument (absolute gs)) c a h e =
      let (ss, are, e1) = bind_ok _ (steps_in gs) c e in
      let (same, is) = steps_spelled gs ss are in
      let k : test_argument (absolute ss) ≡ c = cc in
      subst (λ v. SpellsComparable Number v a) k (is, subst (λ v. SpellsArgument Number (test_argument (absolute v)) a) same h)
  comparable_spelled (test_argument (call d)) c a h e = let k : test_argument (call d) ≡ c = cc in subst (λ v. SpellsComparable Number v a) k (refl, h)
  comparable_spelled (filter_argument f) c a h e = absurd h.1

  -- behind `!`
  negated_spelled : (x y : Argument) (p a : List ℕ) → SpellsNot true p → SpellsAlone x a → negated_of x ≡ Some y → SpellsBasicArgument y (p ++ a)
  negated_spelled (literal_argument l) y p a hp h e = absurd (cc)
  negated_spelled (test_argument t) y p a hp h e = let k : filter_argument (test true t) ≡ y = cc in subst (λ v. SpellsBasicArgument v (p ++ a)) k (tt, (refl, (p, a, hp, h, refl)))
  negated_spelled (filter_argument f) y p a hp h e = absurd (cc)

  -- ---- calls

  -- a call of one argument by its name
  one_call : (make : Argument → Call) (word called : List ℕ) (xs : Arguments) (c : Call) (t : List ℕ)
      → ((x : Argument) (s : List ℕ) → SpellsCalled word (SpellsArgument Number x) s → SpellsCall Number (make x) s)
      → bytes_eq called word ≡ true → option_map make (one_argument xs) ≡ Some c → SpellsCalled called (SpellsArguments Number xs) t → SpellsCall Number c t
  one_call make word called xs c t fits same e h =
      let (x, is, made) = map_ok make (one_argument xs) c e in
      let its : SpellsCalled called (SpellsArgument Number x) t = within (SpellsArguments Number xs) (SpellsArgument Number x) (called ++ 40 ∷ []) (41 ∷ []) t (λ a ha. one_spelled Number xs x a is ha) h in
      subst (λ v. SpellsCall Number v t) made (fits x t (subst (λ v. SpellsCalled v (SpellsArgument Number x) t) (same_word called word same) its))

  -- and of two
  two_call : (make : Argument × Argument → Call) (word called : List ℕ) (xs : Arguments) (c : Call) (t : List ℕ)
      → ((p : Argument × Argument) (s : List ℕ) → SpellsCalled word (SpellsTwo Number p) s → SpellsCall Number (make p) s)
      → bytes_eq called word ≡ true → option_map make (two_arguments xs) ≡ Some c → SpellsCalled called (SpellsArguments Number xs) t → SpellsCall Number c t
  two_call make word called xs c t fits same e h =
      let (p, is, made) = map_ok make (two_arguments xs) c e in
      let its : SpellsCalled called (SpellsTwo Number p) t = within (SpellsArguments Number xs) (SpellsTwo Number p) (called ++ 40 ∷ []) (41 ∷ []) t (λ a ha. two_spelled Number xs p a is ha) h in
      subst (λ v. SpellsCall Number v t) made (fits p t (subst (λ v. SpellsCalled v (SpellsTwo Number p) t) (same_word called word same) its))

  -- a name of no function of the table
  custom_name : (called : List ℕ) → bytes_eq called (codes "length") ≡ false → bytes_eq called (codes "value") ≡ false → bytes_eq called (codes "count") ≡ false → bytes_eq called (codes "search") ≡ false → bytes_eq called (codes "match") ≡ false → is_table_name called ≡ false
  custom_name called e1 e2 e3 e4 e5 = rw (e1, e2, e3, e4, e5) refl

  -- the call of a name
  call_spelled : (called : List ℕ) (xs : Arguments) (c : Call) (t : List ℕ) → IsFunctionName called → call_of called xs ≡ Some c → SpellsCalled called (SpellsArguments Number xs) t → SpellsCall Number c t
  call_spelled called xs c t hn e h = elim (chosen (bytes_eq called (codes "length")) _ _ _ e) [
    | inl here ↦ one_call length_call (codes "length") called xs c t (λ x s k. k) here.0 here.1 h
    | inr e1 ↦ elim (chosen (bytes_eq called (codes "value")) _ _ _ e1.1) [
      | inl here ↦ one_call value_call (codes "value") called xs c t (λ x s k. k) here.0 here.1 h
      | inr e2 ↦ elim (chosen (bytes_eq called (codes "count")) _ _ _ e2.1) [
        | inl here ↦ one_call count_call (codes "count") called xs c t (λ x s k. k) here.0 here.1 h
        | inr e3 ↦ elim (chosen (bytes_eq called (codes "search")) _ _ _ e3.1) [
          | inl here ↦ two_call (λ p. search_call p.0 p.1) (codes "search") called xs c t (λ p s k. k) here.0 here.1 h
          | inr e4 ↦ elim (chosen (bytes_eq called (codes "match")) _ _ _ e4.1) [
            | inl here ↦ two_call (λ p. match_call p.0 p.1) (codes "match") called xs c t (λ p s k. k) here.0 here.1 h
            | inr e5 ↦ (
                let k : custom_call called xs ≡ c = cc in
                subst (λ v. SpellsCall Number v t) k ((hn, custom_name called e1.0 e2.0 e3.0 e4.0 e5.0), h))
          ]
        ]
      ]
    ]
  ]

  -- ---- two or more operands

  -- whether there is one
  abbrev IsSome : Filters → Type 0
  IsSome no_filters = ⊥
  IsSome (filter_then f fs) = Unit {0}

  ands_spelled : (fs : Filters) (f : Filter) (gs : Filters) (a r : List ℕ) → fs ≡ filter_then f gs → IsSome gs → SpellsBasic Number f a → SpellsMoreAnd Number gs r → SpellsConjunctionArgument (filter_argument (and fs)) (a ++ r)
  ands_spelled fs f no_filters a r same some ha hr = absurd some
  ands_spelled fs f (filter_then g gs) a r same some ha hr = rw same (tt, (refl, (tt, (a, r, ha, hr, refl))))

  ors_spelled : (fs : Filters) (f : Filter) (gs : Filters) (a r : List ℕ) → fs ≡ filter_then f gs → IsSome gs → SpellsConjunction Number f a → SpellsMoreOr Number gs r → SpellsArgument Number (filter_argument (or fs)) (a ++ r)
  ors_spelled fs f no_filters a r same some ha hr = absurd some
  ors_spelled fs f (filter_then g gs) a r same some ha hr = rw same (tt, (tt, (a, r, ha, hr, refl)))

module _ (Number : Option ℤ → List ℕ → Type 0)
    (number_literal_at : List ℕ → Read (Option ℤ))
    (number_sound : (v : Option ℤ) (text rest : List ℕ) → number_literal_at text ≡ Some (v, rest) → Spelled Number v text rest)
    (argument_at : List ℕ → Read Argument)
    (oracle : (x : Argument) (text rest : List ℕ) → argument_at text ≡ Some (x, rest) → Spelled (SpellsArgument Number) x text rest) where
  -- ---- operands

  -- all of them, perhaps none
  sound_all_arguments : (xs : Arguments) (text rest : List ℕ) → all_arguments_at number_literal_at argument_at text ≡ Some (xs, rest) → Spelled (SpellsArguments Number) xs text rest
  unfolding all_arguments_at
  sound_all_arguments xs text rest e = elim (chosen (first text == 41) _ _ _ e) [
    | inl none ↦ moved (SpellsArguments Number) no_arguments xs text text rest none.1 ([], refl, refl)
    | inr some ↦ (
        let (x, more, a, r, same, ha, hr, er) = sound_separated argument no_arguments argument_at (SpellsArgument Number) (SpellsMoreArguments Number) oracle refl (λ y ys t h. h) (suc (length text)) xs text rest some.1 in
        (a ++ r, subst (λ v. SpellsArguments Number v (a ++ r)) (sym same) (a, r, ha, hr, refl), gathered text a r rest er))
  ]

  -- a call that is read, with its name
  sound_called : (called : List ℕ) (c : Call) (text rest : List ℕ) → IsFunctionName called → called_at number_literal_at argument_at called text ≡ Some (c, rest) → Spelled (SpellsCall Number) c (called ++ (40 ∷ text)) rest
  unfolding called_at
  sound_called called c text rest hn e =
      let (xs, read, e1) = bind_ok _ (all_arguments_at number_literal_at argument_at (skip_blank text)) _ e in
      let (end, close, e2) = bind_ok _ (after_byte 41 (skip_blank xs.1)) _ e1 in
      let (d, is, e3) = bind_ok _ (call_of called xs.0) _ e2 in
      let (b, hb, eb) = skip_split text in
      let (a, ha, ea) = sound_all_arguments xs.0 (skip_blank text) xs.1 read in
      let (z, hz, ez) = skip_split xs.1 in
      moved (SpellsCall Number) d c (called ++ (40 ∷ text)) end rest e3 (
        (called ++ 40 ∷ []) ++ (b ++ (a ++ (z ++ 41 ∷ []))),
        call_spelled Number called xs.0 d ((called ++ 40 ∷ []) ++ (b ++ (a ++ (z ++ 41 ∷ [])))) hn is (b, a, z, hb, ha, hz, refl),
        call_pieces called text (skip_blank text) xs.1 (skip_blank xs.1) end b a z eb ea ez (byte_read (skip_blank xs.1) 41 end close (omega arith)),
      )

  -- a call or a word that is read
  sound_word_operand : (x : Argument) (text rest : List ℕ) → word_operand_at number_literal_at argument_at text ≡ Some (x, rest) → Spelled (SpellsAlone Number) x text rest
  unfolding word_operand_at
  sound_word_operand x text rest e =
      let (w, read, e1) = bind_ok _ (word_at text) _ e in
      let (hn, ew) = word_sound text w.0 w.1 read in
      elim (chosen (first w.1 == 40) _ _ _ e1) [
        | inl open_ ↦ (
            let (c, called, e2) = bind_ok _ (called_at number_literal_at argument_at w.0 (drop 1 w.1)) _ open_.1 in
            let (a, ha, ea) = sound_called w.0 c.0 (drop 1 w.1) c.1 hn called in
            moved (SpellsAlone Number) (test_argument (call c.0)) x text c.1 rest e2 (a, ha, ew ∙ ap (λ v. w.0 ++ v) (at_front w.1 40 open_.0 (omega arith)) ∙ ea))
        | inr plain ↦ (
            let (l, is, e2) = bind_ok _ (word_literal w.0) _ plain.1 in
            moved (SpellsAlone Number) (literal_argument l) x text w.1 rest e2 (w.0, word_spelled Number w.0 l is, ew))
      ]

  -- a literal, a query or a call that is read
  pub sound_operand : (x : Argument) (text rest : List ℕ) → operand_at number_literal_at argument_at text ≡ Some (x, rest) → Spelled (SpellsAlone Number) x text rest
  unfolding operand_at
  sound_operand x text rest e = elim (chosen (first text == 64) _ _ _ e) [
    | inl here ↦ (
        let (gs, read, e1) = bind_ok _ (all_segments_at number_literal_at argument_at (drop 1 text)) _ here.1 in
        let (a, ha, ea) = sound_all_segments Number number_literal_at argument_at oracle gs.0 (drop 1 text) gs.1 read in
        moved (SpellsAlone Number) (test_argument (relative gs.0)) x text gs.1 rest e1 (64 ∷ a, (a, ha, refl), at_front text 64 here.0 (omega arith) ∙ ap (λ v. 64 ∷ v) ea))
    | inr no_current ↦ elim (chosen (first text == 36) _ _ _ no_current.1) [
      | inl here ↦ (
          let (gs, read, e1) = bind_ok _ (all_segments_at number_literal_at argument_at (drop 1 text)) _ here.1 in
          let (a, ha, ea) = sound_all_segments Number number_literal_at argument_at oracle gs.0 (drop 1 text) gs.1 read in
          moved (SpellsAlone Number) (test_argument (absolute gs.0)) x text gs.1 rest e1 (36 ∷ a, (a, ha, refl), at_front text 36 here.0 (omega arith) ∙ ap (λ v. 36 ∷ v) ea))
      | inr no_root ↦ elim (chosen (is_quote (first text)) _ _ _ no_root.1) [
        | inl here ↦ (
            let (s, read, e1) = bind_ok _ (string_at text) _ here.1 in
            moved (SpellsAlone Number) (literal_argument (string s.0)) x text s.1 rest e1 (sound_string s.0 text s.1 read))
        | inr no_quote ↦ elim (chosen (is_int_first (first text)) _ _ _ no_quote.1) [
          | inl here ↦ (
              let (n, read, e1) = bind_ok _ (number_literal_at text) _ here.1 in
              moved (SpellsAlone Number) (literal_argument (number n.0)) x text n.1 rest e1 (number_sound n.0 text n.1 read))
          | inr plain ↦ sound_word_operand x text rest plain.1
        ]
      ]
    ]
  ]

  -- ---- groups and comparisons

  -- a group that is read, with what stands before it
  sound_group : (negated : Bool) (x : Argument) (p text rest : List ℕ) → SpellsNot negated p → group_at number_literal_at argument_at negated text ≡ Some (x, rest) → Spelled (SpellsBasicArgument Number) x (p ++ text) rest
  unfolding group_at
  sound_group negated x p text rest hp e =
      let (inner, open_, e1) = bind_ok _ (after_byte 40 text) _ e in
      let (f, read, e2) = bind_ok _ (logical_at number_literal_at argument_at (skip_blank inner)) _ e1 in
      let (end, close, e3) = bind_ok _ (after_byte 41 (skip_blank f.1)) _ e2 in
      let (b, hb, eb) = skip_split inner in
      let (c, hc, ec) = skip_split f.1 in
      let (a, ha, ea) = sound_logical Number number_literal_at argument_at oracle f.0 (skip_blank inner) f.1 read in
      moved (SpellsBasicArgument Number) (filter_argument (group negated f.0)) x (p ++ text) end rest e3 (
        p ++ (40 ∷ (b ++ (a ++ (c ++ 41 ∷ [])))),
        (tt, (refl, (p, 40 ∷ (b ++ (a ++ (c ++ 41 ∷ []))), hp, (b, a, c, hb, ha, hc, refl), refl))),
        group_pieces p text inner (skip_blank inner) f.1 (skip_blank f.1) end b a c (byte_read text 40 inner open_ (omega arith)) eb ea ec (byte_read (skip_blank f.1) 41 end close (omega arith)),
      )

  -- what is read behind `!`
  sound_negated : (x : Argument) (p text rest : List ℕ) → SpellsNot true p → negated_at number_literal_at argument_at text ≡ Some (x, rest) → Spelled (SpellsBasicArgument Number) x (p ++ text) rest
  unfolding negated_at
  sound_negated x p text rest hp e = elim (chosen (first text == 40) _ _ _ e) [
    | inl round ↦ sound_group true x p text rest hp round.1
    | inr other ↦ (
        let (y, read, e1) = bind_ok _ (operand_at number_literal_at argument_at text) _ other.1 in
        let (f, is, e2) = bind_ok _ (negated_of y.0) _ e1 in
        let (a, ha, ea) = sound_operand y.0 text y.1 read in
        moved (SpellsBasicArgument Number) f x (p ++ text) y.1 rest e2 (p ++ a, negated_spelled Number y.0 f p a hp ha is, ap (λ v. p ++ v) ea ∙ sym (append_assoc p a y.1)))
  ]

  -- a comparison that is read, with its left side
  sound_compared : (left x : Argument) (a b text rest : List ℕ) → SpellsAlone Number left a → IsBlank b → compared_at number_literal_at argument_at left text ≡ Some (x, rest) → Spelled (SpellsBasicArgument Number) x (a ++ (b ++ text)) rest
  unfolding compared_at
  sound_compared left x a b text rest ha hb e =
      let (op, sign, e1) = bind_ok _ (operator_at text) _ e in
      let (right, read, e2) = bind_ok _ (operand_at number_literal_at argument_at (skip_blank op.1)) _ e1 in
      let (l, lis, e3) = bind_ok _ (comparable_of left) _ e2 in
      let (r, ris, e4) = bind_ok _ (comparable_of right.0) _ e3 in
      let (o, ho, eo) = sound_operator op.0 text op.1 sign in
      let (c, hc, ec) = skip_split op.1 in
      let (d, hd, ed) = sound_operand right.0 (skip_blank op.1) right.1 read in
      moved (SpellsBasicArgument Number) (filter_argument (compare op.0 l r)) x (a ++ (b ++ text)) right.1 rest e4 (
        a ++ (b ++ (o ++ (c ++ d))),
        (tt, (refl, (a, b, o, c, d, comparable_spelled Number left l a ha lis, hb, ho, hc, comparable_spelled Number right.0 r d hd ris, refl))),
        compared_pieces a b text op.1 (skip_blank op.1) right.1 o c d eo ec ed,
      )

  -- an operand alone or a comparison that is read
  sound_plain : (x : Argument) (text rest : List ℕ) → plain_at number_literal_at argument_at text ≡ Some (x, rest) → Spelled (SpellsBasicArgument Number) x text rest
  unfolding plain_at
  sound_plain x text rest e =
      let (y, read, e1) = bind_ok _ (operand_at number_literal_at argument_at text) _ e in
      let (a, ha, ea) = sound_operand y.0 text y.1 read in
      elim (chosen (is_operator_first (first (skip_blank y.1))) _ _ _ e1) [
        | inl go ↦ (
            let (b, hb, eb) = skip_split y.1 in
            let (z, hz, ez) = sound_compared y.0 x a b (skip_blank y.1) rest ha hb go.1 in
            (z, hz, ea ∙ ap (λ v. a ++ v) eb ∙ ez))
        | inr stop ↦ moved (SpellsBasicArgument Number) y.0 x text y.1 rest stop.1 (a, alone_basic Number y.0 a ha, ea)
      ]

  -- an operand of `&&` that is read
  pub sound_basic : (x : Argument) (text rest : List ℕ) → basic_at number_literal_at argument_at text ≡ Some (x, rest) → Spelled (SpellsBasicArgument Number) x text rest
  unfolding basic_at
  sound_basic x text rest e = elim (chosen (first text == 33) _ _ _ e) [
    | inl bang ↦ (
        let (b, hb, eb) = skip_split (drop 1 text) in
        let (z, hz, ez) = sound_negated x (33 ∷ b) (skip_blank (drop 1 text)) rest (b, hb, refl) bang.1 in
        (z, hz, at_front text 33 bang.0 (omega arith) ∙ ap (λ v. 33 ∷ v) eb ∙ ez))
    | inr other ↦ elim (chosen (first text == 40) _ _ _ other.1) [
      | inl round ↦ sound_group false x [] text rest refl round.1
      | inr plain ↦ sound_plain x text rest plain.1
    ]
  ]

  -- ---- `&&` and `||`

  -- an operand of `&&` behind one
  abbrev SpellsNextAnd : Filter → List ℕ → Type 0
  SpellsNextAnd f text = (b c a : List ℕ) × IsBlank b × IsBlank c × SpellsBasic Number f a × (text ≡ b ++ (38 ∷ 38 ∷ (c ++ a)))

  sound_next_and : (f : Filter) (text rest : List ℕ) → is_twice 38 (skip_blank text) ≡ true → operand_behind (basic_at number_literal_at argument_at) text ≡ Some (f, rest) → Spelled SpellsNextAnd f text rest
  sound_next_and f text rest go e =
      let (x, read, e1) = bind_ok _ (basic_at number_literal_at argument_at (skip_blank (drop 2 (skip_blank text)))) _ e in
      let (g, is, e2) = bind_ok _ (filter_of x.0) _ e1 in
      let (b, hb, eb) = skip_split text in
      let (c, hc, ec) = skip_split (drop 2 (skip_blank text)) in
      let (a, ha, ea) = sound_basic x.0 (skip_blank (drop 2 (skip_blank text))) x.1 read in
      moved SpellsNextAnd g f text x.1 rest e2 (b ++ (38 ∷ 38 ∷ (c ++ a)), (b, c, a, hb, hc, basic_operand Number x.0 g a ha is, refl), marked (38 ∷ 38 ∷ []) text (skip_blank text) (drop 2 (skip_blank text)) (skip_blank (drop 2 (skip_blank text))) x.1 b c a eb (twice_front 38 (skip_blank text) go (omega arith)) ec ea)

  next_ands : (f : Filter) (fs : Filters) (a r : List ℕ) → SpellsNextAnd f a → SpellsMoreAnd Number fs r → SpellsMoreAnd Number (filter_then f fs) (a ++ r)
  next_ands f fs a r h hr = let (b, c, x, hb, hc, hx, e) = h in (b, c, x, r, hb, hc, hx, hr, ap (λ v. v ++ r) e ∙ marked_others (38 ∷ 38 ∷ []) b c x r)

  -- operands of `&&` that are read behind the first one; where `&&` stands in front, there is one
  sound_ands : (k : ℕ) (gs : Filters) (text rest : List ℕ) → ands_at number_literal_at argument_at k text ≡ Some (gs, rest) → (is_twice 38 (skip_blank text) ≡ true → IsSome Number gs) × Spelled (SpellsMoreAnd Number) gs text rest
  sound_ands k gs text rest e = (
    λ go. let (f, fs, same) = many_some filter_then no_filters (operand_behind (basic_at number_literal_at argument_at)) (λ t. is_twice 38 (skip_blank t)) k gs text rest e go in rw same tt,
    sound_many filter_then no_filters (operand_behind (basic_at number_literal_at argument_at)) (λ t. is_twice 38 (skip_blank t)) SpellsNextAnd (SpellsMoreAnd Number) sound_next_and refl next_ands k gs text rest e,
  )

  -- an operand of `||` that is read
  pub sound_conjunction : (x : Argument) (text rest : List ℕ) → conjunction_at number_literal_at argument_at text ≡ Some (x, rest) → Spelled (SpellsConjunctionArgument Number) x text rest
  unfolding conjunction_at
  sound_conjunction x text rest e =
      let (y, read, e1) = bind_ok _ (basic_at number_literal_at argument_at text) _ e in
      let (a, ha, ea) = sound_basic y.0 text y.1 read in
      elim (chosen (is_twice 38 (skip_blank y.1)) _ _ _ e1) [
        | inl go ↦ (
            let (f, is, e2) = bind_ok _ (filter_of y.0) _ go.1 in
            let (fs, more, e3) = bind_ok _ (found_then filter_then (f ∷ []) (ands_at number_literal_at argument_at (suc (length y.1)) y.1)) _ e2 in
            let (gs, read_more, e4) = bind_ok _ (ands_at number_literal_at argument_at (suc (length y.1)) y.1) _ more in
            let (same, left) = same_parts (filter_then f gs.0) fs.0 gs.1 fs.1 e4 in
            let (some, spelled) = sound_ands (suc (length y.1)) gs.0 y.1 gs.1 read_more in
            let (r, hr, er) = spelled in
            moved (SpellsConjunctionArgument Number) (filter_argument (and fs.0)) x text fs.1 rest e3
            (a ++ r, ands_spelled Number fs.0 f gs.0 a r (sym same) (some go.0) (basic_operand Number y.0 f a ha is) hr, glue text a y.1 r fs.1 ea (er ∙ ap (λ v. r ++ v) left)))
        | inr stop ↦ moved (SpellsConjunctionArgument Number) y.0 x text y.1 rest stop.1 (a, basic_conjunction Number y.0 a ha, ea)
      ]

  -- an operand of `||` behind one
  abbrev SpellsNextOr : Filter → List ℕ → Type 0
  SpellsNextOr f text = (b c a : List ℕ) × IsBlank b × IsBlank c × SpellsConjunction Number f a × (text ≡ b ++ (124 ∷ 124 ∷ (c ++ a)))

  sound_next_or : (f : Filter) (text rest : List ℕ) → is_twice 124 (skip_blank text) ≡ true → operand_behind (conjunction_at number_literal_at argument_at) text ≡ Some (f, rest) → Spelled SpellsNextOr f text rest
  sound_next_or f text rest go e =
      let (x, read, e1) = bind_ok _ (conjunction_at number_literal_at argument_at (skip_blank (drop 2 (skip_blank text)))) _ e in
      let (g, is, e2) = bind_ok _ (filter_of x.0) _ e1 in
      let (b, hb, eb) = skip_split text in
      let (c, hc, ec) = skip_split (drop 2 (skip_blank text)) in
      let (a, ha, ea) = sound_conjunction x.0 (skip_blank (drop 2 (skip_blank text))) x.1 read in
      moved SpellsNextOr g f text x.1 rest e2 (b ++ (124 ∷ 124 ∷ (c ++ a)), (b, c, a, hb, hc, conjunction_operand Number x.0 g a ha is, refl), marked (124 ∷ 124 ∷ []) text (skip_blank text) (drop 2 (skip_blank text)) (skip_blank (drop 2 (skip_blank text))) x.1 b c a eb (twice_front 124 (skip_blank text) go (omega arith)) ec ea)

  next_ors : (f : Filter) (fs : Filters) (a r : List ℕ) → SpellsNextOr f a → SpellsMoreOr Number fs r → SpellsMoreOr Number (filter_then f fs) (a ++ r)
  next_ors f fs a r h hr = let (b, c, x, hb, hc, hx, e) = h in (b, c, x, r, hb, hc, hx, hr, ap (λ v. v ++ r) e ∙ marked_others (124 ∷ 124 ∷ []) b c x r)

  -- operands of `||` that are read behind the first one; where `||` stands in front, there is one
  sound_ors : (k : ℕ) (gs : Filters) (text rest : List ℕ) → ors_at number_literal_at argument_at k text ≡ Some (gs, rest) → (is_twice 124 (skip_blank text) ≡ true → IsSome Number gs) × Spelled (SpellsMoreOr Number) gs text rest
  sound_ors k gs text rest e = (
    λ go. let (f, fs, same) = many_some filter_then no_filters (operand_behind (conjunction_at number_literal_at argument_at)) (λ t. is_twice 124 (skip_blank t)) k gs text rest e go in rw same tt,
    sound_many filter_then no_filters (operand_behind (conjunction_at number_literal_at argument_at)) (λ t. is_twice 124 (skip_blank t)) SpellsNextOr (SpellsMoreOr Number) sound_next_or refl next_ors k gs text rest e,
  )

  -- an argument that is read, one turn of the recursion
  pub sound_disjunction : (x : Argument) (text rest : List ℕ) → disjunction_at number_literal_at argument_at text ≡ Some (x, rest) → Spelled (SpellsArgument Number) x text rest
  unfolding disjunction_at
  sound_disjunction x text rest e =
      let (y, read, e1) = bind_ok _ (conjunction_at number_literal_at argument_at text) _ e in
      let (a, ha, ea) = sound_conjunction y.0 text y.1 read in
      elim (chosen (is_twice 124 (skip_blank y.1)) _ _ _ e1) [
        | inl go ↦ (
            let (f, is, e2) = bind_ok _ (filter_of y.0) _ go.1 in
            let (fs, more, e3) = bind_ok _ (found_then filter_then (f ∷ []) (ors_at number_literal_at argument_at (suc (length y.1)) y.1)) _ e2 in
            let (gs, read_more, e4) = bind_ok _ (ors_at number_literal_at argument_at (suc (length y.1)) y.1) _ more in
            let (same, left) = same_parts (filter_then f gs.0) fs.0 gs.1 fs.1 e4 in
            let (some, spelled) = sound_ors (suc (length y.1)) gs.0 y.1 gs.1 read_more in
            let (r, hr, er) = spelled in
            moved (SpellsArgument Number) (filter_argument (or fs.0)) x text fs.1 rest e3
            (a ++ r, ors_spelled Number fs.0 f gs.0 a r (sym same) (some go.0) (conjunction_operand Number y.0 f a ha is) hr, glue text a y.1 r fs.1 ea (er ∙ ap (λ v. r ++ v) left)))
        | inr stop ↦ moved (SpellsArgument Number) y.0 x text y.1 rest stop.1 (a, conjunction_argument Number y.0 a ha, ea)
      ]
