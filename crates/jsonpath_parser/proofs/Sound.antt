-- What is read is spelled so: an argument at each depth, and the whole query.
use Rattle.std.proofs.Common.{◌≡◌, ℕ, zero, suc, true, ◌==◌, ℤ, pos, unwrap_or, List, [], ◌∷◌, ◌++◌, length, Option, Some, refl, ap, ◌∙◌, append-nil, arith}
use Rattle.std.proofs.lemmas.Bool.Decides.{nat_tests}
use Rattle.std.proofs.lemmas.Option.{cond_some}
use Rattle.jsonpath_parser.specs.Prelude.{after_byte, Any, Argument, argument_at, IsAny, IsValued, number_at, number_reading, Query, query_at, Read, Spells, SpellsArgument, Valued, whole_query}
use Rattle.jsonpath_parser.proofs.NumberSound.{sound_number}
use Rattle.jsonpath_parser.proofs.SoundFilters.{sound_disjunction}
use Rattle.jsonpath_parser.proofs.SoundParts.{bind_ok, byte_read, Spelled, moved}
use Rattle.jsonpath_parser.proofs.SoundSegments.{sound_all_segments}

-- a text of no byte
none_left : (xs : List ℕ) → (length xs == 0) ≡ true → xs ≡ []
none_left [] h = refl
none_left (x ∷ xs) h = absurd (grind (arith, nat_tests))

-- a text that is read to its end
all_read : (a rest more : List ℕ) → rest ≡ a ++ more → more ≡ [] → rest ≡ a
all_read a rest more e none = e ∙ ap (λ v. a ++ v) none ∙ append-nil a

module _ (Number : Option ℤ → List ℕ → Type 0)
    (number_literal_at : List ℕ → Read (Option ℤ))
    (number_sound : (v : Option ℤ) (text rest : List ℕ) → number_literal_at text ≡ Some (v, rest) → Spelled Number v text rest) where
  -- An argument that is read, however deep its parts nest, is a front of the text that spells it.
  pub sound_argument : (n : ℕ) (x : Argument) (text rest : List ℕ) → argument_at number_literal_at n text ≡ Some (x, rest) → Spelled (SpellsArgument Number) x text rest
  unfolding argument_at
  sound_argument zero x text rest e = absurd (cc)
  sound_argument (suc n) x text rest e = sound_disjunction Number number_literal_at number_sound (argument_at number_literal_at n) (sound_argument n) x text rest e

  -- The query that the whole text is read as is one that it spells.
  pub sound_query : (t : Query) (text : List ℕ) → whole_query number_literal_at text ≡ Some t → Spells Number t text
  unfolding whole_query query_at
  sound_query t text e =
      let (q, read, e1) = bind_ok _ (query_at number_literal_at (length text) text) _ e in
      let (end, same) = cond_some (length q.1 == 0) q.0 t e1 in
      let (rest, dollar, e2) = bind_ok _ (after_byte 36 text) _ read in
      let (a, ha, ea) = sound_all_segments Number number_literal_at (argument_at number_literal_at (length text)) (sound_argument (length text)) q.0 rest q.1 e2 in
      rw (← same) (a, ha, byte_read text 36 rest dollar (omega arith) ∙ ap (λ v. 36 ∷ v) (all_read a rest q.1 ea (none_left q.1 end)))

-- ---- the two readings of a number literal

-- a number literal with a value
pub valued_sound : (v : Option ℤ) (text rest : List ℕ) → number_reading Valued text ≡ Some (v, rest) → Spelled IsValued v text rest
unfolding number_reading
valued_sound v text rest e =
    let (n, read, e1) = bind_ok _ (number_at text) _ e in
    let (i, some, e2) = bind_ok _ n.0 _ e1 in
    let (a, ha, ea) = sound_number n.0 text n.1 read in
    moved IsValued (Some i) v text n.1 rest e2 (a, (rw (← some) ha, refl), ea)

-- any number literal
pub any_sound : (v : Option ℤ) (text rest : List ℕ) → number_reading Any text ≡ Some (v, rest) → Spelled IsAny v text rest
unfolding number_reading
any_sound v text rest e =
    let (n, read, e1) = bind_ok _ (number_at text) _ e in
    let (a, ha, ea) = sound_number n.0 text n.1 read in
    moved IsAny (Some (unwrap_or n.0 (pos 0))) v text n.1 rest e1 (a, (n.0, ha, refl), ea)

-- A query that is read, where each number literal has to have a value.
pub sound_valued : (t : Query) (text : List ℕ) → whole_query (number_reading Valued) text ≡ Some t → Spells IsValued t text
sound_valued = sound_query IsValued (number_reading Valued) valued_sound

-- A query that is read, where a number literal without a value stands as 0.
pub sound_any : (t : Query) (text : List ℕ) → whole_query (number_reading Any) text ≡ Some t → Spells IsAny t text
sound_any = sound_query IsAny (number_reading Any) any_sound
