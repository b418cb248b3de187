-- A query that is spelled is read: the law of arguments closes the circle, and whole texts follow.
use Rattle.std.proofs.Common.{◌≡◌, ℕ, zero, suc, ◌<◌, ◌≤◌, true, ℤ, pos, unwrap_or, List, [], ◌∷◌, ◌++◌, length, Option, Some, None, refl, append-nil, arith}
use Rattle.jsonpath_parser.specs.Prelude.{all_segments_at, Any, Argument, argument_at, first, is_int_first, IsAny, IsValued, number_at, number_reading, Query, query_at, Read, Segments, skip_blank, Spells, SpellsArgument, Valued, whole_query}
use Rattle.jsonpath_parser.proofs.NumberComplete.{EndsNumber, number_start, complete_number}
use Rattle.jsonpath_parser.proofs.CompleteParts.{EndsLogical}
use Rattle.jsonpath_parser.proofs.CompleteSegments.{complete_all_segments}
use Rattle.jsonpath_parser.proofs.CompleteFilters.{complete_body}

module _ (Number : Option ℤ → List ℕ → Type 0) (number_first : (v : Option ℤ) (a more : List ℕ) → Number v a → is_int_first (first (a ++ more)) ≡ true)
    (literal_at : List ℕ → Read (Option ℤ)) (number_over : (v : Option ℤ) (a more : List ℕ) → Number v a → EndsNumber more → literal_at (a ++ more) ≡ Some (v, more)) where
  -- an argument of a text shorter than n
  pub complete_argument : (n : ℕ) (x : Argument) (a more : List ℕ) → SpellsArgument Number x a → EndsLogical more → length (a ++ more) < n → argument_at literal_at n (a ++ more) ≡ Some (x, more)
  unfolding argument_at
  complete_argument zero x a more h stop fits = absurd (omega arith)
  complete_argument (suc n) x a more h stop fits = complete_body Number number_first literal_at number_over (argument_at literal_at n) n (complete_argument n) x a more h stop (omega arith)

  query_reads : (text : List ℕ) (gs : Segments) → all_segments_at literal_at (argument_at literal_at (suc (length text))) text ≡ Some (gs, []) → whole_query literal_at (36 ∷ text) ≡ Some gs
  unfolding whole_query query_at
  query_reads text gs read = rw read refl

  -- a whole text
  pub complete_query : (t : Query) (text : List ℕ) → Spells Number t text → whole_query literal_at text ≡ Some t
  unfolding skip_blank
  complete_query t text h =
      let (a, ha, e) = h in
      let size : length (a ++ []) ≤ suc (length a) = rw append-nil (omega arith) in
      let read = complete_all_segments Number number_first literal_at (argument_at literal_at (suc (length a))) (suc (length a)) (complete_argument (suc (length a))) t a [] ha (refl, refl) size in
      rw e (query_reads a t (rw append-nil at read))

-- ---- number literals by their value

pub valued_start : (v : Option ℤ) (a more : List ℕ) → IsValued v a → is_int_first (first (a ++ more)) ≡ true
valued_start v a more h = number_start v a more h.0

valued_reads : (text rest : List ℕ) (v : ℤ) → number_at text ≡ Some (Some v, rest) → number_reading Valued text ≡ Some (Some v, rest)
unfolding number_reading
valued_reads text rest v read = rw read refl

pub valued_over : (v : Option ℤ) (a more : List ℕ) → IsValued v a → EndsNumber more → number_reading Valued (a ++ more) ≡ Some (v, more)
valued_over None a more h stop = absurd (cc)
valued_over (Some v) a more h stop = valued_reads (a ++ more) more v (complete_number (Some v) a more h.0 stop)

-- a whole text, where each number literal has a value
pub complete_valued : (t : Query) (text : List ℕ) → Spells IsValued t text → whole_query (number_reading Valued) text ≡ Some t
complete_valued t text h = complete_query IsValued valued_start (number_reading Valued) valued_over t text h

-- ---- any number literals

pub any_start : (v : Option ℤ) (a more : List ℕ) → IsAny v a → is_int_first (first (a ++ more)) ≡ true
any_start v a more h = let (w, hw, e) = h in number_start w a more hw

any_reads : (text rest : List ℕ) (w : Option ℤ) → number_at text ≡ Some (w, rest) → number_reading Any text ≡ Some (Some (unwrap_or w (pos 0)), rest)
unfolding number_reading
any_reads text rest w read = rw read refl

pub any_over : (v : Option ℤ) (a more : List ℕ) → IsAny v a → EndsNumber more → number_reading Any (a ++ more) ≡ Some (v, more)
any_over v a more h stop = let (w, hw, e) = h in rw e (any_reads (a ++ more) more w (complete_number w a more hw stop))

-- a whole text, whether its number literals have values or not
pub complete_any : (t : Query) (text : List ℕ) → Spells IsAny t text → whole_query (number_reading Any) text ≡ Some t
complete_any t text h = complete_query IsAny any_start (number_reading Any) any_over t text h
