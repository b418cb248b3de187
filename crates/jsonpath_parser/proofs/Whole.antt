-- What the readings of a whole text say of the trees that it derives.
use Rattle.std.proofs.Common.{◌≡◌, ℕ, ◌≤◌, Bool, true, false, is_some, cond, ℤ, List, Option, Some, None, option_and_then, arith, refl, ◌∙◌, subst}
use Rattle.jsonpath_parser.specs.Prelude.{Any, depth, Derives, is_typed, IsAny, IsReadRefusal, IsRefusal, IsValued, JsonPathError, number_reading, OutOfMemory, Query, Spells, SpellsNumber, Typed, Valued, whole_query}
use Rattle.jsonpath_parser.specs.Derives.{SpellsTyped, SpellsValueless}
use Rattle.jsonpath_parser.specs.inner.ReadingQuery.{typed_query}
use Rattle.jsonpath_parser.specs.declared.errors.JsonPathError.TheVariants.{PestError, InvalidNumber, MaxNestingDepthExceeded}
use Rattle.jsonpath_parser.proofs.Complete.{complete_valued, complete_any}
use Rattle.jsonpath_parser.proofs.Respelling.{query_again, from_any, as_any}
use Rattle.jsonpath_parser.proofs.Sound.{sound_valued, sound_any}
use Rattle.jsonpath_parser.proofs.Unambiguous.{query_unambiguous}
use Rattle.jsonpath_parser.proofs.Widening.{spells_wider}

-- a literal with a value is one as it is written
pub as_written : (v : Option ℤ) (a : List ℕ) → IsValued v a → SpellsNumber v a
as_written v a h = h.0

-- a tree that is read as typed was read, and is typed
typed_parts : (o : Option Query) (t : Query) → option_and_then (λ q. cond (is_typed q) (Some q) None) o ≡ Some t → (o ≡ Some t) × Typed t
typed_parts None t e = absurd (cc)
typed_parts (Some q) t e = by_typing (is_typed q) refl e
  where
    by_typing : (b : Bool) → is_typed q ≡ b → cond b (Some q) None ≡ Some t → (◌≡◌ {A = Option Query} (Some q) (Some t)) × Typed t
    by_typing true h e = let same : q ≡ t = cc in (e, subst (λ v. is_typed v ≡ true) same h)
    by_typing false h e = absurd (cc)

-- and one that is read and typed is read as typed
typed_back : (o : Option Query) (t : Query) → o ≡ Some t → Typed t → option_and_then (λ q. cond (is_typed q) (Some q) None) o ≡ Some t
typed_back o t e h = rw (e, h) refl

-- what is read with values is derived
pub read_derives : (limit : ℕ) (text : List ℕ) (t : Query) → depth text ≤ limit → typed_query Valued text ≡ Some t → Derives limit text t
unfolding typed_query
read_derives limit text t within read =
    let (whole, typed) = typed_parts (whole_query (number_reading Valued) text) t read in
    record { within = within; spelled = sound_valued t text whole; typed = typed }

-- and what is derived is read
pub derived_read : (limit : ℕ) (text : List ℕ) (t : Query) → Derives limit text t → typed_query Valued text ≡ Some t
unfolding typed_query
derived_read limit text t h = typed_back (whole_query (number_reading Valued) text) t (complete_valued t text h.spelled) h.typed

-- no other tree is derived
pub read_only : (limit : ℕ) (text : List ℕ) (t u : Query) → typed_query Valued text ≡ Some t → Derives limit text u → t ≡ u
read_only limit text t u read h = let same = derived_read limit text u h in cc

-- where nothing is read, nothing is derived
pub unread_none : (limit : ℕ) (text : List ℕ) (u : Query) → typed_query Valued text ≡ None → Derives limit text u → ⊥
unread_none limit text u none h = let same = derived_read limit text u h in cc

-- and a refusal is none of a text that derives a tree, unless memory ran out
pub refused_only : (limit : ℕ) (text : List ℕ) (e : JsonPathError) (t : Query) → IsReadRefusal limit text e → Derives limit text t → e ≡ OutOfMemory
refused_only limit text (MaxNestingDepthExceeded n) t h d = absurd (omega (arith, h.1, d.within))
refused_only limit text (InvalidNumber said) t h d = absurd (unread_none limit text t h.1 d)
refused_only limit text (PestError place) t h d = absurd (unread_none limit text t h.1 d)
refused_only limit text OutOfMemory t h d = refl
refused_only limit text _ t h d = absurd h

-- and no other tree is spelled, not even one whose number literals have no value
pub read_one : (text : List ℕ) (t u : Query) → typed_query Valued text ≡ Some t → Spells SpellsNumber u text → t ≡ u
unfolding typed_query
read_one text t u read spelled =
    let (whole, typed) = typed_parts (whole_query (number_reading Valued) text) t read in
    query_unambiguous.written t u text (spells_wider IsValued SpellsNumber as_written t text (sound_valued t text whole)) spelled

-- what is read with any number literals is spelled as it is written
pub read_written : (text : List ℕ) → is_some (typed_query Any text) ≡ true → (t : Query) × SpellsTyped text t
unfolding typed_query
read_written text some = by_answer (whole_query (number_reading Any) text) refl some
  where
    by_answer : (o : Option Query) → whole_query (number_reading Any) text ≡ o → is_some (option_and_then (λ q. cond (is_typed q) (Some q) None) o) ≡ true → (t : Query) × SpellsTyped text t
    by_answer None e some = absurd (cc)
    by_answer (Some q) e some = by_typing (is_typed q) refl some
      where
        by_typing : (b : Bool) → is_typed q ≡ b → is_some (cond b (Some q) None) ≡ true → (t : Query) × SpellsTyped text t
        by_typing true h some = let (t, spelled, alike) = query_again IsAny SpellsNumber from_any q text (sound_any q text e) in (t, (spelled, alike ∙ h))
        by_typing false h some = absurd (cc)

none_or_some : (o : Option Query) (t : Query) → o ≡ None → o ≡ Some t → ⊥
none_or_some None t none some = absurd (cc)
none_or_some (Some q) t none some = absurd (cc)

-- and what is spelled as it is written is read with any number literals
pub unread_written : (text : List ℕ) (t : Query) → typed_query Any text ≡ None → SpellsTyped text t → ⊥
unfolding typed_query
unread_written text t none h =
    let (u, spelled, alike) = query_again SpellsNumber IsAny as_any t text h.0 in
    none_or_some (typed_query Any text) u none (typed_back (whole_query (number_reading Any) text) u (complete_any u text spelled) (alike ∙ h.1))

-- where nothing is read by values, what is spelled has a number literal without one
pub written_valueless : (limit : ℕ) (text : List ℕ) → depth text ≤ limit → typed_query Valued text ≡ None → (t : Query) × SpellsTyped text t → (t : Query) × SpellsValueless text t
written_valueless limit text within none p = let (t, h) = p in (t, (h, λ v. unread_none limit text t none (record { within = within; spelled = v; typed = h.1 })))

-- a refusal of the reading is a refusal of the text
pub refusal_of : (limit : ℕ) (text : List ℕ) (e : JsonPathError) → IsReadRefusal limit text e → IsRefusal limit text e
refusal_of limit text (MaxNestingDepthExceeded n) h = h
refusal_of limit text (InvalidNumber said) h = (h.0, h.2.0, written_valueless limit text h.0 h.1 (read_written text h.2.1), λ t d. unread_none limit text t h.1 d)
refusal_of limit text (PestError place) h = (h.0, h.2.0, λ t s. unread_written text t h.2.1 s)
refusal_of limit text OutOfMemory h = h
refusal_of limit text _ h = absurd h
