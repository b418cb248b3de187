-- A pattern without its groups is found where the pattern is, and matches whole characters where it does.
use Rattle.std.proofs.Common.{◌≡◌, ℕ, zero, suc, ◌+◌, ◌-◌, ◌<◌, ◌≤◌, Bool, true, false, cond, ◌||◌, List, [], ◌∷◌, map, length, Option, None, Some, is_some, option_map, sym, refl, ap, ap₂, ◌∙◌, subst, inl, inr, ⊎_elim, arith, IsCharBoundary}
use Rattle.std.proofs.lemmas.Bool.{cases_Bool}
use Rattle.std.proofs.lemmas.List.Elements.{All-nil}
use Rattle.std.specs.Option.{option_or}
use Rattle.regex.specs.Patterns.{Re, empty, literal, byte_in, char_in, look, cat, alt, group, plus, Matches, find_str, span}
use Rattle.regex.specs.Writes.{HasTextParts}
use Rattle.regex.proofs.WritesLemmas.{HasTextParts-repeat, HasTextParts-alt_all}
use Rattle.regex_hir.specs.Re.{Rest, accept, attempt}
use Rattle.regex_hir.specs.Find.{first_from, find}
use Rattle.regex_hir.specs.Text.{is_boundary}
use Rattle.regex_hir.specs.Matches.{Rounds, one_round, next_round}
use Rattle.regex_hir.specs.Meaning.{meaning, node_meaning, cat_all, alt_all, optional, copies, up_to, repeat}
use Rattle.regex_hir.specs.declared.hir.Hir.{Hir, Empty, Literal, Bytes, Chars, Look, Repetition', Capture', Concat', Alternation', Row_of-Hir, end_of-Hir, more_of-Hir, items-the_row-Hir, items_shown-the_row-Hir-0, map-Hir, fold_out-Hir}
use Rattle.regex_hir.specs.declared.hir.Hir.TheVariants.{outs-Concat', outs-Alternation'}
use Rattle.regex_hir.proofs.AttemptLemmas.{attempt_complete}
use Rattle.regex_hir.proofs.MeaningLemmas.{meaning-Empty, meaning-Literal, meaning-Bytes, meaning-Chars, meaning-Look, meaning-Repetition, meaning-Capture}
use Rattle.regex_hir.proofs.OptionLemmas.{value_of_IsSome}
use Rattle.regex_meta.proofs.LeftmostLemmas.{Matches-of_attempt}
use Rattle.regex_meta.proofs.ProgramLemmas.{none_of_option_map, value_of_option_map}
use Rattle.regex.proofs.SearchLemmas.{leftmost_none, leftmost_here, leftmost_retry, leftmost_within, inside_char}
use Rattle.regex.proofs.Utf8Lemmas.{IsCharBoundary-of_test, test_of_IsCharBoundary}
use Rattle.regex_syntax.specs.WellFormed.{IsWellFormed, AreWellFormed}
use Rattle.jsonpath_base.specs.inner.Groups.{without_groups}

-- ---- of a tree's parts

pub without-cat_all : (xs : List Re) → without_groups (cat_all xs) ≡ cat_all (map without_groups xs)
without-cat_all [] = refl
without-cat_all (x ∷ xs) = ap (cat (without_groups x)) (without-cat_all xs)

pub without-alt_all : (xs : List Re) → without_groups (alt_all xs) ≡ alt_all (map without_groups xs)
without-alt_all [] = refl
without-alt_all (x ∷ xs) = ap (alt (without_groups x)) (without-alt_all xs)

without-optional : (greedy : Bool) (a : Re) → without_groups (optional greedy a) ≡ optional greedy (without_groups a)
without-optional true a = refl
without-optional false a = refl

without-copies : (n : ℕ) (a b : Re) → without_groups (copies n a b) ≡ copies n (without_groups a) (without_groups b)
without-copies zero a b = refl
without-copies (suc n) a b = ap (cat (without_groups a)) (without-copies n a b)

without-up_to : (greedy : Bool) (n : ℕ) (a : Re) → without_groups (up_to greedy n a) ≡ up_to greedy n (without_groups a)
without-up_to greedy zero a = refl
without-up_to greedy (suc n) a =
    without-optional greedy (cat a (up_to greedy n a)) ∙ ap (λ x. optional greedy (cat (without_groups a) x)) (without-up_to greedy n a)

pub without-repeat : (least : ℕ) (most : Option ℕ) (greedy : Bool) (a : Re) →
    without_groups (repeat least most greedy a) ≡ repeat least most greedy (without_groups a)
unfolding repeat
without-repeat zero None greedy a = without-optional greedy (plus greedy a)
without-repeat (suc n) None greedy a = without-copies n a (plus greedy a)
without-repeat least (Some most) greedy a =
    without-copies least a (up_to greedy (most - least) a) ∙ ap (copies least (without_groups a)) (without-up_to greedy (most - least) a)

-- ---- the same matches

rounds_through : (R S : ℕ → ℕ → Type 0) → ((i j : ℕ) → R i j → S i j) → (i j : ℕ) → Rounds R i j → Rounds S i j
rounds_through R S through i j (one_round _ r) = one_round j (through i j r)
rounds_through R S through i j (next_round l _ rs r) = next_round l j (rounds_through R S through i l rs) (through l j r)

module _ (hay : List ℕ) where
  into : (re : Re) (i j : ℕ) → Matches hay re i j → Matches hay (without_groups re) i j
  into empty i j m = m
  into (literal bs) i j m = m
  into (byte_in rs) i j m = m
  into (char_in rs) i j m = m
  into (look l) i j m = m
  into (cat a b) i j m = (m.0, into a i m.0 m.1, into b m.0 j m.2)
  into (alt a b) i j m = ⊎_elim (λ p. inl (into a i j p)) (λ p. inr (into b i j p)) m
  into (group n a) i j m = into a i j m
  into (plus greedy a) i j m = rounds_through (Matches hay a) (Matches hay (without_groups a)) (into a) i j m

  back : (re : Re) (i j : ℕ) → Matches hay (without_groups re) i j → Matches hay re i j
  back empty i j m = m
  back (literal bs) i j m = m
  back (byte_in rs) i j m = m
  back (char_in rs) i j m = m
  back (look l) i j m = m
  back (cat a b) i j m = (m.0, back a i m.0 m.1, back b m.0 j m.2)
  back (alt a b) i j m = ⊎_elim (λ p. inl (back a i j p)) (λ p. inr (back b i j p)) m
  back (group n a) i j m = back a i j m
  back (plus greedy a) i j m = rounds_through (Matches hay (without_groups a)) (Matches hay a) (back a) i j m

  -- what matches wherever another does is found wherever that is
  through_at : (a b : Re) → ((i j : ℕ) → Matches hay a i j → Matches hay b i j) → (i : ℕ) →
      is_some (attempt hay a accept i) ≡ true → is_some (attempt hay b accept i) ≡ true
  through_at a b through i some =
      let found = value_of_IsSome (attempt hay a accept i) some in
      attempt_complete hay b accept i found.0.end (through i found.0.end (Matches-of_attempt a hay i found.0 found.1)) refl

  alike_at : (re : Re) (i : ℕ) → is_some (attempt hay (without_groups re) accept i) ≡ is_some (attempt hay re accept i)
  alike_at re i = both_or_none _ _ (through_at (without_groups re) re (back re) i) (through_at re (without_groups re) (into re) i)
    where
      both_or_none : (x y : Bool) → (x ≡ true → y ≡ true) → (y ≡ true → x ≡ true) → x ≡ y
      both_or_none true y f g = sym (f refl)
      both_or_none false true f g = g refl
      both_or_none false false f g = refl

-- ---- so it is found in the same texts

is_some-option_map : {A B : Type 0} (f : A → B) (o : Option A) → is_some (option_map f o) ≡ is_some o
is_some-option_map f None = refl
is_some-option_map f (Some x) = refl

is_some-option_or : {A : Type 0} (a b : Option A) → is_some (option_or a b) ≡ (is_some a || is_some b)
is_some-option_or None b = refl
is_some-option_or (Some x) b = refl

first_alike : (f g : Rest) → ((i : ℕ) → is_some (f i) ≡ is_some (g i)) → (n i : ℕ) →
    is_some (first_from f n i) ≡ is_some (first_from g n i)
unfolding first_from
first_alike f g same zero i = refl
first_alike f g same (suc n) i =
    is_some-option_or _ _ ∙ ap₂ ◌||◌ (is_some-option_map _ (f i) ∙ same i ∙ sym (is_some-option_map _ (g i))) (first_alike f g same n (i + 1))
    ∙ sym (is_some-option_or _ _)

pub found_without : (re : Re) (hay : List ℕ) (start : ℕ) → is_some (find_str (without_groups re) hay start) ≡ is_some (find_str re hay start)
unfolding find_str
found_without re hay start = first_alike _ _ (λ i. either (is_boundary hay i) _ _ (alike_at hay re i)) (length hay + 1 - start) start
  where
    either : {A : Type 0} (b : Bool) (o p : Option A) → is_some o ≡ is_some p → is_some (cond b o None) ≡ is_some (cond b p None)
    either true o p e = e
    either false o p e = refl

-- ---- whole characters

pub HasTextParts-without : (re : Re) → HasTextParts re → HasTextParts (without_groups re)
HasTextParts-without empty h = h
HasTextParts-without (literal bs) h = h
HasTextParts-without (byte_in rs) h = h
HasTextParts-without (char_in rs) h = h
HasTextParts-without (look l) h = h
HasTextParts-without (cat a b) h = (HasTextParts-without a h.0, HasTextParts-without b h.1)
HasTextParts-without (alt a b) h = (HasTextParts-without a h.0, HasTextParts-without b h.1)
HasTextParts-without (group n a) h = HasTextParts-without a h
HasTextParts-without (plus greedy a) h = HasTextParts-without a h

mutual
  -- a tree that was read for text matches whole characters
  pub text_parts : (h : Hir) → IsWellFormed true h → HasTextParts (meaning h)
  text_parts Empty formed = rw meaning-Empty tt
  text_parts (Literal bs) formed = rw meaning-Literal (formed refl)
  text_parts (Bytes class) formed = rw meaning-Bytes formed
  text_parts (Chars class) formed = rw meaning-Chars tt
  text_parts (Look l) formed = rw meaning-Look tt
  text_parts (Repetition' least most greedy place sub) formed =
      subst HasTextParts (sym (meaning-Repetition least most greedy (record { ptr = place.ptr; alloc = place.alloc; value = sub })))
      (HasTextParts-repeat least most greedy _ (text_parts sub formed.1))
  text_parts (Capture' index place sub) formed =
      subst HasTextParts (sym (meaning-Capture index (record { ptr = place.ptr; alloc = place.alloc; value = sub }))) (text_parts sub formed)
  text_parts (Concat' shape subs) formed =
      subst HasTextParts (sym (fold_out-Hir Re node_meaning _ ∙ ap (λ x. node_meaning (map-Hir Hir Re meaning x)) (outs-Concat' shape subs)
      ∙ ap (λ l. cat_all (map meaning l)) (items_shown-the_row-Hir-0 shape subs))) (row_parts _ subs formed).0
  text_parts (Alternation' shape subs) formed =
      subst HasTextParts (sym (fold_out-Hir Re node_meaning _ ∙ ap (λ x. node_meaning (map-Hir Hir Re meaning x)) (outs-Alternation' shape subs)
      ∙ ap (λ l. alt_all (map meaning l)) (items_shown-the_row-Hir-0 shape subs))) (row_parts _ subs formed).1

  row_parts : (n : _) (row : Row_of-Hir n) → AreWellFormed true row →
      HasTextParts (cat_all (map meaning (items-the_row-Hir n row))) × HasTextParts (alt_all (map meaning (items-the_row-Hir n row)))
  row_parts n end_of-Hir formed = (tt, HasTextParts-alt_all [] (All-nil HasTextParts))
  row_parts n (more_of-Hir sub rest) formed =
      let others = row_parts _ rest formed.1 in ((text_parts sub formed.0, others.0), (text_parts sub formed.0, others.1))

-- ---- a search in bytes, for a match that starts between characters

pub nothing_between : (re : Re) (hay : List ℕ) (at : ℕ) → None ≡ option_map span (find re hay at) → false ≡ is_some (find_str re hay at)
nothing_between re hay at e = sym (ap is_some (leftmost_none re hay true at (none_of_option_map span _ (sym e))))

module _ (re : Re) (hay : List ℕ) (at from end : ℕ) (e : Some (from, end) ≡ option_map span (find re hay at)) where
  pub found_between : IsCharBoundary hay from → true ≡ is_some (find_str re hay at)
  found_between cut =
      let v = value_of_option_map span (find re hay at) (from, end) (sym e) in
      let starts : v.0.start ≡ from = ap (λ s. s.0) v.2 in
      sym (ap is_some (leftmost_here re hay true at v.0 v.1 (λ _. ap (is_boundary hay) starts ∙ test_of_IsCharBoundary hay from cut)))

  pub further_between : ¬ (IsCharBoundary hay from) → (at ≤ from) × (from < length hay) × (find_str re hay at ≡ find_str re hay (from + 1))
  further_between inside =
      let v = value_of_option_map span (find re hay at) (from, end) (sym e) in
      let starts : v.0.start ≡ from = ap (λ s. s.0) v.2 in
      let within = leftmost_within re hay false at v.0 v.1 in
      let no_cut : is_boundary hay v.0.start ≡ false = elim (cases_Bool (is_boundary hay v.0.start)) [
        | inl t ↦ absurd (inside (IsCharBoundary-of_test hay from (omega (arith, within, starts)) (ap (is_boundary hay) (sym starts) ∙ t)))
        | inr f ↦ f
      ] in
      let below = inside_char re hay v.0.start no_cut in (
        omega (arith, within, starts),
        omega (arith, below, starts),
        leftmost_retry re hay true at v.0 refl v.1 no_cut ∙ ap (λ n. find_str re hay (n + 1)) starts,
      )
