-- What is read is spelled so: selectors, segments and the steps of a singular query.
--
-- What an argument of a call reads is taken as a premise, so no law is mutual.
use Rattle.std.proofs.Common.{◌≡◌, ℕ, suc, true, false, ◌==◌, ℤ, List, [], ◌∷◌, ◌++◌, length, drop, slice_index, codes, Option, Some, refl, sym, ap, ◌∙◌, subst, inl, inr, append_assoc, append-nil, arith, IsTrue}
use Rattle.jsonpath_parser.specs.Prelude.{after_byte, all_segments_at, Argument, Between, descendant, descendant_at, Filter, filter, filter_argument, filter_of, first, index, is_quote, is_singular, is_step, IsBlank, IsSeveral, list_of, literal_argument, logical_at, name, no_segments, no_selectors, one, Read, Segment, segment, segment_at, Segments, selection_at, selection_of, Selector, selector, selector_at, Selectors, selectors_at, several, shorthand_at, skip_blank, slice, SpellsArgument, SpellsLogical, SpellsMoreSelectors, SpellsSegment, SpellsSegments, SpellsSelector, SpellsSelectors, starts_segment, steps_in, steps_of, string_at, test, test_argument, wildcard}
use Rattle.jsonpath_parser.specs.inner.ReadingGrammar.{step_of_segment}
use Rattle.jsonpath_parser.proofs.laws.words.Fronts.{skip_split}
use Rattle.jsonpath_parser.proofs.SoundLists.{sound_many, sound_separated}
use Rattle.jsonpath_parser.proofs.SoundParts.{bind_ok, chosen, at_front, two_front, byte_read, Spelled, moved, glue, sound_shorthand, sound_numbered}
use Rattle.jsonpath_parser.proofs.laws.words.StringSound.{sound_string}

-- the pieces of a text between two others
pub between : (before after text t1 t2 t3 t4 rest b a c : List ℕ) → text ≡ before ++ t1 → t1 ≡ b ++ t2 → t2 ≡ a ++ t3 → t3 ≡ c ++ t4 → t4 ≡ after ++ rest → text ≡ (before ++ (b ++ (a ++ (c ++ after)))) ++ rest
between before after text t1 t2 t3 t4 rest b a c e e1 e2 e3 e4 = rw (e, e1, e2, e3, e4) (simp append_assoc)

-- a first part and others are one
pub gathered : (text a r rest : List ℕ) → text ≡ a ++ (r ++ rest) → text ≡ (a ++ r) ++ rest
gathered text a r rest e = e ∙ sym (append_assoc a r rest)

-- a segment that is found as a step is one
step_is : (g s : Segment) → step_of_segment g ≡ Some s → (s ≡ g) × IsTrue (is_step g)
step_is (one (name n)) s e = (cc, refl)
step_is (one (index i)) s e = (cc, refl)
step_is (one wildcard) s e = absurd (cc)
step_is (one (slice i j k)) s e = absurd (cc)
step_is (one (filter f)) s e = absurd (cc)
step_is (several ss) s e = absurd (cc)
step_is (descendant g) s e = absurd (cc)

-- and segments that are found as steps are
steps_are : (gs : Segments) (ss : List Segment) → steps_of gs ≡ Some ss → (list_of segment no_segments ss ≡ gs) × IsTrue (is_singular gs)
steps_are no_segments ss e = let k : ◌≡◌ {A = List Segment} [] ss = cc in (sym (ap (list_of segment no_segments) k), refl)
steps_are (segment g gs) ss e =
    let (s, is, e1) = bind_ok _ (step_of_segment g) ss e in
    let (more, are, e2) = bind_ok _ (steps_of gs) ss e1 in
    let (one_same, step) = step_is g s is in
    let (same, singular) = steps_are gs more are in
    let k : s ∷ more ≡ ss = cc in
    (sym (ap (list_of segment no_segments) k) ∙ ap (λ v. segment v (list_of segment no_segments more)) one_same ∙ ap (segment g) same, rw (step, singular) refl)

pub steps_spelled : (gs ss : Segments) → steps_in gs ≡ Some ss → (gs ≡ ss) × IsTrue (is_singular ss)
steps_spelled gs ss e =
    let (found, are, e1) = bind_ok _ (steps_of gs) ss e in
    let (same, is) = steps_are gs found are in
    let k : list_of segment no_segments found ≡ ss = cc in
    (sym same ∙ k, subst (λ v. IsTrue (is_singular v)) (sym same ∙ k) is)

module _ (Number : Option ℤ → List ℕ → Type 0) where
  -- what brackets spell
  abbrev SpellsSelection : Segment → List ℕ → Type 0
  SpellsSelection (one s) text = Between (codes "[") (SpellsSelector Number s) (codes "]") text
  SpellsSelection (several ss) text = IsSeveral ss × Between (codes "[") (SpellsSelectors Number ss) (codes "]") text
  SpellsSelection (descendant g) text = ⊥

  -- one selector, or several, in brackets
  selection_is : (ss : Selectors) (s : Selector) (more : Selectors) (b a r c : List ℕ) → ss ≡ selector s more → IsBlank b → SpellsSelector Number s a → SpellsMoreSelectors Number more r → IsBlank c
      → SpellsSelection (selection_of ss) (91 ∷ (b ++ ((a ++ r) ++ (c ++ 93 ∷ []))))
  selection_is ss s no_selectors b a r c same hb ha hr hc = rw same (b, a, c, hb, ha, hc, ap (λ v. 91 ∷ (b ++ (v ++ (c ++ 93 ∷ [])))) (ap (λ v. a ++ v) hr ∙ append-nil a))
  selection_is ss s (selector x more) b a r c same hb ha hr hc = rw same (tt, (b, a ++ r, c, hb, (a, r, ha, hr, refl), hc, refl))

  -- brackets are a segment
  selection_segment : (g : Segment) (a : List ℕ) → SpellsSelection g a → SpellsSegment Number g a
  selection_segment (one s) a h = inl h
  selection_segment (several ss) a h = h
  selection_segment (descendant g) a h = absurd h

  -- and behind `..` another
  selection_descendant : (g : Segment) (a : List ℕ) → SpellsSelection g a → SpellsSegment Number (descendant g) (46 ∷ 46 ∷ a)
  selection_descendant (one s) a h = (a, inl h, refl)
  selection_descendant (several ss) a h = (a, h.0, h.1, refl)
  selection_descendant (descendant g) a h = absurd h

  -- an argument as a logical expression
  argument_logical : (x : Argument) (f : Filter) (a : List ℕ) → SpellsArgument Number x a → filter_of x ≡ Some f → SpellsLogical Number f a
  argument_logical (literal_argument l) f a h e = absurd (cc)
  argument_logical (test_argument t) f a h e = let k : test false t ≡ f = cc in subst (λ v. SpellsLogical Number v a) k ([], a, refl, h, refl)
  argument_logical (filter_argument g) f a h e = let k : g ≡ f = cc in subst (λ v. SpellsLogical Number v a) k h.1

module _ (Number : Option ℤ → List ℕ → Type 0)
    (number_literal_at : List ℕ → Read (Option ℤ))
    (argument_at : List ℕ → Read Argument)
    (oracle : (x : Argument) (text rest : List ℕ) → argument_at text ≡ Some (x, rest) → Spelled (SpellsArgument Number) x text rest) where
  -- a logical expression that is read
  pub sound_logical : (f : Filter) (text rest : List ℕ) → logical_at number_literal_at argument_at text ≡ Some (f, rest) → Spelled (SpellsLogical Number) f text rest
  unfolding logical_at
  sound_logical f text rest e =
      let (x, read, e1) = bind_ok _ (argument_at text) _ e in
      let (g, is, e2) = bind_ok _ (filter_of x.0) _ e1 in
      let (a, ha, ea) = oracle x.0 text x.1 read in
      moved (SpellsLogical Number) g f text x.1 rest e2 (a, argument_logical Number x.0 g a ha is, ea)

  -- a selector that is read
  pub sound_selector : (x : Selector) (text rest : List ℕ) → selector_at number_literal_at argument_at text ≡ Some (x, rest) → Spelled (SpellsSelector Number) x text rest
  unfolding selector_at
  sound_selector x text rest e = elim (chosen (first text == 42) _ _ _ e) [
    | inl star ↦ moved (SpellsSelector Number) wildcard x text (drop 1 text) rest star.1 (42 ∷ [], refl, at_front text 42 star.0 (omega arith))
    | inr no_star ↦ elim (chosen (first text == 63) _ _ _ no_star.1) [
      | inl mark ↦ (
          let (f, read, e3) = bind_ok _ (logical_at number_literal_at argument_at (skip_blank (drop 1 text))) _ mark.1 in
          let (b, hb, eb) = skip_split (drop 1 text) in
          let (a, ha, ea) = sound_logical f.0 (skip_blank (drop 1 text)) f.1 read in
          moved (SpellsSelector Number) (filter f.0) x text f.1 rest e3
          (63 ∷ (b ++ a), (b, a, hb, ha, refl), at_front text 63 mark.0 (omega arith) ∙ ap (λ v. 63 ∷ v) (glue (drop 1 text) b (skip_blank (drop 1 text)) a f.1 eb ea)))
      | inr no_mark ↦ elim (chosen (is_quote (first text)) _ _ _ no_mark.1) [
        | inl quote ↦ (
            let (n, read, e3) = bind_ok _ (string_at text) _ quote.1 in
            moved (SpellsSelector Number) (name n.0) x text n.1 rest e3 (sound_string n.0 text n.1 read))
        | inr plain ↦ sound_numbered Number x text rest plain.1
      ]
    ]
  ]

  -- selectors that are read
  sound_selectors : (k : ℕ) (ss : Selectors) (text rest : List ℕ) → selectors_at number_literal_at argument_at k text ≡ Some (ss, rest)
      → (s : Selector) × (more : Selectors) × (a r : List ℕ) × (ss ≡ selector s more) × SpellsSelector Number s a × SpellsMoreSelectors Number more r × (text ≡ a ++ (r ++ rest))
  sound_selectors k ss text rest e = sound_separated selector no_selectors (selector_at number_literal_at argument_at) (SpellsSelector Number) (SpellsMoreSelectors Number) sound_selector refl (λ x xs r h. h) k ss text rest e

  -- brackets that are read
  pub sound_selection : (g : Segment) (text rest : List ℕ) → selection_at number_literal_at argument_at text ≡ Some (g, rest) → Spelled (SpellsSelection Number) g text rest
  unfolding selection_at
  sound_selection g text rest e =
      let (inner, open_, e1) = bind_ok _ (after_byte 91 text) _ e in
      let (ss, read, e2) = bind_ok _ (selectors_at number_literal_at argument_at (suc (length inner)) (skip_blank inner)) _ e1 in
      let (end, close, e3) = bind_ok _ (after_byte 93 (skip_blank ss.1)) _ e2 in
      let (b, hb, eb) = skip_split inner in
      let (c, hc, ec) = skip_split ss.1 in
      let (s, more, a, r, same, ha, hr, er) = sound_selectors (suc (length inner)) ss.0 (skip_blank inner) ss.1 read in
      moved (SpellsSelection Number) (selection_of ss.0) g text end rest e3 (
        91 ∷ (b ++ ((a ++ r) ++ (c ++ 93 ∷ []))),
        selection_is Number ss.0 s more b a r c same hb ha hr hc,
        between (91 ∷ []) (93 ∷ []) text inner (skip_blank inner) ss.1 (skip_blank ss.1) end b (a ++ r) c (byte_read text 91 inner open_ (omega arith)) eb (gathered (skip_blank inner) a r ss.1 er) ec (byte_read (skip_blank ss.1) 93 end close (omega arith)),
      )

  -- what is read behind `..`
  pub sound_descendant : (g : Segment) (text rest : List ℕ) → descendant_at number_literal_at argument_at text ≡ Some (g, rest) → Spelled (λ v a. SpellsSegment Number v (46 ∷ 46 ∷ a)) g text rest
  unfolding descendant_at
  sound_descendant g text rest e = elim (chosen (first text == 91) _ _ _ e) [
    | inl bracket ↦ (
        let (h, read, e1) = bind_ok _ (selection_at number_literal_at argument_at text) _ bracket.1 in
        let (a, ha, ea) = sound_selection h.0 text h.1 read in
        moved (λ v a. SpellsSegment Number v (46 ∷ 46 ∷ a)) (descendant h.0) g text h.1 rest e1 (a, selection_descendant Number h.0 a ha, ea))
    | inr other ↦ (
        let (s, read, e1) = bind_ok _ (shorthand_at text) _ other.1 in
        let (a, ha, ea) = sound_shorthand s.0 text s.1 read in
        moved (λ v a. SpellsSegment Number v (46 ∷ 46 ∷ a)) (descendant (one s.0)) g text s.1 rest e1 (a, (a, inr ha, refl), ea))
  ]

  -- a segment that is read
  pub sound_segment : (g : Segment) (text rest : List ℕ) → segment_at number_literal_at argument_at text ≡ Some (g, rest) → Spelled (SpellsSegment Number) g text rest
  unfolding segment_at
  sound_segment g text rest e = elim (chosen (first text == 46) _ _ _ e) [
    | inl dot ↦ elim (chosen (slice_index text 1 == 46) _ _ _ dot.1) [
      | inl two ↦ (
          let (a, ha, ea) = sound_descendant g (drop 2 text) rest two.1 in
          (46 ∷ 46 ∷ a, ha, two_front text 46 46 dot.0 two.0 (omega arith) (omega arith) ∙ ap (λ v. 46 ∷ 46 ∷ v) ea))
      | inr lone ↦ (
          let (s, read, e1) = bind_ok _ (shorthand_at (drop 1 text)) _ lone.1 in
          let (a, ha, ea) = sound_shorthand s.0 (drop 1 text) s.1 read in
          moved (SpellsSegment Number) (one s.0) g text s.1 rest e1 (46 ∷ a, inr (a, ha, refl), at_front text 46 dot.0 (omega arith) ∙ ap (λ v. 46 ∷ v) ea))
    ]
    | inr other ↦ (
        let (a, ha, ea) = sound_selection g text rest other.1 in
        (a, selection_segment Number g a ha, ea))
  ]

  -- blanks and a segment
  abbrev SpellsNext : Segment → List ℕ → Type 0
  SpellsNext g text = (b a : List ℕ) × IsBlank b × SpellsSegment Number g a × (text ≡ b ++ a)

  sound_next : (g : Segment) (text rest : List ℕ) → starts_segment (skip_blank text) ≡ true → segment_at number_literal_at argument_at (skip_blank text) ≡ Some (g, rest) → Spelled SpellsNext g text rest
  sound_next g text rest go e =
      let (b, hb, eb) = skip_split text in
      let (a, ha, ea) = sound_segment g (skip_blank text) rest e in
      (b ++ a, (b, a, hb, ha, refl), glue text b (skip_blank text) a rest eb ea)

  next_segments : (g : Segment) (gs : Segments) (a r : List ℕ) → SpellsNext g a → SpellsSegments Number gs r → SpellsSegments Number (segment g gs) (a ++ r)
  next_segments g gs a r h hr = let (b, x, hb, hx, e) = h in (b, x, r, hb, hx, hr, ap (λ v. v ++ r) e ∙ append_assoc b x r)

  -- all the segments that are read
  pub sound_all_segments : (gs : Segments) (text rest : List ℕ) → all_segments_at number_literal_at argument_at text ≡ Some (gs, rest) → Spelled (SpellsSegments Number) gs text rest
  unfolding all_segments_at
  sound_all_segments gs text rest e = sound_many segment no_segments (λ t. segment_at number_literal_at argument_at (skip_blank t)) (λ t. starts_segment (skip_blank t)) SpellsNext (SpellsSegments Number) sound_next refl next_segments (suc (length text)) gs text rest e
