-- What the grammar functions of a cursor answer, where a kind of tree is read as it is spelled.
use Rattle.std.proofs.Common.{◌≡◌, ℕ, Bool, true, false, ℤ, List, [], ◌++◌, ◌-◌, length, take, drop, Option, Some, None, Result, Ok, Err, MatchResult, IsOkAnd, refl, sym, ap, ◌∙◌, subst, inl, inr, append_assoc, append-nil, length-append, take-append-drop, arith}
use Rattle.std.proofs.Math.Seq.{drop-append_seam}
use Rattle.std.proofs.lemmas.Str.{IsCharBoundary-from_drop}
use Rattle.std.specs.Borrow.{Bor}
use Rattle.jsonpath_parser.specs.Prelude.{Any, Gives, IsAnswer, IsAny, IsCharBoundary, IsCursorRefusal, IsUtf8, IsValued, JsonPathError, Memory, NumberMode, Read, Reads, ReadsPart, rest_of, Spelling, SpellsNumber, StaysInText, ParseError, taken_at, Accepts, text_of, Valued}
use Rattle.jsonpath_parser.specs.Parts.{IsPartRefusal}
use Rattle.jsonpath_parser.specs.declared.errors.JsonPathError.TheVariants as error
use Rattle.jsonpath_parser.specs.declared.cursor.Cursor.{Cursor}

-- which number literals are read
abbrev pub as_read : NumberMode → Option ℤ → List ℕ → Type 0
as_read Valued = IsValued
as_read Any = IsAny

-- what is read is spelled, what the whole text spells is read, it spells one tree, and with any number literals it spells a tree where it does as it is written
pub record Law {V : Type 0} (spells : Spelling V) (typed : V → Bool) (reading : NumberMode → List ℕ → Read V) : Type 0 where
  pub sound : (numbers : NumberMode) (v : V) (text rest : List ℕ) → reading numbers text ≡ Some (v, rest) → (a : List ℕ) × spells (as_read numbers) v a × (typed v ≡ true) × (text ≡ a ++ rest)
  pub complete : (numbers : NumberMode) (v : V) (text : List ℕ) → spells (as_read numbers) v text → typed v ≡ true → reading numbers text ≡ Some (v, [])
  pub one_tree : (v w : V) (text : List ℕ) → spells IsValued v text → spells SpellsNumber w text → w ≡ v
  pub from_any : (v : V) (text : List ℕ) → spells IsAny v text → (w : V) × spells SpellsNumber w text × (typed w ≡ typed v)
  pub as_any : (v : V) (text : List ℕ) → spells SpellsNumber v text → (w : V) × spells IsAny w text × (typed w ≡ typed v)

-- two readings of one text
both : {V : Type 0} (o : Read V) (v w : V) (s t : List ℕ) → o ≡ Some (v, s) → o ≡ Some (w, t) → (v ≡ w) × (s ≡ t)
both {V} o v w s t e f =
    let p : ◌≡◌ {A = V × List ℕ} (v, s) (w, t) = cc in
    (ap (λ (q : V × List ℕ). q.0) p, ap (λ (q : V × List ℕ). q.1) p)

-- a tree and no tree
neither : {A : Type 0} (o : Option A) (x : A) → o ≡ Some x → o ≡ None → ⊥
neither o x e f = absurd (cc)

-- what follows a front of a text
behind : (front new : List ℕ) → drop (length (front ++ new) - length new) (front ++ new) ≡ new
behind front new = let size : length (front ++ new) - length new ≡ length front = omega (arith, length-append front new) in rw size (drop-append_seam front new)

-- behind the part that was read, the rest of the text stands
rest_stays : (text old part new : List ℕ) → drop (length text - length old) text ≡ old → old ≡ part ++ new → drop (length text - length new) text ≡ new
rest_stays text old part new stood moved =
    let front : List ℕ = take (length text - length old) text in
    let whole : text ≡ (front ++ part) ++ new = sym (take-append-drop (length text - length old) text) ∙ ap (λ s. front ++ s) (stood ∙ moved) ∙ sym (append_assoc front part new) in
    subst (λ t. drop (length t - length new) t ≡ new) (sym whole) (behind (front ++ part) new)

-- a cursor behind what was read
pub part_stays : {V : Type 0} {spells : Spelling V} {typed : V → Bool} {reading : NumberMode → List ℕ → Read V} → Law spells typed reading
    → (old : Cursor) (v : V) (rest : List ℕ) → reading Valued (rest_of old) ≡ Some (v, rest) → drop (length (text_of old) - length rest) (text_of old) ≡ rest
part_stays law old v rest e =
    let (a, ha, ht, ea) = law.sound Valued v (rest_of old) rest e in
    rest_stays (text_of old) (rest_of old) a rest old.behind ea

-- a cursor stands between two characters
pub place_boundary : (text rest : List ℕ) (place : ℕ) → place ≡ length text - length rest → IsUtf8 rest → drop (length text - length rest) text ≡ rest → IsCharBoundary text place
place_boundary text rest place is utf8 stood = IsCharBoundary-from_drop text place (omega (arith, is)) (subst IsUtf8 (sym (ap (λ n. drop n text) is ∙ stood)) utf8)

-- a tree that was read is answered
pub part_read : {T V : Type 0} {spells : Spelling V} {typed : V → Bool} {view : T → V} {reading : NumberMode → List ℕ → Read V} → Law spells typed reading
    → (old new : Cursor) (t : T) → reading Valued (rest_of old) ≡ Some (view t, rest_of new) → text_of new ≡ text_of old → ReadsPart spells typed view old new (Ok t)
part_read {T} {V} {spells} {typed} {view} {reading} law old new t e same = record {
  outcome = let (a, ha, ht, ea) = law.sound Valued (view t) (rest_of old) (rest_of new) e in record { part = a; spelled = ha; well_typed = ht; one_tree = λ w h. law.one_tree (view t) w a ha h; moved = ea };
  complete = λ v h k. both (reading Valued (rest_of old)) (view t) v (rest_of new) [] e (law.complete Valued v (rest_of old) h k);
  refused = tt;
  unchanged_on_error = tt;
  same = same;
}

-- where reading stopped the text spells no tree, unless memory ran out
whole_refused : {T V : Type 0} (spells : Spelling V) (typed : V → Bool) (view : T → V) (reading : NumberMode → List ℕ → Read V) → Law spells typed reading
    → (text : List ℕ) (stop : ParseError) → ((stop ≡ Memory → ⊥) → reading Valued text ≡ None) → (stop ≡ Memory → ⊥) → (v : V) → spells IsValued v text → typed v ≡ true → ⊥
whole_refused spells typed view reading law text stop none other v h k = neither (reading Valued text) (v, []) (law.complete Valued v text h k) (none other)

-- nor as it is written
written_refused : {T V : Type 0} (spells : Spelling V) (typed : V → Bool) (view : T → V) (reading : NumberMode → List ℕ → Read V) → Law spells typed reading
    → (text : List ℕ) (again : Result (T × Bor (List ℕ)) ParseError) → Reads view again (reading Any text) → MatchResult again (λ p. p.1.now ≡ [] → ⊥) (λ e. e ≡ Memory → ⊥)
    → (v : V) → spells SpellsNumber v text → typed v ≡ true → ⊥
written_refused {T} {V} spells typed view reading law text again e other v h k =
    let (w, spelled, alike) = law.as_any v text h in
    any_refused again e other w spelled (alike ∙ k)
  where
    any_refused : (again : Result (T × Bor (List ℕ)) ParseError) → Reads view again (reading Any text) → MatchResult again (λ p. p.1.now ≡ [] → ⊥) (λ e. e ≡ Memory → ⊥) → (w : V) → spells IsAny w text → typed w ≡ true → ⊥
    any_refused (Ok p) e other w h k = other (both (reading Any text) (view p.0) w p.1.now [] e (law.complete Any w text h k)).1
    any_refused (Err stop) e other w h k = neither (reading Any text) (w, []) (law.complete Any w text h k) (e other)

-- what is read whole with any number literals is spelled as it is written
written_read : {T V : Type 0} (spells : Spelling V) (typed : V → Bool) (view : T → V) (reading : NumberMode → List ℕ → Read V) → Law spells typed reading
    → (text : List ℕ) (again : Result (T × Bor (List ℕ)) ParseError) → Reads view again (reading Any text) → IsOkAnd again (λ p. p.1.now ≡ []) → (v : V) × spells SpellsNumber v text × (typed v ≡ true)
written_read {T} {V} spells typed view reading law text (Ok p) e all =
    let (a, ha, ht, ea) = law.sound Any (view p.0) text p.1.now e in
    let (w, spelled, alike) = law.from_any (view p.0) text (subst (λ s. spells IsAny (view p.0) s) (sym (ea ∙ ap (λ s. a ++ s) all ∙ append-nil a)) ha) in
    (w, spelled, alike ∙ ht)
written_read spells typed view reading law text (Err stop) e all = absurd all

-- a refusal is one of the text's
pub part_refused : {T V : Type 0} {spells : Spelling V} {typed : V → Bool} {view : T → V} {reading : NumberMode → List ℕ → Read V} → Law spells typed reading
    → (c : Cursor) (stop : ParseError) (again : Result (T × Bor (List ℕ)) ParseError) (e : JsonPathError) → ((stop ≡ Memory → ⊥) → reading Valued (rest_of c) ≡ None)
    → Reads view again (reading Any (rest_of c)) → IsCursorRefusal c stop again e → ReadsPart spells typed view c c (Err e)
part_refused {T} {V} {spells} {typed} {view} {reading} law c stop again e none any is = record {
  outcome = tt;
  complete = λ v h k. only e is v h k;
  refused = refusals e is;
  unchanged_on_error = refl;
  same = refl;
}
  where
    only : (e : JsonPathError) → IsCursorRefusal c stop again e → (v : V) → spells IsValued v (rest_of c) → typed v ≡ true → e ≡ error.OutOfMemory
    only error.OutOfMemory is v h k = refl
    only (error.PestError place) is v h k = absurd (whole_refused spells typed view reading law (rest_of c) stop none is.1 v h k)
    only (error.InvalidNumber literal) is v h k = absurd (whole_refused spells typed view reading law (rest_of c) stop none is.0 v h k)
    only _ is v h k = absurd is

    refusals : (e : JsonPathError) → IsCursorRefusal c stop again e → IsPartRefusal spells typed c e
    refusals error.OutOfMemory is = tt
    refusals (error.PestError place) is = (is.0, written_refused spells typed view reading law (rest_of c) again any is.2)
    refusals (error.InvalidNumber literal) is =
        let (v, spelled, holds) = written_read spells typed view reading law (rest_of c) again any is.2 in
        (is.1, (v, spelled, holds, λ h. whole_refused spells typed view reading law (rest_of c) stop none is.0 v h holds))
    refusals _ is = absurd is

-- ---- one reading of a kind of tree

-- What a kind's three functions compute at a cursor: a tree is read, turned into one of the kind, and checked.
pub record Kind {X T V W : Type 0} (whole : X → V) (view : T → W) (take : V → Option W) (typed : W → Bool) (base : NumberMode → List ℕ → Read V) (reads : NumberMode → Result (X × Bor (List ℕ)) ParseError → Type 0) (takes : X → Result T ParseError → Type 0) (checks : Bor T → Bool → Type 0) (text : List ℕ) : Type 0 where
  pub read : (numbers : NumberMode) (r : _) → reads numbers r → Reads whole r (base numbers text)
  pub made : (x : X) (t : _) → takes x t → Gives view t (take (whole x))
  pub checked : (t : Bor T) (b : Bool) → checks t b → b ≡ typed (view t.now)

-- what is not taken is nothing
not_made : {V W : Type 0} (take : V → Option W) (typed : W → Bool) (r : Read V) (v : V) (rest : List ℕ) → r ≡ Some (v, rest) → take v ≡ None → taken_at take typed r ≡ None
unfolding taken_at
not_made take typed r v rest e f = rw (e, f) refl

not_read : {V W : Type 0} (take : V → Option W) (typed : W → Bool) (r : Read V) → r ≡ None → taken_at take typed r ≡ None
unfolding taken_at
not_read take typed r e = rw e refl

made_so : {V W : Type 0} (take : V → Option W) (typed : W → Bool) (r : Read V) (v : V) (w : W) (rest : List ℕ) → r ≡ Some (v, rest) → take v ≡ Some w → typed w ≡ true → taken_at take typed r ≡ Some (w, rest)
unfolding taken_at
made_so take typed r v w rest e f t = rw (e, f, t) refl

not_typed : {V W : Type 0} (take : V → Option W) (typed : W → Bool) (r : Read V) (v : V) (w : W) (rest : List ℕ) → r ≡ Some (v, rest) → take v ≡ Some w → typed w ≡ false → taken_at take typed r ≡ None
unfolding taken_at
not_typed take typed r v w rest e f t = rw (e, f, t) refl

-- so the kind is read
module _ {X T V W : Type 0} {whole : X → V} {view : T → W} {take : V → Option W} {typed : W → Bool} {base : NumberMode → List ℕ → Read V} {reads : NumberMode → Result (X × Bor (List ℕ)) ParseError → Type 0} {takes : X → Result T ParseError → Type 0} {checks : Bor T → Bool → Type 0} where
  takes_reads : (text : List ℕ) → Kind whole view take typed base reads takes checks text
      → (numbers : NumberMode) (outcome : Result (T × Bor (List ℕ)) ParseError) → Accepts reads takes checks numbers outcome → Reads view outcome (taken_at take typed (base numbers text))
  takes_reads text k numbers (Ok p) h =
      let (x, read, took, (t, check, same)) = h in
      let holds : typed (view p.0) ≡ true = subst (λ u. typed (view u) ≡ true) same (sym (k.checked t true check)) in
      made_so take typed (base numbers text) (whole x) (view p.0) p.1.now (k.read numbers (Ok (x, p.1)) read) (k.made x (Ok p.0) took) holds
  takes_reads text k numbers (Err e) h = λ other. elim h [
    | inl stopped ↦ not_read take typed (base numbers text) (k.read numbers (Err e) stopped other)
    | inr left ↦ (
        let (p, read, why) = left in
        let at : base numbers text ≡ Some (whole p.0, p.1.now) = k.read numbers (Ok p) read in
        elim why [
          | inl none ↦ not_made take typed (base numbers text) (whole p.0) p.1.now at (k.made p.0 (Err e) none other)
          | inr wrong ↦ (
              let (t, check, took, clear) = wrong in
              not_typed take typed (base numbers text) (whole p.0) (view t.now) p.1.now at (k.made p.0 (Ok t.now) took) (sym (k.checked t false check)))
        ])
  ]

  module _ {spells : Spelling W} (law : Law spells typed (λ numbers text. taken_at take typed (base numbers text))) where
    pub kind_stays : (c : Cursor) → Kind whole view take typed base reads takes checks (rest_of c) → StaysInText reads takes checks c
    kind_stays c k = record {
      ends = elim [
        | Ok p ↦ λ h. part_stays law c (view p.0) p.1.now (takes_reads (rest_of c) k Valued (Ok p) h)
        | Err e ↦ λ h. tt
      ];
    }

    pub kind_read : (old new : Cursor) → Kind whole view take typed base reads takes checks (rest_of old) → (result : Result T JsonPathError) → IsAnswer reads takes checks old new result → ReadsPart spells typed view old new result
    kind_read old new k (Ok t) a = part_read law old new t (takes_reads (rest_of old) k Valued (Ok (t, new.rest)) a.tree) a.same
    kind_read old new k (Err e) a =
        let (stop, stopped, (again, read, is)) = a.refusal in
        let refused : ReadsPart spells typed view old old (Err e) = part_refused law old stop again e (takes_reads (rest_of old) k Valued (Err stop) stopped) (takes_reads (rest_of old) k Any again read) is in
        subst (λ c. ReadsPart spells typed view old c (Err e)) (sym a.unchanged_on_error) refused

-- what was read first, and taken, is what reading and taking give
taken_from : {X T : Type 0} (reads : NumberMode → Result (X × Bor (List ℕ)) ParseError → Type 0) (takes : X → Result T ParseError → Type 0) (checks : Bor T → Bool → Type 0)
    → (numbers : NumberMode) (first : Result (X × Bor (List ℕ)) ParseError) → reads numbers first
    → (outcome : Result (T × Bor (List ℕ)) ParseError) → Accepts (λ n r. r ≡ first) takes checks Valued outcome → Accepts reads takes checks numbers outcome
taken_from reads takes checks numbers first h (Ok p) t = let (x, e, took, good) = t in (x, subst (λ r. reads numbers r) (sym e) h, took, good)
taken_from reads takes checks numbers first h (Err e) t = elim t [
  | inl q ↦ inl (subst (λ r. reads numbers r) (sym q) h)
  | inr w ↦ (let (p, q, why) = w in inr (p, subst (λ r. reads numbers r) (sym q) h, why))
]

module _ {X T : Type 0} {reads : NumberMode → Result (X × Bor (List ℕ)) ParseError → Type 0} {takes : X → Result T ParseError → Type 0} {checks : Bor T → Bool → Type 0} where
  pub stays_behind : (c : Cursor) → StaysInText reads takes checks c → (first : Result (X × Bor (List ℕ)) ParseError) → reads Valued first
      → (t : T) (rest : Bor (List ℕ)) → Accepts (λ n r. r ≡ first) takes checks Valued (Ok (t, rest)) → drop (length (text_of c) - length rest.now) (text_of c) ≡ rest.now
  stays_behind c stays first h t rest k = stays.ends (Ok (t, rest)) (taken_from reads takes checks Valued first h (Ok (t, rest)) k)

  pub refused_answer : (c : Cursor) (first second : Result (X × Bor (List ℕ)) ParseError) (stop : ParseError) (again : Result (T × Bor (List ℕ)) ParseError) (e : JsonPathError) → reads Valued first → reads Any second
      → Accepts (λ n r. r ≡ first) takes checks Valued (Err stop) → Accepts (λ n r. r ≡ second) takes checks Valued again → IsCursorRefusal c stop again e → IsAnswer reads takes checks c c (Err e)
  refused_answer c first second stop again e h k stopped read is = record {
    tree = tt;
    refusal = (stop, taken_from reads takes checks Valued first h (Err stop) stopped, (again, taken_from reads takes checks Any second k again read, is));
    unchanged_on_error = refl;
    same = refl;
  }
