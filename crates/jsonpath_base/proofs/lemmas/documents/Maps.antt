-- What `flat_map` makes of its closure's answers.
use Rattle.std.proofs.Common.{◌≡◌, ℕ, length, arith, append-nil, List, [], ◌∷◌, ◌++◌, append_assoc, sym, ◌∙◌, ap, subst, refl, Vec, Global, Bool, IsTrue}
use Rattle.std.proofs.lemmas.List.Elements.{All-append, All-cons, All-nil, All-head, All-tail}
use Rattle.jsonpath_base.specs.Prelude.Documents.{AllZip, flat_map}
use Rattle.jsonpath_base.specs.Prelude.States.{AreRefs, Completes, Data, DataIsWhole, GivesWhole, HasNothing, Made, Nothing, Pointer, pointers, PointersAreWhole, Ref, Refs, Value}

pub completes_step : {A : Type 0} (gives : Pointer A → Data A → Type 0) (all rest rest' : List (Pointer A)) (p : Pointer A) (d : Data A) (got got' : List (Pointer A)) → rest ≡ p ∷ rest' → gives p d → got' ≡ got ++ pointers d → Completes gives all rest got → Completes gives all rest' got'
completes_step {A} gives all rest rest' p d got got' e h n k ds a =
    let w = k (d ∷ ds) (subst (λ (r : List (Pointer A)). AllZip gives r (d ∷ ds)) (sym e) (h, a)) in
    (w.0, w.1, w.2 ∙ sym (append_assoc got (pointers d) (flat_map pointers ds)) ∙ ap (λ (g : List (Pointer A)). g ++ flat_map pointers ds) (sym n))

empty_of : {A : Type 0} (xs : List A) → length xs ≡ 0 → xs ≡ []
empty_of [] h = refl
empty_of (x ∷ xs) h = absurd (omega (arith, h))

pub completes_end : {A : Type 0} (gives : Pointer A → Data A → Type 0) (ps out : Vec (Pointer A) Global) (all rest : List (Pointer A)) (n : ℕ) → all ≡ ps.items → n ≡ length rest → n ≡ 0 → Completes gives all rest out.items → Made gives (Refs ps) (Refs out)
completes_end {A} gives ps out all rest n ia ln z k =
    let w = k [] (subst (λ (r : List (Pointer A)). AllZip {B = Data A} gives r []) (sym (empty_of rest (sym ln ∙ z))) tt) in
    (w.0, subst (λ (r : List (Pointer A)). AllZip gives r w.0) ia w.1, sym (w.2 ∙ append-nil out.items))

-- ---- what is whole

pub whole_pointers : {A : Type 0} (whole : A → Bool) (d : Data A) → DataIsWhole whole d → PointersAreWhole whole (pointers d)
whole_pointers whole (Ref p) h = All-cons (λ q. IsTrue (whole q.inner.now)) p [] h (All-nil (λ q. IsTrue (whole q.inner.now)))
whole_pointers whole (Refs ps) h = h
whole_pointers whole (Value x) h = All-nil (λ q. IsTrue (whole q.inner.now))
whole_pointers whole Nothing h = All-nil (λ q. IsTrue (whole q.inner.now))

whole_all : {A : Type 0} (whole : A → Bool) (gives : Pointer A → Data A → Type 0) → GivesWhole whole gives → (ps : List (Pointer A)) (ds : List (Data A)) → PointersAreWhole whole ps → AllZip gives ps ds → PointersAreWhole whole (flat_map pointers ds)
whole_all whole gives h [] [] w a = All-nil (λ q. IsTrue (whole q.inner.now))
whole_all whole gives h [] (d ∷ ds) w a = absurd a
whole_all whole gives h (p ∷ ps) [] w a = absurd a
whole_all whole gives h (p ∷ ps) (d ∷ ds) w a =
    let P : Pointer _ → Type 0 = λ q. IsTrue (whole q.inner.now) in
    All-append P (pointers d) (flat_map pointers ds) (whole_pointers whole d (h p d (All-head P p ps w) a.0)) (whole_all whole gives h ps ds (All-tail P p ps w) a.1)

refs_whole : {A : Type 0} (whole : A → Bool) (d : Data A) (ps : List (Pointer A)) → AreRefs d ps → PointersAreWhole whole ps → DataIsWhole whole d
refs_whole whole (Ref p) ps h w = absurd h
refs_whole whole (Refs qs) ps h w = subst (PointersAreWhole whole) (sym h) w
refs_whole whole (Value x) ps h w = absurd h
refs_whole whole Nothing ps h w = absurd h

nothing_whole : {A : Type 0} (whole : A → Bool) (d : Data A) → HasNothing d → DataIsWhole whole d
nothing_whole whole (Ref p) h = absurd h
nothing_whole whole (Refs qs) h = absurd h
nothing_whole whole (Value x) h = absurd h
nothing_whole whole Nothing h = tt

pub made_whole : {A : Type 0} (whole : A → Bool) (gives : Pointer A → Data A → Type 0) → GivesWhole whole gives → (x d : Data A) → DataIsWhole whole x → Made gives x d → DataIsWhole whole d
made_whole whole gives h (Ref p) d w m = h p d w m
made_whole whole gives h (Refs ps) d w m = refs_whole whole d _ m.2 (whole_all whole gives h ps.items m.0 w m.1)
made_whole whole gives h (Value x) d w m = nothing_whole whole d m
made_whole whole gives h Nothing d w m = nothing_whole whole d m
