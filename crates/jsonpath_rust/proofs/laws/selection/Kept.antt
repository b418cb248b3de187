-- What is kept of a query.
use Rattle.std.proofs.Common.{◌≡◌, ◌<◌, ℕ, zero, suc, List, [], ◌∷◌, map, length, get_or, set, inl, inr, ◌⊎◌, refl, sym, ◌∙◌, ap, subst, Option, None, Some, option_map, IfSome}
use Rattle.std.proofs.lemmas.List.{get_or-set_same, map-set, length-set}
use Rattle.std.proofs.lemmas.List.Elements.{All-head, All-tail}
use Rattle.std.proofs.Math.ListN.{length-map}
use Rattle.std.specs.declared.fmt.Debug as debug
use Rattle.jsonpath_base.specs.Prelude.Documents.{Document, Evaluated}
use Rattle.jsonpath_rust.specs.Prelude.Documents.{Ghosts}
use Rattle.jsonpath_rust.specs.Prelude.Selection.{call_result, AreEmpty, Cache, compared, ConstantPart, Constants, ResultView, result_view, result_of, result_for, given_value, IsGiven, IsCacheOf, nodes, part_at, slot_at, slots_of, Demand, demand_of}
use Rattle.jsonpath_rust.specs.declared.selection.constants.CachedResult.{CachedResult}
use Rattle.jsonpath_rust.specs.declared.selection.sink.Demand.TheVariants as demand

-- ---- what is kept

-- nothing is kept yet
none_at : {A : Type 0} {R : Ghosts A} {D : debug.Ghosts A} (slots : List (Option (CachedResult A R D))) (n : ℕ) (s : ResultView) → AreEmpty slots → slot_at slots n ≡ Some s → ⊥
none_at [] n s h e = absurd cc
none_at (x ∷ xs) zero s h e =
    let first : x ≡ None = All-head (λ o. o ≡ None) x xs h in
    let no : None ≡ Some s = sym (ap (option_map (result_view)) first) ∙ e in
    absurd cc
none_at (x ∷ xs) (suc n) s h e = none_at xs n s (All-tail (λ o. o ≡ None) x xs h) e

pub keeps_none : {A : Type 0} {R : Ghosts A} {D : debug.Ghosts A} (constants : Constants) (doc : Document) (m : Cache A R D) → length (slots_of m) ≡ length constants → AreEmpty (slots_of m) → IsCacheOf constants doc m
keeps_none constants doc m e h = record { room = e; right = λ n s i. absurd (none_at (slots_of m) n s h i) }

-- one more is kept
pub slot_set : {A : Type 0} {R : Ghosts A} {D : debug.Ghosts A} (slots : List (Option (CachedResult A R D))) (n : ℕ) (x : CachedResult A R D) → n < length slots → slot_at (set slots n (Some x)) n ≡ Some (result_view x)
slot_set slots n x h = ap (λ xs. get_or xs n None) (map-set (option_map (result_view)) slots n (Some x)) ∙ get_or-set_same (map (option_map (result_view)) slots) n (Some (result_view x)) None (subst (λ k. n < k) (sym (length-map slots (option_map (result_view)))) h)

set_or : (xs : List (Option ResultView)) (n k : ℕ) (x : Option ResultView) → ((get_or (set xs n x) k None ≡ x) × (k ≡ n)) ⊎ (get_or (set xs n x) k None ≡ get_or xs k None)
set_or [] n k x = inr refl
set_or (y ∷ ys) zero zero x = inl (refl, refl)
set_or (y ∷ ys) zero (suc k) x = inr refl
set_or (y ∷ ys) (suc n) zero x = inr refl
set_or (y ∷ ys) (suc n) (suc k) x = behind (set_or ys n k x)
  where
    behind : ((get_or (set ys n x) k None ≡ x) × (k ≡ n)) ⊎ (get_or (set ys n x) k None ≡ get_or ys k None) → ((get_or (set ys n x) k None ≡ x) × (suc k ≡ suc n)) ⊎ (get_or (set ys n x) k None ≡ get_or ys k None)
    behind (inl h) = inl (h.0, ap suc h.1)
    behind (inr h) = inr h

pub keeps_set : {A : Type 0} {R : Ghosts A} {D : debug.Ghosts A} (constants : Constants) (doc : Document) (old new : Cache A R D) (n : ℕ) (x : CachedResult A R D) → slots_of new ≡ set (slots_of old) n (Some x) → IsGiven (result_view x) (part_at constants n) doc → IsCacheOf constants doc old → IsCacheOf constants doc new
keeps_set constants doc old new n x e g h = record {
  room = ap (λ xs. length xs) e ∙ length-set (slots_of old) n (Some x) ∙ h.room;
  right = λ k s i. by_place k s (sym (ap (λ xs. get_or xs k None) (ap (map (option_map (result_view))) e ∙ map-set (option_map (result_view)) (slots_of old) n (Some x))) ∙ i) (set_or (map (option_map (result_view)) (slots_of old)) n k (Some (result_view x)));
}
  where
    by_place : (k : ℕ) (s : ResultView) → get_or (set (map (option_map (result_view)) (slots_of old)) n (Some (result_view x))) k None ≡ Some s → ((get_or (set (map (option_map (result_view)) (slots_of old)) n (Some (result_view x))) k None ≡ Some (result_view x)) × (k ≡ n)) ⊎ (get_or (set (map (option_map (result_view)) (slots_of old)) n (Some (result_view x))) k None ≡ slot_at (slots_of old) k) → IsGiven s (part_at constants k) doc
    by_place k s i (inl m) =
        let same : ◌≡◌ {A = Option ResultView} (Some s) (Some (result_view x)) = sym i ∙ m.0 in
        let is : s ≡ result_view x = cc in
        subst (λ y. IsGiven y (part_at constants k) doc) (sym is) (subst (λ j. IsGiven (result_view x) (part_at constants j) doc) (sym m.1) g)
    by_place k s i (inr m) = h.right k s (sym m ∙ i)

-- ---- values that are kept

-- ---- nodes that are kept

-- what a part gives may be kept
pub given_right : (p : ConstantPart) (d : Document) → IsGiven (result_of p d) p d
given_right (nodes demand.Exists q) d = refl
given_right (nodes demand.Count q) d = refl
given_right (nodes demand.Single q) d = refl
given_right (nodes demand.Values q) d = refl
given_right (call_result c) d = refl
given_right (compared c) d = refl

-- what was wanted is read again
pub wanted_given : (w : Demand) (e : Evaluated) → given_value (Some (result_for w e)) ≡ demand_of w e
wanted_given demand.Exists e = refl
wanted_given demand.Count e = refl
wanted_given demand.Single e = refl
wanted_given demand.Values e = refl

-- what is found
pub of_some : {X : Type 0} (P : X → Type 0) (o : Option X) (x : X) → o ≡ Some x → IfSome o P → P x
of_some P o x e h = subst (λ q. IfSome q P) e h
