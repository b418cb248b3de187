-- Members in the other order, where each name stands once.
use Rattle.std.proofs.Common.{◌≡◌, ℕ, List, [], ◌∷◌, map, reverse, Option, Some, None, Bool, true, false, not, cond, ◌||◌, is_some, bytes_eq, refl, sym, ap, ◌∙◌, subst}
use mathlib.Core.List.{reverse_aux}
use Rattle.std.proofs.Math.Bool.{or-false}
use Rattle.std.proofs.lemmas.Bool.{and_parts, or_parts, not-true}
use Rattle.std.proofs.lemmas.List.{reverse-reverse}
use Rattle.std.proofs.lemmas.Slice.Eq.{bytes_eq-Decides}
use Rattle.std.specs.List.{list_any}
use Rattle.jsonpath_base.specs.Tree.{Tree, find, are_distinct}

abbrev pub Named : Type 0
Named = List (List ℕ × Tree)

abbrev pub names : Named → List (List ℕ)
names ms = map (λ m. m.0) ms

abbrev or_else : Option Tree → Option Tree → Option Tree
or_else None o = o
or_else (Some t) o = Some t

found_other : (b : Bool) (t : Tree) (r o : Option Tree) → b ≡ false → r ≡ o → cond b (Some t) r ≡ o
found_other true t r o h e = absurd cc
found_other false t r o h e = e

-- a name that is none of these has no member
absent : (k : List ℕ) (ms : Named) → list_any (bytes_eq k) (names ms) ≡ false → find k ms ≡ None
absent k [] h = refl
absent k (m ∷ ms) h =
    let parts = or_parts (bytes_eq k m.0) (list_any (bytes_eq k) (names ms)) h in
    found_other (bytes_eq k m.0) m.1 (find k ms) None parts.0 (absent k ms parts.1)

picked : (b : Bool) (t : Tree) (r o : Option Tree) → (b ≡ true → r ≡ None) → or_else r (cond b (Some t) o) ≡ or_else (cond b (Some t) r) o
picked true t r o h = ap (λ x. or_else x (Some t)) (h refl)
picked false t r o h = refl

find_onto : (k : List ℕ) (ms acc : Named) → are_distinct (names ms) ≡ true → find k (reverse_aux ms acc) ≡ or_else (find k ms) (find k acc)
find_onto k [] acc h = refl
find_onto k (m ∷ ms) acc h =
    let parts = and_parts (not (list_any (bytes_eq m.0) (names ms))) (are_distinct (names ms)) h in
    let other : list_any (bytes_eq m.0) (names ms) ≡ false = not-true (list_any (bytes_eq m.0) (names ms)) parts.0 in
    let here : bytes_eq k m.0 ≡ true → find k ms ≡ None = λ e. absent k ms (subst (λ n. list_any (bytes_eq n) (names ms) ≡ false) (sym ((bytes_eq-Decides k m.0).0 e)) other) in
    find_onto k ms (m ∷ acc) parts.1 ∙ picked (bytes_eq k m.0) m.1 (find k ms) (find k acc) here

or_none : (o : Option Tree) → or_else o None ≡ o
or_none None = refl
or_none (Some t) = refl

-- the member of a name is the same
pub find_turned : (k : List ℕ) (ms : Named) → are_distinct (names (reverse ms)) ≡ true → find k (reverse ms) ≡ find k ms
find_turned k ms h = sym (ap (find k) (sym (reverse-reverse ms)) ∙ find_onto k (reverse ms) [] h ∙ or_none (find k (reverse ms)))

-- ---- the same of whether there is one, whatever the names

some_either : (b : Bool) (t : Tree) (r o : Option Tree) → (is_some r || is_some (cond b (Some t) o)) ≡ (is_some (cond b (Some t) r) || is_some o)
some_either true t None o = refl
some_either true t (Some u) o = refl
some_either false t r o = refl

found_onto : (k : List ℕ) (ms acc : Named) → is_some (find k (reverse_aux ms acc)) ≡ (is_some (find k ms) || is_some (find k acc))
found_onto k [] acc = refl
found_onto k (m ∷ ms) acc = found_onto k ms (m ∷ acc) ∙ some_either (bytes_eq k m.0) m.1 (find k ms) (find k acc)

pub has_turned : (k : List ℕ) (ms : Named) → is_some (find k (reverse ms)) ≡ is_some (find k ms)
has_turned k ms = found_onto k ms [] ∙ or-false (is_some (find k ms))
