-- What is shown of pointers: a loop over them, and what it made in the end.
use Rattle.std.proofs.Common.{◌≡◌, ℕ, length, List, [], ◌∷◌, ◌++◌, append_assoc, append-nil, arith, map, ap, refl, sym, ◌∙◌, string_bytes}
use Rattle.std.proofs.lemmas.List.{map-append}
use Rattle.jsonpath_base.specs.Prelude.Documents.{Tree}
use Rattle.jsonpath_rust.specs.Prelude.States.{Pointer, Target, targets_of}

-- one element was moved from the front of what is left behind what there is
pub moved_one : {X Y Z : Type 0} (f : X → Z) (g : Y → Z) (got more : List X) (left rest : List Y) (x : X) (y : Y) (all : List Z) → more ≡ got ++ x ∷ [] → left ≡ y ∷ rest → f x ≡ g y → map f got ++ map g left ≡ all → map f more ++ map g rest ≡ all
moved_one f g got more left rest x y all m l same h =
    ap (λ xs. map f xs ++ map g rest) m
    ∙ ap (λ zs. zs ++ map g rest) (map-append f got (x ∷ []))
    ∙ append_assoc (map f got) (f x ∷ []) (map g rest)
    ∙ ap (λ z. map f got ++ z ∷ map g rest) same
    ∙ ap (λ ys. map f got ++ map g ys) (sym l) ∙ h

-- all were moved
pub moved_all : {X Y Z : Type 0} (f : X → Z) (g : Y → Z) (got : List X) (left : List Y) (n : ℕ) (all : List Z) → n ≡ length left → n ≡ 0 → map f got ++ map g left ≡ all → map f got ≡ all
moved_all f g got [] n all len none h = sym (append-nil (map f got)) ∙ h
moved_all f g got (y ∷ ys) n all len none h = absurd (omega (arith, len, none))

-- what a caller sees of pointers, and what a state holds of them
pub shown-targets : {A : Type 0} (tree : A → Tree) (ps : List (Pointer A)) → map {B = List ℕ × Tree} (λ p. (string_bytes p.path, tree p.inner.now)) ps ≡ map (λ (p : Target). (p.path, p.tree)) (targets_of tree ps)
shown-targets tree [] = refl
shown-targets tree (p ∷ ps) = ap (λ (ns : List (List ℕ × Tree)). (string_bytes p.path, tree p.inner.now) ∷ ns) (shown-targets tree ps)

pub values-targets : {A : Type 0} (tree : A → Tree) (ps : List (Pointer A)) → map (λ p. tree p.inner.now) ps ≡ map (λ (n : List ℕ × Tree). n.1) (map (λ (p : Target). (p.path, p.tree)) (targets_of tree ps))
values-targets tree [] = refl
values-targets tree (p ∷ ps) = ap (λ (ts : List Tree). tree p.inner.now ∷ ts) (values-targets tree ps)
