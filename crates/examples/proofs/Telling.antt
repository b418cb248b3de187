-- What is told of each element of a list, one more at a time.
use Rattle.std.proofs.Common.{◌≡◌, ℕ, zero, suc, ◌+◌, ◌<◌, ◌≤◌, List, [], ◌∷◌, ◌++◌, length, take, get_or, sym, subst, arith}
use Rattle.std.proofs.lemmas.List.{take_all}
use Rattle.std.specs.List.{AllZip}

one_more : {A B : Type 0} (P : A → B → Type 0) (xs : List A) (ys : List B) (i : ℕ) (x : A) (y : B) → AllZip P (take i xs) ys → i < length xs → x ≡ get_or xs i x → P x y → AllZip P (take (suc i) xs) (ys ++ y ∷ [])
one_more P [] ys i x y h k e p = absurd (omega (arith, k))
one_more P (z ∷ xs) [] zero x y h k e p = (subst (λ q. P q y) e p, tt)
one_more P (z ∷ xs) (w ∷ ys) zero x y h k e p = absurd h
one_more P (z ∷ xs) [] (suc i) x y h k e p = absurd h
one_more P (z ∷ xs) (w ∷ ys) (suc i) x y h k e p = (h.0, one_more P xs ys i x y h.1 (omega (arith, k)) e p)

pub told_next : {A B : Type 0} (P : A → B → Type 0) (xs : List A) (ys zs : List B) (i : ℕ) (x : A) (y : B) → AllZip P (take i xs) ys → i < length xs → x ≡ get_or xs i x → P x y → zs ≡ ys ++ y ∷ [] → AllZip P (take (i + 1) xs) zs
told_next P xs ys zs i x y h k e p is =
    let step : suc i ≡ i + 1 = omega arith in
    subst (λ us. AllZip P (take (i + 1) xs) us) (sym is) (subst (λ j. AllZip P (take j xs) (ys ++ y ∷ [])) step (one_more P xs ys i x y h k e p))

pub told_all : {A B : Type 0} (P : A → B → Type 0) (xs : List A) (ys : List B) (i : ℕ) → AllZip P (take i xs) ys → length xs ≤ i → AllZip P xs ys
told_all P xs ys i h k = subst (λ us. AllZip P us ys) (take_all i xs k) h
