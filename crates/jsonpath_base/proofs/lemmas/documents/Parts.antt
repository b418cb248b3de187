-- Lists of parts of a query: each part is no more than all, and what a loop over them finds.
use Rattle.std.proofs.Common.{◌≡◌, ℕ, zero, suc, ◌+◌, ◌<◌, ◌≤◌, List, [], ◌∷◌, ◌++◌, length, get_or, drop, drop-cons, add-one, append_assoc, append-nil, refl, sym, ◌∙◌, ap, subst, arith, Bool, true, false, not, cond, filter, ◌||◌, ◌&&◌, Result, Ok, Err, IfOk, IfErr, All}
use Rattle.jsonpath_base.specs.Prelude.Documents.{beq, Contains, flat_map, IsErrAnd, negated, Node}
use Rattle.std.proofs.lemmas.List.{at_drop_all}
use Rattle.std.proofs.lemmas.List.Elements.{All-append, All-cons, All-nil, Contains-append_left, Contains-append_right}

pub part_of : {X : Type 0} (f : X → ℕ) (all : List X → ℕ) → ((x : X) (xs : List X) → all (x ∷ xs) ≡ f x + all xs) → (xs : List X) (i : ℕ) (x : X) → i < length xs → x ≡ get_or xs i x → f x ≤ all xs
part_of f all more [] i x h e = absurd (omega (arith, h))
part_of f all more (y ∷ ys) zero x h e = omega (arith, ap f e, more y ys)
part_of f all more (y ∷ ys) (suc i) x h e = omega (arith, part_of f all more ys i x (omega (arith, h)) e, more y ys)

-- what stands in a part stands in all of them
pub contains_part : {X Y : Type 0} (f : X → List Y) (all : List X → List Y) → ((x : X) (xs : List X) → all (x ∷ xs) ≡ f x ++ all xs) → (xs : List X) (i : ℕ) (x : X) → i < length xs → x ≡ get_or xs i x → (y : Y) → Contains (f x) y → Contains (all xs) y
contains_part f all more [] i x h e y c = absurd (omega (arith, h))
contains_part f all more (z ∷ zs) zero x h e y c = subst (λ ys. Contains ys y) (sym (more z zs)) (Contains-append_left (f z) (all zs) y (subst (λ w. Contains (f w) y) e c))
contains_part f all more (z ∷ zs) (suc i) x h e y c = subst (λ ys. Contains ys y) (sym (more z zs)) (Contains-append_right (f z) (all zs) y (contains_part f all more zs i x (omega (arith, h)) e y c))

-- the list from the i-th element on
from_here : {X Y : Type 0} (F : List X → Y) (xs : List X) (i : ℕ) (x : X) → i < length xs → x ≡ get_or xs i x → F (drop i xs) ≡ F (x ∷ drop (i + 1) xs)
from_here F xs i x h e = ap F (drop-cons xs i x h) ∙ ap (λ y. F (y ∷ drop (suc i) xs)) (sym e) ∙ ap (λ j. F (x ∷ drop j xs)) (sym (add-one i))

-- some part holds
pub some_found : {X : Type 0} (F : List X → Bool) (f : X → Bool) → ((x : X) (xs : List X) → F (x ∷ xs) ≡ (f x || F xs)) → (xs : List X) (i : ℕ) (x : X) (w : Bool) → i < length xs → x ≡ get_or xs i x → f x ≡ true → F (drop i xs) ≡ w → true ≡ w
some_found F f more xs i x w h e t v = sym (ap (λ b. b || F (drop (i + 1) xs)) t) ∙ sym (more x (drop (i + 1) xs)) ∙ sym (from_here F xs i x h e) ∙ v

pub some_next : {X : Type 0} (F : List X → Bool) (f : X → Bool) → ((x : X) (xs : List X) → F (x ∷ xs) ≡ (f x || F xs)) → (xs : List X) (i : ℕ) (x : X) (w : Bool) → i < length xs → x ≡ get_or xs i x → f x ≡ false → F (drop i xs) ≡ w → F (drop (i + 1) xs) ≡ w
some_next F f more xs i x w h e t v = sym (ap (λ b. b || F (drop (i + 1) xs)) t) ∙ sym (more x (drop (i + 1) xs)) ∙ sym (from_here F xs i x h e) ∙ v

-- each part holds
pub each_failed : {X : Type 0} (F : List X → Bool) (f : X → Bool) → ((x : X) (xs : List X) → F (x ∷ xs) ≡ (f x && F xs)) → (xs : List X) (i : ℕ) (x : X) (w : Bool) → i < length xs → x ≡ get_or xs i x → f x ≡ false → F (drop i xs) ≡ w → false ≡ w
each_failed F f more xs i x w h e t v = sym (ap (λ b. b && F (drop (i + 1) xs)) t) ∙ sym (more x (drop (i + 1) xs)) ∙ sym (from_here F xs i x h e) ∙ v

pub each_next : {X : Type 0} (F : List X → Bool) (f : X → Bool) → ((x : X) (xs : List X) → F (x ∷ xs) ≡ (f x && F xs)) → (xs : List X) (i : ℕ) (x : X) (w : Bool) → i < length xs → x ≡ get_or xs i x → f x ≡ true → F (drop i xs) ≡ w → F (drop (i + 1) xs) ≡ w
each_next F f more xs i x w h e t v = sym (ap (λ b. b && F (drop (i + 1) xs)) t) ∙ sym (more x (drop (i + 1) xs)) ∙ sym (from_here F xs i x h e) ∙ v

-- none is left
pub parts_end : {X Y : Type 0} (F : List X → Y) (xs : List X) (i : ℕ) (w : Y) → length xs ≤ i → F (drop i xs) ≡ w → F [] ≡ w
parts_end F xs i w h v = sym (at_drop_all F xs i h) ∙ v

-- one part's elements more
pub joined_next : {X Y : Type 0} (F : List X → List Y) (f : X → List Y) → ((x : X) (xs : List X) → F (x ∷ xs) ≡ f x ++ F xs) → (xs : List X) (i : ℕ) (x : X) (was now all : List Y) → i < length xs → x ≡ get_or xs i x → now ≡ was ++ f x → was ++ F (drop i xs) ≡ all → now ++ F (drop (i + 1) xs) ≡ all
joined_next F f more xs i x was now all h e p v = ap (λ ys. ys ++ F (drop (i + 1) xs)) p ∙ append_assoc was (f x) (F (drop (i + 1) xs)) ∙ ap (λ ys. was ++ ys) (sym (more x (drop (i + 1) xs)) ∙ sym (from_here F xs i x h e)) ∙ v

pub joined_end : {X Y : Type 0} (F : List X → List Y) → F [] ≡ [] → (xs : List X) (i : ℕ) (was all : List Y) → length xs ≤ i → was ++ F (drop i xs) ≡ all → was ≡ all
joined_end F none xs i was all h v = sym (append-nil was) ∙ ap (λ ys. was ++ ys) (sym none ∙ sym (at_drop_all F xs i h)) ∙ v

-- what all have, and one more
pub all_more : {A : Type 0} (P : A → Type 0) (got more : List A) (a : A) → more ≡ got ++ a ∷ [] → P a → All P got → All P more
all_more P got more a e h k = subst (All P) (sym e) (All-append P got (a ∷ []) k (All-cons P a [] h (All-nil P)))

-- the elements that a test keeps
kept_turn : {A : Type 0} (b : Bool) (x : A) (xs : List A) → cond b (x ∷ xs) xs ≡ cond b (x ∷ []) [] ++ xs
kept_turn true x xs = refl
kept_turn false x xs = refl

pub filter_more : {A : Type 0} (h : A → Bool) (x : A) (xs : List A) → filter h (x ∷ xs) ≡ cond (h x) (x ∷ []) [] ++ filter h xs
filter_more h x xs = kept_turn (h x) x (filter h xs)

-- within the list it makes no difference what stands for a missing element
pub get_or-self : {A : Type 0} (xs : List A) (i : ℕ) (d : A) → i < length xs → get_or xs i d ≡ get_or xs i (get_or xs i d)
get_or-self [] i d h = absurd (omega (arith, h))
get_or-self (x ∷ xs) zero d h = refl
get_or-self (x ∷ xs) (suc i) d h = get_or-self xs i d (omega (arith, h))

-- ---- what parts make of one another, from the first on

pub fold_next : {X C : Type 0} (F : List X → C → C) (f : X → C → C) → ((x : X) (xs : List X) (c : C) → F (x ∷ xs) c ≡ F xs (f x c)) → (xs : List X) (i : ℕ) (x : X) (was now all : C) → i < length xs → x ≡ get_or xs i x → now ≡ f x was → F (drop i xs) was ≡ all → F (drop (i + 1) xs) now ≡ all
fold_next F f more xs i x was now all h e p v = ap (F (drop (i + 1) xs)) p ∙ sym (more x (drop (i + 1) xs) was) ∙ sym (from_here (λ ys. F ys was) xs i x h e) ∙ v

-- ---- two lists, place by place

-- lists of two lengths are not the same place by place
pub pairs_apart : {X Y : Type 0} (F : List X → List Y → Bool) (f : X → Y → Bool) → ((x : X) (y : Y) (xs : List X) (ys : List Y) → F (x ∷ xs) (y ∷ ys) ≡ (f x y && F xs ys)) → ((y : Y) (ys : List Y) → F [] (y ∷ ys) ≡ false) → ((x : X) (xs : List X) → F (x ∷ xs) [] ≡ false) → (xs : List X) (ys : List Y) → (length xs ≡ length ys → ⊥) → false ≡ F xs ys
pairs_apart F f more left right [] [] h = absurd (h refl)
pairs_apart F f more left right [] (y ∷ ys) h = sym (left y ys)
pairs_apart F f more left right (x ∷ xs) [] h = sym (right x xs)
pairs_apart F f more left right (x ∷ xs) (y ∷ ys) h = of_both (f x y) (F xs ys) (pairs_apart F f more left right xs ys (λ e. h (ap suc e))) ∙ sym (more x y xs ys)
  where
    of_both : (a b : Bool) → false ≡ b → false ≡ (a && b)
    of_both true b e = e
    of_both false b e = refl

-- ---- answers in other words

pub ok_through : {A B E : Type 0} (r : Result A E) (f : A → B) (x y : B) → x ≡ y → IfOk r (λ a. f a ≡ x) → IfOk r (λ a. f a ≡ y)
ok_through (Ok a) f x y e h = h ∙ e
ok_through (Err k) f x y e h = tt

-- what follows from an error
pub err_so : {A E : Type 0} (r : Result A E) (P Q : E → Type 0) → ((e : E) → P e → Q e) → IfErr r P → IfErr r Q
err_so (Ok a) P Q f h = tt
err_so (Err e) P Q f h = f e h

-- an error that a `?` passes on
pub passed_on : {A E : Type 0} (r : Result A E) (Q P : E → Type 0) → IsErrAnd r Q → ((y : E) → Q y → P y) → IfErr r P
passed_on (Ok v) Q P is h = tt
passed_on (Err e) Q P is h = h e is

pub differs : (a b : Bool) → not (beq a b) ≡ negated b a
differs true true = refl
differs true false = refl
differs false true = refl
differs false false = refl

-- ---- a node, if the filter holds there

kept_if : (rest : Node → List Node) (b : Bool) (n : Node) → b ≡ true → rest n ≡ flat_map rest (cond b (n ∷ []) [])
kept_if rest b n e = sym (append-nil (rest n)) ∙ ap (λ v. flat_map rest (cond v (n ∷ []) [])) (sym e)

pub kept_true : (rest : Node → List Node) (f : Node → Bool) (n : Node) → f n ≡ true → rest n ≡ flat_map rest (filter f (n ∷ []))
kept_true rest f n e = kept_if rest (f n) n e

pub kept_false : (rest : Node → List Node) (f : Node → Bool) (n : Node) → f n ≡ false → flat_map rest (filter f (n ∷ [])) ≡ []
kept_false rest f n e = ap (λ v. flat_map rest (cond v (n ∷ []) [])) e
