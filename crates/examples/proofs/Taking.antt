-- What stands at a location that is removed makes no difference.
use Rattle.std.proofs.Common.{◌≡◌, ℕ, zero, suc, ◌+◌, List, [], ◌∷◌, Bool, true, false, true≢false, if◌then◌else◌, bytes_eq, refl, sym, ap, ◌∙◌, subst, arith}
use Rattle.std.proofs.lemmas.Slice.Eq.{bytes_eq-Decides}
use Rattle.jsonpath_rust.specs.Location.{name, index, Location}
use Rattle.jsonpath_rust.specs.Put.{with_element, with_member, put}
use Rattle.jsonpath_rust.specs.Tree.{Tree, null, truth, number, text, list, object, Trees, no_trees, tree, Members, no_members, member}
use Rattle.jsonpath_rust.specs.Without.{is_among, thinned, elements_thinned, members_thinned, without}

-- At this location, unless it is removed itself, the two are thinned to the same.
abbrev ThinsAlike : (Location → Bool) → (Tree → Tree) → Type 0
ThinsAlike gone f = gone [] ≡ false → (t : Tree) → thinned gone (f t) ≡ thinned gone t

element_alike : (gone : Location → Bool) (f : Tree → Tree) (n i j : ℕ) (ts : Trees) → n ≡ j + i → ThinsAlike (λ l. gone (index n ∷ l)) f → elements_thinned gone j (with_element i f ts) ≡ elements_thinned gone j ts
element_alike gone f n i j no_trees e h = refl
element_alike gone f n zero j (tree t ts) e h = by (gone (index j ∷ [])) refl
  where
    by : (b : Bool) → gone (index j ∷ []) ≡ b
        → (if b then elements_thinned gone (suc j) ts else tree (thinned (λ l. gone (index j ∷ l)) (f t)) (elements_thinned gone (suc j) ts)) ≡ (if b then elements_thinned gone (suc j) ts else tree (thinned (λ l. gone (index j ∷ l)) t) (elements_thinned gone (suc j) ts))
    by true is = refl
    by false is = let here : n ≡ j = omega (arith, e) in ap (λ x. tree x (elements_thinned gone (suc j) ts)) (subst (λ k. ThinsAlike (λ l. gone (index k ∷ l)) f) here h is t)
element_alike gone f n (suc i) j (tree t ts) e h = by (element_alike gone f n i (suc j) ts (omega (arith, e)) h) (gone (index j ∷ []))
  where
    by : elements_thinned gone (suc j) (with_element i f ts) ≡ elements_thinned gone (suc j) ts → (b : Bool)
        → (if b then elements_thinned gone (suc j) (with_element i f ts) else tree (thinned (λ l. gone (index j ∷ l)) t) (elements_thinned gone (suc j) (with_element i f ts))) ≡ (if b then elements_thinned gone (suc j) ts else tree (thinned (λ l. gone (index j ∷ l)) t) (elements_thinned gone (suc j) ts))
    by ih true = ih
    by ih false = ap (tree (thinned (λ l. gone (index j ∷ l)) t)) ih

member_alike : (gone : Location → Bool) (f : Tree → Tree) (k : List ℕ) (ms : Members) → ThinsAlike (λ l. gone (name k ∷ l)) f → members_thinned gone (with_member k f ms) ≡ members_thinned gone ms
member_alike gone f k no_members h = refl
member_alike gone f k (member n t ms) h = pick (bytes_eq k n) refl (member_alike gone f k ms h)
  where
    here : ThinsAlike (λ l. gone (name n ∷ l)) f → (b : Bool) → gone (name n ∷ []) ≡ b
        → (if b then members_thinned gone ms else member n (thinned (λ l. gone (name n ∷ l)) (f t)) (members_thinned gone ms)) ≡ (if b then members_thinned gone ms else member n (thinned (λ l. gone (name n ∷ l)) t) (members_thinned gone ms))
    here alike true is = refl
    here alike false is = ap (λ x. member n x (members_thinned gone ms)) (alike is t)

    behind : members_thinned gone (with_member k f ms) ≡ members_thinned gone ms → (b : Bool)
        → (if b then members_thinned gone (with_member k f ms) else member n (thinned (λ l. gone (name n ∷ l)) t) (members_thinned gone (with_member k f ms))) ≡ (if b then members_thinned gone ms else member n (thinned (λ l. gone (name n ∷ l)) t) (members_thinned gone ms))
    behind ih true = ih
    behind ih false = ap (member n (thinned (λ l. gone (name n ∷ l)) t)) ih

    pick : (b : Bool) → bytes_eq k n ≡ b → members_thinned gone (with_member k f ms) ≡ members_thinned gone ms
        → members_thinned gone (if b then member n (f t) ms else member n t (with_member k f ms)) ≡ members_thinned gone (member n t ms)
    pick true same ih = here (subst (λ x. ThinsAlike (λ l. gone (name x ∷ l)) f) ((bytes_eq-Decides k n).0 same) h) (gone (name n ∷ [])) refl
    pick false differ ih = behind ih (gone (name n ∷ []))

put_alike : (l : Location) (gone : Location → Bool) (u : Tree) → gone l ≡ true → ThinsAlike gone (put l u)
put_alike [] gone u is here t = absurd (true≢false (sym is ∙ here))
put_alike (index i ∷ l) gone u is here (list ts) = ap list (element_alike gone (put l u) i i 0 ts (omega arith) (put_alike l (λ m. gone (index i ∷ m)) u is))
put_alike (index i ∷ l) gone u is here null = refl
put_alike (index i ∷ l) gone u is here (truth b) = refl
put_alike (index i ∷ l) gone u is here (number n) = refl
put_alike (index i ∷ l) gone u is here (text s) = refl
put_alike (index i ∷ l) gone u is here (object ms) = refl
put_alike (name k ∷ l) gone u is here (object ms) = ap object (member_alike gone (put l u) k ms (put_alike l (λ m. gone (name k ∷ m)) u is))
put_alike (name k ∷ l) gone u is here null = refl
put_alike (name k ∷ l) gone u is here (truth b) = refl
put_alike (name k ∷ l) gone u is here (number n) = refl
put_alike (name k ∷ l) gone u is here (text s) = refl
put_alike (name k ∷ l) gone u is here (list ts) = refl

pub put_removed : (l : Location) (u t : Tree) → is_among (l ∷ []) l ≡ true → without (is_among (l ∷ [])) (put l u t) ≡ without (is_among (l ∷ [])) t
put_removed [] u t among = refl
put_removed (s ∷ l) u t among = put_alike (s ∷ l) (is_among ((s ∷ l) ∷ [])) u among refl t
