-- Where two lists of values differ.
use Rattle.std.proofs.Common.{◌≡◌, ℕ, zero, suc, ◌<◌, List, [], ◌∷◌, map, length, take, get_or, Option, Some, None, IfSome, IfNone, IsTrue, slice_get, refl, sym, ap, ap₂, ◌∙◌, subst, arith}
use Rattle.std.proofs.lemmas.Bool.{false≢true}
use Rattle.std.specs.List.{AllZip, filter_map, cons_option}
use Rattle.jsonpath_rust.specs.Location.{Location}
use Rattle.jsonpath_rust.specs.Places.{at}
use Rattle.jsonpath_rust.specs.Same.{same}
use Rattle.jsonpath_rust.specs.Tree.{Tree}
use Rattle.jsonpath_rust.specs.Answer.{IsValueAt}
use Rattle.jsonpath_rust.specs.Document.{Document}
use Rattle.examples.specs.Difference.{AreSame, IsDifferent, IsFirstDifference}
use Rattle.examples.specs.declared.difference.Difference.{Difference}
use Rattle.examples.specs.declared.difference.Missing.{Missing}
use Rattle.examples.specs.declared.difference.Missing.TheVariants.{Neither, First, Second}

-- one more is the same
pub same_next : {X : Type 0} (f : X → Tree) (xs ys : List X) (i : ℕ) (x y : X) → i < length xs → i < length ys → x ≡ get_or xs i x → y ≡ get_or ys i y → IsTrue (same (f x) (f y)) → AreSame (take i (map f xs)) (take i (map f ys)) → AreSame (take (suc i) (map f xs)) (take (suc i) (map f ys))
same_next f [] ys i x y within inside left right is h = absurd (omega (arith, within))
same_next f (a ∷ more) [] i x y within inside left right is h = absurd (omega (arith, inside))
same_next f (a ∷ more) (b ∷ rest) zero x y within inside left right is h = (ap₂ (λ u v. same (f u) (f v)) (sym left) (sym right) ∙ is, tt)
same_next f (a ∷ more) (b ∷ rest) (suc i) x y within inside left right is h = (h.0, same_next f more rest i x y (omega (arith, within)) (omega (arith, inside)) left right is h.1)

-- the second goes on where the first ends
pub first_ends : {X : Type 0} (f : X → Tree) (xs ys : List X) (n : ℕ) → n ≡ length xs → n < length ys → IsDifferent First (slice_get (map f xs) n) (slice_get (map f ys) n)
first_ends f xs [] n ends more = absurd (omega (arith, more))
first_ends f [] (y ∷ ys) zero ends more = tt
first_ends f [] (y ∷ ys) (suc n) ends more = absurd (omega (arith, ends))
first_ends f (x ∷ xs) (y ∷ ys) zero ends more = absurd (omega (arith, ends))
first_ends f (x ∷ xs) (y ∷ ys) (suc n) ends more = first_ends f xs ys n (omega (arith, ends)) (omega (arith, more))

nothing_differs : (m : Missing) → IsDifferent m None None → ⊥
nothing_differs Neither h = h
nothing_differs First h = h
nothing_differs Second h = h

same_differs : (m : Missing) (t u : Tree) → IsDifferent m (Some t) (Some u) → IsTrue (same t u) → ⊥
same_differs Neither t u h is = false≢true (sym h ∙ is)
same_differs First t u h is = h
same_differs Second t u h is = h

differ_there : (m : Missing) (ts us : List Tree) (i : ℕ) → IsDifferent m (slice_get ts i) (slice_get us i) → AreSame ts us → ⊥
differ_there m [] [] i h all = nothing_differs m h
differ_there m [] (u ∷ us) i h all = all
differ_there m (t ∷ ts) [] i h all = all
differ_there m (t ∷ ts) (u ∷ us) zero h all = same_differs m t u h all.0
differ_there m (t ∷ ts) (u ∷ us) (suc i) h all = differ_there m ts us i h all.1

-- lists that are the same place by place differ nowhere
pub no_difference : (ts us : List Tree) (r : Option Difference) → IfSome r (λ d. IsFirstDifference d ts us) → AreSame ts us → r ≡ None
no_difference ts us None h all = refl
no_difference ts us (Some d) h all = absurd (differ_there d.missing ts us d.index h.there all)

-- the values that stand at locations
pub values_at : (doc : Document) (ls : List Location) (ts : List Tree) → AllZip (IsValueAt doc) ls ts → filter_map (λ l. at l doc.root) ls ≡ ts
values_at doc [] [] h = refl
values_at doc [] (t ∷ ts) h = absurd h
values_at doc (l ∷ ls) [] h = absurd h
values_at doc (l ∷ ls) (t ∷ ts) h = ap₂ cons_option h.0 (values_at doc ls ts h.1)

-- what is lent of them
pub values_lent : {X : Type 0} (f : X → Tree) (doc : Document) (ls : List Location) (xs lent : List X) → AllZip (IsValueAt doc) ls (map f xs) → lent ≡ xs → filter_map (λ l. at l doc.root) ls ≡ map f lent
values_lent f doc ls xs lent h same = values_at doc ls (map f xs) h ∙ ap (map f) (sym same)

pub same_as : (ts us vs ws : List Tree) (r : Option Difference) → ts ≡ vs → us ≡ ws → IfNone r (AreSame vs ws) → IfNone r (AreSame ts us)
same_as ts us vs ws r left right h = subst (λ a. IfNone r (AreSame a us)) (sym left) (subst (λ b. IfNone r (AreSame vs b)) (sym right) h)

pub different_as : (ts us vs ws : List Tree) (r : Option Difference) → ts ≡ vs → us ≡ ws → IfSome r (λ d. IsFirstDifference d vs ws) → IfSome r (λ d. IsFirstDifference d ts us)
different_as ts us vs ws r left right h = subst (λ a. IfSome r (λ d. IsFirstDifference d a us)) (sym left) (subst (λ b. IfSome r (λ d. IsFirstDifference d vs b)) (sym right) h)
