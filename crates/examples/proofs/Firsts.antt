-- What is known of the first of the nodes that are shown, and of the first of a list that is so.
use Rattle.std.proofs.Common.{◌≡◌, ℕ, zero, suc, ◌+◌, ◌<◌, ◌≤◌, Bool, not, cond, ltb, List, [], ◌∷◌, All, position, length, take, get_or, slice_get, Option, Some, None, option_map, String, Global, MatchOption, IfSome, IfNone, IsTrue, IsFalse, false, refl, sym, ◌∙◌, ap, subst, arith, string_bytes}
use Rattle.std.proofs.lemmas.Bool.{cond_above, cond_below}
use Rattle.std.proofs.lemmas.List.{take_all}
use Rattle.std.proofs.lemmas.List.Elements.{All-head, All-more, All-tail}
use Rattle.std.proofs.lemmas.Option.{slice_get_read, slice_get_within}
use Rattle.std.specs.List.{position_or_len}
use Rattle.jsonpath_rust.specs.Prepared.{IsFirstNode}
use Rattle.jsonpath_rust.specs.Syntax.{Query}
use Rattle.jsonpath_rust.specs.Tree.{Tree}
use Rattle.jsonpath_rust.specs.Document.{Document}
use Rattle.examples.specs.First.{IsSilent, IsFirst, IsFirstPath}

-- the first node has the path of the first location
pub first_shown : (q : Query) (doc : Document) (node : List ℕ × Tree) → IsFirstNode q doc node → IsFirstPath doc node.0 q
first_shown q doc node h = record { location = h.location; rest = h.rest; selects = h.selects; normal = h.node.0 }

-- of an answer, which is the path of the first node, or None where there is none
pub shown_so : (doc : Document) (q : Query) (o : Option (String Global)) → IfSome o (λ path. IsFirstPath doc (string_bytes path) q) → IfNone o (IsSilent doc q) → MatchOption (option_map string_bytes o) (IsSilent doc q) (λ path. IsFirstPath doc path q)
shown_so doc q (Some path) first silent = first
shown_so doc q None first silent = silent

-- the element at the index is so, and those before it are passed over
pub found_here : {X : Type 0} (xs : List X) (IsPassed : X → Type 0) (i : ℕ) (x : X) (IsSo : X → Type 0) → All IsPassed (take i xs) → i < length xs → x ≡ get_or xs i x → IsSo x → IsFirst xs IsPassed i IsSo
found_here xs IsPassed i x IsSo before within is so = record { before = before; element = x; there = slice_get_read xs (length xs) i x refl within is; is_so = so }

-- it is passed over too
pub passed_next : {X : Type 0} (xs : List X) (IsPassed : X → Type 0) (i : ℕ) (x : X) → All IsPassed (take i xs) → i < length xs → x ≡ get_or xs i x → IsPassed x → All IsPassed (take (i + 1) xs)
passed_next xs IsPassed i x before within is so = All-more IsPassed xs i x within before (subst IsPassed is so)

-- all have been asked
pub passed_all : {X : Type 0} (xs : List X) (IsPassed : X → Type 0) (i : ℕ) → All IsPassed (take i xs) → length xs ≤ i → All IsPassed xs
passed_all xs IsPassed i before past = subst (All IsPassed) (take_all i xs past) before

-- the first that passes stands where each before it fails
place_of : {Y : Type 0} (p : Y → Bool) (ys : List Y) (i : ℕ) (y : Y) → All (λ z. IsFalse (p z)) (take i ys) → slice_get ys i ≡ Some y → IsTrue (p y) → position_or_len p ys ≡ i
place_of p [] i y before there so = absurd (cc)
place_of p (z ∷ zs) zero y before there so =
    let is : z ≡ y = cc in
    ap (λ b. cond (not b) (1 + position_or_len p zs) 0) (ap p is ∙ so)
place_of p (z ∷ zs) (suc i) y before there so =
    let e : 1 + i ≡ suc i = omega arith in
    let fails : p z ≡ false = All-head (λ w. IsFalse (p w)) z (take i zs) before in
    let rest = place_of p zs i y (All-tail (λ w. IsFalse (p w)) z (take i zs) before) there so in
    ap (λ b. cond (not b) (1 + position_or_len p zs) 0) fails ∙ ap (λ n. 1 + n) rest ∙ e

pub position_here : {Y : Type 0} (p : Y → Bool) (ys : List Y) (i : ℕ) → IsFirst ys (λ z. IsFalse (p z)) i (λ z. IsTrue (p z)) → Some i ≡ position p ys
position_here p ys i first =
    cond_below i (length ys) (Some i) None (slice_get_within ys i first.element first.there)
    ∙ ap (λ n. cond (ltb n (length ys)) (Some n) None) (sym (place_of p ys i first.element first.before first.there first.is_so))

no_place : {Y : Type 0} (p : Y → Bool) (ys : List Y) → All (λ z. IsFalse (p z)) ys → position_or_len p ys ≡ length ys
no_place p [] all = refl
no_place p (z ∷ zs) all =
    let e : 1 + length zs ≡ suc (length zs) = omega arith in
    let fails : p z ≡ false = All-head (λ w. IsFalse (p w)) z zs all in
    let rest = no_place p zs (All-tail (λ w. IsFalse (p w)) z zs all) in
    ap (λ b. cond (not b) (1 + position_or_len p zs) 0) fails ∙ ap (λ n. 1 + n) rest ∙ e

-- where each fails there is none
pub position_nowhere : {Y : Type 0} (p : Y → Bool) (ys : List Y) → All (λ z. IsFalse (p z)) ys → None ≡ position p ys
position_nowhere p ys all =
    let ends : length ys ≤ length ys = omega arith in
    cond_above (length ys) (length ys) (Some (length ys)) None None ends refl
    ∙ ap (λ n. cond (ltb n (length ys)) (Some n) None) (sym (no_place p ys all))
