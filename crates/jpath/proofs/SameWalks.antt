-- Two documents walked side by side: what is left to compare in each loop of `same`.
use Rattle.std.proofs.Common.{Less, ◌≡◌, ◌≢◌, ◌<◌, ℕ, List, [], ◌∷◌, map, length, Vec, BTreeMap, Bor, Global, false, IsTrue, refl, sym, ◌∙◌, arith}
use Rattle.std.proofs.Math.Bool.{and-false}
use Rattle.jsonpath_base.specs.Prelude.{AllByRecursion, IsStrictlySortedBy, keys_of, member, Members, members_of, nat_cmp, no_members, object, pairs, same, same_trees, slice_cmp, Trees, trees_of}
use Rattle.jsonpath_base.proofs.SameWalks.{weight, trees_weight, members_weight, IsBelow, Ascends, walk, walk_same, ToCompare}
use Rattle.jpath.specs.Document.{items_data, members_data, json_tree, json_is_whole}
use Rattle.jpath.specs.declared.document.Json.{Json, Array, Object}
use Rattle.jpath.proofs.DocumentViews.{Entry, data-Array, data-Object, name_cmp, names_ascend}

-- the trees of a list of values, and the members of a map's entries
abbrev pub trees : List Json → Trees
trees vs = trees_of (items_data vs)

abbrev pub members : List Entry → Members
members es = members_of (members_data es)

pub array_weight : (v : Json) (a : Vec Json Global) → v ≡ Array a → trees_weight (trees a.items) < weight (json_tree v)
array_weight v a e = rw (e, data-Array a) (omega arith)

pub object_weight : (v : Json) (m : BTreeMap (Bor (List ℕ)) Json) → v ≡ Object m → members_weight (members m.entries) < weight (json_tree v)
object_weight v m e = rw (e, data-Object m) (omega arith)

-- ---- two lists of values

abbrev pub ItemsToCompare : (xs ys left right : List Json) → Type 0
ItemsToCompare xs ys = ToCompare (λ v. IsTrue (json_is_whole v)) (same_trees (trees xs) (trees ys)) (trees_weight (trees xs)) (λ l r. same_trees (trees l) (trees r)) (λ l. trees_weight (trees l))

-- lists of two lengths are not the same
pub other_length : (xs ys : List Json) → length xs ≢ length ys → false ≡ same_trees (trees xs) (trees ys)
other_length [] [] h = absurd (h refl)
other_length [] (y ∷ ys) h = refl
other_length (x ∷ xs) [] h = refl
other_length (x ∷ xs) (y ∷ ys) h =
    let shorter : length xs ≢ length ys = λ e. h (omega (arith, e)) in
    rw (← other_length xs ys shorter) (sym (and-false (same (json_tree x) (json_tree y))))

-- ---- the entries of two maps, whose names ascend

abbrev pub EntriesToCompare : (xs ys left right : List Entry) → Type 0
EntriesToCompare xs ys = ToCompare (λ e. IsTrue (json_is_whole e.1)) (same (object (members xs)) (object (members ys))) (members_weight (members xs)) (λ l r. walk (members l) (members r)) (λ l. members_weight (members l))

is_below : (k : List ℕ) (ms : Members) → AllByRecursion (λ l. slice_cmp nat_cmp k l ≡ Less) (map (λ m. m.0) (pairs ms)) → IsBelow k ms
is_below k no_members h = tt
is_below k (member l t ms) h = (h.0, is_below k ms h.1)

ascends : (ms : Members) → IsStrictlySortedBy (slice_cmp nat_cmp) (map (λ m. m.0) (pairs ms)) → Ascends ms
unfolding IsStrictlySortedBy
ascends no_members h = tt
ascends (member k t ms) h = (is_below k ms h.0, ascends ms h.1)

-- a walk side by side tells whether two objects are the same
pub entries_walk : (xs ys : List Entry) → IsStrictlySortedBy name_cmp (keys_of xs) → IsStrictlySortedBy name_cmp (keys_of ys) → same (object (members xs)) (object (members ys)) ≡ walk (members xs) (members ys)
entries_walk xs ys a b = walk_same (members xs) (members ys) (ascends (members xs) (names_ascend xs a)) (ascends (members ys) (names_ascend ys b))

walk_length : (xs ys : List Entry) → length xs ≢ length ys → walk (members xs) (members ys) ≡ false
walk_length [] [] h = absurd (h refl)
walk_length [] (y ∷ ys) h = refl
walk_length (x ∷ xs) [] h = refl
walk_length (x ∷ xs) (y ∷ ys) h =
    let shorter : length xs ≢ length ys = λ e. h (omega (arith, e)) in
    rw (walk_length xs ys shorter, and-false (same (json_tree x.1) (json_tree y.1))) (and-false _)

-- objects with other numbers of members are not the same
pub other_count : (xs ys : List Entry) → IsStrictlySortedBy name_cmp (keys_of xs) → IsStrictlySortedBy name_cmp (keys_of ys) → length xs ≢ length ys → false ≡ same (object (members xs)) (object (members ys))
other_count xs ys a b h = sym (entries_walk xs ys a b ∙ walk_length xs ys h)
