-- Names stand once in each object of a `Doc`, since its maps keep them in order.
use Rattle.std.proofs.Common.{Less, Greater, ◌≡◌, ℕ, List, [], ◌∷◌, ◌++◌, reverse, String, Global, string_bytes, string_cmp, nat_cmp, bytes_eq, true, false, IsTrue, ◌&&◌, refl, sym, ap, ◌∙◌}
use mathlib.Core.List.{reverse_aux}
use Rattle.std.proofs.lemmas.Bool.{and_from}
use Rattle.std.proofs.lemmas.Cmp.{nat_list_cmp_total}
use Rattle.std.proofs.lemmas.Map.Text.{is_eq-slice_cmp}
use Rattle.std.specs.Cmp.Lexicographic.{slice_cmp}
use Rattle.std.specs.List.{AllByRecursion, list_any}
use Rattle.std.specs.List.Sorted.{IsStrictlySortedBy}
use Rattle.std.specs.Map.{keys_of}
use Rattle.std.specs.Ordering.{is_eq, ordering_reverse}
use Rattle.jsonpath_base.specs.Tree.{object, pairs, are_distinct, has_distinct_names, members_distinct}
use Rattle.cases.specs.DocTree.{doc_tree, pairs_of, members}
use Rattle.cases.proofs.Docs.{Entry, pair, pairs-members, last_first}
use Rattle.cases.proofs.Reversing.{Named, names}

-- ---- names that ascend

-- none of the keys is among these names
abbrev AreNew : List (List ℕ) → List (String Global) → Type 0
AreNew ns ks = AllByRecursion (λ k. list_any (bytes_eq (string_bytes k)) ns ≡ false) ks

other_name : (k l : String Global) → string_cmp k l ≡ Less → bytes_eq (string_bytes l) (string_bytes k) ≡ false
other_name k l h =
    let above : slice_cmp nat_cmp (string_bytes l) (string_bytes k) ≡ Greater = nat_list_cmp_total.antisymm (string_bytes l) (string_bytes k) ∙ ap ordering_reverse h in
    sym (is_eq-slice_cmp (string_bytes l) (string_bytes k)) ∙ ap is_eq above

still_new : (k : String Global) (ns : List (List ℕ)) (ks : List (String Global)) → AllByRecursion (λ l. string_cmp k l ≡ Less) ks → AreNew ns ks → AreNew (string_bytes k ∷ ns) ks
still_new k ns [] h new = tt
still_new k ns (l ∷ ks) h new = (rw (other_name k l h.0) new.0, still_new k ns ks h.1 new.1)

distinct_onto : (es : List Entry) (acc : Named) → IsStrictlySortedBy string_cmp (keys_of es) → AreNew (names acc) (keys_of es) → are_distinct (names acc) ≡ true → are_distinct (names (reverse_aux (pairs_of es) acc)) ≡ true
unfolding IsStrictlySortedBy
distinct_onto [] acc h new d = d
distinct_onto (e ∷ es) acc h new d = distinct_onto es (pair e ∷ acc) h.1 (still_new e.0 (names acc) (keys_of es) h.0 new.1) (rw new.0 d)

none_new : (ks : List (String Global)) → AreNew [] ks
none_new [] = tt
none_new (k ∷ ks) = (refl, none_new ks)

pub distinct_object : (es : List Entry) → IsStrictlySortedBy string_cmp (keys_of es) → members_distinct (members (reverse (pairs_of es))) ≡ true → IsTrue (has_distinct_names (object (members (reverse (pairs_of es)))))
distinct_object es h d =
    and_from (are_distinct (names (pairs (members (reverse (pairs_of es)))))) _
    (ap (λ ms. are_distinct (names ms)) (pairs-members (reverse (pairs_of es))) ∙ distinct_onto es [] h (none_new (keys_of es)) refl)
    d

-- ---- along a walk

pub more_members : (es left : List Entry) (e : Entry) → es ≡ left ++ e ∷ [] → IsTrue (has_distinct_names (doc_tree e.1)) → members_distinct (members (reverse (pairs_of es))) ≡ members_distinct (members (reverse (pairs_of left)))
more_members es left e h d =
    ap (λ xs. members_distinct (members (reverse (pairs_of xs)))) h ∙ ap (λ ms. members_distinct (members ms)) (last_first left e) ∙ ap (λ b. b && members_distinct (members (reverse (pairs_of left)))) d
