-- A map of documents beside the members that it stands for, as entries are put into it.
use Rattle.std.proofs.Common.{Ordering, Less, Equal, Greater, ◌≡◌, ℕ, List, [], ◌∷◌, ◌++◌, Bor, nat_cmp, refl, ap, ◌∙◌}
use Rattle.std.proofs.lemmas.Cmp.{nat_list_cmp_total}
use Rattle.std.specs.BTreeMap.{insert_entry}
use Rattle.std.specs.Cmp.Lexicographic.{slice_cmp}
use Rattle.std.specs.List.{AllByRecursion}
use Rattle.std.specs.List.Sorted.{IsStrictlySortedBy}
use Rattle.std.specs.Map.{keys_of}
use Rattle.std.specs.Ordering.{match_ordering, ordering_reverse}
use Rattle.serde_json.specs.Data.{member, put}
use Rattle.jpath.specs.Document.{json_data, members_data}
use Rattle.jpath.specs.declared.document.Json.{Json}
use Rattle.jpath.proofs.DocumentViews.{Entry, name_cmp}

members_data-match_ordering : (o : Ordering) (a b c : List Entry) → members_data (match_ordering o a b c) ≡ match_ordering o (members_data a) (members_data b) (members_data c)
members_data-match_ordering Less a b c = refl
members_data-match_ordering Equal a b c = refl
members_data-match_ordering Greater a b c = refl

pub members_data-insert_entry : (es : List Entry) (k : Bor (List ℕ)) (v : Json) → members_data (insert_entry name_cmp es k v) ≡ put k.now (json_data v) (members_data es)
members_data-insert_entry [] k v = refl
members_data-insert_entry (e ∷ es) k v = members_data-match_ordering (name_cmp k e.0) _ _ _ ∙ rw (members_data-insert_entry es k v)

below_middle : (first : Entry) (es : List Entry) (e : Entry) (more : List Entry) → AllByRecursion (λ y. name_cmp first.0 y ≡ Less) (keys_of (es ++ e ∷ more)) → name_cmp first.0 e.0 ≡ Less
below_middle first [] e more h = h.0
below_middle first (x ∷ es) e more h = below_middle first es e more h.1

-- a name that is above those before it goes last
pub put_last : (done : List Entry) (e : Entry) (more : List Entry) → IsStrictlySortedBy name_cmp (keys_of (done ++ e ∷ more)) → put e.0.now (json_data e.1) (members_data done) ≡ members_data (done ++ e ∷ [])
unfolding IsStrictlySortedBy
put_last [] e more h = refl
put_last (first ∷ done) e more h =
    let above : slice_cmp nat_cmp e.0.now first.0.now ≡ Greater = nat_list_cmp_total.antisymm e.0.now first.0.now ∙ ap ordering_reverse (below_middle first done e more h.0) in
    rw above (ap (member first.0.now (json_data first.1)) (put_last done e more h.1))
