-- A copy of a map, entry by entry.
use Rattle.std.proofs.Common.{Ordering, Less, Equal, Greater, ◌≡◌, ℕ, List, [], ◌∷◌, ◌++◌, reverse, String, BTreeMap, Global, string_bytes, string_cmp, nat_cmp, refl, sym, ap, ◌∙◌}
use Rattle.std.proofs.lemmas.Cmp.{nat_list_cmp_total}
use Rattle.std.specs.BTreeMap.{insert_entry}
use Rattle.std.specs.Cmp.Lexicographic.{slice_cmp}
use Rattle.std.specs.List.{AllByRecursion}
use Rattle.std.specs.List.Sorted.{IsStrictlySortedBy}
use Rattle.std.specs.Map.{keys_of}
use Rattle.std.specs.Ordering.{match_ordering, ordering_reverse}
use Rattle.cases.specs.declared.doc.Doc as doc
use Rattle.cases.specs.declared.doc.Doc.{Doc}
use Rattle.jsonpath_base.specs.Tree.{Tree, object}
use Rattle.cases.specs.DocTree.{doc_tree, pairs_of, members}
use Rattle.cases.proofs.Docs.{Entry, pair, tree-Members}
use Rattle.cases.proofs.Reversing.{Named}

-- the members, with t at k
abbrev pub put : List ℕ → Tree → Named → Named
put k t [] = (k, t) ∷ []
put k t (m ∷ ms) = match_ordering (slice_cmp nat_cmp k m.0) ((k, t) ∷ m ∷ ms) ((m.0, t) ∷ ms) (m ∷ put k t ms)

pairs_of-match_ordering : (o : Ordering) (a b c : List Entry) → pairs_of (match_ordering o a b c) ≡ match_ordering o (pairs_of a) (pairs_of b) (pairs_of c)
pairs_of-match_ordering Less a b c = refl
pairs_of-match_ordering Equal a b c = refl
pairs_of-match_ordering Greater a b c = refl

pub pairs_of-insert_entry : (es : List Entry) (k : String Global) (v : Doc) → pairs_of (insert_entry string_cmp es k v) ≡ put (string_bytes k) (doc_tree v) (pairs_of es)
pairs_of-insert_entry [] k v = refl
pairs_of-insert_entry (e ∷ es) k v = pairs_of-match_ordering (string_cmp k e.0) _ _ _ ∙ rw (pairs_of-insert_entry es k v)

below_middle : (first : Entry) (es : List Entry) (e : Entry) (more : List Entry) → AllByRecursion (λ y. string_cmp first.0 y ≡ Less) (keys_of (es ++ e ∷ more)) → string_cmp first.0 e.0 ≡ Less
below_middle first [] e more h = h.0
below_middle first (x ∷ es) e more h = below_middle first es e more h.1

-- a name that is above those before it goes last
pub put_last : (done : List Entry) (e : Entry) (more : List Entry) → IsStrictlySortedBy string_cmp (keys_of (done ++ e ∷ more)) → put (string_bytes e.0) (doc_tree e.1) (pairs_of done) ≡ pairs_of (done ++ e ∷ [])
unfolding IsStrictlySortedBy
put_last [] e more h = refl
put_last (first ∷ done) e more h =
    let above : slice_cmp nat_cmp (string_bytes e.0) (string_bytes first.0) ≡ Greater =
    nat_list_cmp_total.antisymm (string_bytes e.0) (string_bytes first.0) ∙ ap ordering_reverse (below_middle first done e more h.0) in
    rw above (ap (λ ms. pair first ∷ ms) (put_last done e more h.1))

-- maps with the same members are the same tree
pub copied_members : (m n : BTreeMap (String Global) Doc) (d : Doc) → d ≡ doc.Members n → pairs_of m.entries ≡ pairs_of n.entries → doc_tree (doc.Members m) ≡ doc_tree d
copied_members m n d e h = tree-Members m ∙ ap (λ ms. object (members (reverse ms))) h ∙ sym (ap doc_tree e ∙ tree-Members n)
