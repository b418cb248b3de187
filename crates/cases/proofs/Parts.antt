-- What is in a map, and what is in a tree.
use Rattle.std.proofs.Common.{◌≡◌, ℕ, zero, suc, ◌<◌, List, [], ◌∷◌, map, reverse, length, get_or, Option, Some, None, option_map, option_copied, IfSome, is_some, Bor, string_bytes, nat_cmp, bytes_eq, Bool, true, false, IsTrue, cond, refl, sym, ap, ◌∙◌, subst, arith}
use Rattle.std.proofs.lemmas.Bool.{and_parts}
use Rattle.std.proofs.lemmas.Map.Text.{is_eq-slice_cmp}
use Rattle.std.specs.BTreeMap.{is_at}
use Rattle.std.specs.Cmp.Lexicographic.{slice_cmp}
use Rattle.std.specs.Map.{lookup}
use Rattle.cases.specs.declared.doc.Doc.{Doc}
use Rattle.jsonpath_base.specs.Tree.{Tree, null, truth, number, text, list, object, Trees, no_trees, tree, Members, no_members, member, elements, pairs, find, as_list, as_members, are_distinct, has_distinct_names, trees_distinct, members_distinct}
use Rattle.cases.specs.DocTree.{doc_tree, pairs_of, trees, members}
use Rattle.cases.proofs.Docs.{Entry}
use Rattle.cases.proofs.Reversing.{Named, names, find_turned, has_turned}

-- ---- a tree from its kind

trees-elements : (ts : Trees) → trees (elements ts) ≡ ts
trees-elements no_trees = refl
trees-elements (tree t ts) = ap (λ us. tree t us) (trees-elements ts)

members-pairs : (ms : Members) → members (pairs ms) ≡ ms
members-pairs no_members = refl
members-pairs (member k t ms) = ap (λ ns. member k t ns) (members-pairs ms)

abbrev list_or : Option (List Tree) → List Tree
list_or None = []
list_or (Some ts) = ts

abbrev members_or : Option Named → Named
members_or None = []
members_or (Some ms) = ms

pub is_list : (t : Tree) (ts : List Tree) → Some ts ≡ as_list t → t ≡ list (trees ts)
is_list null ts h = absurd cc
is_list (truth b) ts h = absurd cc
is_list (number n) ts h = absurd cc
is_list (text s) ts h = absurd cc
is_list (list us) ts h = sym (ap (λ o. list (trees (list_or o))) h ∙ ap list (trees-elements us))
is_list (object ms) ts h = absurd cc

pub is_object : (t : Tree) (ms : Named) → Some ms ≡ as_members t → t ≡ object (members ms)
is_object null ms h = absurd cc
is_object (truth b) ms h = absurd cc
is_object (number n) ms h = absurd cc
is_object (text s) ms h = absurd cc
is_object (list us) ms h = absurd cc
is_object (object ns) ms h = sym (ap (λ o. object (members (members_or o))) h ∙ ap object (members-pairs ns))

-- ---- a member by its name

found : (b : Bool) (d : Doc) (r : Option Doc) (o : Option Tree) → option_map doc_tree r ≡ o → option_map doc_tree (cond b (Some d) r) ≡ cond b (Some (doc_tree d)) o
found true d r o e = refl
found false d r o e = e

find_pairs_of : (k : List ℕ) (es : List Entry) → option_map doc_tree (lookup (is_at (λ s. slice_cmp nat_cmp k (string_bytes s))) es) ≡ find k (pairs_of es)
find_pairs_of k [] = refl
find_pairs_of k (e ∷ es) = found _ e.1 _ _ (find_pairs_of k es) ∙ ap (λ b. cond b (Some (doc_tree e.1)) (find k (pairs_of es))) (is_eq-slice_cmp k (string_bytes e.0))

of_ref : (r : Option (Bor Doc)) → option_map (λ v. doc_tree v.now) r ≡ option_map doc_tree (option_copied r)
of_ref None = refl
of_ref (Some v) = refl

-- what a map's `get` lends is the member of that name
pub get_member : (k : List ℕ) (es : List Entry) (r : Option (Bor Doc)) → are_distinct (names (reverse (pairs_of es))) ≡ true → option_copied r ≡ lookup (is_at (λ s. slice_cmp nat_cmp k (string_bytes s))) es
    → option_map (λ v. doc_tree v.now) r ≡ find k (reverse (pairs_of es))
get_member k es r h e = of_ref r ∙ ap (option_map doc_tree) e ∙ find_pairs_of k es ∙ sym (find_turned k (pairs_of es) h)

is_some-map : (o : Option Doc) → is_some (option_map doc_tree o) ≡ is_some o
is_some-map None = refl
is_some-map (Some d) = refl

-- whether a map has a key is whether there is a member of that name
pub has_member : (k : List ℕ) (es : List Entry) → is_some (lookup (is_at (λ s. slice_cmp nat_cmp k (string_bytes s))) es) ≡ is_some (find k (reverse (pairs_of es)))
has_member k es = sym (has_turned k (pairs_of es) ∙ ap is_some (sym (find_pairs_of k es)) ∙ is_some-map (lookup (is_at (λ s. slice_cmp nat_cmp k (string_bytes s))) es))

-- ---- parts of what has distinct names

pub object_names : (ms : Named) → IsTrue (has_distinct_names (object (members ms))) → are_distinct (names ms) ≡ true
object_names ms h = sym (ap (λ ns. are_distinct (names ns)) (pairs_back ms)) ∙ (and_parts (are_distinct (names (pairs (members ms)))) (members_distinct (members ms)) h).0
  where
    pairs_back : (ms : Named) → pairs (members ms) ≡ ms
    pairs_back [] = refl
    pairs_back (m ∷ ns) = ap (λ os. m ∷ os) (pairs_back ns)

pub object_values : (ms : Named) → IsTrue (has_distinct_names (object (members ms))) → members_distinct (members ms) ≡ true
object_values ms h = (and_parts (are_distinct (names (pairs (members ms)))) (members_distinct (members ms)) h).1

here_or_later : (b : Bool) (t : Tree) (o : Option Tree) → IsTrue (has_distinct_names t) → IfSome o (λ u. IsTrue (has_distinct_names u)) → IfSome (cond b (Some t) o) (λ u. IsTrue (has_distinct_names u))
here_or_later true t o h k = h
here_or_later false t o h k = k

pub found_distinct : (k : List ℕ) (ms : Named) → members_distinct (members ms) ≡ true → IfSome (find k ms) (λ u. IsTrue (has_distinct_names u))
found_distinct k [] h = tt
found_distinct k (m ∷ ms) h =
    let parts = and_parts (has_distinct_names m.1) (members_distinct (members ms)) h in
    here_or_later (bytes_eq k m.0) m.1 (find k ms) parts.0 (found_distinct k ms parts.1)

pub item_distinct : (ds : List Doc) (i : ℕ) (d : Doc) → trees_distinct (trees (map doc_tree ds)) ≡ true → i < length ds → d ≡ get_or ds i d → IsTrue (has_distinct_names (doc_tree d))
item_distinct [] i d h l e = absurd (omega (arith, l))
item_distinct (x ∷ xs) zero d h l e = subst (λ y. IsTrue (has_distinct_names (doc_tree y))) (sym e) (and_parts (has_distinct_names (doc_tree x)) (trees_distinct (trees (map doc_tree xs))) h).0
item_distinct (x ∷ xs) (suc i) d h l e = item_distinct xs i d (and_parts (has_distinct_names (doc_tree x)) (trees_distinct (trees (map doc_tree xs))) h).1 (omega (arith, l)) e
