-- What is left to compare of two documents.
use Rattle.std.proofs.Common.{◌≡◌, ℕ, zero, suc, ◌+◌, ◌<◌, ◌≤◌, List, [], ◌∷◌, ◌++◌, map, reverse, length, get_or, drop, drop-cons, add-one, Option, Some, None, option_map, option_copied, IfSome, is_some, Bor, Vec, BTreeMap, String, Global, string_bytes, nat_cmp, Bool, true, false, IsTrue, ◌&&◌, refl, sym, ap, ◌∙◌, subst, arith}
use Rattle.std.proofs.Math.Bool.{and-false}
use Rattle.std.proofs.lemmas.List.{at_drop_all}
use Rattle.std.specs.BTreeMap.{is_at}
use Rattle.std.specs.Cmp.Lexicographic.{slice_cmp}
use Rattle.std.specs.List.{list_all}
use Rattle.std.specs.Map.{lookup}
use Rattle.std.specs.Option.{option_map_or}
use Rattle.cases.specs.declared.doc.Doc as doc
use Rattle.cases.specs.declared.doc.Doc.{Doc}
use Rattle.jsonpath_base.specs.Tree.{Tree, list, object, pairs, find, as_list, as_members, has_distinct_names, trees_distinct}
use Rattle.jsonpath_base.specs.Same.{same, same_trees, same_members, has_name}
use Rattle.jsonpath_base.specs.documents.inner.Size.{size, trees_size, members_size}
use Rattle.cases.specs.DocTree.{doc_tree, pairs_of, trees, members}
use Rattle.cases.proofs.Docs.{Entry, pair, last_first, tree-List, tree-Members, pairs-members}
use Rattle.cases.proofs.Parts.{is_list, is_object, has_member, get_member, object_names}
use Rattle.cases.proofs.Reversing.{Named}

-- ---- by kind

pub lists_same : (l r : Doc) (v : Vec Doc Global) (us : List Tree) → l ≡ doc.List v → Some us ≡ as_list (doc_tree r) → same_trees (trees (map doc_tree v.items)) (trees us) ≡ same (doc_tree l) (doc_tree r)
lists_same l r v us e h = sym (ap (λ t. same t (doc_tree r)) (ap doc_tree e ∙ tree-List v) ∙ ap (same (list (trees (map doc_tree v.items)))) (is_list (doc_tree r) us h))

pub objects_same : (l r : Doc) (m : BTreeMap (String Global) Doc) (ns : Named) → l ≡ doc.Members m → Some ns ≡ as_members (doc_tree r)
    → (same_members (members (reverse (pairs_of m.entries))) ns && list_all (λ n. has_name (reverse (pairs_of m.entries)) n.0) ns) ≡ same (doc_tree l) (doc_tree r)
objects_same l r m ns e h =
    let mine = reverse (pairs_of m.entries) in
    sym (ap (λ t. same t (doc_tree r)) (ap doc_tree e ∙ tree-Members m) ∙ ap (same (object (members mine))) (is_object (doc_tree r) ns h)
    ∙ ap (λ os. same_members (members mine) os && list_all (λ n. has_name (pairs (members mine)) n.0) os) (pairs-members ns)
    ∙ ap (λ os. same_members (members mine) ns && list_all (λ n. has_name os n.0) ns) (pairs-members mine))

pub list_distinct : (r : Doc) (us : List Tree) → Some us ≡ as_list (doc_tree r) → IsTrue (has_distinct_names (doc_tree r)) → IsTrue (trees_distinct (trees us))
list_distinct r us h d = subst (λ t. IsTrue (has_distinct_names t)) (is_list (doc_tree r) us h) d

pub object_distinct : (r : Doc) (ns : Named) → Some ns ≡ as_members (doc_tree r) → IsTrue (has_distinct_names (doc_tree r)) → IsTrue (has_distinct_names (object (members ns)))
object_distinct r ns h d = subst (λ t. IsTrue (has_distinct_names t)) (is_object (doc_tree r) ns h) d

-- ---- two lists

abbrev pub same_lists : List Doc → List Doc → Bool
same_lists xs ys = same_trees (trees (map doc_tree xs)) (trees (map doc_tree ys))

pub other_length : (xs ys : List Doc) → (length xs ≡ length ys → ⊥) → false ≡ same_lists xs ys
other_length [] [] h = absurd (h refl)
other_length [] (y ∷ ys) h = refl
other_length (x ∷ xs) [] h = refl
other_length (x ∷ xs) (y ∷ ys) h =
    let shorter : length xs ≡ length ys → ⊥ = λ e. h (omega (arith, e)) in
    sym (ap (λ b. same (doc_tree x) (doc_tree y) && b) (sym (other_length xs ys shorter)) ∙ and-false (same (doc_tree x) (doc_tree y)))

pub items_at : (xs ys : List Doc) (i : ℕ) (x y : Doc) → i < length xs → i < length ys → x ≡ get_or xs i x → y ≡ get_or ys i y
    → same_lists (drop i xs) (drop i ys) ≡ (same (doc_tree x) (doc_tree y) && same_lists (drop (i + 1) xs) (drop (i + 1) ys))
items_at xs ys i x y h k e f =
    rw (drop-cons xs i x h, drop-cons ys i y k, ← e, ← f, add-one i)

pub items_end : (xs ys : List Doc) (i : ℕ) → length xs ≤ i → length ys ≤ i → same_lists (drop i xs) (drop i ys) ≡ true
items_end xs ys i h k = at_drop_all (λ zs. same_lists zs (drop i ys)) xs i h ∙ at_drop_all (λ zs. same_lists [] zs) ys i k

-- ---- two objects

pub members_at : (es left : List Entry) (e : Entry) (ns : Named) → es ≡ left ++ e ∷ []
    → same_members (members (reverse (pairs_of es))) ns ≡ (option_map_or (same (doc_tree e.1)) (find (string_bytes e.0) ns) false && same_members (members (reverse (pairs_of left))) ns)
members_at es left e ns h = ap (λ xs. same_members (members (reverse (pairs_of xs))) ns) h ∙ ap (λ ms. same_members (members ms) ns) (last_first left e)

pub names_at : (es left : List Entry) (e : Entry) (f : List ℕ × Tree → Bool) → es ≡ left ++ e ∷ [] → list_all f (reverse (pairs_of es)) ≡ (f (pair e) && list_all f (reverse (pairs_of left)))
names_at es left e f h = ap (λ xs. list_all f (reverse (pairs_of xs))) h ∙ ap (list_all f) (last_first left e)

-- the member that was found is in what was asked
pub found_member : (k : List ℕ) (ns : Named) (r : Option (Bor Doc)) (d : Bor Doc) → option_map (λ v. doc_tree v.now) r ≡ find k ns → r ≡ Some d → find k ns ≡ Some (doc_tree d.now)
found_member k ns r d e h = sym e ∙ ap (option_map (λ v. doc_tree v.now)) h

pub no_member : (k : List ℕ) (ns : Named) (r : Option (Bor Doc)) → option_map (λ v. doc_tree v.now) r ≡ find k ns → r ≡ None → find k ns ≡ None
no_member k ns r e h = sym e ∙ ap (option_map (λ v. doc_tree v.now)) h

pub other_distinct : (k : List ℕ) (ns : Named) (t : Tree) → IfSome (find k ns) (λ u. IsTrue (has_distinct_names u)) → find k ns ≡ Some t → IsTrue (has_distinct_names t)
other_distinct k ns t h e = subst (λ o. IfSome o (λ u. IsTrue (has_distinct_names u))) e h

-- whether a map has the key of that name
pub name_here : (es : List Entry) (k l : List ℕ) (b : Bool) → k ≡ l → b ≡ is_some (lookup (is_at (λ s. slice_cmp nat_cmp k (string_bytes s))) es) → has_name (reverse (pairs_of es)) l ≡ b
name_here es k l b e h = ap (λ x. is_some (find x (reverse (pairs_of es)))) (sym e) ∙ sym (has_member k es) ∙ sym h

-- the member of that name, by what a map's `get` lends
pub got_here : (es : List Entry) (k l : List ℕ) (r : Option (Bor Doc)) → k ≡ l → IsTrue (has_distinct_names (object (members (reverse (pairs_of es))))) → option_copied r ≡ lookup (is_at (λ s. slice_cmp nat_cmp k (string_bytes s))) es
    → option_map (λ v. doc_tree v.now) r ≡ find l (reverse (pairs_of es))
got_here es k l r e h g = get_member k es r (object_names (reverse (pairs_of es)) h) g ∙ ap (λ x. find x (reverse (pairs_of es))) e

-- ---- of two tests, one after the other

pub both_hold : (r q x y s : Bool) → r ≡ y → q ≡ x → q ≡ true → (x && y) ≡ s → r ≡ s
both_hold r q x y s e f g h = e ∙ ap (λ b. b && y) (sym g ∙ f) ∙ h

pub first_fails : (q x y s : Bool) → q ≡ x → q ≡ false → (x && y) ≡ s → q ≡ s
first_fails q x y s f g h = g ∙ ap (λ b. b && y) (sym g ∙ f) ∙ h

-- ---- what the recursion goes down by

pub list_size : (d : Doc) (v : Vec Doc Global) → d ≡ doc.List v → size (doc_tree d) ≡ trees_size (trees (map doc_tree v.items)) + 1
list_size d v e = ap size (ap doc_tree e ∙ tree-List v)

pub object_size : (d : Doc) (m : BTreeMap (String Global) Doc) → d ≡ doc.Members m → size (doc_tree d) ≡ members_size (members (reverse (pairs_of m.entries))) + 1
object_size d m e = ap size (ap doc_tree e ∙ tree-Members m)

pub item_size : (ds : List Doc) (i : ℕ) (d : Doc) → i < length ds → d ≡ get_or ds i d → size (doc_tree d) ≤ trees_size (trees (map doc_tree ds))
item_size [] i d h e = absurd (omega (arith, h))
item_size (x ∷ xs) zero d h e = omega (arith, ap (λ y. size (doc_tree y)) e)
item_size (x ∷ xs) (suc i) d h e = omega (arith, item_size xs i d (omega (arith, h)) e)

pub last_size : (es left : List Entry) (e : Entry) → es ≡ left ++ e ∷ [] → members_size (members (reverse (pairs_of es))) ≡ size (doc_tree e.1) + members_size (members (reverse (pairs_of left)))
last_size es left e h = ap (λ xs. members_size (members (reverse (pairs_of xs)))) h ∙ ap (λ ms. members_size (members ms)) (last_first left e)
