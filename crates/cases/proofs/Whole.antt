-- A `Doc` as a document.
use Rattle.std.proofs.Common.{◌≡◌, ℕ, List, [], ◌∷◌, map, reverse, Option, Some, None, option_map, option_copied, IfSome, All, Bor, Vec, BTreeMap, String, Global, string_bytes, nat_cmp, true, IsTrue, refl, sym, ap, ◌∙◌, subst}
use Rattle.std.proofs.lemmas.Bool.{and_parts, and_from}
use Rattle.std.proofs.lemmas.List.Elements.{All-nil, All-cons, All-head, All-tail}
use Rattle.std.specs.BTreeMap.{is_at}
use Rattle.std.specs.Cmp.Lexicographic.{slice_cmp}
use Rattle.std.specs.Map.{lookup}
use Rattle.cases.specs.declared.doc.Doc as doc
use Rattle.cases.specs.declared.doc.Doc.{Doc}
use Rattle.jsonpath_base.specs.Tree.{Tree, object, find, get, as_list, as_members, has_distinct_names, trees_distinct, members_distinct}
use Rattle.cases.specs.DocTree.{doc_tree, doc_is_whole, pairs_of, trees, members}
use Rattle.cases.proofs.Docs.{tree-List, tree-Members, elements-trees, pairs-members}
use Rattle.cases.proofs.Parts.{get_member, object_names, object_values, found_distinct}
use Rattle.cases.proofs.Comparing.{list_distinct, object_distinct}
use Rattle.cases.proofs.Reversing.{Named}

-- ---- a member

tree_is : (d : Doc) (m : BTreeMap (String Global) Doc) → d ≡ doc.Members m → doc_tree d ≡ object (members (reverse (pairs_of m.entries)))
tree_is d m e = ap doc_tree e ∙ tree-Members m

pub member_value : (k : List ℕ) (d : Doc) (m : BTreeMap (String Global) Doc) (r : Option (Bor Doc)) → d ≡ doc.Members m → option_copied r ≡ lookup (is_at (λ s. slice_cmp nat_cmp k (string_bytes s))) m.entries → IsTrue (doc_is_whole d)
    → option_map (λ v. doc_tree v.now) r ≡ get k (doc_tree d)
member_value k d m r e g h =
    let ns = reverse (pairs_of m.entries) in
    get_member k m.entries r (object_names ns (subst (λ t. IsTrue (has_distinct_names t)) (tree_is d m e) h)) g ∙ sym (ap (get k) (tree_is d m e) ∙ ap (find k) (pairs-members ns))

lent_whole : (r : Option (Bor Doc)) → IfSome (option_map (λ v. doc_tree v.now) r) (λ t. IsTrue (has_distinct_names t)) → IfSome r (λ v. IsTrue (doc_is_whole v.now))
lent_whole None h = tt
lent_whole (Some v) h = h

pub member_whole : (k : List ℕ) (d : Doc) (m : BTreeMap (String Global) Doc) (r : Option (Bor Doc)) → d ≡ doc.Members m → option_copied r ≡ lookup (is_at (λ s. slice_cmp nat_cmp k (string_bytes s))) m.entries → IsTrue (doc_is_whole d)
    → IfSome r (λ v. IsTrue (doc_is_whole v.now))
member_whole k d m r e g h =
    let ns = reverse (pairs_of m.entries) in
    let distinct = subst (λ t. IsTrue (has_distinct_names t)) (tree_is d m e) h in
    lent_whole r (subst (λ o. IfSome o (λ t. IsTrue (has_distinct_names t))) (sym (get_member k m.entries r (object_names ns distinct) g)) (found_distinct k ns (object_values ns distinct)))

-- ---- elements

all_items : (ds : List Doc) → trees_distinct (trees (map doc_tree ds)) ≡ true → All (λ x. IsTrue (doc_is_whole x)) ds
all_items [] h = All-nil (λ x. IsTrue (doc_is_whole x))
all_items (d ∷ ds) h =
    let parts = and_parts (doc_is_whole d) (trees_distinct (trees (map doc_tree ds))) h in
    All-cons (λ x. IsTrue (doc_is_whole x)) d ds parts.0 (all_items ds parts.1)

pub elements_whole : (d : Doc) (r : Option (Bor (Vec Doc Global))) → option_map (λ v. map doc_tree v.now.items) r ≡ as_list (doc_tree d) → IsTrue (doc_is_whole d) → IfSome r (λ v. All (λ x. IsTrue (doc_is_whole x)) v.now.items)
elements_whole d None e h = tt
elements_whole d (Some v) e h = all_items v.now.items (list_distinct d (map doc_tree v.now.items) e h)

items_distinct : (ds : List Doc) → All (λ x. IsTrue (doc_is_whole x)) ds → trees_distinct (trees (map doc_tree ds)) ≡ true
items_distinct [] h = refl
items_distinct (d ∷ ds) h = and_from (doc_is_whole d) (trees_distinct (trees (map doc_tree ds))) (All-head (λ x. IsTrue (doc_is_whole x)) d ds h) (items_distinct ds (All-tail (λ x. IsTrue (doc_is_whole x)) d ds h))

pub made_elements : (v : Vec Doc Global) → as_list (doc_tree (doc.List v)) ≡ Some (map doc_tree v.items)
made_elements v = ap as_list (tree-List v) ∙ ap Some (elements-trees (map doc_tree v.items))

pub made_whole : (v : Vec Doc Global) → All (λ x. IsTrue (doc_is_whole x)) v.items → IsTrue (doc_is_whole (doc.List v))
made_whole v h = ap has_distinct_names (tree-List v) ∙ items_distinct v.items h

-- ---- members

abbrev pub lent_pair : Bor (List ℕ) × Bor Doc → List ℕ × Tree
lent_pair m = (m.0.now, doc_tree m.1.now)

all_lent : (vs : List (Bor (List ℕ) × Bor Doc)) → members_distinct (members (map lent_pair vs)) ≡ true → All (λ m. IsTrue (doc_is_whole m.1.now)) vs
all_lent [] h = All-nil (λ m. IsTrue (doc_is_whole m.1.now))
all_lent (v ∷ vs) h =
    let parts = and_parts (doc_is_whole v.1.now) (members_distinct (members (map lent_pair vs))) h in
    All-cons (λ m. IsTrue (doc_is_whole m.1.now)) v vs parts.0 (all_lent vs parts.1)

pub lent_members_whole : (d : Doc) (vs : List (Bor (List ℕ) × Bor Doc)) (ns : Named) → map lent_pair vs ≡ ns → Some ns ≡ as_members (doc_tree d) → IsTrue (doc_is_whole d) → All (λ m. IsTrue (doc_is_whole m.1.now)) vs
lent_members_whole d vs ns e f h = all_lent vs (ap (λ ms. members_distinct (members ms)) e ∙ object_values ns (object_distinct d ns f h))
