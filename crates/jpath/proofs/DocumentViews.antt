-- A `Json` beside its tree.
use Rattle.std.proofs.Common.{Ordering, Less, ◌≡◌, ℕ, List, [], ◌∷◌, map, Option, Some, None, option_map, IfSome, All, Vec, BTreeMap, Global, true, IsTrue, Bor, refl, sym, ap, ◌∙◌, subst, rules}
use Rattle.std.proofs.lemmas.List.Elements.{All-nil, All-cons}
use Rattle.jsonpath_base.specs.Prelude.{AllByRecursion, are_distinct, elements, IsStrictlySortedBy, keys_of, members_of, nat_cmp, pairs, slice_cmp, tree_of, trees_of}
use Rattle.jsonpath_base.specs.Tree.{get}
use Rattle.jsonpath_base.proofs.Views.{data_whole, items_are_whole, members_are_whole, first_item_whole, more_items_whole, first_member_whole, more_members_whole, object_members_whole, ascending_distinct, get-tree_of, get_data_whole}
use Rattle.serde_json.specs.Data as json
use Rattle.serde_json.specs.Find as json_find
use Rattle.jpath.specs.Document.{json_data, items_data, members_data, json_tree, json_is_whole}
use Rattle.jpath.specs.declared.document.Json.{Json, Array, Object, the_lemmas}

abbrev pub Entry : Type 0
Entry = Bor (List ℕ) × Json

-- ---- level by level

pub data-Array : (v : Vec Json Global) → json_data (Array v) ≡ json.array (items_data v.items)
data-Array v = search (rules, the_lemmas)

pub data-Object : (m : BTreeMap (Bor (List ℕ)) Json) → json_data (Object m) ≡ json.object (members_data m.entries)
data-Object m = search (rules, the_lemmas)

-- ---- names are distinct

-- the order of a map's keys
abbrev pub name_cmp : Bor (List ℕ) → Bor (List ℕ) → Ordering
name_cmp k l = slice_cmp nat_cmp k.now l.now

-- the names of a map's entries
abbrev pub names : List Entry → List (List ℕ)
names es = map (λ m. m.0) (pairs (members_of (members_data es)))

below_names : (k : Bor (List ℕ)) (es : List Entry) → AllByRecursion (λ l. name_cmp k l ≡ Less) (keys_of es) → AllByRecursion (λ l. slice_cmp nat_cmp k.now l ≡ Less) (names es)
below_names k [] h = tt
below_names k (e ∷ es) h = (h.0, below_names k es h.1)

-- the names of a map ascend by their bytes, as its keys do
pub names_ascend : (es : List Entry) → IsStrictlySortedBy name_cmp (keys_of es) → IsStrictlySortedBy (slice_cmp nat_cmp) (names es)
unfolding IsStrictlySortedBy
names_ascend [] h = tt
names_ascend (e ∷ es) h = (below_names e.0 es h.0, names_ascend es h.1)

-- names that ascend are distinct
pub ordered_names : (es : List Entry) → IsStrictlySortedBy name_cmp (keys_of es) → are_distinct (names es) ≡ true
ordered_names es h = ascending_distinct (names es) (names_ascend es h)

-- ---- what is whole

pub all_items_whole : (vs : List Json) → items_are_whole (items_data vs) ≡ true → All (λ x. IsTrue (json_is_whole x)) vs
all_items_whole [] h = All-nil (λ x. IsTrue (json_is_whole x))
all_items_whole (v ∷ vs) h = All-cons (λ x. IsTrue (json_is_whole x)) v vs (first_item_whole (json_data v) (items_data vs) h) (all_items_whole vs (more_items_whole (json_data v) (items_data vs) h))

pub all_members_whole : (es : List Entry) → members_are_whole (members_data es) ≡ true → All (λ e. IsTrue (json_is_whole e.1)) es
all_members_whole [] h = All-nil (λ e. IsTrue (json_is_whole e.1))
all_members_whole (e ∷ es) h =
    All-cons (λ e. IsTrue (json_is_whole e.1)) e es (first_member_whole e.0.now (json_data e.1) (members_data es) h) (all_members_whole es (more_members_whole e.0.now (json_data e.1) (members_data es) h))

-- the elements of a list, and the members of an object

pub array_items_whole : (v : Json) (a : Vec Json Global) → v ≡ Array a → IsTrue (json_is_whole v) → All (λ x. IsTrue (json_is_whole x)) a.items
array_items_whole v a e h = all_items_whole a.items (subst (λ d. data_whole d ≡ true) (data-Array a) (subst (λ x. IsTrue (json_is_whole x)) e h))

pub object_entries_whole : (v : Json) (m : BTreeMap (Bor (List ℕ)) Json) → v ≡ Object m → IsTrue (json_is_whole v) → All (λ e. IsTrue (json_is_whole e.1)) m.entries
object_entries_whole v m e h =
    all_members_whole m.entries (object_members_whole (members_data m.entries) (subst (λ d. data_whole d ≡ true) (data-Object m) (subst (λ x. IsTrue (json_is_whole x)) e h)))

pub elements-items_data : (vs : List Json) → elements (trees_of (items_data vs)) ≡ map json_tree vs
elements-items_data [] = refl
elements-items_data (v ∷ vs) = ap (λ ts. json_tree v ∷ ts) (elements-items_data vs)

-- ---- a member by its name

found_tree : (r : Option (Bor Json)) → option_map tree_of (option_map (λ v. json_data v.now) r) ≡ option_map (λ v. json_tree v.now) r
found_tree None = refl
found_tree (Some v) = refl

-- a member that is lent as its data says is that of its tree
pub get-json_tree : (k : List ℕ) (v : Json) (r : Option (Bor Json)) → option_map (λ x. json_data x.now) r ≡ json_find.get k (json_data v) → option_map (λ x. json_tree x.now) r ≡ get k (json_tree v)
get-json_tree k v r e = sym (get-tree_of k (json_data v) ∙ ap (option_map tree_of) (sym e) ∙ found_tree r)

pub found_whole : (r : Option (Bor Json)) → IfSome (option_map (λ v. json_data v.now) r) (λ x. data_whole x ≡ true) → IfSome r (λ v. IsTrue (json_is_whole v.now))
found_whole None h = tt
found_whole (Some v) h = h

-- it is whole
pub get_whole : (k : List ℕ) (v : Json) (r : Option (Bor Json)) → option_map (λ x. json_data x.now) r ≡ json_find.get k (json_data v) → IsTrue (json_is_whole v) → IfSome r (λ x. IsTrue (json_is_whole x.now))
get_whole k v r e h = found_whole r (subst (λ o. IfSome o (λ x. data_whole x ≡ true)) (sym e) (get_data_whole k (json_data v) h))
