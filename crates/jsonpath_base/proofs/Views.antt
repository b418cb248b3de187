-- A `Value` beside its tree.
use Rattle.std.proofs.Common.{Ordering, Less, Equal, Greater, ◌≡◌, ℤ, ℕ, List, [], ◌∷◌, map, Option, Some, None, option_map, IfSome, All, String, Vec, Global, string_bytes, string_cmp, bytes_eq, Bool, true, false, IsTrue, ◌&&◌, cond, Bor, refl, sym, ap, ◌∙◌, subst}
use Rattle.std.proofs.lemmas.Bool.{and_parts, and_from}
use Rattle.std.proofs.lemmas.List.Elements.{All-nil, All-cons, All-head, All-tail}
use Rattle.std.proofs.lemmas.Map.Text.{is_eq-slice_cmp}
use Rattle.jsonpath_base.specs.Prelude.{AllByRecursion, are_distinct, as_list, Data, elements, find, has_distinct_names, has_whole_numbers, is_eq, IsStrictlySortedBy, items_view, items_whole, keys_of, list_any, match_ordering, members_distinct, members_of, members_view, members_whole, nat_cmp, pairs, slice_cmp, Tree, tree_of, tree_of_number, trees_distinct, trees_of, Value, value_is_whole, value_tree, view}
use Rattle.serde_json.specs.Data as json
use Rattle.serde_json.specs.Find as json_find
use Rattle.serde_json.proofs.Views.{Entry}
use Rattle.jsonpath_base.specs.Tree.{get}

-- ---- names are distinct

-- the names of a map's entries
abbrev pub names : List Entry → List (List ℕ)
names es = map (λ m. m.0) (pairs (members_of (members_view es)))

-- a name below all of these is none of them
below_all : (k : List ℕ) (ks : List (List ℕ)) → AllByRecursion (λ l. slice_cmp nat_cmp k l ≡ Less) ks → list_any (bytes_eq k) ks ≡ false
below_all k [] h = refl
below_all k (l ∷ ks) h = rw (← is_eq-slice_cmp k l, h.0) (below_all k ks h.1)

-- names that ascend are distinct
pub ascending_distinct : (ks : List (List ℕ)) → IsStrictlySortedBy (slice_cmp nat_cmp) ks → are_distinct ks ≡ true
unfolding IsStrictlySortedBy
ascending_distinct [] h = refl
ascending_distinct (k ∷ ks) h = rw (below_all k ks h.0) (ascending_distinct ks h.1)

below_names : (k : String Global) (es : List Entry) → AllByRecursion (λ l. string_cmp k l ≡ Less) (keys_of es) → AllByRecursion (λ l. slice_cmp nat_cmp (string_bytes k) l ≡ Less) (names es)
below_names k [] h = tt
below_names k (e ∷ es) h = (h.0, below_names k es h.1)

-- the names of a map ascend by their bytes, as its keys do
pub names_ascend : (es : List Entry) → IsStrictlySortedBy string_cmp (keys_of es) → IsStrictlySortedBy (slice_cmp nat_cmp) (names es)
unfolding IsStrictlySortedBy
names_ascend [] h = tt
names_ascend (e ∷ es) h = (below_names e.0 es h.0, names_ascend es h.1)

pub ordered_names : (es : List Entry) → IsStrictlySortedBy string_cmp (keys_of es) → are_distinct (names es) ≡ true
ordered_names es h = ascending_distinct (names es) (names_ascend es h)

lent_names : (vs : List (Bor (List ℕ) × Bor Value)) → map (λ m. m.0) (map {B = List ℕ × Tree} (λ m. (m.0.now, value_tree m.1.now)) vs) ≡ map (λ m. m.0.now) vs
lent_names [] = refl
lent_names (v ∷ vs) = ap (λ ks. v.0.now ∷ ks) (lent_names vs)

-- so do those that are lent
pub lent_names_ascend : (vs : List (Bor (List ℕ) × Bor Value)) (es : List Entry) → map {B = List ℕ × Tree} (λ m. (m.0.now, value_tree m.1.now)) vs ≡ pairs (members_of (members_view es)) → IsStrictlySortedBy string_cmp (keys_of es)
    → IsStrictlySortedBy (slice_cmp nat_cmp) (map (λ m. m.0.now) vs)
lent_names_ascend vs es same h = subst (IsStrictlySortedBy (slice_cmp nat_cmp)) (ap (map (λ m. m.0)) (sym same) ∙ lent_names vs) (names_ascend es h)

-- ---- what is whole

-- a whole value, by its data
abbrev pub data_whole : Data → Bool
data_whole d = has_whole_numbers d && has_distinct_names (tree_of d)

abbrev pub items_are_whole : json.Items → Bool
items_are_whole ds = items_whole ds && trees_distinct (trees_of ds)

abbrev pub members_are_whole : json.Members → Bool
members_are_whole ms = members_whole ms && members_distinct (members_of ms)

-- in a whole value each object has a name once
pub whole_distinct : (v : Value) → IsTrue (value_is_whole v) → IsTrue (has_distinct_names (value_tree v))
whole_distinct v h = (and_parts (has_whole_numbers (view v)) (has_distinct_names (value_tree v)) h).1

pub first_item_whole : (d : Data) (ds : json.Items) → items_are_whole (json.item d ds) ≡ true → data_whole d ≡ true
first_item_whole d ds h =
    let parts = and_parts (items_whole (json.item d ds)) _ h in
    and_from (has_whole_numbers d) _ (and_parts (has_whole_numbers d) (items_whole ds) parts.0).0 (and_parts (has_distinct_names (tree_of d)) (trees_distinct (trees_of ds)) parts.1).0

pub more_items_whole : (d : Data) (ds : json.Items) → items_are_whole (json.item d ds) ≡ true → items_are_whole ds ≡ true
more_items_whole d ds h =
    let parts = and_parts (items_whole (json.item d ds)) _ h in
    and_from (items_whole ds) _ (and_parts (has_whole_numbers d) (items_whole ds) parts.0).1 (and_parts (has_distinct_names (tree_of d)) (trees_distinct (trees_of ds)) parts.1).1

pub first_member_whole : (k : List ℕ) (d : Data) (ms : json.Members) → members_are_whole (json.member k d ms) ≡ true → data_whole d ≡ true
first_member_whole k d ms h =
    let parts = and_parts (members_whole (json.member k d ms)) _ h in
    and_from (has_whole_numbers d) _ (and_parts (has_whole_numbers d) (members_whole ms) parts.0).0 (and_parts (has_distinct_names (tree_of d)) (members_distinct (members_of ms)) parts.1).0

pub more_members_whole : (k : List ℕ) (d : Data) (ms : json.Members) → members_are_whole (json.member k d ms) ≡ true → members_are_whole ms ≡ true
more_members_whole k d ms h =
    let parts = and_parts (members_whole (json.member k d ms)) _ h in
    and_from (members_whole ms) _ (and_parts (has_whole_numbers d) (members_whole ms) parts.0).1 (and_parts (has_distinct_names (tree_of d)) (members_distinct (members_of ms)) parts.1).1

-- the members of a whole object
pub object_members_whole : (ms : json.Members) → data_whole (json.object ms) ≡ true → members_are_whole ms ≡ true
object_members_whole ms h =
    let parts = and_parts (members_whole ms) _ h in
    and_from (members_whole ms) _ parts.0 (and_parts (are_distinct (map (λ m. m.0) (pairs (members_of ms)))) (members_distinct (members_of ms)) parts.1).1

-- ---- lists

pub elements-items_view : (vs : List Value) → elements (trees_of (items_view vs)) ≡ map value_tree vs
elements-items_view [] = refl
elements-items_view (v ∷ vs) = ap (λ ts. value_tree v ∷ ts) (elements-items_view vs)

number_no_list : (o : Option ℤ) → as_list (tree_of_number o) ≡ None
number_no_list None = refl
number_no_list (Some n) = refl

as_list-tree_of : (d : Data) → as_list (tree_of d) ≡ option_map (λ ds. elements (trees_of ds)) (json_find.as_array d)
as_list-tree_of (json.number n) = number_no_list (json_find.as_i64 n)
as_list-tree_of _ = refl

items_as_list : (r : Option (Bor (Vec Value Global))) → option_map (λ ds. elements (trees_of ds)) (option_map (λ v. items_view v.now.items) r) ≡ option_map (λ v. map value_tree v.now.items) r
items_as_list None = refl
items_as_list (Some v) = ap Some (elements-items_view v.now.items)

-- the list that `as_array` of serde_json lends
pub as_list-value_tree : (v : Value) (r : Option (Bor (Vec Value Global))) → option_map (λ x. items_view x.now.items) r ≡ json_find.as_array (view v) → option_map (λ x. map value_tree x.now.items) r ≡ as_list (value_tree v)
as_list-value_tree v r e = sym (as_list-tree_of (view v) ∙ ap (option_map (λ ds. elements (trees_of ds))) (sym e) ∙ items_as_list r)

pub all_items_whole : (vs : List Value) → items_are_whole (items_view vs) ≡ true → All (λ x. IsTrue (value_is_whole x)) vs
all_items_whole [] h = All-nil (λ x. IsTrue (value_is_whole x))
all_items_whole (v ∷ vs) h = All-cons (λ x. IsTrue (value_is_whole x)) v vs (first_item_whole (view v) (items_view vs) h) (all_items_whole vs (more_items_whole (view v) (items_view vs) h))

pub array_whole : (d : Data) → data_whole d ≡ true → IfSome (json_find.as_array d) (λ ds. items_are_whole ds ≡ true)
array_whole (json.array ds) h = h
array_whole _ h = tt

lent_items_whole : (r : Option (Bor (Vec Value Global))) → IfSome (option_map (λ x. items_view x.now.items) r) (λ ds. items_are_whole ds ≡ true) → IfSome r (λ v. All (λ x. IsTrue (value_is_whole x)) v.now.items)
lent_items_whole None h = tt
lent_items_whole (Some v) h = all_items_whole v.now.items h

-- its elements are whole
pub as_list_whole : (v : Value) (r : Option (Bor (Vec Value Global))) → option_map (λ x. items_view x.now.items) r ≡ json_find.as_array (view v) → IsTrue (value_is_whole v) → IfSome r (λ v. All (λ x. IsTrue (value_is_whole x)) v.now.items)
as_list_whole v r e h = lent_items_whole r (subst (λ o. IfSome o (λ ds. items_are_whole ds ≡ true)) (sym e) (array_whole (view v) h))

-- ---- a member by its name

number_no_member : (k : List ℕ) (o : Option ℤ) → get k (tree_of_number o) ≡ None
number_no_member k None = refl
number_no_member k (Some n) = refl

found : (o : Ordering) (d : Data) (rest : Option Data) (r : Option Tree) → r ≡ option_map tree_of rest → cond (is_eq o) (Some (tree_of d)) r ≡ option_map tree_of (match_ordering o rest (Some d) rest)
found Less d rest r e = e
found Equal d rest r e = refl
found Greater d rest r e = e

pub find-members_of : (k : List ℕ) (ms : json.Members) → find k (pairs (members_of ms)) ≡ option_map tree_of (json_find.get_member k ms)
find-members_of k json.no_members = refl
find-members_of k (json.member l d ms) =
    ap (λ b. cond b (Some (tree_of d)) (find k (pairs (members_of ms)))) (sym (is_eq-slice_cmp k l)) ∙ found (slice_cmp nat_cmp k l) d _ _ (find-members_of k ms)

pub get-tree_of : (k : List ℕ) (d : Data) → get k (tree_of d) ≡ option_map tree_of (json_find.get k d)
get-tree_of k (json.number n) = number_no_member k (json_find.as_i64 n)
get-tree_of k (json.object ms) = find-members_of k ms
get-tree_of k _ = refl

found_tree : (r : Option (Bor Value)) → option_map tree_of (option_map (λ v. view v.now) r) ≡ option_map (λ v. value_tree v.now) r
found_tree None = refl
found_tree (Some v) = refl

-- the member that `get` of serde_json lends
pub get-value_tree : (k : List ℕ) (v : Value) (r : Option (Bor Value)) → option_map (λ x. view x.now) r ≡ json_find.get k (view v) → option_map (λ x. value_tree x.now) r ≡ get k (value_tree v)
get-value_tree k v r e = sym (get-tree_of k (view v) ∙ ap (option_map tree_of) (sym e) ∙ found_tree r)

member_whole_at : (o : Ordering) (d : Data) (rest : Option Data) → data_whole d ≡ true → IfSome rest (λ x. data_whole x ≡ true) → IfSome (match_ordering o rest (Some d) rest) (λ x. data_whole x ≡ true)
member_whole_at Equal d rest h r = h
member_whole_at _ d rest h r = r

member_whole : (k : List ℕ) (ms : json.Members) → members_are_whole ms ≡ true → IfSome (json_find.get_member k ms) (λ x. data_whole x ≡ true)
member_whole k json.no_members h = tt
member_whole k (json.member l d ms) h = member_whole_at (slice_cmp nat_cmp k l) d _ (first_member_whole l d ms h) (member_whole k ms (more_members_whole l d ms h))

pub get_data_whole : (k : List ℕ) (d : Data) → data_whole d ≡ true → IfSome (json_find.get k d) (λ x. data_whole x ≡ true)
get_data_whole k (json.object ms) h = member_whole k ms (object_members_whole ms h)
get_data_whole k _ h = tt

pub found_whole : (r : Option (Bor Value)) → IfSome (option_map (λ v. view v.now) r) (λ x. data_whole x ≡ true) → IfSome r (λ v. IsTrue (value_is_whole v.now))
found_whole None h = tt
found_whole (Some v) h = h

-- it is whole
pub get_whole : (k : List ℕ) (v : Value) (r : Option (Bor Value)) → option_map (λ x. view x.now) r ≡ json_find.get k (view v) → IsTrue (value_is_whole v) → IfSome r (λ x. IsTrue (value_is_whole x.now))
get_whole k v r e h = found_whole r (subst (λ o. IfSome o (λ x. data_whole x ≡ true)) (sym e) (get_data_whole k (view v) h))

-- ---- members

pub all_members_whole : (es : List Entry) → members_are_whole (members_view es) ≡ true → All (λ e. IsTrue (value_is_whole e.1)) es
all_members_whole [] h = All-nil (λ e. IsTrue (value_is_whole e.1))
all_members_whole (e ∷ es) h =
    All-cons (λ e. IsTrue (value_is_whole e.1)) e es (first_member_whole (string_bytes e.0) (view e.1) (members_view es) h) (all_members_whole es (more_members_whole (string_bytes e.0) (view e.1) (members_view es) h))

object_whole : (d : Data) → data_whole d ≡ true → IfSome (json_find.as_object d) (λ ms. members_are_whole ms ≡ true)
object_whole (json.object ms) h = object_members_whole ms h
object_whole _ h = tt

-- they are whole
pub as_members_whole : (v : Value) (es : List Entry) → Some (members_view es) ≡ json_find.as_object (view v) → IsTrue (value_is_whole v) → All (λ e. IsTrue (value_is_whole e.1)) es
as_members_whole v es e h = all_members_whole es (subst (λ o. IfSome o (λ ms. members_are_whole ms ≡ true)) (sym e) (object_whole (view v) h))

-- what holds of the members of a map holds of those that are lent
pub All-lent : {K N V : Type 0} (P : V → Type 0) (vs : List (N × Bor V)) (es : List (K × V)) → map (λ m. m.1.now) vs ≡ map (λ e. e.1) es → All (λ e. P e.1) es → All (λ m. P m.1.now) vs
All-lent P [] es same h = All-nil (λ m. P m.1.now)
All-lent P (v ∷ vs) [] same h = absurd cc
All-lent P (v ∷ vs) (e ∷ es) same h =
    let first : e.1 ≡ v.1.now = cc in let more : map (λ m. m.1.now) vs ≡ map (λ e. e.1) es = cc in
    All-cons (λ m. P m.1.now) v vs (subst P first (All-head (λ e. P e.1) e es h)) (All-lent P vs es more (All-tail (λ e. P e.1) e es h))
