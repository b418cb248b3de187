-- A value stays whole where one of its children is put that is whole.
use Rattle.std.proofs.Common.{◌≡◌, ℕ, zero, suc, ◌<◌, List, [], ◌∷◌, length, set, get_or, Bool, true, false, IsTrue, Some, String, Vec, BTreeMap, Global, string_bytes, unwrap_or, refl, sym, ap, ◌∙◌, arith}
use Rattle.std.proofs.lemmas.Bool.{and_parts, and_from}
use Rattle.jsonpath_base.specs.Prelude.{are_distinct, Array, Data, has_distinct_names, has_whole_numbers, items_view, items_whole, lookup, members_distinct, members_of, members_view, members_whole, Object, set_value, tree_of, trees_distinct, trees_of, Value, value_is_whole, view}
use Rattle.serde_json.specs.Data as json
use Rattle.serde_json.specs.Find as json_find
use Rattle.serde_json.proofs.Views.{Entry, view-Array, view-Object}
use Rattle.jsonpath_base.proofs.Views.{names, data_whole, items_are_whole, members_are_whole, object_members_whole, first_item_whole, more_items_whole, first_member_whole, more_members_whole}

-- ---- the list, the object that a value is

pub list_data : (d : Data) (ds : json.Items) → Some ds ≡ json_find.as_array d → d ≡ json.array ds
list_data json.null ds e = absurd cc
list_data (json.boolean b) ds e = absurd cc
list_data (json.number n) ds e = absurd cc
list_data (json.string s) ds e = absurd cc
list_data (json.array es) ds e = let same : ds ≡ es = cc in ap json.array (sym same)
list_data (json.object ms) ds e = absurd cc

pub object_data : (d : Data) (ms : json.Members) → Some ms ≡ json_find.as_object d → d ≡ json.object ms
object_data json.null ms e = absurd cc
object_data (json.boolean b) ms e = absurd cc
object_data (json.number n) ms e = absurd cc
object_data (json.string s) ms e = absurd cc
object_data (json.array es) ms e = absurd cc
object_data (json.object os) ms e = let same : ms ≡ os = cc in ap json.object (sym same)

-- ---- elements

pub item_and_more : (d : Data) (ds : json.Items) → data_whole d ≡ true → items_are_whole ds ≡ true → items_are_whole (json.item d ds) ≡ true
item_and_more d ds h k =
    let first = and_parts (has_whole_numbers d) (has_distinct_names (tree_of d)) h in let more = and_parts (items_whole ds) (trees_distinct (trees_of ds)) k in
    and_from (items_whole (json.item d ds)) _ (and_from (has_whole_numbers d) (items_whole ds) first.0 more.0) (and_from (has_distinct_names (tree_of d)) (trees_distinct (trees_of ds)) first.1 more.1)

items_put : (vs : List Value) (i : ℕ) (x w : Value) → i < length vs → x ≡ get_or vs i x → (data_whole (view x) ≡ true → data_whole (view w) ≡ true) → items_are_whole (items_view vs) ≡ true → items_are_whole (items_view (set vs i w)) ≡ true
items_put [] i x w within read put h = absurd (omega (arith, within))
items_put (v ∷ vs) zero x w within read put h =
    item_and_more (view w) (items_view vs) (put (ap (λ y. data_whole (view y)) read ∙ first_item_whole (view v) (items_view vs) h)) (more_items_whole (view v) (items_view vs) h)
items_put (v ∷ vs) (suc i) x w within read put h =
    item_and_more (view v) (items_view (set vs i w)) (first_item_whole (view v) (items_view vs) h) (items_put vs i x w (omega (arith, within)) read put (more_items_whole (view v) (items_view vs) h))

-- ---- members

pub member_and_more : (k : List ℕ) (d : Data) (ms : json.Members) → data_whole d ≡ true → members_are_whole ms ≡ true → members_are_whole (json.member k d ms) ≡ true
member_and_more k d ms h more_whole =
    let first = and_parts (has_whole_numbers d) (has_distinct_names (tree_of d)) h in let more = and_parts (members_whole ms) (members_distinct (members_of ms)) more_whole in
    and_from (members_whole (json.member k d ms)) _ (and_from (has_whole_numbers d) (members_whole ms) first.0 more.0) (and_from (has_distinct_names (tree_of d)) (members_distinct (members_of ms)) first.1 more.1)

members_put : (test : String Global → Bool) (es : List Entry) (x w : Value) → lookup test es ≡ Some x → (data_whole (view x) ≡ true → data_whole (view w) ≡ true) → members_are_whole (members_view es) ≡ true → members_are_whole (members_view (set_value test es w)) ≡ true
members_put test [] x w found put h = absurd cc
members_put test (e ∷ es) x w found put h = pick (test e.0) refl (λ later. members_put test es x w later put (more_members_whole (string_bytes e.0) (view e.1) (members_view es) h))
  where
    pick : (b : Bool) → test e.0 ≡ b → (lookup test es ≡ Some x → members_are_whole (members_view (set_value test es w)) ≡ true) → members_are_whole (members_view (set_value test (e ∷ es) w)) ≡ true
    pick true same more =
        let first : Some e.1 ≡ Some x = sym (rw same) ∙ found in
        let is : x ≡ e.1 = ap (λ o. unwrap_or o x) (sym first) in
        rw same (member_and_more (string_bytes e.0) (view w) (members_view es) (put (ap (λ y. data_whole (view y)) is ∙ first_member_whole (string_bytes e.0) (view e.1) (members_view es) h)) (more_members_whole (string_bytes e.0) (view e.1) (members_view es) h))
    pick false other more =
        let later : lookup test es ≡ Some x = sym (rw other) ∙ found in
        rw other (member_and_more (string_bytes e.0) (view e.1) (members_view (set_value test es w)) (first_member_whole (string_bytes e.0) (view e.1) (members_view es) h) (more later))

-- the names are as they were
names_put : (test : String Global → Bool) (es : List Entry) (w : Value) → names (set_value test es w) ≡ names es
names_put test [] w = refl
names_put test (e ∷ es) w = pick (test e.0) refl (names_put test es w)
  where
    pick : (b : Bool) → test e.0 ≡ b → names (set_value test es w) ≡ names es → names (set_value test (e ∷ es) w) ≡ names (e ∷ es)
    pick true same more = rw same refl
    pick false other more = rw other (ap (λ ks. string_bytes e.0 ∷ ks) more)

object_put : (test : String Global → Bool) (es : List Entry) (x w : Value) → lookup test es ≡ Some x → (data_whole (view x) ≡ true → data_whole (view w) ≡ true) → data_whole (json.object (members_view es)) ≡ true → data_whole (json.object (members_view (set_value test es w))) ≡ true
object_put test es x w found put h =
    let members = members_put test es x w found put (object_members_whole (members_view es) h) in
    let parts = and_parts (members_whole (members_view (set_value test es w))) (members_distinct (members_of (members_view (set_value test es w)))) members in
    let distinct = (and_parts (are_distinct (names es)) (members_distinct (members_of (members_view es))) (and_parts (members_whole (members_view es)) (has_distinct_names (tree_of (json.object (members_view es)))) h).1).0 in
    and_from (members_whole (members_view (set_value test es w))) _ parts.0 (and_from (are_distinct (names (set_value test es w))) (members_distinct (members_of (members_view (set_value test es w)))) (ap are_distinct (names_put test es w) ∙ distinct) parts.1)

-- ---- a value

-- untouched, its data stays
pub same_list : (value : Value) (v : Vec Value Global) → Some (items_view v.items) ≡ json_find.as_array (view value) → view (Array v) ≡ view value
same_list value v held = view-Array v ∙ sym (list_data (view value) (items_view v.items) held)

pub same_object : (value : Value) (m n : BTreeMap (String Global) Value) → Some (members_view m.entries) ≡ json_find.as_object (view value) → n ≡ m → view (Object n) ≡ view value
same_object value m n held same = ap (λ (y : BTreeMap (String Global) Value). view (Object y)) same ∙ view-Object m ∙ sym (object_data (view value) (members_view m.entries) held)

pub element_put : (value : Value) (v n : Vec Value Global) (i : ℕ) (x w : Value) → Some (items_view v.items) ≡ json_find.as_array (view value) → i < length v.items → x ≡ get_or v.items i x → n.items ≡ set v.items i w
    → (IsTrue (value_is_whole x) → IsTrue (value_is_whole w)) → IsTrue (value_is_whole value) → IsTrue (value_is_whole (Array n))
element_put value v n i x w held within read written put h =
    ap data_whole (view-Array n ∙ ap (λ ys. json.array (items_view ys)) written) ∙ items_put v.items i x w within read put (ap data_whole (sym (list_data (view value) (items_view v.items) held)) ∙ h)

pub elements_kept : (value : Value) (v : Vec Value Global) → Some (items_view v.items) ≡ json_find.as_array (view value) → IsTrue (value_is_whole value) → IsTrue (value_is_whole (Array v))
elements_kept value v held h = ap data_whole (same_list value v held) ∙ h

pub member_put : (value : Value) (m n : BTreeMap (String Global) Value) (test : String Global → Bool) (x w : Value) → Some (members_view m.entries) ≡ json_find.as_object (view value) → lookup test m.entries ≡ Some x → n.entries ≡ set_value test m.entries w
    → (IsTrue (value_is_whole x) → IsTrue (value_is_whole w)) → IsTrue (value_is_whole value) → IsTrue (value_is_whole (Object n))
member_put value m n test x w held found written put h =
    ap data_whole (view-Object n ∙ ap (λ ys. json.object (members_view ys)) written) ∙ object_put test m.entries x w found put (ap data_whole (sym (object_data (view value) (members_view m.entries) held)) ∙ h)

pub members_kept : (value : Value) (m n : BTreeMap (String Global) Value) → Some (members_view m.entries) ≡ json_find.as_object (view value) → n ≡ m → IsTrue (value_is_whole value) → IsTrue (value_is_whole (Object n))
members_kept value m n held same h = ap data_whole (same_object value m n held same) ∙ h
