-- A child added to a value, seen as a tree.
use Rattle.std.proofs.Common.{◌≡◌, ℕ, zero, suc, ◌<◌, ◌≤◌, ◌∷◌, List, [], length, insert, nat_le, Bool, true, false, if◌then◌else◌, true≢false, IsTrue, Some, unwrap_or, is_ok, Result, Ok, Err, IfOk, OnOk, String, Vec, BTreeMap, Global, Ordering, Less, Equal, Greater, nat_cmp, string_bytes, string_cmp, refl, sym, ap, subst, ◌∙◌, arith}
use Rattle.std.proofs.lemmas.Bool.{and_parts, and_from}
use Rattle.std.proofs.lemmas.Bool.Decides.{nat_tests}
use Rattle.jsonpath_base.specs.Prelude.{Adds, AllocError, are_distinct, Array, elements, index, insert_entry, IsOrdered, IsStrictlySortedBy, items_view, keys_of, list, match_ordering, members_distinct, members_of, members_view, members_whole, name, Object, object, result_ok, slice_cmp, Step, takes, Tree, tree, tree_of, trees_of, Value, value_is_whole, value_tree, view, with_new, with_new_element, with_new_member}
use Rattle.serde_json.specs.Data as json
use Rattle.serde_json.specs.Find as json_find
use Rattle.serde_json.proofs.Views.{Entry, view-Array, view-Object, members_view-insert_entry}
use Rattle.jsonpath_base.proofs.Putting.{array_tree, object_tree}
use Rattle.jsonpath_base.proofs.PutWhole.{list_data, object_data, item_and_more, member_and_more}
use Rattle.jsonpath_base.proofs.Views.{names, data_whole, items_are_whole, members_are_whole, object_members_whole, first_item_whole, more_items_whole, first_member_whole, more_members_whole, ordered_names}

-- ---- what stays, and what is added

-- whatever comes back, the data is what it was
pub stays : (made : Tree → Tree) (taken : Tree → Bool) (u old new : Value) (r : Result Bool AllocError) → view new ≡ view old → OnOk r (value_tree new ≡ made (value_tree old)) → IfOk r (λ b. b ≡ taken (value_tree old)) → Adds made taken u old new r
stays made taken u old new r same value found = record {
  value = value;
  found = found;
  same = λ other. same;
  whole = λ a b. ap data_whole same ∙ b;
}

-- where nothing takes it
pub not_taken : (made : Tree → Tree) (taken : Tree → Bool) (u old new : Value) → view new ≡ view old → value_tree new ≡ made (value_tree old) → taken (value_tree old) ≡ false → Adds made taken u old new (Ok false)
not_taken made taken u old new same value denied = stays made taken u old new (Ok false) same value (sym denied)

pub is_taken : (made : Tree → Tree) (taken : Tree → Bool) (u old new : Value) → value_tree new ≡ made (value_tree old) → taken (value_tree old) ≡ true → (IsTrue (value_is_whole u) → IsTrue (value_is_whole old) → IsTrue (value_is_whole new)) → Adds made taken u old new (Ok true)
is_taken made taken u old new value granted whole = record {
  value = value;
  found = sym granted;
  same = λ other. absurd (other refl);
  whole = whole;
}

-- under an equal step
pub at_step : (s r : Step) (u old new : Value) (b : Result Bool AllocError) → s ≡ r → Adds (with_new r (value_tree u)) (takes r) u old new b → Adds (with_new s (value_tree u)) (takes s) u old new b
at_step s r u old new b e h = subst (λ p. Adds (with_new p (value_tree u)) (takes p) u old new b) (sym e) h

-- ---- an element

element_new : (vs : List Value) (i : ℕ) (u : Value) → i ≤ length vs → trees_of (items_view (insert vs i u)) ≡ with_new_element i (value_tree u) (trees_of (items_view vs))
element_new [] zero u h = refl
element_new [] (suc i) u h = absurd (omega (arith, h))
element_new (v ∷ vs) zero u h = refl
element_new (v ∷ vs) (suc i) u h = ap (tree (value_tree v)) (element_new vs i u (omega (arith, h)))

element_far : (vs : List Value) (i : ℕ) (u : Tree) → length vs < i → trees_of (items_view vs) ≡ with_new_element i u (trees_of (items_view vs))
element_far [] zero u h = absurd (omega (arith, h))
element_far [] (suc i) u h = refl
element_far (v ∷ vs) zero u h = absurd (omega (arith, h))
element_far (v ∷ vs) (suc i) u h = ap (tree (value_tree v)) (element_far vs i u (omega (arith, h)))

count : (vs : List Value) → length (elements (trees_of (items_view vs))) ≡ length vs
count [] = refl
count (v ∷ vs) = ap suc (count vs)

items_new : (vs : List Value) (i : ℕ) (u : Value) → i ≤ length vs → data_whole (view u) ≡ true → items_are_whole (items_view vs) ≡ true → items_are_whole (items_view (insert vs i u)) ≡ true
items_new [] zero u h a b = item_and_more (view u) json.no_items a refl
items_new [] (suc i) u h a b = absurd (omega (arith, h))
items_new (v ∷ vs) zero u h a b = item_and_more (view u) (items_view (v ∷ vs)) a b
items_new (v ∷ vs) (suc i) u h a b =
    item_and_more (view v) (items_view (insert vs i u)) (first_item_whole (view v) (items_view vs) b) (items_new vs i u (omega (arith, h)) a (more_items_whole (view v) (items_view vs) b))

list_same : (value : Value) (v n : Vec Value Global) → Some (items_view v.items) ≡ json_find.as_array (view value) → items_view n.items ≡ items_view v.items → view (Array n) ≡ view value
list_same value v n held same = view-Array n ∙ ap json.array same ∙ sym (list_data (view value) (items_view v.items) held)

takes_element : (value : Value) (v : Vec Value Global) (i : ℕ) → Some (items_view v.items) ≡ json_find.as_array (view value) → takes (index i) (value_tree value) ≡ nat_le i (length v.items)
takes_element value v i held = ap (takes (index i)) (array_tree (view value) (items_view v.items) held) ∙ ap (nat_le i) (count v.items)

pub in_list : (value : Value) (v n : Vec Value Global) (i : ℕ) (u : Value) (r : Result Bool AllocError) → Some (items_view v.items) ≡ json_find.as_array (view value) → IfOk r (λ b. b ≡ nat_le i (length v.items))
    → n.items ≡ (if unwrap_or (result_ok r) false then insert v.items i u else v.items) → Adds (with_new (index i) (value_tree u)) (takes (index i)) u value (Array n) r
in_list value v n i u (Err e) held found items = stays _ _ u value (Array n) (Err e) (list_same value v n held (ap items_view items)) tt tt
in_list value v n i u (Ok false) held found items =
    let far : length v.items < i = grind (arith, nat_tests, found) in
    let is = array_tree (view value) (items_view v.items) held in
    let same = list_same value v n held (ap items_view items) in
    not_taken _ _ u value (Array n) same (ap tree_of same ∙ is ∙ ap list (element_far v.items i (value_tree u) far) ∙ ap (with_new (index i) (value_tree u)) (sym is)) (takes_element value v i held ∙ sym found)
in_list value v n i u (Ok true) held found items =
    let within : i ≤ length v.items = grind (arith, nat_tests, found) in
    let is = array_tree (view value) (items_view v.items) held in
    is_taken _ _ u value (Array n) (ap tree_of (view-Array n) ∙ ap (λ ys. list (trees_of (items_view ys))) items ∙ ap list (element_new v.items i u within) ∙ ap (with_new (index i) (value_tree u)) (sym is)) (takes_element value v i held ∙ sym found)
    (λ a b. ap data_whole (view-Array n ∙ ap (λ ys. json.array (items_view ys)) items) ∙ items_new v.items i u within a (ap data_whole (sym (list_data (view value) (items_view v.items) held)) ∙ b))

-- ---- a member

members_of-match_ordering : (o : Ordering) (a b c : json.Members) → members_of (match_ordering o a b c) ≡ match_ordering o (members_of a) (members_of b) (members_of c)
members_of-match_ordering Less a b c = refl
members_of-match_ordering Equal a b c = refl
members_of-match_ordering Greater a b c = refl

member_new : (k : List ℕ) (d : json.Data) (ms : json.Members) → members_of (json.put k d ms) ≡ with_new_member k (tree_of d) (members_of ms)
member_new k d json.no_members = refl
member_new k d (json.member l e ms) = members_of-match_ordering (slice_cmp nat_cmp k l) _ _ _ ∙ rw (member_new k d ms)

put_by : (o : Ordering) (k l : List ℕ) (d e : json.Data) (ms more : json.Members) → data_whole d ≡ true → data_whole e ≡ true → members_are_whole ms ≡ true → members_are_whole more ≡ true
    → members_are_whole (match_ordering o (json.member k d (json.member l e ms)) (json.member l d ms) (json.member l e more)) ≡ true
put_by Less k l d e ms more a b c h = member_and_more k d (json.member l e ms) a (member_and_more l e ms b c)
put_by Equal k l d e ms more a b c h = member_and_more l d ms a c
put_by Greater k l d e ms more a b c h = member_and_more l e more b h

members_new : (k : List ℕ) (d : json.Data) (ms : json.Members) → data_whole d ≡ true → members_are_whole ms ≡ true → members_are_whole (json.put k d ms) ≡ true
members_new k d json.no_members a b = member_and_more k d json.no_members a b
members_new k d (json.member l e ms) a b =
    let more = more_members_whole l e ms b in
    put_by (slice_cmp nat_cmp k l) k l d e ms (json.put k d ms) a (first_member_whole l e ms b) more (members_new k d ms a more)

object_whole : (es : List Entry) → IsStrictlySortedBy string_cmp (keys_of es) → members_are_whole (members_view es) ≡ true → data_whole (json.object (members_view es)) ≡ true
object_whole es ordered h =
    let parts = and_parts (members_whole (members_view es)) (members_distinct (members_of (members_view es))) h in
    and_from (members_whole (members_view es)) _ parts.0 (and_from (are_distinct (names es)) (members_distinct (members_of (members_view es))) (ordered_names es ordered) parts.1)

object_same : (value : Value) (m n : BTreeMap (String Global) Value) → Some (members_view m.entries) ≡ json_find.as_object (view value) → n.entries ≡ m.entries → view (Object n) ≡ view value
object_same value m n held same = view-Object n ∙ ap (λ es. json.object (members_view es)) same ∙ sym (object_data (view value) (members_view m.entries) held)

takes_member : (value : Value) (m : BTreeMap (String Global) Value) (k : List ℕ) → Some (members_view m.entries) ≡ json_find.as_object (view value) → takes (name k) (value_tree value) ≡ true
takes_member value m k held = ap (takes (name k)) (object_tree (view value) (members_view m.entries) held)

pub in_object : (value : Value) (m n : BTreeMap (String Global) Value) (k : String Global) (u : Value) (r : Result Bool AllocError) → Some (members_view m.entries) ≡ json_find.as_object (view value) → IfOk r (λ b. b ≡ true)
    → n.entries ≡ (if is_ok r then insert_entry string_cmp m.entries k u else m.entries) → IsOrdered string_cmp n → Adds (with_new (name (string_bytes k)) (value_tree u)) (takes (name (string_bytes k))) u value (Object n) r
in_object value m n k u (Err e) held found entries ordered = stays _ _ u value (Object n) (Err e) (object_same value m n held entries) tt tt
in_object value m n k u (Ok false) held found entries ordered = absurd (true≢false (sym found))
in_object value m n k u (Ok true) held found entries ordered =
    let is = object_tree (view value) (members_view m.entries) held in
    let put : members_view n.entries ≡ json.put (string_bytes k) (view u) (members_view m.entries) = ap members_view entries ∙ members_view-insert_entry m.entries k u in
    is_taken _ _ u value (Object n) (ap tree_of (view-Object n) ∙ ap (λ ms. object (members_of ms)) put ∙ ap object (member_new (string_bytes k) (view u) (members_view m.entries)) ∙ ap (with_new (name (string_bytes k)) (value_tree u)) (sym is))
    (takes_member value m (string_bytes k) held)
    (λ a b. ap data_whole (view-Object n) ∙ object_whole n.entries ordered (ap members_are_whole put ∙ members_new (string_bytes k) (view u) (members_view m.entries) a (object_members_whole (members_view m.entries) (ap data_whole (sym (object_data (view value) (members_view m.entries) held)) ∙ b))))
