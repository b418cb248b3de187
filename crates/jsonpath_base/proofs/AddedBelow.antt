-- A child added below a child of a value, seen as a tree.
use Rattle.std.proofs.Common.{◌≡◌, ℕ, zero, suc, ◌<◌, ◌≤◌, ◌∷◌, List, [], length, set, get_or, Bool, true, false, Some, None, option_map, option_and_then, unwrap_or, Result, Ok, String, Vec, BTreeMap, Global, string_bytes, refl, sym, ap, subst, ◌∙◌, arith}
use Rattle.std.proofs.lemmas.Result.{on_ok_weaker, IfOk-weaker}
use Rattle.jsonpath_base.specs.Prelude.{added, Adds, AllocError, Array, at, child, index, items_view, Location, lookup, members_view, name, Object, set_value, Step, takes, takes_at, Tree, Value, value_tree, view}
use Rattle.serde_json.specs.Data as json
use Rattle.serde_json.specs.Find as json_find
use Rattle.serde_json.proofs.Views.{Entry, view-Array, view-Object}
use Rattle.jsonpath_base.proofs.AddedChildren.{not_taken}
use Rattle.jsonpath_base.proofs.Loans.{at_item, at_member}
use Rattle.jsonpath_base.proofs.Putting.{is_entry, set_element, past_child, set_member, absent_child}
use Rattle.jsonpath_base.proofs.PutWhole.{list_data, object_data, same_list, same_object, element_put, member_put}

-- what is added at a location below a value
abbrev pub AddsAt : Location → Step → Value → Value → Value → Result Bool AllocError → Type 0
AddsAt l s u old new r = Adds (added l s (value_tree u)) (takes_at l s) u old new r

-- at an equal location
pub at_location : (l m : Location) (s : Step) (u old new : Value) (r : Result Bool AllocError) → l ≡ m → AddsAt m s u old new r → AddsAt l s u old new r
at_location l m s u old new r e h = subst (λ p. AddsAt p s u old new r) (sym e) h

-- where nothing is, nothing is added
nowhere : (p : Step) (l : Location) (s : Step) (t : Tree) → child p t ≡ None → takes_at (p ∷ l) s t ≡ false
nowhere p l s t none = ap (λ o. unwrap_or (option_map (takes s) (option_and_then (at l) o)) false) none

same_place : (l m : Location) (s : Step) (t u : Tree) → at l t ≡ at m u → takes_at m s u ≡ takes_at l s t
same_place l m s t u e = ap (λ o. unwrap_or (option_map (takes s) o) false) (sym e)

-- ---- below an element

items_same : (vs : List Value) (i : ℕ) (x w : Value) → i < length vs → x ≡ get_or vs i x → view w ≡ view x → items_view (set vs i w) ≡ items_view vs
items_same [] i x w within read same = absurd (omega (arith, within))
items_same (v ∷ vs) zero x w within read same = ap (λ d. json.item d (items_view vs)) (same ∙ ap view read)
items_same (v ∷ vs) (suc i) x w within read same = ap (json.item (view v)) (items_same vs i x w (omega (arith, within)) read same)

pub same_element : (value : Value) (v n : Vec Value Global) (i : ℕ) (x w : Value) → Some (items_view v.items) ≡ json_find.as_array (view value) → i < length v.items → x ≡ get_or v.items i x → n.items ≡ set v.items i w → view w ≡ view x → view (Array n) ≡ view value
same_element value v n i x w held within read written same = view-Array n ∙ ap (λ ys. json.array (items_view ys)) written ∙ ap json.array (items_same v.items i x w within read same) ∙ sym (list_data (view value) (items_view v.items) held)

pub below_element : (value : Value) (v n : Vec Value Global) (i : ℕ) (l : Location) (s : Step) (u x w : Value) (r : Result Bool AllocError) → Some (items_view v.items) ≡ json_find.as_array (view value) → i < length v.items → x ≡ get_or v.items i x
    → n.items ≡ set v.items i w → AddsAt l s u x w r → AddsAt (index i ∷ l) s u value (Array n) r
below_element value v n i l s u x w r held within read written below = record {
  value = on_ok_weaker r (set_element value v n i (added l s (value_tree u)) x w held within read written) below.value;
  found = IfOk-weaker r _ _ (λ b e. e ∙ same_place (index i ∷ l) l s (value_tree value) (value_tree x) (at_item value v i l x held within read)) below.found;
  same = λ other. same_element value v n i x w held within read written (below.same other);
  whole = λ a. element_put value v n i x w held within read written (below.whole a);
}

pub past_elements : (value : Value) (v : Vec Value Global) (i : ℕ) (l : Location) (s : Step) (u : Value) → Some (items_view v.items) ≡ json_find.as_array (view value) → length v.items ≤ i → AddsAt (index i ∷ l) s u value (Array v) (Ok false)
past_elements value v i l s u held past =
    let none = past_child value v i (added l s (value_tree u)) held past in
    not_taken _ _ u value (Array v) (same_list value v held) none.0 (nowhere (index i) l s (value_tree value) none.1)

-- ---- below a member

members_same : (test : String Global → Bool) (es : List Entry) (x w : Value) → lookup test es ≡ Some x → view w ≡ view x → members_view (set_value test es w) ≡ members_view es
members_same test [] x w found same = absurd cc
members_same test (e ∷ es) x w found same = pick (test e.0) refl (λ later. members_same test es x w later same)
  where
    pick : (b : Bool) → test e.0 ≡ b → (lookup test es ≡ Some x → members_view (set_value test es w) ≡ members_view es) → members_view (set_value test (e ∷ es) w) ≡ members_view (e ∷ es)
    pick true hit more =
        let first : Some e.1 ≡ Some x = sym (rw hit) ∙ found in
        let is : x ≡ e.1 = ap (λ o. unwrap_or o x) (sym first) in
        rw hit (ap (λ d. json.member (string_bytes e.0) d (members_view es)) (same ∙ ap view is))
    pick false miss more =
        let later : lookup test es ≡ Some x = sym (rw miss) ∙ found in
        rw miss (ap (json.member (string_bytes e.0) (view e.1)) (more later))

pub same_member : (value : Value) (m n : BTreeMap (String Global) Value) (k : List ℕ) (x w : Value) → Some (members_view m.entries) ≡ json_find.as_object (view value) → Some x ≡ lookup (is_entry k) m.entries → n.entries ≡ set_value (is_entry k) m.entries w → view w ≡ view x → view (Object n) ≡ view value
same_member value m n k x w held found written same = view-Object n ∙ ap (λ es. json.object (members_view es)) written ∙ ap json.object (members_same (is_entry k) m.entries x w (sym found) same) ∙ sym (object_data (view value) (members_view m.entries) held)

pub below_member : (value : Value) (m n : BTreeMap (String Global) Value) (k : List ℕ) (l : Location) (s : Step) (u x w : Value) (r : Result Bool AllocError) → Some (members_view m.entries) ≡ json_find.as_object (view value)
    → Some x ≡ lookup (is_entry k) m.entries → n.entries ≡ set_value (is_entry k) m.entries w → AddsAt l s u x w r → AddsAt (name k ∷ l) s u value (Object n) r
below_member value m n k l s u x w r held found written below = record {
  value = on_ok_weaker r (set_member value m n k (added l s (value_tree u)) x w held (sym found) written) below.value;
  found = IfOk-weaker r _ _ (λ b e. e ∙ same_place (name k ∷ l) l s (value_tree value) (value_tree x) (at_member value m k l x held found)) below.found;
  same = λ other. same_member value m n k x w held found written (below.same other);
  whole = λ a. member_put value m n (is_entry k) x w held (sym found) written (below.whole a);
}

pub absent_members : (value : Value) (m n : BTreeMap (String Global) Value) (k : List ℕ) (l : Location) (s : Step) (u : Value) → Some (members_view m.entries) ≡ json_find.as_object (view value) → None ≡ lookup (is_entry k) m.entries → n ≡ m
    → AddsAt (name k ∷ l) s u value (Object n) (Ok false)
absent_members value m n k l s u held none same =
    let out = absent_child value m n k (added l s (value_tree u)) held (sym none) same in
    not_taken _ _ u value (Object n) (same_object value m n held same) out.0 (nowhere (name k) l s (value_tree value) out.1)
