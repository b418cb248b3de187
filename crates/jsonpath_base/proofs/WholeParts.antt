-- A part of a whole value is whole.
use Rattle.std.proofs.Common.{◌≡◌, ℕ, zero, suc, ◌<◌, List, length, get_or, true, IsTrue, Option, Some, IfSome, option_map, Bor, Vec, BTreeMap, String, Global, sym, subst}
use Rattle.std.proofs.lemmas.List.Elements.{All-get_or}
use Rattle.std.proofs.lemmas.Map.Entries.{All-lookup}
use Rattle.jsonpath_base.specs.Prelude.{Data, is_entry, items_view, lookup, members_view, Value, value_is_whole, view}
use Rattle.serde_json.specs.Data as json
use Rattle.serde_json.specs.Find as json_find
use Rattle.jsonpath_base.proofs.Views.{data_whole, items_are_whole, first_item_whole, more_items_whole, all_items_whole, array_whole, as_members_whole, found_whole}

abbrev IsWhole : Value → Type 0
IsWhole v = IsTrue (value_is_whole v)

-- ---- an element

item_whole_at : (i : ℕ) (ds : json.Items) → items_are_whole ds ≡ true → IfSome (json_find.get_item i ds) (λ d. data_whole d ≡ true)
item_whole_at i json.no_items h = tt
item_whole_at zero (json.item d ds) h = first_item_whole d ds h
item_whole_at (suc i) (json.item d ds) h = item_whole_at i ds (more_items_whole d ds h)

data_at_whole : (i : ℕ) (d : Data) → data_whole d ≡ true → IfSome (json_find.at i d) (λ x. data_whole x ≡ true)
data_at_whole i json.null h = tt
data_at_whole i (json.boolean b) h = tt
data_at_whole i (json.number n) h = tt
data_at_whole i (json.string s) h = tt
data_at_whole i (json.array ds) h = item_whole_at i ds h
data_at_whole i (json.object ms) h = tt

-- the one that `get` of serde_json lends
pub at_whole : (i : ℕ) (v : Value) (r : Option (Bor Value)) → option_map (λ x. view x.now) r ≡ json_find.at i (view v) → IsWhole v → IfSome r (λ x. IsWhole x.now)
at_whole i v r e h = found_whole r (subst (λ o. IfSome o (λ x. data_whole x ≡ true)) (sym e) (data_at_whole i (view v) h))

-- the one at an index of the list that a value is
pub item_whole : (value : Value) (v : Vec Value Global) (i : ℕ) (x : Value) → Some (items_view v.items) ≡ json_find.as_array (view value) → i < length v.items → x ≡ get_or v.items i x → IsWhole value → IsWhole x
item_whole value v i x held within read h =
    let all = all_items_whole v.items (subst (λ o. IfSome o (λ ds. items_are_whole ds ≡ true)) (sym held) (array_whole (view value) h)) in
    subst IsWhole (sym read) (All-get_or IsWhole v.items i x within all)

-- ---- a member

pub member_whole : (value : Value) (m : BTreeMap (String Global) Value) (k : List ℕ) (x : Value) → Some (members_view m.entries) ≡ json_find.as_object (view value) → Some x ≡ lookup (is_entry k) m.entries → IsWhole value → IsWhole x
member_whole value m k x held found h =
    subst (λ o. IfSome o IsWhole) (sym found) (All-lookup IsWhole (is_entry k) m.entries (as_members_whole value m.entries held h))
