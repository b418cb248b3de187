-- What a `Json` answers as a document.
use Rattle.std.proofs.Common.{Ordering, Less, Equal, Greater, ◌≡◌, ℕ, suc, List, [], ◌∷◌, map, length, Option, Some, None, option_map, option_copied, Bor, Vec, BTreeMap, Global, All, IsTrue, true, ◌&&◌, cond, nat_cmp, is_eq, refl, sym, ap, ◌∙◌}
use Rattle.std.proofs.lemmas.Bool.{and_parts, and_from}
use Rattle.std.proofs.lemmas.List.Elements.{All-head, All-tail}
use Rattle.std.specs.BTreeMap.{is_at}
use Rattle.std.specs.Cmp.Lexicographic.{slice_cmp}
use Rattle.std.specs.Map.{lookup}
use Rattle.std.specs.Ordering.{match_ordering}
use Rattle.serde_json.specs.Data.{Data}
use Rattle.serde_json.specs.Find as json_find
use Rattle.jsonpath_base.specs.Prelude.Documents.{as_list, as_members, has_distinct_names, has_whole_numbers, items_whole, members_of, pairs, trees_distinct, trees_of}
use Rattle.jsonpath_base.specs.Values.{tree_of}
use Rattle.jsonpath_base.proofs.Views.{data_whole, items_are_whole}
use Rattle.jpath.specs.Document.{items_data, json_data, json_is_whole, json_tree, members_data}
use Rattle.jpath.specs.declared.document.Json.{Json, Array, Object}
use Rattle.jpath.proofs.DocumentViews.{Entry, data-Array, data-Object, elements-items_data}

-- ---- a list

pub array_elements : (v : Vec Json Global) → as_list (json_tree (Array v)) ≡ Some (map json_tree v.items)
array_elements v = ap (λ d. as_list (tree_of d)) (data-Array v) ∙ ap Some (elements-items_data v.items)

pub elements_of : (j : Json) (v : Vec Json Global) → j ≡ Array v → Some (map json_tree v.items) ≡ as_list (json_tree j)
elements_of j v e = sym (ap (λ x. as_list (json_tree x)) e ∙ array_elements v)

items_are_whole-All : (vs : List Json) → All (λ x. IsTrue (json_is_whole x)) vs → items_are_whole (items_data vs) ≡ true
items_are_whole-All [] h = refl
items_are_whole-All (v ∷ vs) h =
    let first = and_parts (has_whole_numbers (json_data v)) (has_distinct_names (json_tree v)) (All-head (λ x. IsTrue (json_is_whole x)) v vs h) in
    let more = and_parts (items_whole (items_data vs)) (trees_distinct (trees_of (items_data vs))) (items_are_whole-All vs (All-tail (λ x. IsTrue (json_is_whole x)) v vs h)) in
    and_from (has_whole_numbers (json_data v) && items_whole (items_data vs)) _ (and_from (has_whole_numbers (json_data v)) _ first.0 more.0) (and_from (has_distinct_names (json_tree v)) _ first.1 more.1)

-- a list of whole documents is whole
pub array_whole : (v : Vec Json Global) → All (λ x. IsTrue (json_is_whole x)) v.items → IsTrue (json_is_whole (Array v))
array_whole v h = ap data_whole (data-Array v) ∙ items_are_whole-All v.items h

-- ---- an object

pub members_of_object : (j : Json) (m : BTreeMap (Bor (List ℕ)) Json) → j ≡ Object m → as_members (json_tree j) ≡ Some (pairs (members_of (members_data m.entries)))
members_of_object j m e = ap (λ x. as_members (json_tree x)) e ∙ ap (λ d. as_members (tree_of d)) (data-Object m)

members-length : (es : List Entry) → length (pairs (members_of (members_data es))) ≡ length es
members-length [] = refl
members-length (e ∷ es) = ap suc (members-length es)

pub object_count : (j : Json) (m : BTreeMap (Bor (List ℕ)) Json) → j ≡ Object m → Some (length m.entries) ≡ option_map (λ ms. length ms) (as_members (json_tree j))
object_count j m e = ap Some (sym (members-length m.entries)) ∙ sym (ap (option_map (λ ms. length ms)) (members_of_object j m e))

-- ---- a member by its name

found_or : (o : Ordering) (v : Json) (rest : Option Json) (d : Option Data) → option_map json_data rest ≡ d → option_map json_data (cond (is_eq o) (Some v) rest) ≡ match_ordering o d (Some (json_data v)) d
found_or Less v rest d e = e
found_or Equal v rest d e = refl
found_or Greater v rest d e = e

data-lookup : (k : List ℕ) (es : List Entry) → option_map json_data (lookup (is_at (λ l. slice_cmp nat_cmp k l.now)) es) ≡ json_find.get_member k (members_data es)
data-lookup k [] = refl
data-lookup k (e ∷ es) = found_or (slice_cmp nat_cmp k e.0.now) e.1 _ _ (data-lookup k es)

data_of_ref : (r : Option (Bor Json)) → option_map (λ x. json_data x.now) r ≡ option_map json_data (option_map (λ x. x.now) r)
data_of_ref None = refl
data_of_ref (Some x) = refl

-- the member that a map's `get` lends
pub looked_up : (k : List ℕ) (j : Json) (m : BTreeMap (Bor (List ℕ)) Json) (r : Option (Bor Json)) → j ≡ Object m → option_copied r ≡ lookup (is_at (λ l. slice_cmp nat_cmp k l.now)) m.entries
    → option_map (λ x. json_data x.now) r ≡ json_find.get k (json_data j)
looked_up k j m r e g = data_of_ref r ∙ ap (option_map json_data) g ∙ data-lookup k m.entries ∙ sym (ap (λ x. json_find.get k (json_data x)) e ∙ ap (json_find.get k) (data-Object m))
