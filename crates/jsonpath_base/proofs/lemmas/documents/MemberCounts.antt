-- How many members the object of a `Value` has, and their order.
use Rattle.std.proofs.Common.{◌≡◌, ℕ, suc, ℤ, List, [], ◌∷◌, length, map, Option, Some, None, option_map, IfSome, nat_cmp, string_cmp, refl, sym, ◌∙◌, ap, subst}
use Rattle.std.specs.List.Sorted.{IsStrictlySortedBy}
use Rattle.std.specs.Map.{keys_of}
use Rattle.serde_json.specs.Data as json
use Rattle.serde_json.specs.Data.{Data}
use Rattle.serde_json.specs.Find as json_find
use Rattle.jsonpath_base.specs.Prelude.Documents.{as_members, members_of, members_view, pairs, slice_cmp, Tree, tree_of_number, Value, value_tree, view}
use Rattle.serde_json.proofs.Views.{Entry}
use Rattle.jsonpath_base.proofs.Views.{names_ascend}
use Rattle.jsonpath_base.specs.Values.{tree_of}

members-length : (es : List Entry) → length (pairs (members_of (members_view es))) ≡ length es
members-length [] = refl
members-length (e ∷ es) = ap suc (members-length es)

number_no_members : (o : Option ℤ) → as_members (tree_of_number o) ≡ None
number_no_members None = refl
number_no_members (Some n) = refl

as_members-tree_of : (d : Data) → as_members (tree_of d) ≡ option_map (λ ms. pairs (members_of ms)) (json_find.as_object d)
as_members-tree_of json.null = refl
as_members-tree_of (json.boolean b) = refl
as_members-tree_of (json.number n) = number_no_members (json_find.as_i64 n)
as_members-tree_of (json.string s) = refl
as_members-tree_of (json.array ds) = refl
as_members-tree_of (json.object ms) = refl

-- the entries that `as_object` of serde_json lends
pub count-value_tree : (v : Value) (es : List Entry) → Some (members_view es) ≡ json_find.as_object (view v) → Some (length es) ≡ option_map (λ ms. length ms) (as_members (value_tree v))
count-value_tree v es e =
    ap Some (sym (members-length es)) ∙ ap (λ o. option_map (λ ms. length ms) (option_map (λ ms. pairs (members_of ms)) o)) e ∙ sym (ap (option_map (λ ms. length ms)) (as_members-tree_of (view v)))

-- the names of its members ascend by their bytes, as the keys of the map do
abbrev IsAscending : Option (List (List ℕ × Tree)) → Type 0
IsAscending o = IfSome o (λ ms. IsStrictlySortedBy (slice_cmp nat_cmp) (map (λ m. m.0) ms))

pub ascends-value_tree : (v : Value) (es : List Entry) → Some (members_view es) ≡ json_find.as_object (view v) → IsStrictlySortedBy string_cmp (keys_of es) → IsAscending (as_members (value_tree v))
ascends-value_tree v es e h =
    let same : as_members (value_tree v) ≡ Some (pairs (members_of (members_view es))) = as_members-tree_of (view v) ∙ ap (option_map (λ ms. pairs (members_of ms))) (sym e) in
    subst IsAscending (sym same) (names_ascend es h)

-- what is no object has none
pub ascends-no_object : (v : Value) → None ≡ json_find.as_object (view v) → IsAscending (as_members (value_tree v))
ascends-no_object v e =
    let same : as_members (value_tree v) ≡ None = as_members-tree_of (view v) ∙ ap (option_map (λ ms. pairs (members_of ms))) (sym e) in
    subst IsAscending (sym same) tt
