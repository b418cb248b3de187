-- A `Value` that was made of others.
use Rattle.std.proofs.Common.{◌≡◌, List, [], ◌∷◌, map, Some, All, IsTrue, Vec, Global, true, ◌&&◌, refl, ap, ◌∙◌}
use Rattle.std.proofs.lemmas.Bool.{and_parts, and_from}
use Rattle.std.proofs.lemmas.List.Elements.{All-head, All-tail}
use Rattle.jsonpath_base.specs.Prelude.Documents.{Array, as_list, has_distinct_names, has_whole_numbers, items_view, items_whole, trees_distinct, trees_of, Value, value_is_whole, value_tree, view}
use Rattle.serde_json.proofs.Views.{view-Array}
use Rattle.jsonpath_base.specs.Values.{tree_of}
use Rattle.jsonpath_base.proofs.Views.{elements-items_view, data_whole, items_are_whole}

-- the elements of a list that was made
pub array_elements : (v : Vec Value Global) → as_list (value_tree (Array v)) ≡ Some (map value_tree v.items)
array_elements v = ap (λ d. as_list (tree_of d)) (view-Array v) ∙ ap Some (elements-items_view v.items)

items_are_whole-All : (vs : List Value) → All (λ x. IsTrue (value_is_whole x)) vs → items_are_whole (items_view vs) ≡ true
items_are_whole-All [] h = refl
items_are_whole-All (v ∷ vs) h =
    let first = and_parts (has_whole_numbers (view v)) (has_distinct_names (value_tree v)) (All-head (λ x. IsTrue (value_is_whole x)) v vs h) in
    let more = and_parts (items_whole (items_view vs)) (trees_distinct (trees_of (items_view vs))) (items_are_whole-All vs (All-tail (λ x. IsTrue (value_is_whole x)) v vs h)) in
    and_from (has_whole_numbers (view v) && items_whole (items_view vs)) _ (and_from (has_whole_numbers (view v)) _ first.0 more.0) (and_from (has_distinct_names (value_tree v)) _ first.1 more.1)

-- a list of whole values is whole
pub array_whole : (v : Vec Value Global) → All (λ x. IsTrue (value_is_whole x)) v.items → IsTrue (value_is_whole (Array v))
array_whole v h = ap data_whole (view-Array v) ∙ items_are_whole-All v.items h
