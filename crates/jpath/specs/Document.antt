-- The data that a `Json` stands for.
use Rattle.std.specs.Prelude.{ℕ, List, [], ◌∷◌, map, Bool, ◌&&◌, string_bytes}
use Rattle.std.specs.Borrow.{Bor}
use Rattle.serde_json.specs.Data.{Data, null, boolean, number, string, array, object, Members, no_members, member, Items}
use Rattle.serde_json.specs.View.{items_of, number_view}
use Rattle.jsonpath_base.specs.Tree.{Tree, has_distinct_names}
use Rattle.jsonpath_base.specs.Values.{tree_of, has_whole_numbers}
use Rattle.jsonpath_base.specs.SetFunctions.{set_function}
use Rattle.jsonpath_rust.specs.documents.Document.{Document, document_of}
use Rattle.jpath.specs.declared.document.Json.{Json, fold-Json}
use Rattle.jpath.specs.declared.document.Json.TheOpen.{Json-F}

abbrev pub members_of : List (Bor (List ℕ) × Data) → Members
members_of [] = no_members
members_of (m ∷ ms) = member m.0.now m.1 (members_of ms)

-- one level, with each value inside already seen as its data
abbrev pub json_step : Json-F Data → Data
json_step Json-F.Null = null
json_step (Json-F.Bool b) = boolean b
json_step (Json-F.Number x) = number (number_view x)
json_step (Json-F.String s) = string s.now
json_step (Json-F.Owned s) = string (string_bytes s)
json_step (Json-F.Array v) = array (items_of v.items)
json_step (Json-F.Object m) = object (members_of m.entries)

abbrev pub json_data : Json → Data
json_data = fold-Json Data json_step

abbrev pub items_data : List Json → Items
items_data vs = items_of (map json_data vs)

abbrev pub members_data : List (Bor (List ℕ) × Json) → Members
members_data ms = members_of (map (λ m. (m.0, json_data m.1)) ms)

-- ---- as a tree

abbrev pub json_tree : Json → Tree
json_tree v = tree_of (json_data v)

-- Names are distinct in each object: its map keeps them in order. That stands here so that a proof has it of every whole document.
abbrev pub json_is_whole : Json → Bool
json_is_whole v = has_whole_numbers (json_data v) && has_distinct_names (json_tree v)

-- what a query is asked of, with the custom functions of sets
abbrev pub json_document : Json → Document
json_document v = document_of json_tree set_function v
