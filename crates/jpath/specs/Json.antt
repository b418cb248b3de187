-- The compact JSON text of a value (RFC 8259): no blanks, the shortest escapes, and members in their order.
use Rattle.std.specs.Prelude.{ℕ, List, [], ◌++◌, Bool, true, false, codes, if◌then◌else◌}
use Rattle.std.specs.Fmt.{signed_decimal}
use Rattle.json.specs.Print.{quoted}
use Rattle.jsonpath_base.specs.Tree.{Tree, null, truth, number, text, list, object, Trees, no_trees, tree, Members, no_members, member}

-- a comma, where something stands before
abbrev pub comma_after : Bool → List ℕ
comma_after later = if later then codes "," else []

abbrev mutual
  pub json_text : Tree → List ℕ
  json_text null = codes "null"
  json_text (truth true) = codes "true"
  json_text (truth false) = codes "false"
  json_text (number n) = signed_decimal n
  json_text (text s) = quoted s
  json_text (list ts) = codes "[" ++ elements_text false ts
  json_text (object ms) = codes "{" ++ members_text false ms

  -- to the closing bracket, and whether an element stands before
  pub elements_text : Bool → Trees → List ℕ
  elements_text later no_trees = codes "]"
  elements_text later (tree t ts) = comma_after later ++ (json_text t ++ elements_text true ts)

  pub members_text : Bool → Members → List ℕ
  members_text later no_members = codes "}"
  members_text later (member k t ms) = comma_after later ++ (quoted k ++ (codes ":" ++ (json_text t ++ members_text true ms)))
