-- What the functions of the RFC return for values and nodes (RFC 9535, 2.4.4 to 2.4.8). None means that there is no value.
use Rattle.std.specs.Prelude.{◌-◌, ◌^◌, ℕ, pos, min, length, List, [], ◌∷◌, map, Bool, false, Option, Some, None, option_to_list, chars}
use Rattle.jsonpath_base.specs.Tree.{Tree, truth, number, text, list, object, elements, pairs}
use Rattle.jsonpath_base.specs.Pattern.{found}
use Rattle.jsonpath_base.specs.documents.Node.{Node, has_node}

-- the greatest count, which is the greatest integer of 64 bits; counts stop there
abbrev pub greatest_count : ℕ
greatest_count = 2 ^ 63 - 1

-- a count as a value
abbrev pub count_value : ℕ → Tree
count_value n = number (pos (min n greatest_count))

-- the number of scalar values of a text, of elements of a list, of members of an object (2.4.4)
abbrev pub length_of : Option Tree → Option Tree
length_of (Some (text s)) = Some (count_value (length (chars s)))
length_of (Some (list ts)) = Some (count_value (length (elements ts)))
length_of (Some (object ms)) = Some (count_value (length (pairs ms)))
length_of _ = None

-- the number of nodes (2.4.5)
abbrev pub count_of : List Node → Option Tree
count_of ns = Some (count_value (length ns))

-- whether the pattern is found in the text: in all of it for `match`, somewhere for `search` (2.4.6 and 2.4.7)
abbrev pub is_matched : Bool → Option Tree → Option Tree → Bool
is_matched entire (Some (text s)) (Some (text pattern)) = found entire pattern s
is_matched entire _ _ = false

-- the value of the only node (2.4.8)
abbrev pub only_value : List Node → Option Tree
only_value (n ∷ []) = Some n.tree
only_value _ = None

-- any value that is no truth counts as false
abbrev pub is_true : Option Tree → Bool
is_true (Some (truth b)) = b
is_true _ = false

-- what an argument or a test is: a value, if it is not absent, or the nodes of a query (2.4.1)
pub data Evaluated : Type 0 where
  of_value : Option Tree → Evaluated
  of_nodes : List Node → Evaluated

-- as a value: for nodes, that of the only one (2.4.3)
abbrev pub as_value : Evaluated → Option Tree
as_value (of_value o) = o
as_value (of_nodes ns) = only_value ns

-- as nodes: a value has none
abbrev pub as_nodes : Evaluated → List Node
as_nodes (of_value o) = []
as_nodes (of_nodes ns) = ns

-- as arguments of a custom function: the values of nodes come one by one, and an absent value is left out
abbrev pub as_trees : Evaluated → List Tree
as_trees (of_value o) = option_to_list o
as_trees (of_nodes ns) = map (λ n. n.tree) ns

-- as a test: a query holds if it has nodes, whatever their values, and a call if it returns true (2.3.5.2.1)
abbrev pub as_truth : Evaluated → Bool
as_truth (of_value o) = is_true o
as_truth (of_nodes ns) = has_node ns
