-- What a query can reach, known before any document.
use Rattle.std.specs.Prelude.{ℕ, Bool, true, false, ◌&&◌, bytes_eq, List, Option, Some, None, if◌then◌else◌}
use Rattle.std.specs.Borrow.{Bor}
use Rattle.std.specs.List.{list_any}
use Rattle.jsonpath_parser.specs.tree.Syntax.{Call, custom_call, Query}
use Rattle.jsonpath_parser.specs.tree.Typing.{TreeFold, over_segments}

-- no query from the root
abbrev pub locality : TreeFold Bool
locality = record { none = true; both = ◌&&◌; of_test = λ t. true; of_side = λ x. true; of_root = false; of_call = λ c. true }

-- No filter has a `$`: no query from the root is a test, an argument of a call or a side of a comparison, at any depth (2.3.5). The `$` in front of the query stands in none.
abbrev pub is_local : Query → Bool
is_local = over_segments locality

-- one of the names is this text
abbrev pub is_one_of : List (Bor (List ℕ)) → List ℕ → Bool
is_one_of names n = list_any (λ m. bytes_eq m.now n) names

-- the first of the two that is something
abbrev pub or_else : {A : Type 0} → Option A → Option A → Option A
or_else (Some x) y = Some x
or_else None y = y

-- the name of a custom call of no known function (2.4): `custom_call` is that of every name but `length`, `value`, `count`, `search` and `match`
abbrev pub other_name : (List ℕ → Bool) → Call → Option (List ℕ)
other_name known (custom_call n xs) = if known n then None else Some n
other_name known _ = None

abbrev pub other_names : (List ℕ → Bool) → TreeFold (Option (List ℕ))
other_names known = record { none = None; both = or_else; of_test = λ t. None; of_side = λ x. None; of_root = None; of_call = other_name known }

-- The first name, as the query is written, of a call of no known function, at any depth; that of a call stands before those in its arguments.
abbrev pub first_other : (List ℕ → Bool) → Query → Option (List ℕ)
first_other known = over_segments (other_names known)
