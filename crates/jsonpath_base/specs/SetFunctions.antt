-- The custom functions of a `Value` in a filter: the set functions (an extension of RFC 9535, 2.4).
use Rattle.std.specs.Prelude.{ℕ, List, [], ◌∷◌, Bool, not, Option, None, option_map, option_and_then, if◌then◌else◌, bytes_eq, codes}
use Rattle.std.specs.List.{list_all, list_any}
use Rattle.std.specs.Option.{option_map_or}
use Rattle.jsonpath_base.specs.Tree.{Tree, null, truth, as_list}
use Rattle.jsonpath_base.specs.Same.{same}

-- the list holds a value that is the same
abbrev pub is_in : Tree → List Tree → Bool
is_in t us = list_any (same t) us

-- the result for two lists; none for other kinds
abbrev pub of_lists : (List Tree → List Tree → Bool) → Tree → Tree → Option Bool
of_lists test a b = option_and_then (λ ts. option_map (test ts) (as_list b)) (as_list a)

-- What the function of this name returns for two arguments, if it returns a truth:
--   `in`, `nin`: the second, a list, holds the first, or does not;
--   `none_of`, `any_of`, `subset_of`: of two lists, no element, some element, every element of the first is in the second.
abbrev pub set_truth : List ℕ → Tree → Tree → Option Bool
set_truth name a b =
    if bytes_eq name (codes "in") then option_map (is_in a) (as_list b)
    else if bytes_eq name (codes "nin") then option_map (λ us. not (is_in a us)) (as_list b)
    else if bytes_eq name (codes "none_of") then of_lists (λ ts us. not (list_any (λ t. is_in t us) ts)) a b
    else if bytes_eq name (codes "any_of") then of_lists (λ ts us. list_any (λ t. is_in t us) ts) a b
    else if bytes_eq name (codes "subset_of") then of_lists (λ ts us. list_all (λ t. is_in t us) ts) a b
    else None

-- The result for a name and its arguments: a truth, or null if there is none.
abbrev pub set_function : List ℕ → List Tree → Tree
set_function name (a ∷ b ∷ []) = option_map_or truth (set_truth name a b) null
set_function name _ = null
