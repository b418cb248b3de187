-- The answer about an only node, for the crate's own contracts: the definitions here are no part of what a query means.
use Rattle.std.specs.Prelude.{◌≡◌, ◌≤◌, ℕ, List, [], ◌∷◌, length, string_bytes}
use Rattle.jsonpath_base.specs.Tree.{Tree}
use Rattle.jsonpath_rust.specs.declared.selection.sink.Only.{Only}
use Rattle.jsonpath_rust.specs.declared.selection.sink.Only.TheVariants.{Nothing, One, Several}

-- these nodes are none, or this one alone, or several
abbrev pub IsOnlyOf : {A : Type 0} → (A → Tree) → List (List ℕ × Tree) → Only A → Type 0
IsOnlyOf tree ns Nothing = ns ≡ []
IsOnlyOf tree ns (One n) = ns ≡ (string_bytes n.path, tree n.val.now) ∷ []
IsOnlyOf tree ns Several = 2 ≤ length ns
