use Rattle.std.proofs.Common.{◌≡◌, ◌++◌, map, List, ℕ}
use Rattle.jsonpath_base.specs.Prelude.Documents.{members_of, members_view, pairs, Tree, value_tree}
use Rattle.jsonpath_base.proofs.documents.queryable.value.lent_members.Given as goal

-- what is lent, and what is left, are the members
abbrev pub invariant-loop-name : goal.invariant-loop-name
invariant-loop-name l =
    (map {B = List ℕ × Tree} (λ m. (m.0.now, value_tree m.1.now)) l.lent.items ++ pairs (members_of (members_view l.name-iterator)) ≡ pairs (members_of (members_view l.members.entries)))
    × (map (λ m. m.1.now) l.lent.items ++ map (λ e. e.1) l.name-iterator ≡ map (λ e. e.1) l.members.entries)
