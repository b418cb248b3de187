use Rattle.std.proofs.Common.{◌≡◌, ◌++◌, map, List, ℕ}
use Rattle.jsonpath_base.specs.Prelude.Documents.{members_of, pairs, Tree}
use Rattle.jpath.specs.Document.{json_tree, members_data}
use Rattle.jpath.proofs.document.queryable.lent_members.Given as goal

-- what is lent, and what is left, are the members
abbrev pub invariant-loop-name : goal.invariant-loop-name
invariant-loop-name l =
    (map {B = List ℕ × Tree} (λ m. (m.0.now, json_tree m.1.now)) l.lent.items ++ pairs (members_of (members_data l.name-iterator)) ≡ pairs (members_of (members_data l.members.entries)))
    × (map (λ m. m.1.now) l.lent.items ++ map (λ e. e.1) l.name-iterator ≡ map (λ e. e.1) l.members.entries)
