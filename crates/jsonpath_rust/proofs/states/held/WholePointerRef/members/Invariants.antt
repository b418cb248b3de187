use Rattle.std.proofs.Common.{◌≡◌, ◌++◌, [], map, drop}
use Rattle.jsonpath_base.specs.Prelude.Documents.{member_nodes}
use Rattle.jsonpath_rust.specs.Prelude.States.{target_at, targets_at, under}
use Rattle.jsonpath_rust.proofs.states.held.WholePointerRef.members.Given as goal

-- what was found, with what is left
abbrev pub invariant-loop-pair : goal.invariant-loop-pair
invariant-loop-pair g l =
    let tree = g.T.Queryable.tree in
    let path = (target_at l.self).path in
    targets_at l.found ++ map (under path) (member_nodes [] (map (λ m. (m.0.now, tree m.1.now)) (drop l.pair-index l.pairs))) ≡ map (under path) (member_nodes [] (map (λ m. (m.0.now, tree m.1.now)) l.pairs))
