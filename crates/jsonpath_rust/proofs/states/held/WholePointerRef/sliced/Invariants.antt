use Rattle.std.proofs.Common.{◌≡◌, ◌++◌, map, drop}
use Rattle.jsonpath_base.specs.Prelude.Documents.{element, flat_map, root_node}
use Rattle.jsonpath_rust.specs.Prelude.States.{target_at, targets_at, under}
use Rattle.jsonpath_rust.proofs.states.held.WholePointerRef.sliced.Given as goal

-- what was found, with what is left
abbrev pub invariant-loop-at : goal.invariant-loop-at
invariant-loop-at g l =
    let from = target_at l.self in
    let path = from.path in
    let n = root_node from.tree in
    targets_at l.found ++ map (under path) (flat_map (λ k. element k n) (drop l.at-index l.at-items)) ≡ map (under path) (flat_map (λ k. element k n) l.at-items)
