use Rattle.std.proofs.Common.{◌≡◌, ◌++◌, [], map, drop}
use Rattle.jsonpath_base.specs.Prelude.Documents.{element_nodes}
use Rattle.jsonpath_rust.specs.Prelude.States.{target_at, targets_at, under}
use Rattle.jsonpath_rust.proofs.states.held.WholePointerRef.elements.Given as goal

-- what was found, with what is left
abbrev pub invariant-loop-i : goal.invariant-loop-i
invariant-loop-i g l =
    let tree = g.T.Queryable.tree in
    let path = (target_at l.self).path in
    targets_at l.found ++ map (under path) (element_nodes [] l.i (map tree (drop l.i l.items))) ≡ map (under path) (element_nodes [] 0 (map tree l.items))
