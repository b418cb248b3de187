use Rattle.std.proofs.Common.{◌≡◌, ◌++◌, map, drop}
use Rattle.jsonpath_base.specs.Prelude.Documents.{flat_map, size}
use Rattle.jsonpath_rust.specs.Prelude.States.{parents_in, target_at, target_of, targets_at}
use Rattle.jsonpath_rust.proofs.states.held.WholePointerRef.+push_parents.Given as goal

abbrev pub decreases-push_parents : goal.decreases-push_parents
decreases-push_parents g l = size (target_at l.self).tree

-- what was found, with what is left
abbrev pub invariant-loop-pointer : goal.invariant-loop-pointer
invariant-loop-pointer g l =
    let tree = g.T.Queryable.tree in
    targets_at l.found ++ flat_map parents_in (map (target_of tree) (drop l.pointer-index l.pointer-items)) ≡ targets_at l.initial.found ++ flat_map parents_in (map (target_of tree) l.pointer-items)
