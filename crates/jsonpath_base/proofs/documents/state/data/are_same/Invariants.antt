use Rattle.std.proofs.Common.{◌≡◌, drop}
use Rattle.jsonpath_base.specs.Prelude.States.{targets_of, targets_same}
use Rattle.jsonpath_base.proofs.documents.state.data.are_same.Given as goal

-- those that are left decide
abbrev pub invariant-loop-i : goal.invariant-loop-i
invariant-loop-i g l =
    let tree = g.T.Queryable.tree in
    targets_same (targets_of tree (drop l.i l.left)) (targets_of tree (drop l.i l.right)) ≡ targets_same (targets_of tree l.left) (targets_of tree l.right)
