use Rattle.std.proofs.Common.{◌≡◌, ◌++◌, map, drop}
use Rattle.jsonpath_rust.specs.Prelude.Documents.{arg_trees}
use Rattle.jsonpath_rust.proofs.selection.constants.push_each.Given as goal

-- the arguments so far, with the values that are left
abbrev pub invariant-loop-value : goal.invariant-loop-value
invariant-loop-value g l =
    let tree = g.T.Queryable.tree in
    arg_trees l.args ++ map (λ v. tree v.now) (drop l.value-index l.value-items) ≡ arg_trees l.initial.args ++ map (λ v. tree v.now) l.value-items
