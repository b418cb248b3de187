use Rattle.std.proofs.Common.{◌≡◌, ◌++◌, map, drop}
use Rattle.jsonpath_rust.specs.Prelude.Documents.{arg_trees}
use Rattle.jsonpath_rust.proofs.states.evaluate.calls.push_values.Given as goal

-- the arguments so far, with the values that are left
abbrev pub invariant-loop-from : goal.invariant-loop-from
invariant-loop-from g l =
    let tree = g.T.Queryable.tree in
    arg_trees l.values ++ map (λ p. tree p.inner.now) (drop l.from-index l.from-items) ≡ arg_trees l.initial.values ++ map (λ p. tree p.inner.now) l.from-items
