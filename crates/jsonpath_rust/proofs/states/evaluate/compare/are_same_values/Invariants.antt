use Rattle.std.proofs.Common.{◌≡◌, map, drop}
use Rattle.jsonpath_rust.specs.Prelude.States.{lists_same}
use Rattle.jsonpath_rust.proofs.states.evaluate.compare.are_same_values.Given as goal

-- those that are left decide
abbrev pub invariant-loop-i : goal.invariant-loop-i
invariant-loop-i g l =
    let tree = g.T.Queryable.tree in
    lists_same (map tree (drop l.i l.items)) (map (λ p. tree p.inner.now) (drop l.i l.nodes)) ≡ lists_same (map tree l.items) (map (λ p. tree p.inner.now) l.nodes)
