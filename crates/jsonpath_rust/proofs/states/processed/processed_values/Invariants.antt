use Rattle.std.proofs.Common.{◌≡◌, ◌++◌, map, drop, All, IsTrue}
use Rattle.jsonpath_rust.proofs.states.processed.processed_values.Given as goal

-- the values so far, with those that are left
abbrev pub invariant-loop-pointer : goal.invariant-loop-pointer
invariant-loop-pointer g l =
    let tree = g.T.Queryable.tree in
    record {
      made : map (λ x. tree x.now) l.values.items ++ map (λ p. tree p.inner.now) (drop l.pointer-index l.pointer-items) ≡ map (λ p. tree p.inner.now) l.pointer-items;
      whole : All (λ x. IsTrue (g.T.Queryable.is_whole x.now)) l.values.items;
    }
