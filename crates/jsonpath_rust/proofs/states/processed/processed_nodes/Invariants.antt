use Rattle.std.proofs.Common.{◌≡◌, ◌++◌, map, length, All, IsTrue, string_bytes}
use Rattle.jsonpath_base.specs.Prelude.Documents.{into_iter_items, into_iter_len, shown}
use Rattle.jsonpath_rust.specs.Prelude.States.{PointersAreWhole}
use Rattle.jsonpath_rust.proofs.states.processed.processed_nodes.Given as goal

-- the nodes so far, with the pointers that are left
abbrev pub invariant-loop-pointer : goal.invariant-loop-pointer
invariant-loop-pointer g l =
    let tree = g.T.Queryable.tree in
    let rest = into_iter_items l.pointer-iterator in
    let all = into_iter_items l.initial.pointer-iterator in
    record {
      len : into_iter_len l.pointer-iterator ≡ length rest;
      made : shown tree l.nodes.items ++ map (λ p. (string_bytes p.path, tree p.inner.now)) rest ≡ map (λ p. (string_bytes p.path, tree p.inner.now)) all;
      whole : All (λ r. IsTrue (g.T.Queryable.is_whole r.val.now)) l.nodes.items;
      others : PointersAreWhole g.T.Queryable.is_whole rest;
    }
