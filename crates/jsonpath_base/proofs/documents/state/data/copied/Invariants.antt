use Rattle.std.proofs.Common.{◌≡◌, ◌++◌, map, drop}
use Rattle.jsonpath_base.specs.Prelude.States.{PointersAreWhole, target_of}
use Rattle.jsonpath_base.proofs.documents.state.data.copied.Given as goal

-- what is copied, with what is left
abbrev pub invariant-loop-pointer : goal.invariant-loop-pointer
invariant-loop-pointer g l =
    let tree = g.T.Queryable.tree in
    let whole = g.T.Queryable.is_whole in
    record {
      made : map (target_of tree) l.all.items ++ map (target_of tree) (drop l.pointer-index l.pointers) ≡ map (target_of tree) l.pointers;
      whole : PointersAreWhole whole l.pointers → PointersAreWhole whole l.all.items;
    }
