use Rattle.std.proofs.Common.{map, take}
use Rattle.examples.specs.Difference.{AreSame}
use Rattle.examples.proofs.difference.first_difference.Given as goal

-- the values so far are the same
abbrev pub invariant-loop-index : goal.invariant-loop-index
invariant-loop-index g l = AreSame (take l.index (map (λ v. g.T.Queryable.tree v.now) l.values)) (take l.index (map (λ v. g.T.Queryable.tree v.now) l.others))
