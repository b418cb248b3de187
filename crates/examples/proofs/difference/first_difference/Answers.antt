use Rattle.std.proofs.Common.{◌≡◌, ◌<◌, length, map, take, add-one, sym, ◌∙◌, subst, arith}
use Rattle.examples.specs.Difference.{AreSame}
use Rattle.examples.proofs.Differing.{same_next, first_ends}
use Rattle.examples.proofs.difference.first_difference.Goals as goal

pub loop-index-preserved : goal.loop-index-preserved
loop-index-preserved g c =
    let tree = g.T.Queryable.tree in
    let found = c.in-Some.ensures.lookup in
    let within : c.loop-index.index < length c.args.values.now = omega arith in
    rw add-one (same_next (λ v. tree v.now) c.args.values.now c.args.others.now c.loop-index.index c.index-values-index.result c.in-Some.other.now within found.3.0 c.index-values-index.is found.1 (sym c.equal.ensures ∙ c.if-not-equal.false) c.loop-index.invariant)

pub returns-then-values-others-clause-different : goal.returns-then-values-others-clause-different
returns-then-values-others-clause-different g c =
    let tree = g.T.Queryable.tree in
    let here : c.loop-index.index ≡ length c.args.values.now = omega arith in
    let before = subst (λ i. AreSame (take i (map (λ v. tree v.now) c.args.values.now)) (take i (map (λ v. tree v.now) c.args.others.now))) here c.loop-index.invariant in
    record { before = before; there = first_ends (λ v. tree v.now) c.args.values.now c.args.others.now (length c.args.values.now) (omega arith) (omega arith) }
