use Rattle.std.proofs.Common.{arith}
use Rattle.std.proofs.lemmas.List.{take_rest}
use Rattle.jpath.proofs.KnownBytes.{Appends-take}
use Rattle.jpath.proofs.run.write_out.Goals as goal

pub loop-at-preserved : goal.loop-at-preserved
loop-at-preserved g c = (
  search (arith, c.in-Ok.ensures.bound),
  Appends-take _ _ _ c.args.bytes.now c.loop-at.at c.in-Ok.count c.loop-at.invariant.1 (rw (take_rest c.args.bytes.now c.loop-at.at) at c.in-Ok.ensures.bytes),
)
