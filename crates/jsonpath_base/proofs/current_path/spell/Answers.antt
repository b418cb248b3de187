use Rattle.std.proofs.Common.{◌≡◌, ◌<◌, length, arith}
use Rattle.jsonpath_base.proofs.CurrentPathLaws.{spelled_next}
use Rattle.jsonpath_base.proofs.current_path.spell.Goals as goal

pub loop-alloc-preserved : goal.loop-alloc-preserved
loop-alloc-preserved c =
    let n = c.len-in-loop-alloc-2.result in
    let is_next : n ≡ length c.loop-alloc.starts.items = omega (arith, c.len-in-loop-alloc-2.ensures, c.loop-alloc.starts.ok.0) in
    let within : n < length c.args.steps.now.items = omega (arith, c.loop-alloc-test.true, c.len.ensures, c.len-in-loop-alloc.ensures, c.len-in-loop-alloc-2.ensures, c.loop-alloc.starts.ok.0, c.args.steps.now.ok.0) in
    spelled_next _ _ _ _ _ c.index-step.result.now n is_next within c.index-step.ensures c.in_ok-spell_next.ensures.starts c.in_ok-spell_next.ensures.text c.loop-alloc.invariant
