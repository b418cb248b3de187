use Rattle.std.proofs.Common.{◌≡◌, ◌<◌, ◌+◌, ◌-◌, ◌++◌, length, take, drop, ap, ◌∙◌, arith}
use Rattle.std.proofs.lemmas.List.Edits.{length-swap}
use Rattle.jsonpath_base.proofs.Removing.{move_one}
use Rattle.jsonpath_base.proofs.removal.move_down.Goals as goal

pub loop-i-preserved : goal.loop-i-preserved
loop-i-preserved c =
    let l = c.loop-i in let xs = l.items.items in let ys = c.swap.new.self.items in let p = c.args.places in
    let within : l.i < length xs = omega (arith, c.loop-i-test.true, c.requires.2, c.args.items.now.ok.0, l.invariant.1) in
    let next : l.i + 1 - p ≡ l.i - p + 1 = omega (arith, c.requires.0, l.auto.i) in (
      ap (λ n. take n ys ++ drop (l.i + 1) ys) next ∙ move_one xs ys (l.i - p) l.i (omega arith) within c.swap.ensures.items ∙ l.invariant.0,
      ap length c.swap.ensures.items ∙ length-swap xs (l.i - p) l.i ∙ l.invariant.1,
    )
