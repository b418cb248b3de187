use Rattle.std.proofs.Common.{◌≡◌, sym, subst, arith}
use Rattle.std.proofs.lemmas.List.Elements.{All-push}
use Rattle.jsonpath_base.specs.Prelude.{AreAll, view}
use Rattle.jsonpath_base.proofs.masking.copies_for.Goals as goal

pub loop-preserved : goal.loop-preserved
loop-preserved c =
    let u = view c.args.value.now in
    (subst (AreAll u) (sym c.in_ok-push.ensures.items) (All-push (λ v. view v ≡ u) c.loop.copies.items c.in_ok-copy.copy c.loop.invariant.0 c.in_ok-copy.ensures.cases), omega (arith, c.in_ok-push.ensures.len, c.loop.invariant.1))
