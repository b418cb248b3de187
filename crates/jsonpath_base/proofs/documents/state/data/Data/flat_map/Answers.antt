use Rattle.std.proofs.Common.{length, arith, ap, inl, inr}
use Rattle.std.proofs.lemmas.Result.{err_from_is_err_and}
use Rattle.jsonpath_base.proofs.lemmas.documents.{completes_end, completes_step, made_whole}
use Rattle.jsonpath_base.proofs.documents.state.data.Data.flat_map.Goals as goal

pub returns-in_err-found-in-Refs-clause-refused : goal.returns-in_err-found-in-Refs-clause-refused
returns-in_err-found-in-Refs-clause-refused g c =
    let i = c.loop-p.invariant in
    let e = c.in-Some.ensures.steps.0 in
    let p = err_from_is_err_and c.from_residual.result c.from_residual.ensures.1 in
    let k = rw c.into_iter-p-iterator.ensures.into_iter_gives.0 at (i.refused c.in_err-found-in-Refs.field-0.0 (rw e (inl c.in_err-found-in-Refs.ensures))) in
    rw (p.1, p.2, c.in-Refs.is) (inr k)

pub loop-p-preserved : goal.loop-p-preserved
loop-p-preserved g c =
    let i = c.loop-p.invariant in
    let e = c.in-Some.ensures.steps.0 in
    record {
      len = omega (arith, ap length e);
      can = (rw e at i.can).1;
      made = completes_step _ _ _ _ _ _ _ _ e c.in_ok-found-in-Refs.ensures c.in_ok-push_nodes-in-Refs.ensures.ok i.made;
      refused = λ x h. i.refused x (rw e (inr h));
    }

pub returns-in-Refs-clause-made : goal.returns-in-Refs-clause-made
returns-in-Refs-clause-made g c =
    rw c.in-Refs.is (completes_end _ c.in-Refs.ps c.loop-p.all _ _ _ c.into_iter-p-iterator.ensures.into_iter_gives.0 c.loop-p.invariant.len c.in-None.ensures.steps.0 c.loop-p.invariant.made)

pub returns-in-Refs-clause-whole : goal.returns-in-Refs-clause-whole
returns-in-Refs-clause-whole g c = λ h w. made_whole g.T.Queryable.is_whole _ h _ _ w (returns-in-Refs-clause-made g c)
