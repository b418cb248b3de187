use Rattle.std.proofs.Common.{sym, ◌∙◌, arith}
use Rattle.examples.proofs.Patching.{dash_step}
use Rattle.examples.proofs.patch.place.new_step.Goals as goal

pub returns-in-Array-clause-step : goal.returns-in-Array-clause-step
returns-in-Array-clause-step c = dash_step c.args.token.now c.args.target.now c.in-Array.items c.len.result (sym c.eq.ensures ∙ c.if-eq.true) c.in-Array.is (omega (arith, c.len.ensures, c.in-Array.items.ok.0, c.in-Array.items.ok.1))
