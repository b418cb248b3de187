use Rattle.std.proofs.Common.{rules}
use Rattle.jsonpath_rust.proofs.laws.selection.{numbered_kept}
use Rattle.jsonpath_rust.proofs.selection.plan.make.Maker.number.Goals as goal

pub returns-clause-numbered : goal.returns-clause-numbered
returns-clause-numbered c = numbered_kept _ _ _ _ (record { number = search rules; constants = c.in_ok-push.ensures.items; met = search rules })
