use Rattle.std.proofs.Common.{refl}
use Rattle.jsonpath_base.proofs.Loans.{on_some}
use Rattle.jsonpath_base.proofs.lending.parts.member_mut.Goals as goal

pub returns : goal.returns
returns c = ((refl, (λ w. on_some c.get_mut.result (c.get_mut.follows.holds w).0), c.get_mut.follows.holds-at-none), c.get_mut.ensures.value)
