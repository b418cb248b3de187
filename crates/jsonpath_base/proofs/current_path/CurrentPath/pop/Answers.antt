use Rattle.std.proofs.Common.{◌<◌, length, arith, subst, sym}
use Rattle.jsonpath_base.specs.Prelude.{IsSpelled}
use Rattle.jsonpath_base.proofs.CurrentPathLaws.{may_cut, spelled_back, at_most_one}
use Rattle.jsonpath_base.proofs.current_path.CurrentPath.pop.Goals as goal

pub truncate-requires : goal.truncate-requires
truncate-requires c =
    let less : length c.pop.new.self.items < length c.args.self.now.starts.items = omega (arith, c.if-remaining-len.true, c.len.ensures, c.len-remaining.ensures, c.pop.new.self.ok.0, c.args.self.now.starts.ok.0) in
    λ _. may_cut _ _ _ _ _ _ _ c.pop.ensures.items (at_most_one c.pop.result) c.in-Some.ensures.items less c.args.self.now.spelled

pub invariant_of-self-clause-spelled : goal.invariant_of-self-clause-spelled
invariant_of-self-clause-spelled c =
    let less : length c.pop.new.self.items < length c.args.self.now.starts.items = omega (arith, c.if-remaining-len.true, c.len.ensures, c.len-remaining.ensures, c.pop.new.self.ok.0, c.args.self.now.starts.ok.0) in
    subst (IsSpelled c.pop.new.self.items c.pop-then-remaining-len.new.self.items) (sym c.truncate.ensures.bytes) (spelled_back _ _ _ _ _ _ _ c.pop.ensures.items (at_most_one c.pop.result) c.in-Some.ensures.items less c.args.self.now.spelled)
