use Rattle.std.proofs.Common.{sym, ◌∙◌}
use Rattle.jsonpath_rust.proofs.laws.selection.{keeps_none}
use Rattle.jsonpath_rust.proofs.selection.constants.Cache.new.Goals as goal

pub returns : goal.returns
returns g c = λ constants doc e. keeps_none constants doc _ (c.in_ok-slots.ensures.count ∙ sym e) c.in_ok-slots.ensures.empty
