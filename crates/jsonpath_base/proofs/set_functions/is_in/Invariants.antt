use Rattle.std.proofs.Common.{◌≡◌, drop, map}
use Rattle.jsonpath_base.specs.Prelude.{list_any, same}
use Rattle.jsonpath_base.proofs.set_functions.is_in.Given as goal

-- the answer for all is the answer for those that are left
abbrev pub invariant-loop-item : goal.invariant-loop-item
invariant-loop-item g l = list_any (same (g.T.SetValue.tree l.value)) (map g.T.SetValue.tree l.item-items) ≡ list_any (same (g.T.SetValue.tree l.value)) (map g.T.SetValue.tree (drop l.item-index l.item-items))
