use Rattle.std.proofs.Common.{◌≡◌, drop, map}
use Rattle.jsonpath_base.specs.Prelude.{is_in, list_all}
use Rattle.jsonpath_base.proofs.set_functions.subset_of.Given as goal

-- the answer for all is the answer for those that are left
abbrev pub invariant-loop-item : goal.invariant-loop-item
invariant-loop-item g l = list_all (λ t. is_in t (map g.T.SetValue.tree l.right.items)) (map g.T.SetValue.tree l.item-items) ≡ list_all (λ t. is_in t (map g.T.SetValue.tree l.right.items)) (map g.T.SetValue.tree (drop l.item-index l.item-items))
