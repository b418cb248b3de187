use Rattle.std.proofs.Common.{◌≡◌, IsTrue, Some, take}
use Rattle.jsonpath_rust.specs.base.Values.{value_tree, value_is_whole}
use Rattle.examples.specs.Patch.{all_patched}
use Rattle.examples.proofs.patch.apply_each.Given as goal

-- the operations so far apply, and leave the document whole
abbrev pub invariant-loop-index : goal.invariant-loop-index
invariant-loop-index l = (all_patched (take l.index l.operations) (value_tree l.initial.document) ≡ Some (value_tree l.document)) × IsTrue (value_is_whole l.document)
