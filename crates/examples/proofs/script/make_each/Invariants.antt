use Rattle.std.proofs.Common.{take}
use Rattle.jsonpath_rust.specs.base.Values.{value_tree}
use Rattle.examples.specs.Script.{AllLeave}
use Rattle.examples.proofs.script.make_each.Given as goal

-- the edits so far found something each
abbrev pub invariant-loop-index : goal.invariant-loop-index
invariant-loop-index l = AllLeave (take l.index l.edits) (value_tree l.initial.document.value) (value_tree l.document.value)
