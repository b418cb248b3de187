use Rattle.std.proofs.Common.{◌≤◌, ◌-◌, length}
use Rattle.jsonpath_rust.specs.Prelude.Selection.{AreEmpty}
use Rattle.jsonpath_rust.proofs.selection.constants.empty_slots.Given as goal

abbrev pub invariant-loop-slots : goal.invariant-loop-slots
invariant-loop-slots g l = record {
  within : length l.slots.items ≤ l.count;
  empty : AreEmpty l.slots.items;
}

abbrev pub decreases-loop-slots : goal.decreases-loop-slots
decreases-loop-slots g l = l.count - length l.slots.items
