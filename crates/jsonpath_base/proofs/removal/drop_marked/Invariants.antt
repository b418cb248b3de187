use Rattle.jsonpath_base.proofs.Removing.{DropsSoFar}
use Rattle.jsonpath_base.proofs.removal.drop_marked.Given as goal

abbrev pub invariant-loop-index : goal.invariant-loop-index
invariant-loop-index l = DropsSoFar l.marks l.initial.items.items l.index-index l.items.items l.gone l.next
