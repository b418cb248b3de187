use Rattle.std.proofs.Common.{◌≡◌, List, ℕ, Some, map, take}
use Rattle.std.specs.Fmt.{HasWritten, IsPlainFormatter}
use Rattle.jsonpath_parser.proofs.laws.tree.Joined.{followed}
use Rattle.jsonpath_parser.proofs.tree.model.display.write_joined.Given as goal

abbrev pub invariant-loop-part : goal.invariant-loop-part
invariant-loop-part g l = (shown : g.row.T.Denot → List ℕ) → ((x : g.row.T.Denot) → g.T.Display.output x ≡ Some (shown x)) → IsPlainFormatter l.initial.f → HasWritten g.W.Write.write_str_gives l.initial.f (followed l.between (map shown (take l.part-index l.rest))) l.f
