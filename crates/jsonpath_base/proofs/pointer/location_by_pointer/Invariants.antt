use Rattle.std.proofs.Common.{[], length}
use denote.Shadow.{shadow}
use denote.Text.{Utf8}
use Rattle.jsonpath_base.specs.Prelude.{tokens_from}
use Rattle.jsonpath_base.proofs.PointerWays.{LeadsOn}
use Rattle.jsonpath_base.proofs.pointer.location_by_pointer.Given as goal

abbrev pub invariant-loop-part : goal.invariant-loop-part
invariant-loop-part l = shadow (Utf8 l.rest) × LeadsOn l.fn.text l.fn.value l.steps.items (tokens_from [] l.rest) l.target

abbrev pub decreases-loop-part : goal.decreases-loop-part
decreases-loop-part l = length l.rest
