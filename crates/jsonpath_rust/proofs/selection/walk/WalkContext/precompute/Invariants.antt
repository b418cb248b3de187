use Rattle.jsonpath_rust.specs.Prelude.Selection.{IsCacheCorrect}
use Rattle.jsonpath_rust.proofs.selection.walk.WalkContext.precompute.Given as goal

abbrev pub invariant-loop-number : goal.invariant-loop-number
invariant-loop-number g l = IsCacheCorrect l.self l.state.cache
