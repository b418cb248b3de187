use Rattle.std.proofs.Common.{All, take}
use Rattle.jsonpath_rust.specs.Document.{document_of}
use Rattle.examples.specs.Policy.{IsKept}
use Rattle.examples.proofs.policy.first_violation.Given as goal

-- the rules that were asked are kept
abbrev pub invariant-loop-index : goal.invariant-loop-index
invariant-loop-index g l = All (IsKept (document_of g.T.Queryable.tree g.T.Queryable.custom l.document.value.now)) (take l.index l.policy)
