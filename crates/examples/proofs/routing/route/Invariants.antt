use Rattle.std.proofs.Common.{All, IsFalse, take}
use Rattle.jsonpath_rust.specs.Document.{document_of}
use Rattle.examples.specs.Conditions.{is_met}
use Rattle.examples.proofs.routing.route.Given as goal

-- the conditions that were asked fail
abbrev pub invariant-loop-index : goal.invariant-loop-index
invariant-loop-index g l = All (λ f. IsFalse (is_met (document_of g.T.Queryable.tree g.T.Queryable.custom l.document.value.now) f)) (take l.index l.table)
