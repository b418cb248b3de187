use Rattle.std.proofs.Common.{◌≡◌, filter, map, not, take}
use Rattle.jsonpath_rust.specs.Document.{document_of}
use Rattle.examples.specs.Conditions.{is_met}
use Rattle.examples.proofs.assertion.failures.Given as goal

-- of the assertions so far those that fail are kept
abbrev pub invariant-loop-assertion : goal.invariant-loop-assertion
invariant-loop-assertion g l = map (λ a. a.now) l.failed.items ≡ filter (λ a. not (is_met (document_of g.T.Queryable.tree g.T.Queryable.custom l.document.value.now) a.condition)) (take l.assertion-index l.assertions)
