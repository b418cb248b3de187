use Rattle.std.proofs.Common.{◌≡◌, take}
use Rattle.std.specs.List.{AllZip}
use Rattle.jsonpath_rust.specs.Document.{document_of}
use Rattle.jsonpath_rust.specs.Prepared.{prepared_view, runner_view}
use Rattle.jsonpath_rust.specs.Only.{TellsWhether}
use Rattle.examples.proofs.inbox.matching.Given as goal

-- the runner has the query, and of the documents so far it is told
abbrev pub invariant-loop-document : goal.invariant-loop-document
invariant-loop-document g l = record {
  same : runner_view l.runner ≡ prepared_view l.query;
  found_so_far : AllZip (λ x b. TellsWhether (document_of g.T.Queryable.tree g.T.Queryable.custom x.value) (prepared_view l.query) b) (take l.document-index l.documents) l.found_so_far.items;
}
