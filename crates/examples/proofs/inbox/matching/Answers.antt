use Rattle.std.proofs.Common.{◌∙◌, subst}
use Rattle.jsonpath_rust.specs.Document.{document_of}
use Rattle.jsonpath_rust.specs.Prepared.{prepared_view}
use Rattle.jsonpath_rust.specs.Only.{TellsWhether}
use Rattle.examples.proofs.Telling.{told_next, told_all}
use Rattle.examples.proofs.inbox.matching.Goals as goal

pub loop-document-preserved : goal.loop-document-preserved
loop-document-preserved g c =
    let tree = g.T.Queryable.tree in
    let doc = document_of tree g.T.Queryable.custom in
    let was = c.loop-document.invariant in
    let tells = subst (λ v. TellsWhether (doc v) (prepared_view c.args.query.now) c.in_ok-found.found) c.as_ref.ensures (subst (λ q. TellsWhether (doc c.as_ref.result.value.now) q c.in_ok-found.found) was.same c.in_ok-found.ensures.outcome) in
    record {
      same = c.in_ok-found.ensures.same ∙ was.same;
      found_so_far = told_next (λ x b. TellsWhether (doc x.value) (prepared_view c.args.query.now) b) c.args.documents.now c.loop-document.found_so_far.items _ c.loop-document.document-index c.document-item.result c.in_ok-found.found was.found_so_far c.loop-document-test.true c.document-item.is tells c.in_ok-push.ensures.items;
    }

pub returns : goal.returns
returns g c = told_all _ c.args.documents.now c.loop-document.found_so_far.items c.loop-document.document-index c.loop-document.invariant.found_so_far c.loop-document-test.false
