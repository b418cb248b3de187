use Rattle.jsonpath_rust.specs.documents.Document.{document_of}
use Rattle.examples.proofs.Agreeing.{paths_alike, values_alike}
use Rattle.examples.proofs.methods.methods_answers.Goals as goal

pub returns-clause-paths : goal.returns-clause-paths
returns-clause-paths g c =
    let doc = document_of g.T.Queryable.tree g.T.Queryable.custom c.args.document.now in
    let named = c.in_ok-nodes.ensures.outcome in
    paths_alike doc _ _ _ (c.in_ok-paths.ensures.complete named.query named.derived) named.outcome.nodes

pub returns-clause-values : goal.returns-clause-values
returns-clause-values g c =
    let doc = document_of g.T.Queryable.tree g.T.Queryable.custom c.args.document.now in
    let named = c.in_ok-nodes.ensures.outcome in
    values_alike doc _ _ _ (c.in_ok-values.ensures.complete named.query named.derived).values named.outcome.nodes
