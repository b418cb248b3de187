use Rattle.std.proofs.Common.{◌∙◌, ℕ, List, IfSome, subst, string_bytes}
use Rattle.jsonpath_rust.specs.View.{query_view}
use Rattle.jsonpath_rust.specs.Document.{document_of}
use Rattle.jsonpath_rust.specs.Tree.{Tree}
use Rattle.jsonpath_rust.specs.Prepared.{IsFirstNode, runner_view}
use Rattle.examples.proofs.Firsts.{first_shown}
use Rattle.examples.proofs.first.first_path.Goals as goal

pub returns-in-Some-clause-found : goal.returns-in-Some-clause-found
returns-in-Some-clause-found g c =
    let tree = g.T.Queryable.tree in
    let doc = document_of tree g.T.Queryable.custom c.args.document.value.now in
    let shown : List ℕ × Tree = (string_bytes c.in-Some.node.path, tree c.in-Some.node.val.now) in
    let first = subst (λ q. IsFirstNode q doc shown) (c.runner.ensures ∙ c.in_ok-prepared.ensures.query) (subst (λ o. IfSome o (λ r. IsFirstNode (runner_view c.runner.result) doc (string_bytes r.path, tree r.val.now))) c.in-Some.is c.in_ok-node.ensures.outcome.first) in
    (first_shown (query_view c.args.query.now) doc shown first)
