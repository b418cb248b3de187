use Rattle.std.proofs.Common.{◌∙◌, subst}
use Rattle.std.specs.List.{AllZip}
use Rattle.jpath.specs.Document.{json_tree}
use Rattle.jsonpath_rust.specs.documents.Answer.{IsNodeAt, shown}
use Rattle.jpath.specs.Document.{json_document}
use Rattle.jsonpath_rust.specs.documents.Meaning.{selected}
use Rattle.jpath.proofs.Lines.{lines-AllZip}
use Rattle.jpath.proofs.output.nodes_printed.Goals as goal

pub returns-clause-text : goal.returns-clause-text
returns-clause-text c =
    let doc = json_document c.args.document.value.now in
    let nodes = subst (λ q. AllZip (IsNodeAt doc) (selected q doc) (shown json_tree c.in_ok-nodes.nodes.items)) (c.runner.ensures ∙ c.in_ok-prepared.ensures.query) c.in_ok-nodes.ensures.outcome.nodes in
    c.in_ok-nodes_text.ensures ∙ rw c.as_slice.ensures.value (lines-AllZip c.args.listing doc _ _ nodes)
