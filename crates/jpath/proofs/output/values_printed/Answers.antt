use Rattle.std.proofs.Common.{◌∙◌, map, subst}
use Rattle.std.specs.List.{AllZip}
use Rattle.jpath.specs.Document.{json_tree}
use Rattle.jsonpath_rust.specs.documents.Answer.{IsValueAt}
use Rattle.jpath.specs.Document.{json_document}
use Rattle.jsonpath_rust.specs.documents.Meaning.{selected}
use Rattle.jpath.proofs.Lines.{value_lines-AllZip}
use Rattle.jpath.proofs.output.values_printed.Goals as goal

pub returns-clause-text : goal.returns-clause-text
returns-clause-text c =
    let doc = json_document c.args.document.value.now in
    let values = subst (λ q. AllZip (IsValueAt doc) (selected q doc) (map (λ v. json_tree v.now) c.in_ok-values.values.items)) (c.runner.ensures ∙ c.in_ok-prepared.ensures.query) c.in_ok-values.ensures.outcome.values in
    c.in_ok-values_text.ensures ∙ value_lines-AllZip doc _ _ values
