use Rattle.std.proofs.Common.{ap, sym, ◌∙◌, Some, option_map}
use Rattle.jsonpath_rust.specs.Prelude.Documents.{filter_value_tree}
use Rattle.jsonpath_rust.specs.Prelude.Selection.{result_view, given_value}
use Rattle.jsonpath_base.proofs.lemmas.documents.{ok_through}
use Rattle.jsonpath_rust.proofs.selection.constants.Cache.value.Goals as goal

pub returns-in-Some-Value-clause-value : goal.returns-in-Some-Value-clause-value
returns-in-Some-Value-clause-value g c =
    let there = sym c.get.ensures ∙ ap (option_map (λ s. result_view s.now)) c.in-Some-Value.is ∙ ap (λ x. Some (result_view x)) c.in-Some-Value.field-0-is in
    ok_through _ filter_value_tree _ _ (sym (ap given_value there)) c.try_clone.ensures.value
