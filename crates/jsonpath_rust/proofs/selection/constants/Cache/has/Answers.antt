use Rattle.std.proofs.Common.{ap, sym, ◌∙◌, Some, option_map}
use Rattle.jsonpath_rust.specs.Prelude.Selection.{result_view}
use Rattle.jsonpath_rust.proofs.selection.constants.Cache.has.Goals as goal

pub returns-in-Some-Value-clause-given : goal.returns-in-Some-Value-clause-given
returns-in-Some-Value-clause-given g c constants doc keeps =
    let there = sym c.get.ensures ∙ ap (option_map (λ s. result_view s.now)) c.in-Some-Value.is ∙ ap (λ x. Some (result_view x)) c.in-Some-Value.field-0-is in
    λ is. there ∙ ap Some (keeps.right c.args.number _ there)

pub returns-in-Some-Values-clause-given : goal.returns-in-Some-Values-clause-given
returns-in-Some-Values-clause-given g c constants doc keeps =
    let there = sym c.get.ensures ∙ ap (option_map (λ s. result_view s.now)) c.in-Some-Values.is ∙ ap (λ x. Some (result_view x)) c.in-Some-Values.field-0-is in
    λ is. there ∙ ap Some (keeps.right c.args.number _ there)

pub returns-in-Some-Refused-clause-refused : goal.returns-in-Some-Refused-clause-refused
returns-in-Some-Refused-clause-refused g c constants doc limit keeps =
    let there = sym c.get.ensures ∙ ap (option_map (λ s. result_view s.now)) c.in-Some-Refused.is ∙ ap (λ x. Some (result_view x)) c.in-Some-Refused.field-0-is in
    λ memory spent. keeps.right c.args.number _ there
