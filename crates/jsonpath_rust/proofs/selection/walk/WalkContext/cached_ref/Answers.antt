use Rattle.std.proofs.Common.{ap, sym, ◌∙◌, Some, option_map}
use Rattle.jsonpath_rust.specs.Prelude.Selection.{document, result_view, given_value, constants_of, Single}
use Rattle.jsonpath_rust.proofs.laws.selection.{kept_told}
use Rattle.jsonpath_rust.proofs.selection.walk.WalkContext.cached_ref.Goals as goal

pub returns-in-Some-Value : goal.returns-in-Some-Value
returns-in-Some-Value g c = λ n.
    let constants = constants_of c.args.self.now in
    let d = document c.args.self.now in
    let there = sym c.get.ensures ∙ ap (option_map (λ s. result_view s.now)) c.in-Some-Value.is ∙ ap (λ x. Some (result_view x)) c.in-Some-Value.field-0-is in
    c.as_side.ensures ∙ ap (λ x. given_value (Some x)) (c.requires.right c.args.number _ there) ∙ kept_told constants c.args.number Single d n c.args.self.now.plan.now.rooted c.in_ok-_constant.ensures.fits
