use Rattle.std.proofs.Common.{◌≡◌, [], ◌∷◌, ◌++◌, ap, ◌∙◌, append_assoc, arith, string_bytes}
use Rattle.jsonpath_base.specs.Prelude.{index_digits}
use Rattle.jsonpath_parser.proofs.laws.words.Quoting.{decimal_index}
use Rattle.jsonpath_base.proofs.step.push_index.Goals as goal

pub returns-clause-value : goal.returns-clause-value
unfolding lib.Utf8.encode
returns-clause-value c =
    let path = string_bytes c.args.path.now in
    let digits = index_digits c.args.index in
    let text : c.format.result.now ≡ digits = c.format.ensures.text ∙ decimal_index c.args.index (omega (arith, c.ranges.index.fits)) in
    let opened = c.in_ok-push_str.ensures.bytes ∙ ap (λ x. x ++ c.format.result.now) c.in_ok-push.ensures.bytes ∙ ap (λ t. (path ++ 91 ∷ []) ++ t) text in
    c.in_ok-push-2.ensures.bytes ∙ ap (λ x. x ++ 93 ∷ []) opened ∙ append_assoc (path ++ 91 ∷ []) digits (93 ∷ []) ∙ append_assoc path (91 ∷ []) (digits ++ 93 ∷ [])
