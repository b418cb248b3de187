use Rattle.std.proofs.Common.{ap, ◌∙◌, ◌++◌, string_bytes, arith}
use Rattle.jsonpath_parser.proofs.laws.words.Quoting.{decimal_index}
use Rattle.jsonpath_base.proofs.pointer.push_index.Goals as goal

pub returns : goal.returns
returns c = c.in_ok-push_str.ensures.bytes ∙ ap (λ t. string_bytes c.args.text.now ++ t) (c.format.ensures.text ∙ decimal_index c.args.index (omega (arith, c.ranges.index.fits)))
