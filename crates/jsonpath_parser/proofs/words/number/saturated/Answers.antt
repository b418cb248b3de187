use Rattle.std.proofs.Common.{sym, ◌∙◌, arith}
use Rattle.jsonpath_parser.proofs.laws.words.NumberValues.{parse_past}
use Rattle.jsonpath_parser.proofs.words.number.saturated.Goals as goal

pub returns-else-is_empty : goal.returns-else-is_empty
returns-else-is_empty c = omega (arith, parse_past c.args.digits.now c.parse.result c.in-Err.field-0 c.requires c.parse.ensures.value.0 c.in-Err.is (sym c.is_empty.ensures ∙ c.if-is_empty.false))
