use Rattle.std.proofs.Common.{arith}
use Rattle.jsonpath_parser.proofs.laws.words.NumberPowers.{padded_far}
use Rattle.jsonpath_parser.proofs.words.number.padded.Goals as goal

pub returns-in_default-clause-none : goal.returns-in_default-clause-none
returns-in_default-clause-none c = padded_far c.args.number c.args.zeros c.if-number-eq0.false (omega (arith, c.in_default.ensures))
