use Rattle.jsonpath_parser.specs.Prelude.{is_ascii_digit}
use Rattle.jsonpath_parser.proofs.laws.words.Fronts.{split_run}
use Rattle.jsonpath_parser.proofs.words.number.digits.Goals as goal

pub returns-clause-run : goal.returns-clause-run
returns-clause-run c = split_run is_ascii_digit c.args.s.now _ _ c.digit_run.ensures.parts
