use Rattle.jsonpath_parser.proofs.laws.words.Ints.{magnitude_refused}
use Rattle.jsonpath_parser.proofs.words.int.magnitude.Goals as goal

pub returns-in_default-clause-value : goal.returns-in_default-clause-value
returns-in_default-clause-value c other = magnitude_refused _ _ _ c.parse.result c.in_default.field-0 c.digit_run.ensures.parts c.parse.ensures.value.0 c.in_default.is
