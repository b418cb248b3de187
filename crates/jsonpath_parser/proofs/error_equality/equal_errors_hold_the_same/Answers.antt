use Rattle.jsonpath_parser.proofs.ErrorEquality.{error_same}
use Rattle.jsonpath_parser.proofs.error_equality.equal_errors_hold_the_same.Goals as goal

pub returns : goal.returns
returns c = error_same
