use Rattle.std.proofs.Common.{◌∙◌}
use Rattle.jsonpath_parser.proofs.TextOrder.{less_by_bytes}
use Rattle.jsonpath_parser.proofs.text.text_less.Goals as goal

pub returns : goal.returns
returns c = c.lt.ensures ∙ less_by_bytes c.args.left.now c.args.right.now c.utf8.left c.utf8.right
