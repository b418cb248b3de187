use Rattle.jsonpath_parser.proofs.ValuelessLaws.{valueless_behind}
use Rattle.jsonpath_parser.proofs.parse.literal_at.Goals as goal

pub returns : goal.returns
returns c = valueless_behind c.place_at.result c.args.text.now _ c.valueless.result.now c.split_at.ensures.back c.valueless.ensures
