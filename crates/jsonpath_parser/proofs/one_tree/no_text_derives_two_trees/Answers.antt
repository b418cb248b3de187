use Rattle.jsonpath_parser.proofs.Unambiguous.{no_text_derives_two_trees}
use Rattle.jsonpath_parser.proofs.one_tree.no_text_derives_two_trees.Goals as goal

pub returns : goal.returns
returns c = no_text_derives_two_trees
