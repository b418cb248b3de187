use Rattle.std.proofs.Common.{◌∙◌, rules}
use Rattle.jpath.proofs.Depths.{depth_of-parsed}
use Rattle.jpath.proofs.words.depth_of.Goals as goal

pub returns : goal.returns
returns c = c.ok.ensures.value ∙ depth_of-parsed c.args.word.now c.parse.result c.parse.ensures.value.0 (search rules)
