use Rattle.std.proofs.Common.{◌∙◌, rules}
use Rattle.jsonpath_rust.specs.Prelude.Selection.{document, constants_of}
use Rattle.jsonpath_rust.proofs.laws.selection.Constants.{as_many}
use Rattle.jsonpath_rust.proofs.selection.walk.WalkContext.begin.Goals as goal

pub precompute-requires : goal.precompute-requires
precompute-requires g c = c.in_ok-cache.ensures (constants_of c.args.self.now) (document c.args.self.now) (as_many c.args.self.now.plan.now.constants.items c.args.self.now.plan.now.stable ∙ (search rules))
