use Rattle.std.proofs.Common.{◌≡◌, ◌∙◌, ap, sym, ◌∷◌, map, rules, arith}
use Rattle.std.proofs.lemmas.Grind.{common_steps}
use Rattle.std.proofs.Output.{has_written_append, has_written_of_eq}
use Rattle.jsonpath_parser.specs.Prelude.{joined}
use Rattle.jsonpath_parser.proofs.laws.tree.Joined.{followed_more, followed_all}
use Rattle.jsonpath_parser.proofs.tree.model.display.write_joined.Goals as goal

pub loop-part-preserved : goal.loop-part-preserved
loop-part-preserved g c shown each plain =
    let before = c.loop-part.invariant shown each plain in
    let part = c.part-item.result in
    let this = rw (each part) at c.write-in-loop-part.ensures.writes in
    let one = this before.plain (search rules) in
    let grown = followed_more c.args.between.now shown c.in-Some.rest.now c.loop-part.part-index part c.loop-part-test.true c.part-item.is in
    has_written_of_eq _ _ _ _ _ (sym grown) (has_written_append _ _ _ _ _ _ before one)

pub returns : goal.returns
returns g c shown each plain ok =
    let one = (rw (each c.in-Some.first.now) at c.write.ensures.writes) plain (search rules) in
    let more = c.loop-part.invariant shown each one.plain in
    let all = followed_all c.args.between.now shown c.in-Some.first.now c.in-Some.rest.now c.loop-part.part-index c.loop-part-test.false in
    let split : c.args.parts.now.items ≡ c.in-Some.first.now ∷ c.in-Some.rest.now = grind (arith, common_steps) in
    has_written_of_eq _ _ _ _ _ (all ∙ ap (λ xs. joined c.args.between.now (map shown xs)) (sym split)) (has_written_append _ _ _ _ _ _ one more)
