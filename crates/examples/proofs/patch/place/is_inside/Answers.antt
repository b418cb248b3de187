use Rattle.std.proofs.Common.{arith}
use Rattle.std.proofs.lemmas.Str.Pattern.{starts_char}
use Rattle.examples.proofs.Splitting.{inside, outside}
use Rattle.examples.proofs.patch.place.is_inside.Goals as goal

pub returns-in-Some : goal.returns-in-Some
returns-in-Some c =
    let begins = rw c.in-Some.is at c.strip_prefix.ensures.cases in
    inside c.args.path.now c.args.from.now c.in-Some.rest.now c.starts_with.result begins (starts_char 47 c.in-Some.rest.now c.starts_with.result c.starts_with.ensures.cases (omega arith) (omega arith))

pub returns-in-None : goal.returns-in-None
returns-in-None c =
    let lacks = rw c.in-None.is at c.strip_prefix.ensures.cases in
    outside c.args.path.now c.args.from.now lacks
