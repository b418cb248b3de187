use Rattle.std.proofs.Common.{arith}
use Rattle.jsonpath_base.proofs.lemmas.documents.{no_location, whole_location}
use Rattle.jsonpath_rust.proofs.query.location.location_of.Goals as goal

pub returns-then-len-clause-location : goal.returns-then-len-clause-location
returns-then-len-clause-location c = whole_location c.args.query.now c.in_ok-steps.steps.items c.in_ok-steps.ensures.steps (omega arith)

pub returns-else-len-clause-location : goal.returns-else-len-clause-location
returns-else-len-clause-location c = no_location c.args.query.now c.in_ok-steps.steps.items c.in_ok-steps.ensures.steps (λ same. omega (arith, same))
