use Rattle.jsonpath_rust.proofs.laws.states.{process_gives_the_nodelist}
use Rattle.jsonpath_rust.proofs.query.laws.process_gives_the_nodelist.Goals as goal

pub returns : goal.returns
returns c = process_gives_the_nodelist
