use Rattle.jsonpath_rust.proofs.Listed.{as_many_are_listed}
use Rattle.jsonpath_rust.proofs.query.laws.as_many_are_listed.Goals as goal

pub returns : goal.returns
returns g c = as_many_are_listed g.T.Queryable.tree
