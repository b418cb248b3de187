use Rattle.jsonpath_rust.proofs.Deleting.{nothing_selected_deletes_nothing}
use Rattle.jsonpath_rust.proofs.query.laws.nothing_selected_deletes_nothing.Goals as goal

pub returns : goal.returns
returns c = nothing_selected_deletes_nothing
