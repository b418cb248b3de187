use Rattle.jsonpath_base.proofs.lemmas.documents.{selected_begins_with_fixed_part}
use Rattle.jsonpath_rust.proofs.query.laws.selected_begins_with_fixed_part.Goals as goal

pub returns : goal.returns
returns c = selected_begins_with_fixed_part
