use Rattle.jsonpath_base.proofs.AddedLaws.{added_name_leaves_siblings, added_index_moves_later, added_leaves_the_rest}
use Rattle.jsonpath_base.proofs.laws.added_leaves_the_rest.Goals as goal

pub returns-clause-names : goal.returns-clause-names
returns-clause-names c = added_name_leaves_siblings

pub returns-clause-elements : goal.returns-clause-elements
returns-clause-elements c = added_index_moves_later

pub returns-clause-rest : goal.returns-clause-rest
returns-clause-rest c = added_leaves_the_rest
