use Rattle.jsonpath_base.proofs.Views.{as_list-value_tree, as_list_whole}
use Rattle.jsonpath_base.proofs.set_functions.ValueSetValue.elements.Goals as goal

pub returns-clause-value : goal.returns-clause-value
returns-clause-value c = as_list-value_tree _ _ c.as_array.ensures

pub returns-clause-whole : goal.returns-clause-whole
returns-clause-whole c = as_list_whole _ _ c.as_array.ensures c.requires
