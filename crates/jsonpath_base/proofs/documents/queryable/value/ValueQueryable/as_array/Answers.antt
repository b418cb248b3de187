use Rattle.jsonpath_base.proofs.Views.{as_list-value_tree, as_list_whole}
use Rattle.jsonpath_base.proofs.documents.queryable.value.ValueQueryable.as_array.Goals as goal

pub returns-clause-value : goal.returns-clause-value
returns-clause-value c = λ h. as_list-value_tree c.args.self.now c.as_array.result c.as_array.ensures

pub returns-clause-whole : goal.returns-clause-whole
returns-clause-whole c = λ h. as_list_whole c.args.self.now c.as_array.result c.as_array.ensures h
