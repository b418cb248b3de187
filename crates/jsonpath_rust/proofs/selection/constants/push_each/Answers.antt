use Rattle.jsonpath_rust.specs.Prelude.Documents.{arg_trees}
use Rattle.jsonpath_base.proofs.lemmas.documents.Arguments.{values_next}
use Rattle.jsonpath_rust.proofs.selection.constants.push_each.Goals as goal

pub loop-value-preserved : goal.loop-value-preserved
loop-value-preserved g c =
    values_next g.T.Queryable.tree (arg_trees c.loop-value.args) (arg_trees c.push_lent.new.self) c.value-item.result c.deref-value-items.result.now c.loop-value.value-index _ c.in_ok-push_lent.ensures c.loop-value-test.true c.value-item.is c.loop-value.invariant
