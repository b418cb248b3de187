use Rattle.std.proofs.Common.{Bor}
use Rattle.jsonpath_base.specs.Prelude.Documents.{Value, value_document, value_tree}
use Rattle.jsonpath_base.proofs.lemmas.documents.{normal_answered}
use Rattle.jsonpath_base.proofs.documents.queryable.value.ValueQueryable.reference.Goals as goal

pub returns-clause-normal : goal.returns-clause-normal
returns-clause-normal c l is small = normal_answered (λ (v : Bor Value). value_tree v.now) c.args.path.now l (value_document c.args.self.now) c.referred.result is small c.referred.ensures.value
