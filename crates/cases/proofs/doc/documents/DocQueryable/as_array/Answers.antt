use Rattle.cases.proofs.Whole.{elements_whole}
use Rattle.cases.proofs.doc.documents.DocQueryable.as_array.Goals as goal

pub returns-clause-whole : goal.returns-clause-whole
returns-clause-whole c = λ h. elements_whole c.args.self.now c.list.result c.list.ensures h
