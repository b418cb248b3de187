use Rattle.cases.proofs.Whole.{made_elements, made_whole}
use Rattle.cases.proofs.doc.documents.DocQueryable.from_list.Goals as goal

pub returns-clause-value : goal.returns-clause-value
returns-clause-value c = made_elements c.args.values

pub returns-clause-whole : goal.returns-clause-whole
returns-clause-whole c = made_whole c.args.values c.requires
