use Rattle.cases.proofs.Whole.{member_value, member_whole}
use Rattle.cases.proofs.doc.documents.DocQueryable.get.Goals as goal

pub returns-in-Members-clause-value : goal.returns-in-Members-clause-value
returns-in-Members-clause-value c = λ h. member_value c.args.key.now c.args.self.now c.in-Members.entries c.get.result c.in-Members.is c.get.ensures.value h

pub returns-in-Members-clause-whole : goal.returns-in-Members-clause-whole
returns-in-Members-clause-whole c = λ h. member_whole c.args.key.now c.args.self.now c.in-Members.entries c.get.result c.in-Members.is c.get.ensures.value h
