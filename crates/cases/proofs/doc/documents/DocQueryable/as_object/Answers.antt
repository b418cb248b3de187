use Rattle.cases.proofs.Whole.{lent_members_whole}
use Rattle.cases.proofs.doc.documents.DocQueryable.as_object.Goals as goal

pub returns-in_ok-lent_members-in-Some-clause-whole : goal.returns-in_ok-lent_members-in-Some-clause-whole
returns-in_ok-lent_members-in-Some-clause-whole c = λ h.
    lent_members_whole c.args.self.now c.in_ok-lent_members-in-Some.field-0.items _ c.in_ok-lent_members-in-Some.ensures c.in-Some.ensures h
