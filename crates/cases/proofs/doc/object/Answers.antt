use Rattle.cases.proofs.Docs.{object_members}
use Rattle.cases.proofs.doc.object.Goals as goal

pub returns-in-Members : goal.returns-in-Members
returns-in-Members c = object_members c.args.doc.now c.in-Members.members c.in-Members.is
