use Rattle.std.proofs.Common.{IsTrue}
use Rattle.jsonpath_base.proofs.Views.{All-lent}
use Rattle.jpath.specs.Document.{json_is_whole}
use Rattle.jpath.proofs.DocumentViews.{object_entries_whole}
use Rattle.jpath.proofs.document.queryable.JsonQueryable.as_object.Goals as goal

pub returns-in_ok-lent_members-in-Object-clause-whole : goal.returns-in_ok-lent_members-in-Object-clause-whole
returns-in_ok-lent_members-in-Object-clause-whole c = λ h.
    let m = c.in-Object.members in
    All-lent (λ v. IsTrue (json_is_whole v)) c.in_ok-lent_members-in-Object.field-0.items m.entries c.in_ok-lent_members-in-Object.ensures.lent (object_entries_whole c.args.self.now m c.in-Object.is h)
