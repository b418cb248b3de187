use Rattle.std.proofs.Common.{IsTrue}
use Rattle.jsonpath_base.specs.Prelude.{value_is_whole}
use Rattle.jsonpath_base.proofs.Views.{All-lent, as_members_whole}
use Rattle.jsonpath_base.proofs.documents.queryable.value.ValueQueryable.as_object.Goals as goal

pub returns-in_ok-lent_members-in-Some-clause-whole : goal.returns-in_ok-lent_members-in-Some-clause-whole
returns-in_ok-lent_members-in-Some-clause-whole c = λ h.
    let es = c.in-Some.members.now.entries in
    All-lent (λ v. IsTrue (value_is_whole v)) c.in_ok-lent_members-in-Some.field-0.items es c.in_ok-lent_members-in-Some.ensures.lent (as_members_whole c.args.self.now es c.in-Some.ensures h)
