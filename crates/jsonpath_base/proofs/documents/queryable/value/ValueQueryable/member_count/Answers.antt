use Rattle.std.proofs.Common.{Some, ap, ◌∙◌}
use Rattle.jsonpath_base.proofs.lemmas.documents.MemberCounts.{count-value_tree}
use Rattle.jsonpath_base.proofs.documents.queryable.value.ValueQueryable.member_count.Goals as goal

pub returns-in-Some-clause-value : goal.returns-in-Some-clause-value
returns-in-Some-clause-value c = λ h. ap Some c.len.ensures.len ∙ count-value_tree c.args.self.now c.in-Some.members.now.entries c.in-Some.ensures
