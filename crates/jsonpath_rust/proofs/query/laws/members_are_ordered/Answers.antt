use Rattle.jsonpath_base.proofs.lemmas.documents.MemberCounts.{ascends-no_object, ascends-value_tree}
use Rattle.jsonpath_rust.proofs.query.laws.members_are_ordered.Goals as goal

pub returns-in_default : goal.returns-in_default
returns-in_default c = ascends-no_object c.args.value.now c.in_default.ensures

pub returns-in-Some : goal.returns-in-Some
returns-in-Some c = ascends-value_tree c.args.value.now c.in-Some.members.now.entries c.in-Some.ensures c.iter-members.ensures.ordered
