use Rattle.std.proofs.Common.{ap}
use Rattle.jsonpath_base.specs.Prelude.{owned_step}
use Rattle.jsonpath_base.proofs.AddedChildren.{at_step, in_list, in_object}
use Rattle.jsonpath_base.proofs.adding.add_child.Goals as goal

pub returns-in-Some : goal.returns-in-Some
returns-in-Some c =
    at_step _ _ _ _ _ _ (ap owned_step c.in-Index.is)
    (in_list c.args.value.now c.in-Some.items.now c.add_element.new.items c.in-Index.index c.args.new c.add_element.result c.in-Some.ensures.value c.add_element.ensures.found c.add_element.ensures.items)

pub returns-in-Some-as_object_mut : goal.returns-in-Some-as_object_mut
returns-in-Some-as_object_mut c =
    at_step _ _ _ _ _ _ (ap owned_step c.in-Name.is)
    (in_object c.args.value.now c.in-Some-as_object_mut.members.now c.add_member.new.members c.in-Name.name c.args.new c.add_member.result c.in-Some-as_object_mut.ensures.value c.add_member.ensures.found c.add_member.ensures.entries c.add_member.ensures.ordered)
