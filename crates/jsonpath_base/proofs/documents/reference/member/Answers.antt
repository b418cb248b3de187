use Rattle.std.proofs.Common.{Some, None}
use Rattle.jsonpath_base.specs.Prelude.Documents.{value_tree}
use Rattle.jsonpath_base.proofs.lemmas.documents.{member_none, member_some}
use Rattle.jsonpath_base.proofs.Views.{get-value_tree, get_whole}
use Rattle.jsonpath_base.proofs.documents.reference.member.Goals as goal

pub returns-in_ok-from_str-in-Some-clause-value : goal.returns-in_ok-from_str-in-Some-clause-value
returns-in_ok-from_str-in-Some-clause-value c =
    member_some c.args.name.now _ (value_tree c.args.value.now) (value_tree c.in-Some.member.now) (get-value_tree c.args.name.now c.args.value.now (Some c.in-Some.member) c.in-Some.ensures) c.in_ok-from_str-in-Some.ensures.ok

pub returns-in_ok-from_str-in-Some-clause-whole : goal.returns-in_ok-from_str-in-Some-clause-whole
returns-in_ok-from_str-in-Some-clause-whole c = λ h. get_whole c.args.name.now c.args.value.now (Some c.in-Some.member) c.in-Some.ensures h

pub returns-in-None-clause-value : goal.returns-in-None-clause-value
returns-in-None-clause-value c = member_none c.args.name.now (value_tree c.args.value.now) (get-value_tree c.args.name.now c.args.value.now None c.in-None.ensures)
