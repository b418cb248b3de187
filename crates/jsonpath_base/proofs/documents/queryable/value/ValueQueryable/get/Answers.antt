use Rattle.std.proofs.Common.{IsTrue}
use Rattle.std.proofs.lemmas.List.Elements.{recursion_from_All}
use Rattle.jsonpath_base.specs.Prelude.Documents.{value_is_whole}
use Rattle.jsonpath_base.proofs.Views.{get-value_tree, get_whole, as_members_whole}
use Rattle.jsonpath_base.proofs.documents.queryable.value.ValueQueryable.get.Goals as goal

pub returns-clause-value : goal.returns-clause-value
returns-clause-value c = λ h. get-value_tree c.args.key.now c.args.self.now c.get.result c.get.ensures

pub returns-clause-whole : goal.returns-clause-whole
returns-clause-whole c = λ h. get_whole c.args.key.now c.args.self.now c.get.result c.get.ensures h

pub returns-then-len-le-FEW_MEMBERS-clause-whole : goal.returns-then-len-le-FEW_MEMBERS-clause-whole
returns-then-len-le-FEW_MEMBERS-clause-whole c = λ h.
    let es = c.in-Some.members.now.entries in
    c.found_among.ensures.whole (recursion_from_All (λ e. IsTrue (value_is_whole e.1)) es (as_members_whole c.args.self.now es c.in-Some.ensures h))
