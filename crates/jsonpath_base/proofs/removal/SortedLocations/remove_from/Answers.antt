use Rattle.std.proofs.Common.{ap, ◌∙◌}
use Rattle.jsonpath_base.specs.Prelude.{marked, tree_of, value_tree, view}
use Rattle.jsonpath_base.proofs.Views.{data_whole}
use Rattle.jsonpath_base.proofs.Marking.{marked_here}
use Rattle.jsonpath_base.proofs.Removed.{whole_thinned, root_stays, root_goes, null_tree}
use Rattle.jsonpath_base.proofs.removal.SortedLocations.remove_from.Goals as goal

pub returns-then-self-clause-removed : goal.returns-then-self-clause-removed
returns-then-self-clause-removed c =
    let m = c.args.self.now.marks in
    ap value_tree c.replace.ensures.after ∙ null_tree ∙ root_goes (marked m) (value_tree c.args.value.now) (marked_here m ∙ c.if-self.true)

pub returns-clause-removed : goal.returns-clause-removed
returns-clause-removed c = let m = c.args.self.now.marks in ap tree_of c.thin.ensures ∙ root_stays (marked m) (view c.args.value.now) (marked_here m ∙ c.if-self.false)

pub returns-clause-whole : goal.returns-clause-whole
returns-clause-whole c h = ap data_whole c.thin.ensures ∙ whole_thinned (marked c.args.self.now.marks) (view c.args.value.now) h
