use Rattle.std.proofs.Common.{reverse, ap, sym, ◌∙◌, subst, IsTrue}
use Rattle.jsonpath_base.specs.Tree.{has_distinct_names, members_distinct}
use Rattle.cases.specs.DocTree.{doc_tree, pairs_of, members}
use Rattle.cases.proofs.Docs.{tree-Members}
use Rattle.cases.proofs.Distinct.{distinct_object, more_members}
use Rattle.cases.proofs.doc.documents.+look.Goals as goal

pub look-returns-in-Members : goal.look-returns-in-Members
look-returns-in-Members t c = subst (λ d. IsTrue (has_distinct_names (doc_tree d))) (sym c.in-Members.is) (subst (λ d. IsTrue (has_distinct_names d)) (sym (tree-Members c.in-Members.entries)) c.look_at_members.ensures)

pub look_at_members-loop-member-preserved : goal.look_at_members-loop-member-preserved
look_at_members-loop-member-preserved t c = c.loop-member.invariant ∙ more_members c.loop-member.member-iterator.iter c.next.new.self.iter (c.in-Some.field-0-0.now, c.in-Some.member.now) c.in-Some.ensures.steps c.look.ensures

pub look_at_members-returns : goal.look_at_members-returns
look_at_members-returns t c =
    distinct_object c.args.entries.now.entries c.iter.ensures.ordered (c.loop-member.invariant ∙ ap (λ es. members_distinct (members (reverse (pairs_of es)))) c.in-None.ensures.steps.0)
