use Rattle.jpath.proofs.DocumentViews.{ordered_names}
use Rattle.jpath.proofs.document.wholeness.+whole.Goals as goal

pub members_whole-returns-clause-whole : goal.members_whole-returns-clause-whole
members_whole-returns-clause-whole t c =
    rw (c.loop-member.invariant.0, c.loop-member.invariant.1, ordered_names _ c.iter-member-items.ensures.ordered, c.in-None.ensures.steps.0)
