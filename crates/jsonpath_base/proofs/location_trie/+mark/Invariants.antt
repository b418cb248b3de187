use Rattle.std.proofs.Common.{length, ◌+◌, ◌*◌}
use Rattle.jsonpath_base.proofs.location_trie.+mark.Given as goal

abbrev pub decreases-mark : goal.decreases-mark
decreases-mark l = 2 * length l.steps.now

abbrev pub decreases-mark_member : goal.decreases-mark_member
decreases-mark_member l = 2 * length l.rest.now + 1

abbrev pub decreases-mark_element : goal.decreases-mark_element
decreases-mark_element l = 2 * length l.rest.now + 1
