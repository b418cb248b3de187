use Rattle.std.proofs.Common.{◌+◌, ◌*◌}
use Rattle.jsonpath_base.proofs.documents.depth.+depth.Given as goal

abbrev pub decreases-is_deeper : goal.decreases-is_deeper
decreases-is_deeper g l = 2 * l.levels + 1

abbrev pub decreases-is_list_deeper : goal.decreases-is_list_deeper
decreases-is_list_deeper g l = 2 * l.levels

abbrev pub decreases-is_member_deeper : goal.decreases-is_member_deeper
decreases-is_member_deeper g l = 2 * l.levels + 2
