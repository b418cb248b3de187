use Rattle.std.proofs.Common.{◌≡◌, ◌≤◌, ◌<◌, length}
use Rattle.jsonpath_base.proofs.Gathering.{GatheredAt}
use Rattle.jsonpath_base.proofs.ordering.order_keys.Given as goal

abbrev pub invariant-loop-next : goal.invariant-loop-next
invariant-loop-next g l = record {
  front : l.unique < l.next;
  within : l.unique ≤ length l.entries.items;
  size : length l.entries.items ≡ length l.initial.entries.items;
  all : GatheredAt g.K.Ord.cmp l.fn.entries.items l.entries.items l.unique l.next;
}
