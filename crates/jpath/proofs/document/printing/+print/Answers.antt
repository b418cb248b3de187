use Rattle.std.proofs.Common.{rules}
use Rattle.jpath.proofs.DocumentPrinting.{items_next}
use Rattle.jpath.proofs.document.printing.+print.Goals as goal

pub push_items-loop-item-preserved : goal.push_items-loop-item-preserved
push_items-loop-item-preserved t c = items_next _ _ _ _ _ _ _ c.loop-item-test.true c.item-item.is c.loop-item.invariant (search (rules, c.in_ok-push_comma.ensures, c.in_ok-push_json.ensures))
