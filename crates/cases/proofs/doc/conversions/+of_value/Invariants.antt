use Rattle.std.proofs.Common.{◌≡◌, List, ◌++◌, take, map}
use Rattle.serde_json.proofs.Views.{Entry}
use Rattle.cases.specs.DocTree.{doc_tree, pairs_of}
use Rattle.cases.proofs.OfValues.{turned_value, turned_entries}
use Rattle.cases.proofs.doc.conversions.+of_value.Given as goal

abbrev pub invariant-of_items-loop-item : goal.invariant-of_items-loop-item
invariant-of_items-loop-item l = map doc_tree l.docs.items ≡ map turned_value (take l.item-index l.item-items)

abbrev pub invariant-of_members-loop-key : goal.invariant-of_members-loop-key
invariant-of_members-loop-key l = (done : List Entry) × (l.members.entries ≡ done ++ l.key-iterator) × (pairs_of l.docs.entries ≡ turned_entries done)
