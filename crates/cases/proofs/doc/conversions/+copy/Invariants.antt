use Rattle.std.proofs.Common.{◌≡◌, List, ◌++◌, take, map}
use Rattle.cases.specs.DocTree.{doc_tree, pairs_of}
use Rattle.cases.proofs.Docs.{Entry}
use Rattle.cases.proofs.doc.conversions.+copy.Given as goal

abbrev pub invariant-copy_items-loop-item : goal.invariant-copy_items-loop-item
invariant-copy_items-loop-item l = map doc_tree l.copies.items ≡ map doc_tree (take l.item-index l.item-items)

abbrev pub invariant-copy_members-loop-key : goal.invariant-copy_members-loop-key
invariant-copy_members-loop-key l = (done : List Entry) × (l.entries.entries ≡ done ++ l.key-iterator) × (pairs_of l.copies.entries ≡ pairs_of done)
