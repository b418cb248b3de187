use Rattle.std.proofs.Common.{◌≡◌, List, ◌++◌, take, map}
use Rattle.jpath.specs.Document.{json_data, members_data}
use Rattle.jpath.proofs.DocumentViews.{Entry}
use Rattle.jpath.proofs.document.copies.+copy.Given as goal

abbrev pub invariant-copy_items-loop-item : goal.invariant-copy_items-loop-item
invariant-copy_items-loop-item l = map json_data l.copies.items ≡ map json_data (take l.item-index l.item-items)

abbrev pub invariant-copy_members-loop-name : goal.invariant-copy_members-loop-name
invariant-copy_members-loop-name l =
    (done : List Entry) × (l.members.entries ≡ done ++ l.name-iterator) × (members_data l.copies.entries ≡ members_data done)
