use Rattle.std.proofs.Common.{◌++◌, drop, false, string_bytes}
use Rattle.jsonpath_base.specs.Values.{trees_of, members_of}
use Rattle.jpath.specs.Document.{items_data, members_data}
use Rattle.jpath.specs.Json.{elements_text, members_text}
use Rattle.jpath.proofs.DocumentPrinting.{ItemsLeft, MembersLeft}
use Rattle.jpath.proofs.document.printing.+print.Given as goal

abbrev pub invariant-push_items-loop-item : goal.invariant-push_items-loop-item
invariant-push_items-loop-item l =
    ItemsLeft (string_bytes l.initial.text ++ elements_text false (trees_of (items_data l.item-items))) (string_bytes l.text) l.later (items_data (drop l.item-index l.item-items))

abbrev pub invariant-push_members-loop-name : goal.invariant-push_members-loop-name
invariant-push_members-loop-name l =
    MembersLeft (string_bytes l.initial.text ++ members_text false (members_of (members_data l.members.entries))) (string_bytes l.text) l.later (members_data l.name-iterator)
