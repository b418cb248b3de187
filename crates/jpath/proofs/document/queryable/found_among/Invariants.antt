use Rattle.std.proofs.Common.{◌≡◌, IsTrue}
use Rattle.jsonpath_base.specs.Prelude.Documents.{AllByRecursion, find, members_of, pairs}
use Rattle.jpath.specs.Document.{json_is_whole, members_data}
use Rattle.jpath.proofs.document.queryable.found_among.Given as goal

-- what is sought stands in what is left, if anywhere
abbrev pub invariant-loop-name : goal.invariant-loop-name
invariant-loop-name l =
    (find l.key (pairs (members_of (members_data l.name-iterator))) ≡ find l.key (pairs (members_of (members_data l.members.entries))))
    × (AllByRecursion (λ e. IsTrue (json_is_whole e.1)) l.members.entries → AllByRecursion (λ e. IsTrue (json_is_whole e.1)) l.name-iterator)
