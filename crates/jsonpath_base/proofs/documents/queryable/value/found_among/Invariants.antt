use Rattle.std.proofs.Common.{◌≡◌, IsTrue}
use Rattle.jsonpath_base.specs.Prelude.Documents.{AllByRecursion, find, members_of, members_view, pairs, value_is_whole}
use Rattle.jsonpath_base.proofs.documents.queryable.value.found_among.Given as goal

-- what is sought stands in what is left, if anywhere
abbrev pub invariant-loop-name : goal.invariant-loop-name
invariant-loop-name l =
    (find l.key (pairs (members_of (members_view l.name-iterator))) ≡ find l.key (pairs (members_of (members_view l.members.entries))))
    × (AllByRecursion (λ e. IsTrue (value_is_whole e.1)) l.members.entries → AllByRecursion (λ e. IsTrue (value_is_whole e.1)) l.name-iterator)
