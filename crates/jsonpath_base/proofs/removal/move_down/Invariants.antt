use Rattle.std.proofs.Common.{◌≡◌, ◌-◌, ◌++◌, length, take, drop}
use Rattle.jsonpath_base.proofs.removal.move_down.Given as goal

-- what has moved, and what is not moved yet
abbrev pub invariant-loop-i : goal.invariant-loop-i
invariant-loop-i l =
    (take (l.i - l.places) l.items.items ++ drop l.i l.items.items ≡ take (l.start - l.places) l.initial.items.items ++ drop l.start l.initial.items.items)
    × (length l.items.items ≡ length l.initial.items.items)
