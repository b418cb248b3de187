use Rattle.std.proofs.Common.{◌-◌, length, string_bytes}
use Rattle.jsonpath_base.specs.Prelude.{IsSpelled}
use Rattle.jsonpath_base.proofs.current_path.spell.Given as goal

-- what is spelled so far is spelled right
abbrev pub invariant-loop-alloc : goal.invariant-loop-alloc
invariant-loop-alloc l = IsSpelled l.steps.items l.starts.items (string_bytes l.text)

abbrev pub decreases-loop-alloc : goal.decreases-loop-alloc
decreases-loop-alloc l = length l.steps.items - length l.starts.items
