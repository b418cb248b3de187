use Rattle.jsonpath_base.proofs.PatternReading.{no_reading, IsTreeOf-read, IsTreeOf-without}
use Rattle.jsonpath_base.proofs.pattern.groupless.tree_of.Goals as goal

pub returns-in_default : goal.returns-in_default
returns-in_default c = record {
  same = no_reading c.args.text.now c.in-Err.error.kind (rw c.default.ensures at c.in-Err.ensures.err) c.in_default.not-OutOfMemory;
  refused = tt;
}

pub returns-then-len-lt2-clause-same : goal.returns-then-len-lt2-clause-same
returns-then-len-lt2-clause-same c =
    IsTreeOf-read c.args.text.now c.in-Ok.parsed.hir _ (rw c.default.ensures at c.in-Ok.ensures.ok) (rw c.default.ensures at c.in-Ok.ensures.formed)

pub returns-clause-same : goal.returns-clause-same
returns-clause-same c =
    IsTreeOf-without c.args.text.now c.in-Ok.parsed.hir c.in_ok-copy_without_groups.field-0 _
    (rw c.default.ensures at c.in-Ok.ensures.ok) (rw c.default.ensures at c.in-Ok.ensures.formed) c.in_ok-copy_without_groups.ensures
