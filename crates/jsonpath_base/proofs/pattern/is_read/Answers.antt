use Rattle.jsonpath_base.proofs.PatternReading.{is_some-Reads, is_none-Refuses}
use Rattle.jsonpath_base.proofs.pattern.is_read.Goals as goal

pub returns-in_default : goal.returns-in_default
returns-in_default c = is_some-Reads c.args.text.now _ _ (rw c.default.ensures at c.in_default.ensures.ok)

pub returns-in_default-kind : goal.returns-in_default-kind
returns-in_default-kind c =
    is_none-Refuses c.args.text.now c.in-Err.error.kind (rw c.default.ensures at c.in-Err.ensures.err) c.in_default-kind.not-OutOfMemory
