use Rattle.std.proofs.Common.{◌<◌, vec_len}
use Rattle.std.specs.Io.KnownBytes.{Consumes}
use Rattle.jpath.proofs.run.read_to_end.Given as goal

-- the bytes so far are those that the reader lost
abbrev pub invariant-loop : goal.invariant-loop
invariant-loop g l =
    (0 < vec_len l.buffer) × Consumes (g.R.Read.remaining l.initial.reader) (g.R.Read.remaining l.reader) l.bytes.items
