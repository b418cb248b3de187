use Rattle.json.specs.Written.{PlainBetween}
use Rattle.jpath.proofs.document.printing.quoting.plain.plain_len.Given as goal

abbrev pub invariant-loop-at : goal.invariant-loop-at
invariant-loop-at l = PlainBetween l.text 0 l.at
