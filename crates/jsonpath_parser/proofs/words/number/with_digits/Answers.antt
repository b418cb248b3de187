use Rattle.std.proofs.Common.{◌∙◌, subst}
use Rattle.jsonpath_parser.specs.Prelude.{digits_value_after, IsUnheld, number_of}
use Rattle.jsonpath_parser.proofs.laws.words.NumberPowers.{unheld_turn, next_digit, digit_small}
use Rattle.jsonpath_parser.proofs.words.number.with_digits.Goals as goal

pub returns-in_err-mantissa-clause-none : goal.returns-in_err-mantissa-clause-none
returns-in_err-mantissa-clause-none c =
    let l = c.loop-byte in
    let bytes = c.as_bytes-bytes.result.now in
    let parts = next_digit bytes l.byte-index c.loop-byte-test.true l.invariant.run in
    let none = unheld_turn (number_of c.args.start) (number_of l.mantissa) c.from.result bytes l.byte-index c.loop-byte-test.true l.invariant.run (c.from.ensures ∙ (digit_small _ parts.0).2)
    c.in_err-mantissa.ensures.some_digit c.in_err-mantissa.ensures.none l.invariant.value in
    rw c.from_residual.ensures (subst (λ v. IsUnheld (digits_value_after 10 (number_of c.args.start) v)) c.as_bytes-bytes.ensures.value none)
