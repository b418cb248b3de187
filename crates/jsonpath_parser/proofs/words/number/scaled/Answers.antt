use Rattle.jsonpath_parser.specs.Prelude.{digits_value}
use Rattle.jsonpath_parser.proofs.laws.words.NumberPowers.{below_some, below_none, above_some, above_none}
use Rattle.jsonpath_parser.proofs.words.number.scaled.Goals as goal

pub returns-then-exponent-clause-some : goal.returns-then-exponent-clause-some
returns-then-exponent-clause-some c =
    let m = c.args.mantissa in
    rw c.if-exponent.true (below_some c.shifted.result m.digits m.zeros c.args.point (digits_value 10 c.args.exponent.digits.now) c.saturating_add.result c.requires.zeros
    (rw c.saturated-size.ensures at c.saturating_add.ensures) (λ e. c.if-mantissa-eq0.false (c.requires.trimmed e)) c.shifted.ensures.some)

pub returns-then-exponent-clause-none : goal.returns-then-exponent-clause-none
returns-then-exponent-clause-none c =
    let m = c.args.mantissa in
    rw c.if-exponent.true (below_none c.shifted.result m.digits m.zeros c.args.point (digits_value 10 c.args.exponent.digits.now) c.saturating_add.result c.requires.zeros
    (rw c.saturated-size.ensures at c.saturating_add.ensures) (λ e. c.if-mantissa-eq0.false (c.requires.trimmed e)) c.shifted.ensures.none)

pub returns-else-exponent-clause-some : goal.returns-else-exponent-clause-some
returns-else-exponent-clause-some c =
    let m = c.args.mantissa in
    rw c.if-exponent.false (above_some c.shifted-else-exponent.result m.digits m.zeros c.args.point (digits_value 10 c.args.exponent.digits.now) c.saturating_add-else-exponent.result c.requires.point
    (rw c.saturated-size.ensures at c.saturating_add-else-exponent.ensures) c.if-mantissa-eq0.false c.shifted-else-exponent.ensures.fits c.shifted-else-exponent.ensures.some)

pub returns-else-exponent-clause-none : goal.returns-else-exponent-clause-none
returns-else-exponent-clause-none c =
    let m = c.args.mantissa in
    rw c.if-exponent.false (above_none c.shifted-else-exponent.result m.digits m.zeros c.args.point (digits_value 10 c.args.exponent.digits.now) c.saturating_add-else-exponent.result c.requires.point
    (rw c.saturated-size.ensures at c.saturating_add-else-exponent.ensures) c.if-mantissa-eq0.false c.shifted-else-exponent.ensures.none)
