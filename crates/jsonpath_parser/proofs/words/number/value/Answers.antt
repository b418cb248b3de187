use Rattle.std.proofs.Common.{◌≡◌, ◌++◌, ◌*◌, ◌^◌, ap, sym, ◌∙◌, subst, length}
use Rattle.jsonpath_parser.specs.Prelude.{digits_value, digits_value_after, exponent_view, IsUnheld, number_of, up}
use Rattle.jsonpath_parser.proofs.laws.words.NumberPowers.{unheld_after, digits_value_after-append}
use Rattle.jsonpath_parser.proofs.laws.words.NumberValues.{value_unheld, value_none, value_some}
use Rattle.jsonpath_parser.proofs.words.number.value.Goals as goal

pub returns-in_err-with_digits : goal.returns-in_err-with_digits
returns-in_err-with_digits c =
    let whole = c.args.integer.now in
    let fraction = c.args.fraction.now in
    let none = unheld_after (digits_value 10 whole) fraction c.requires.fraction_run c.in_err-with_digits.ensures.none in
    c.from_residual.ensures ∙ sym (value_unheld c.args.minus (digits_value 10 (whole ++ fraction)) (length fraction) (exponent_view c.args.exponent) (subst IsUnheld (sym (digits_value_after-append 0 whole fraction)) none))

pub returns-in_err-mantissa : goal.returns-in_err-mantissa
returns-in_err-mantissa c =
    let whole = c.args.integer.now in
    let fraction = c.args.fraction.now in
    let all : digits_value_after 10 (number_of c.in_ok-with_digits.field-0) fraction ≡ digits_value 10 (whole ++ fraction) =
    ap (λ n. digits_value_after 10 n fraction) c.in_ok-with_digits.ensures.some ∙ sym (digits_value_after-append 0 whole fraction) in
    c.from_residual-in_err-mantissa.ensures
    ∙ sym (value_unheld c.args.minus (digits_value 10 (whole ++ fraction)) (length fraction) (exponent_view c.args.exponent) (subst IsUnheld all c.in_err-mantissa.ensures.none))

pub returns-in_err-size : goal.returns-in_err-size
returns-in_err-size c =
    let whole = c.args.integer.now in
    let fraction = c.args.fraction.now in
    let all : number_of c.in_ok-mantissa.mantissa ≡ digits_value 10 (whole ++ fraction) =
    c.in_ok-mantissa.ensures.some ∙ ap (λ n. digits_value_after 10 n fraction) c.in_ok-with_digits.ensures.some ∙ sym (digits_value_after-append 0 whole fraction) in
    let e = exponent_view c.args.exponent in
    c.from_residual-in_err-size.ensures
    ∙ sym (value_none c.args.minus (digits_value 10 (whole ++ fraction)) (length fraction) e (λ n fits same. c.in_err-size.ensures.none n fits (same ∙ ap (λ m. m * 10 ^ up e) (sym all))))

pub returns : goal.returns
returns c =
    let whole = c.args.integer.now in
    let fraction = c.args.fraction.now in
    let all : number_of c.in_ok-mantissa.mantissa ≡ digits_value 10 (whole ++ fraction) =
    c.in_ok-mantissa.ensures.some ∙ ap (λ n. digits_value_after 10 n fraction) c.in_ok-with_digits.ensures.some ∙ sym (digits_value_after-append 0 whole fraction) in
    let e = exponent_view c.args.exponent in
    c.long.ensures ∙ sym (value_some c.args.minus c.in_ok-size.size (digits_value 10 (whole ++ fraction)) (length fraction) e (c.in_ok-size.ensures.some ∙ ap (λ m. m * 10 ^ up e) all))
