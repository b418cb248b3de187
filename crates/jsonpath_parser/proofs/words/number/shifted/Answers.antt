use Rattle.std.proofs.Common.{◌*◌, ◌^◌, ap, ◌∙◌, arith}
use Rattle.jsonpath_parser.proofs.laws.words.NumberPowers.{lowers_none, raises, raises_only, if_some, if_none}
use Rattle.jsonpath_parser.proofs.words.number.shifted.Goals as goal

pub returns-in_err-checked_sub-clause-none : goal.returns-in_err-checked_sub-clause-none
returns-in_err-checked_sub-clause-none c =
    rw c.from_residual.ensures (λ n fits. lowers_none n c.args.number c.args.up c.args.down (omega (arith, c.in_err-checked_sub.ensures)) c.requires)

pub returns-clause-some : goal.returns-clause-some
returns-clause-some c =
    let (le, is) = c.in_ok-checked_sub.ensures in
    if_some c.padded.result _ _ (λ n e. raises n c.args.number c.args.up c.args.down le (e ∙ ap (λ k. c.args.number * 10 ^ k) is)) c.padded.ensures.some

pub returns-clause-none : goal.returns-clause-none
returns-clause-none c =
    let (le, is) = c.in_ok-checked_sub.ensures in
    if_none c.padded.result _ _ (λ over n fits e.
    let same = ap (λ k. c.args.number * 10 ^ k) is in
    omega (arith, over, same, fits, raises_only n c.args.number c.args.up c.args.down le e)) c.padded.ensures.none
