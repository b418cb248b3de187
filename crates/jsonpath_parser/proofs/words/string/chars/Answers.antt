use Rattle.std.proofs.Common.{◌≡◌, ◌++◌, string_bytes, ◌∙◌, ap, rules, arith}
use Rattle.std.proofs.lemmas.Grind.{common_steps}
use Rattle.jsonpath_parser.specs.Prelude.{encode_utf8}
use Rattle.jsonpath_parser.proofs.laws.words.StringTurns.{after_run, at_quote, at_other, at_no_escape, at_escape}
use Rattle.jsonpath_parser.proofs.laws.words.Giving.{gives_err}
use Rattle.jsonpath_parser.proofs.words.string.chars.Goals as goal

pub returns-then-first-quote-clause-value : goal.returns-then-first-quote-clause-value
returns-then-first-quote-clause-value c =
    let l = c.chars in
    let (read, stop) = after_run _ _ _ _ _ _ l.invariant.2 c.plain_run.ensures.parts in
    at_quote _ _ _ _ read (grind (arith, common_steps)) ∙ grind (arith, common_steps)

pub returns-then-first-ne92-clause-value : goal.returns-then-first-ne92-clause-value
returns-then-first-ne92-clause-value c other =
    let l = c.chars in
    let (read, stop) = after_run _ _ _ _ _ _ l.invariant.2 c.plain_run.ensures.parts in
    at_other _ _ _ _ read stop (λ e. grind (arith, common_steps)) (λ e. grind (arith, common_steps))

pub returns-in_err-c-clause-value : goal.returns-in_err-c-clause-value
returns-in_err-c-clause-value c =
    let l = c.chars in
    let (read, stop) = after_run _ _ _ _ _ _ l.invariant.2 c.plain_run.ensures.parts in
    gives_err _ c.from_residual-in_err-c.result _ c.in_err-c.field-0.0 _ c.from_residual-in_err-c.ensures.1 (λ y p. p) λ refused.
    at_no_escape _ _ _ _ read c.requires (grind (arith, common_steps)) (rw c.skip-in-chars.ensures.rest at (c.in_err-c.ensures.value refused))

pub chars-preserved : goal.chars-preserved
chars-preserved c =
    let l = c.chars in
    let (read, stop) = after_run _ _ _ _ _ _ l.invariant.2 c.plain_run.ensures.parts in
    let next = at_escape _ _ _ _ c.in_ok-c.c c.in_ok-c.next.now read c.requires (grind (arith, common_steps)) (rw c.skip-in-chars.ensures.rest at c.in_ok-c.ensures.value) (omega (arith, c.skip-in-chars.ensures.shorter, c.in_ok-c.ensures.shorter)) in
    let written : string_bytes c.push.new.self ≡ (string_bytes l.value ++ c.plain_run.result.0.now) ++ encode_utf8 c.in_ok-c.c = c.in_ok-push.ensures.bytes ∙ ap (λ v. v ++ encode_utf8 c.in_ok-c.c) c.in_ok-push_str.ensures.bytes in (
      search rules,
      omega (arith, c.plain_run.ensures.within, c.skip-in-chars.ensures.shorter, c.in_ok-c.ensures.shorter, l.invariant.1),
      rw written next,
    )
