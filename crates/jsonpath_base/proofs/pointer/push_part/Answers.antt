use Rattle.std.proofs.Common.{string_bytes, arith, rules}
use Rattle.std.proofs.lemmas.Str.Pattern.{split_parts}
use Rattle.jsonpath_base.proofs.PointerTexts.{tilde_turn, tilde_end}
use Rattle.jsonpath_base.proofs.pointer.push_part.Goals as goal

pub loop-plain-preserved : goal.loop-plain-preserved
loop-plain-preserved c =
    let l = c.loop-plain in
    let cut = rw c.in-Some.is at (split_parts 126 l.rest.now c.split_once.result c.split_once.ensures.cases (omega arith)) in
    (search rules, tilde_turn _ (string_bytes l.text) (string_bytes c.push_str.new.self) _ l.rest.now c.in-Some.plain.now c.in-Some.more.now l.invariant.1 cut.0 cut.1 c.in_ok-push_str.ensures.bytes c.in_ok-push_str-2.ensures.bytes)

pub returns : goal.returns
returns c =
    let l = c.loop-plain in
    let none = rw c.in_default.is at (split_parts 126 l.rest.now c.split_once.result c.split_once.ensures.cases (omega arith)) in
    tilde_end _ (string_bytes l.text) _ l.rest.now l.invariant.1 none c.in_ok-push_str-3.ensures.bytes
