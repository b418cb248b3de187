use Rattle.std.proofs.Common.{string_bytes, arith, rules}
use Rattle.std.proofs.lemmas.Str.Pattern.{split_parts}
use Rattle.jsonpath_base.proofs.PointerTexts.{slash_turn, slash_end}
use Rattle.jsonpath_base.proofs.pointer.push_name.Goals as goal

pub loop-part-preserved : goal.loop-part-preserved
loop-part-preserved c =
    let l = c.loop-part in
    let cut = rw c.in-Some.is at (split_parts 47 l.rest.now c.split_once.result c.split_once.ensures.cases (omega arith)) in
    (search rules, slash_turn _ (string_bytes l.text) (string_bytes c.push_part.new.text) _ l.rest.now c.in-Some.part.now c.in-Some.more.now l.invariant.1 cut.0 cut.1 c.in_ok-push_part.ensures c.in_ok-push_str.ensures.bytes)

pub returns : goal.returns
returns c =
    let l = c.loop-part in
    let none = rw c.in_default.is at (split_parts 47 l.rest.now c.split_once.result c.split_once.ensures.cases (omega arith)) in
    slash_end _ (string_bytes l.text) _ l.rest.now l.invariant.1 none c.in_ok-push_part-2.ensures
