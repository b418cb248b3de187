use Rattle.std.proofs.Common.{[], arith, rules}
use Rattle.std.proofs.lemmas.Str.Pattern.{strip_prefix_char, split_parts}
use Rattle.jsonpath_base.specs.Prelude.{tokens_from, value_tree}
use Rattle.jsonpath_base.proofs.PointerWays.{first_token, only_token, leads_from, leads_down, leads_nowhere, leads_there, no_pointer}
use Rattle.jsonpath_base.proofs.pointer.location_by_pointer.Goals as goal

pub returns-in_default-clause-place : goal.returns-in_default-clause-place
returns-in_default-clause-place c =
    let other = rw c.in_default.is at (strip_prefix_char 47 c.args.text.now c.strip_prefix.result c.strip_prefix.ensures.cases (omega arith)) in
    no_pointer c.args.text.now (value_tree c.args.value.now) (grind arith) other

pub loop-part-init : goal.loop-part-init
loop-part-init c =
    let cut = rw c.in-Some.is at (strip_prefix_char 47 c.args.text.now c.strip_prefix.result c.strip_prefix.ensures.cases (omega arith)) in
    (search rules, leads_from c.args.text.now c.in-Some.rest.now c.args.value.now _ cut (search rules))

pub returns-in_default-2-clause-place : goal.returns-in_default-2-clause-place
returns-in_default-2-clause-place c =
    let l = c.loop-part in let token = c.in-Some-split_once.part.now in let more = c.in-Some-split_once.more.now in
    let cut = rw c.in-Some-split_once.is at (split_parts 47 l.rest.now c.split_once.result c.split_once.ensures.cases (omega arith)) in
    let none = rw c.in_default-2.is at (c.in_ok-below.ensures.down) in
    leads_nowhere c.args.text.now token _ (tokens_from [] more) c.args.value.now l.target.now l.steps.items l.invariant.1 (first_token l.rest.now token more cut.0 cut.1) none

pub loop-part-preserved : goal.loop-part-preserved
loop-part-preserved c =
    let l = c.loop-part in let token = c.in-Some-split_once.part.now in let more = c.in-Some-split_once.more.now in
    let cut = rw c.in-Some-split_once.is at (split_parts 47 l.rest.now c.split_once.result c.split_once.ensures.cases (omega arith)) in
    let down = rw c.in-Some-2.is at (c.in_ok-below.ensures.down) in
    (search rules, leads_down c.args.text.now token _ (tokens_from [] more) c.args.value.now l.target.now c.in-Some-2.below.now l.steps.items c.go_down.new.steps.items l.invariant.1 (first_token l.rest.now token more cut.0 cut.1) down)

pub returns-in-Some-3-clause-place : goal.returns-in-Some-3-clause-place
returns-in-Some-3-clause-place c =
    let l = c.loop-part in
    let last = rw c.in_default-split_once.is at (split_parts 47 l.rest.now c.split_once.result c.split_once.ensures.cases (omega arith)) in
    let down = rw c.in-Some-3.is at (c.in_ok-go_down.ensures.down) in
    leads_there c.args.text.now c.args.value.now c.in-Some-3.field-0.now c.go_down-2.new.steps.items
    (leads_down c.args.text.now l.rest.now _ [] c.args.value.now l.target.now c.in-Some-3.field-0.now l.steps.items c.go_down-2.new.steps.items l.invariant.1 (only_token l.rest.now last) down)

pub returns-in-None-clause-place : goal.returns-in-None-clause-place
returns-in-None-clause-place c =
    let l = c.loop-part in
    let last = rw c.in_default-split_once.is at (split_parts 47 l.rest.now c.split_once.result c.split_once.ensures.cases (omega arith)) in
    let none = rw c.in-None.is at (c.in_ok-go_down.ensures.down) in
    leads_nowhere c.args.text.now l.rest.now _ [] c.args.value.now l.target.now l.steps.items l.invariant.1 (only_token l.rest.now last) none
