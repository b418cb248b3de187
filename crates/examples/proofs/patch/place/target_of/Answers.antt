use Rattle.std.proofs.Common.{Some, None, sym, ap, ◌∙◌, arith}
use Rattle.jsonpath_rust.specs.Places.{at}
use Rattle.jsonpath_rust.specs.base.Steps.{location_view, owned_step}
use Rattle.jsonpath_rust.specs.base.Values.{value_tree}
use Rattle.examples.proofs.Patching.{target_is, target_none, target_empty, target_nowhere}
use Rattle.examples.proofs.Splitting.{rsplit_parts}
use Rattle.examples.proofs.patch.place.target_of.Goals as goal

pub returns-in_default-clause-target : goal.returns-in_default-clause-target
returns-in_default-clause-target c =
    let split = rw c.in_default.is at (rsplit_parts 47 c.args.path.now c.rsplit_once.result c.rsplit_once.ensures.cases (omega arith)) in
    sym (target_none c.args.path.now (value_tree c.args.document.now) (sym split))

pub returns-in_default-2-clause-target : goal.returns-in_default-2-clause-target
returns-in_default-2-clause-target c =
    let split = rw c.in-Some.is at (rsplit_parts 47 c.args.path.now c.rsplit_once.result c.rsplit_once.ensures.cases (omega arith)) in
    let none = rw c.in_default-2.is at c.in_ok-place.ensures.place in
    sym (target_nowhere c.args.path.now c.in-Some.parent.now c.in-Some.token.now (value_tree c.args.document.now) (sym split) (sym none))

pub returns-in_default-at-clause-target : goal.returns-in_default-at-clause-target
returns-in_default-at-clause-target c =
    let t = value_tree c.args.document.now in
    let l = location_view c.in-Some-2.place.items in
    let split = rw c.in-Some.is at (rsplit_parts 47 c.args.path.now c.rsplit_once.result c.rsplit_once.ensures.cases (omega arith)) in
    let leads = rw c.in-Some-2.is at c.in_ok-place.ensures.place in
    let none = rw c.in_default-at.is at c.at.ensures.value in
    sym (target_empty c.args.path.now c.in-Some.parent.now c.in-Some.token.now t l (sym split) (sym leads) (ap (λ ss. at (location_view ss) t) (sym c.deref.ensures.value) ∙ sym none))

pub returns-in-Some-3-clause-target : goal.returns-in-Some-3-clause-target
returns-in-Some-3-clause-target c =
    let t = value_tree c.args.document.now in
    let l = location_view c.in-Some-2.place.items in
    let split = rw c.in-Some.is at (rsplit_parts 47 c.args.path.now c.rsplit_once.result c.rsplit_once.ensures.cases (omega arith)) in
    let leads = rw c.in-Some-2.is at c.in_ok-place.ensures.place in
    let there = rw c.in-Some-at.is at c.at.ensures.value in
    let step = rw c.in-Some-3.is at c.in_ok-step.ensures.step in
    target_is c.args.path.now c.in-Some.parent.now c.in-Some.token.now t (value_tree c.in-Some-at.target.now) l (Some (owned_step c.in-Some-3.step)) (sym split) (sym leads) (ap (λ ss. at (location_view ss) t) (sym c.deref.ensures.value) ∙ sym there) step

pub returns-in-None-clause-target : goal.returns-in-None-clause-target
returns-in-None-clause-target c =
    let t = value_tree c.args.document.now in
    let l = location_view c.in-Some-2.place.items in
    let split = rw c.in-Some.is at (rsplit_parts 47 c.args.path.now c.rsplit_once.result c.rsplit_once.ensures.cases (omega arith)) in
    let leads = rw c.in-Some-2.is at c.in_ok-place.ensures.place in
    let there = rw c.in-Some-at.is at c.at.ensures.value in
    let step = rw c.in-None.is at c.in_ok-step.ensures.step in
    target_is c.args.path.now c.in-Some.parent.now c.in-Some.token.now t (value_tree c.in-Some-at.target.now) l None (sym split) (sym leads) (ap (λ ss. at (location_view ss) t) (sym c.deref.ensures.value) ∙ sym there) step
