use Rattle.std.proofs.Common.{◌≡◌, [], ◌∷◌, if◌then◌else◌, Some, None, IfOk, refl, sym, ap, ◌∙◌, subst, arith}
use Rattle.jsonpath_rust.specs.Places.{at}
use Rattle.jsonpath_rust.specs.Put.{put}
use Rattle.jsonpath_rust.specs.Tree.{null}
use Rattle.jsonpath_rust.specs.Without.{is_among, without}
use Rattle.jsonpath_rust.specs.base.Steps.{location_view}
use Rattle.jsonpath_rust.specs.base.Values.{value_tree}
use Rattle.examples.proofs.Patching.{moved_there}
use Rattle.examples.proofs.patch.operations.move_value.Goals as goal

pub returns-clause-value : goal.returns-clause-value
returns-clause-value c =
    let t = value_tree c.args.document.now in
    let l = location_view c.in-Some.origin.items in
    let place = rw c.in-Some.is at c.in_ok-origin.ensures.place in
    let taken = rw c.in-Some-take_at.is at c.take_at.ensures.taken in
    let moves = moved_there c.args.from.now c.args.path.now t (value_tree c.remove_all.new.value) (value_tree c.in-Some-take_at.moved) l
    (sym c.is_inside.ensures ∙ c.if-is_inside.false) (sym place) ((c.among_is_listed.ensures (l ∷ []) l).1 (0, omega arith, refl)) (taken ∙ ap (λ ss. at (location_view ss) t) c.deref.ensures.value)
    (c.in_ok-remove_all.ensures.removed ∙ ap (without (is_among (l ∷ []))) (c.take_at.ensures.remaining ∙ ap (λ ss. put (location_view ss) null t) c.deref.ensures.value)) in
    subst (λ o. IfOk c.add.result (λ b. o ≡ (if b then Some (value_tree c.add.new.document) else None))) (sym moves) c.add.ensures.value
