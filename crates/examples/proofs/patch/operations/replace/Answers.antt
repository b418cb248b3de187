use Rattle.std.proofs.Common.{is_some, sym, ap, ◌∙◌}
use Rattle.jsonpath_rust.specs.Places.{at}
use Rattle.jsonpath_rust.specs.Put.{put}
use Rattle.jsonpath_rust.specs.base.Steps.{location_view}
use Rattle.jsonpath_rust.specs.base.Values.{value_tree}
use Rattle.examples.proofs.Patching.{replaced_there}
use Rattle.examples.proofs.patch.operations.replace.Goals as goal

pub returns-in-Some-clause-value : goal.returns-in-Some-clause-value
returns-in-Some-clause-value c =
    let t = value_tree c.args.document.now in
    let u = value_tree c.args.new in
    let place = rw c.in-Some.is at c.in_ok-place.ensures.place in
    replaced_there c.args.path.now u t (value_tree c.put_at.new.value) (location_view c.in-Some.place.items) c.put_at.result (sym place)
    (c.pointer_leads_as_found.ensures.there c.args.path.now t (location_view c.in-Some.place.items) (sym place))
    (c.put_at.ensures.found ∙ ap (λ ss. is_some (at (location_view ss) t)) c.deref.ensures.value)
    (c.put_at.ensures.value ∙ ap (λ ss. put (location_view ss) u t) c.deref.ensures.value)
