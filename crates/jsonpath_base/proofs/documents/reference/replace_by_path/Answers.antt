use Rattle.std.proofs.Common.{◌≡◌, true, false, Some, None, is_some, IsSome, IfSome, option_map, refl, ap, ◌∙◌, subst}
use Rattle.jsonpath_base.specs.Places as places
use Rattle.jsonpath_base.specs.Prelude.Documents.{IsReference, location_view, put, value_document, value_tree}
use Rattle.jsonpath_base.proofs.lemmas.documents.{normal_put}
use Rattle.jsonpath_base.proofs.documents.reference.replace_by_path.Goals as goal

pub returns-in-Some-clause-normal : goal.returns-in-Some-clause-normal
returns-in-Some-clause-normal c l is small =
    let old = value_tree c.args.value.now in
    let doc = value_document c.args.value.now in
    let m = location_view c.in-Some.steps.items in
    let means = subst (λ o. IsReference c.args.path.now doc (option_map (λ v. location_view v.items) o)) c.in-Some.is c.in_ok-steps.ensures.means in
    let there : is_some (places.at m old) ≡ true = subst (λ o. IfSome o (λ v. IsSome (places.at (location_view v.items) old))) c.in-Some.is c.in_ok-steps.ensures.there in
    let found : c.put_at.result ≡ true = c.put_at.ensures.found ∙ ap (λ s. is_some (places.at (location_view s) old)) c.deref.ensures.value ∙ there in
    let left : value_tree c.put_at.new.value ≡ put m (value_tree c.args.new) old = c.put_at.ensures.value ∙ ap (λ s. put (location_view s) (value_tree c.args.new) old) c.deref.ensures.value in
    normal_put c.args.path.now l doc (value_tree c.args.new) (value_tree c.put_at.new.value) c.put_at.result (Some m) means found left is small

pub returns-in-None-clause-normal : goal.returns-in-None-clause-normal
returns-in-None-clause-normal c l is small =
    let doc = value_document c.args.value.now in
    let means = subst (λ o. IsReference c.args.path.now doc (option_map (λ v. location_view v.items) o)) c.in-None.is c.in_ok-steps.ensures.means in
    normal_put c.args.path.now l doc (value_tree c.args.new) (value_tree c.args.value.now) false None means refl refl is small
