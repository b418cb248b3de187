use Rattle.std.proofs.Common.{None, option_map, refl, subst}
use Rattle.jsonpath_base.specs.Places as places
use Rattle.jsonpath_base.specs.Prelude.Documents.{IsReference, location_view, value_document}
use Rattle.jsonpath_base.proofs.lemmas.documents.{normal_reference}
use Rattle.jsonpath_base.proofs.documents.reference.referred_location.Goals as goal

pub returns-in-Some-clause-normal : goal.returns-in-Some-clause-normal
returns-in-Some-clause-normal c l is small =
    let doc = value_document c.args.value.now in
    let means = subst (λ o. IsReference c.args.path.now doc (option_map (λ p. location_view p.steps.items) o)) c.in-Some.is c.in_ok-referent.ensures.means in
    normal_reference c.args.path.now l doc _ (places.at l doc.root) is small means refl

pub returns-in-None-clause-normal : goal.returns-in-None-clause-normal
returns-in-None-clause-normal c l is small =
    let doc = value_document c.args.value.now in
    let means = subst (λ o. IsReference c.args.path.now doc (option_map (λ p. location_view p.steps.items) o)) c.in-None.is c.in_ok-referent.ensures.means in
    normal_reference c.args.path.now l doc None (places.at l doc.root) is small means refl
