use Rattle.std.proofs.Common.{◌≡◌, ◌∷◌, ◌<◌, length, true≢false, refl, sym, ap, ◌∙◌, arith}
use Rattle.jsonpath_base.specs.Prelude.{index, location_view, name, owned_step, with_item}
use Rattle.jsonpath_base.proofs.AddedBelow.{at_location, below_element, past_elements, below_member, absent_members}
use Rattle.jsonpath_base.proofs.adding.+add_below.Goals as goal

pub returns-in-Some-get_mut : goal.returns-in-Some-get_mut
returns-in-Some-get_mut t c =
    let v = c.in-Some-as_array_mut.items.now in let i = c.in-Index.index in let l = location_view c.in-Some.rest.now in
    let steps : location_view c.args.parent.now ≡ index i ∷ l = ap location_view c.in-Some.ensures.cases.0 ∙ ap (λ s. owned_step s ∷ l) c.in-Index.is in
    let below = c.in-Some-get_mut.ensures.variant.0 refl in let within : i < length v.items = omega (arith, below, v.ok.0) in
    at_location _ _ _ _ _ _ _ steps
    (below_element c.args.value.now v (with_item v i c.add_below.new.value) i l (owned_step c.args.step) c.args.new c.in-Some-get_mut.item.now c.add_below.new.value c.add_below.result c.in-Some-as_array_mut.ensures.value within c.in-Some-get_mut.ensures.value refl c.add_below.ensures)

pub returns-in-None-get_mut : goal.returns-in-None-get_mut
returns-in-None-get_mut t c =
    let v = c.in-Some-as_array_mut.items.now in let i = c.in-Index.index in let l = location_view c.in-Some.rest.now in
    let steps : location_view c.args.parent.now ≡ index i ∷ l = ap location_view c.in-Some.ensures.cases.0 ∙ ap (λ s. owned_step s ∷ l) c.in-Index.is in
    let outside : i < length v.items → ⊥ = λ h. true≢false (sym (c.in-None-get_mut.ensures.variant.1 (omega (arith, h, v.ok.0)))) in
    at_location _ _ _ _ _ _ _ steps
    (past_elements c.args.value.now v i l (owned_step c.args.step) c.args.new c.in-Some-as_array_mut.ensures.value (omega (arith, outside)))

pub returns-in-Some-get_mut-2 : goal.returns-in-Some-get_mut-2
returns-in-Some-get_mut-2 t c =
    let m = c.in-Some-as_object_mut.members.now in let k = c.as_str.result.now in let l = location_view c.in-Some.rest.now in
    let steps : location_view c.args.parent.now ≡ name k ∷ l = ap location_view c.in-Some.ensures.cases.0 ∙ ap (λ s. owned_step s ∷ l) c.in-Name.is ∙ ap (λ n. name n ∷ l) (sym c.as_str.ensures.value) in
    at_location _ _ _ _ _ _ _ steps
    (below_member c.args.value.now m _ k l (owned_step c.args.step) c.args.new c.in-Some-get_mut-2.member.now c.add_below-in-Some-get_mut-2.new.value c.add_below-in-Some-get_mut-2.result c.in-Some-as_object_mut.ensures.value c.in-Some-get_mut-2.ensures.value (c.get_mut-in-Some-as_object_mut.follows.holds c.add_below-in-Some-get_mut-2.new.value).0 c.add_below-in-Some-get_mut-2.ensures)

pub returns-in-None-get_mut-2 : goal.returns-in-None-get_mut-2
returns-in-None-get_mut-2 t c =
    let m = c.in-Some-as_object_mut.members.now in let k = c.as_str.result.now in let l = location_view c.in-Some.rest.now in
    let steps : location_view c.args.parent.now ≡ name k ∷ l = ap location_view c.in-Some.ensures.cases.0 ∙ ap (λ s. owned_step s ∷ l) c.in-Name.is ∙ ap (λ n. name n ∷ l) (sym c.as_str.ensures.value) in
    at_location _ _ _ _ _ _ _ steps
    (absent_members c.args.value.now m _ k l (owned_step c.args.step) c.args.new c.in-Some-as_object_mut.ensures.value c.in-None-get_mut-2.ensures.value c.get_mut-in-Some-as_object_mut.follows.holds-at-none)
