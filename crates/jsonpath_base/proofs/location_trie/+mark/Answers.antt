use Rattle.std.proofs.Common.{◌≡◌, ℕ, ◌+◌, ◌-◌, ◌++◌, [], ◌<◌, ◌∷◌, length, get_or, String, Global, string_bytes, ap, sym, ◌∙◌, refl, arith}
use Rattle.jsonpath_base.specs.Prelude.{index, lent_location, lent_step, LocationTrie, name, to_member}
use Rattle.jsonpath_base.proofs.Marking.{on_ok}
use Rattle.jsonpath_base.proofs.LastMarks.{last_key, last_further, adds_set, adds_push, adds_here, adds_member, adds_element, at_members, at_elements}
use Rattle.jsonpath_base.proofs.location_trie.+mark.Goals as goal
use Rattle.jsonpath_base.proofs.location_trie.+mark.Goals.{mark_element-then-ends_with_index+in_default, mark_element-else-ends_with_index, mark_member-then-ends_with_name+in_default, mark_member-else-ends_with_name}

pub mark-returns-in-None : goal.mark-returns-in-None
mark-returns-in-None t c = λ _. adds_here c.args.marks.now c.args.steps.now c.in-None.ensures.cases

pub mark-returns-in-Some-Name-default : goal.mark-returns-in-Some-Name-default
mark-returns-in-Some-Name-default t c =
    let s = c.in-Some-Name-default in
    let m = c.args.marks.now in let n = c.args.shared_len in
    let k = s.name.now in let rest = lent_location s.rest.now in let at = lent_location c.args.steps.now in
    let steps = ap lent_location s.ensures.cases.0 ∙ ap (λ r. lent_step r ∷ lent_location s.rest.now) s.field-0-0-is in
    on_ok c.mark_member.result (λ h tied. adds_member m c.mark_member.new.below k rest at steps (h (at_members m n k rest at steps tied))) c.mark_member.ensures

pub mark-returns-in-Some-Index-default : goal.mark-returns-in-Some-Index-default
mark-returns-in-Some-Index-default t c =
    let s = c.in-Some-Index-default in
    let m = c.args.marks.now in let n = c.args.shared_len in
    let i = s.index in let rest = lent_location s.rest.now in let at = lent_location c.args.steps.now in
    let steps = ap lent_location s.ensures.cases.0 ∙ ap (λ r. lent_step r ∷ lent_location s.rest.now) s.field-0-0-is in
    on_ok c.mark_element.result (λ h tied. adds_element m c.mark_element.new.below i rest at steps (h (at_elements m n i rest at steps tied))) c.mark_element.ensures

pub mark_element-returns-in-Some : goal.mark_element-returns-in-Some
mark_element-returns-in-Some t c =
    let old = c.args.below.now in let e = c.in-Some.last.now in
    let s = index c.args.index in let rest = lent_location c.args.rest.now in
    let within : old.len - 1 < length old.items = omega (arith, c.in-Some.ensures.variant.0 refl, old.ok.0) in
    let at : (old.len - 1) + 1 ≡ length old.items = omega (arith, c.in-Some.ensures.variant.0 refl, old.ok.0) in
    let last : old.len - 1 ≡ length c.deref.result.now - 1 = omega (arith, c.deref.ensures.len) in
    let of : c.args.shared_len ≡ 0 → e.0 ≡ c.args.index = λ none.
    ap (λ (x : ℕ × LocationTrie). x.0) (c.in-Some.ensures.value ∙ ap (λ n. get_or old.items n e) last ∙ ap (λ es. get_or es (length c.deref.result.now - 1) e) (sym c.deref.ensures.value)) ∙ c.ends_with_index.ensures e c.if-ends_with_index.true none in
    let key = last_key index c.args.shared_len s rest old.items e (old.len - 1) (λ none. ap index (of none)) at c.in-Some.ensures.value in
    let further = last_further index c.args.shared_len c.saturating_sub.result s rest old.items e (old.len - 1) c.saturating_sub.ensures at c.in-Some.ensures.value in
    on_ok c.mark.result (λ h tied. adds_set index old.items (old.len - 1) e c.mark.new.marks s rest within at c.in-Some.ensures.value (key tied) (h (further tied))) c.mark.ensures

pub mark_element-returns : goal.mark_element-returns
mark_element-returns t c =
    let old = c.args.below.now.items in
    let same : c.if-ends_with_index.below.items ≡ old = elim c.if-ends_with_index.branch [ mark_element-then-ends_with_index+in_default w ↦ ap (λ v. v.items) w.below-is | mark_element-else-ends_with_index w ↦ ap (λ v. v.items) w.below-is ] in
    λ _. adds_push index old c.push.new.self.items c.args.index c.new-marks.result c.mark-2.new.marks (index c.args.index) (lent_location c.args.rest.now)
    (c.in_ok-push.ensures.items ∙ ap (λ x. x ++ (c.args.index, c.mark-2.new.marks) ∷ []) (c.in_ok-make_room.ensures ∙ same)) c.new-marks.ensures.none refl (c.in_ok-mark.ensures tt)

pub mark_member-returns-in-Some : goal.mark_member-returns-in-Some
mark_member-returns-in-Some t c =
    let old = c.args.below.now in let e = c.in-Some.last.now in
    let s = name c.args.name.now in let rest = lent_location c.args.rest.now in
    let within : old.len - 1 < length old.items = omega (arith, c.in-Some.ensures.variant.0 refl, old.ok.0) in
    let at : (old.len - 1) + 1 ≡ length old.items = omega (arith, c.in-Some.ensures.variant.0 refl, old.ok.0) in
    let last : old.len - 1 ≡ length c.deref.result.now - 1 = omega (arith, c.deref.ensures.len) in
    let of : c.args.shared_len ≡ 0 → string_bytes e.0 ≡ c.args.name.now = λ none.
    ap (λ (x : String Global × LocationTrie). string_bytes x.0) (c.in-Some.ensures.value ∙ ap (λ n. get_or old.items n e) last ∙ ap (λ es. get_or es (length c.deref.result.now - 1) e) (sym c.deref.ensures.value)) ∙ c.ends_with_name.ensures e c.if-ends_with_name.true none in
    let key = last_key to_member c.args.shared_len s rest old.items e (old.len - 1) (λ none. ap name (of none)) at c.in-Some.ensures.value in
    let further = last_further to_member c.args.shared_len c.saturating_sub.result s rest old.items e (old.len - 1) c.saturating_sub.ensures at c.in-Some.ensures.value in
    on_ok c.mark.result (λ h tied. adds_set to_member old.items (old.len - 1) e c.mark.new.marks s rest within at c.in-Some.ensures.value (key tied) (h (further tied))) c.mark.ensures

pub mark_member-returns : goal.mark_member-returns
mark_member-returns t c =
    let old = c.args.below.now.items in
    let same : c.if-ends_with_name.below.items ≡ old = elim c.if-ends_with_name.branch [ mark_member-then-ends_with_name+in_default w ↦ ap (λ v. v.items) w.below-is | mark_member-else-ends_with_name w ↦ ap (λ v. v.items) w.below-is ] in
    λ _. adds_push to_member old c.push.new.self.items c.in_ok-key.key c.new-marks.result c.mark-2.new.marks (name c.args.name.now) (lent_location c.args.rest.now)
    (c.in_ok-push.ensures.items ∙ ap (λ x. x ++ (c.in_ok-key.key, c.mark-2.new.marks) ∷ []) (c.in_ok-make_room.ensures ∙ same)) c.new-marks.ensures.none (ap name c.in_ok-key.ensures.ok) (c.in_ok-mark.ensures tt)
