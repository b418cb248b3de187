use Rattle.std.proofs.Common.{◌≡◌, ◌<◌, ◌+◌, length, drop, true≢false, ◌∷◌, BTreeMap, String, Global, string_cmp, nat_cmp, refl, sym, ap, ◌∙◌, arith}
use Rattle.std.proofs.lemmas.List.{drop_all}
use Rattle.jsonpath_base.specs.Prelude.{index, items_overwritten, items_view, level_in_order, lookup, marked, marked_below, marks_total, members_overwritten, members_view, name, out-LocationTrie, outermost_total, set_value, to_member, Value, view}
use Rattle.serde_json.proofs.Views.{view-Array, view-Object}
use Rattle.jsonpath_base.proofs.Filling.{put_here, gone_into, array_filled, object_filled, scalar_filled, element_filled, beyond_filled, items_end, absent_filled, member_filled, members_end, outermost_here, outermost_inside}
use Rattle.jsonpath_base.proofs.InOrder.{level_sorted, turn}
use Rattle.jsonpath_base.proofs.Marking.{count_out, marked_member, marked_element, name_test, index_test, are_keys}
use Rattle.jsonpath_base.proofs.OrderedMarks.{names_in_order, indexes_in_order}
use Rattle.jsonpath_base.proofs.Removing.{is_entry}
use Rattle.jsonpath_base.proofs.masking.+fill.Goals as goal

pub fill-put_copy-requires : goal.fill-put_copy-requires
fill-put_copy-requires t c = omega (arith, outermost_here c.args.marks.now c.if-marks.true, c.requires.enough)

pub fill-returns-then-marks-clause-filled : goal.fill-returns-then-marks-clause-filled
fill-returns-then-marks-clause-filled t c = λ u all. c.put_copy.ensures.put u all ∙ put_here c.args.marks.now u (view c.args.value.now) c.if-marks.true

pub fill-returns-then-marks-clause-fewer : goal.fill-returns-then-marks-clause-fewer
fill-returns-then-marks-clause-fewer t c = omega (arith, outermost_here c.args.marks.now c.if-marks.true, c.put_copy.ensures.fewer)

pub fill-fill_items-requires : goal.fill-fill_items-requires
fill-fill_items-requires t c =
    let m = c.args.marks.now in let same = c.deref.ensures.value in
    let needed : outermost_total c.deref.result.now ≡ outermost_total (out-LocationTrie m).indexes.items = ap outermost_total same in
    (omega (arith, count_out m, ap marks_total same), (ap (level_in_order nat_cmp) same ∙ indexes_in_order m c.requires.ordered, omega (arith, outermost_inside m c.if-marks.false, c.requires.enough, needed)))

pub fill-fill_members-requires : goal.fill-fill_members-requires
fill-fill_members-requires t c =
    let m = c.args.marks.now in let d = c.deref-in-Some-as_object_mut in
    let needed : outermost_total d.result.now ≡ outermost_total (out-LocationTrie m).names.items = ap outermost_total d.ensures.value in
    (omega (arith, count_out m, ap marks_total d.ensures.value), (ap (level_in_order string_cmp) d.ensures.value ∙ names_in_order m c.requires.ordered, omega (arith, outermost_inside m c.if-marks.false, c.requires.enough, needed)))

pub fill-returns-in-Some-clause-filled : goal.fill-returns-in-Some-clause-filled
fill-returns-in-Some-clause-filled t c = λ u all.
    let m = c.args.marks.now in let d = view c.args.value.now in
    let keys = are_keys index nat_cmp index_test _ (level_sorted nat_cmp (out-LocationTrie m).indexes.items (indexes_in_order m c.requires.ordered)) in
    view-Array c.fill_items.new.items
    ∙ array_filled (marked_below index c.deref.result.now) (marked m) u d _ _ (λ i l. ap (λ es. marked_below index es (index i ∷ l)) c.deref.ensures.value ∙ sym (marked_element m keys i l)) c.in-Some.ensures.value (c.fill_items.ensures.filled u all)
    ∙ gone_into m u d c.if-marks.false

pub fill-returns-in-Some-clause-fewer : goal.fill-returns-in-Some-clause-fewer
fill-returns-in-Some-clause-fewer t c = omega (arith, outermost_inside c.args.marks.now c.if-marks.false, c.fill_items.ensures.fewer, ap outermost_total c.deref.ensures.value)

pub fill-returns-in-Some-as_object_mut-clause-filled : goal.fill-returns-in-Some-as_object_mut-clause-filled
fill-returns-in-Some-as_object_mut-clause-filled t c = λ u all.
    let m = c.args.marks.now in let d = view c.args.value.now in let lent = c.deref-in-Some-as_object_mut in
    let keys = are_keys to_member string_cmp name_test _ (level_sorted string_cmp (out-LocationTrie m).names.items (names_in_order m c.requires.ordered)) in
    view-Object c.fill_members.new.members
    ∙ object_filled (marked_below to_member lent.result.now) (marked m) u d _ _ (λ k l. ap (λ es. marked_below to_member es (name k ∷ l)) lent.ensures.value ∙ sym (marked_member m keys k l)) c.in-Some-as_object_mut.ensures.value (c.fill_members.ensures.filled u all)
    ∙ gone_into m u d c.if-marks.false

pub fill-returns-in-Some-as_object_mut-clause-fewer : goal.fill-returns-in-Some-as_object_mut-clause-fewer
fill-returns-in-Some-as_object_mut-clause-fewer t c = omega (arith, outermost_inside c.args.marks.now c.if-marks.false, c.fill_members.ensures.fewer, ap outermost_total c.deref-in-Some-as_object_mut.ensures.value)

pub fill-returns-in_default-as_object_mut-clause-filled : goal.fill-returns-in_default-as_object_mut-clause-filled
fill-returns-in_default-as_object_mut-clause-filled t c = λ u all.
    let m = c.args.marks.now in let d = view c.args.value.now in
    scalar_filled (marked m) u d c.in_default.ensures.value c.in_default-as_object_mut.ensures.value ∙ gone_into m u d c.if-marks.false

pub fill_item-returns-in-Some-clause-filled : goal.fill_item-returns-in-Some-clause-filled
fill_item-returns-in-Some-clause-filled t c = λ u all.
    let m = c.args.marks.now in let vs = c.args.items.now in let j = c.args.index in
    let within : j < length vs.items = omega (arith, c.in-Some.ensures.variant.0 refl, vs.ok.0) in
    record { each = λ es none. element_filled u vs.items j 0 j c.in-Some.item.now c.fill.new.value m es (omega arith) within c.in-Some.ensures.value none (c.fill.ensures.filled u all) }

pub fill_item-returns-in_default-clause-filled : goal.fill_item-returns-in_default-clause-filled
fill_item-returns-in_default-clause-filled t c = λ u all.
    let m = c.args.marks.now in let vs = c.args.items.now in let j = c.args.index in
    let outside : j < length vs.items → ⊥ = λ h. true≢false (sym (c.in_default.ensures.variant.1 (omega (arith, h, vs.ok.0)))) in
    record { each = λ es none. sym (beyond_filled u vs.items 0 j m es (omega (arith, outside))) }

pub fill_member-returns-in-Some-clause-filled : goal.fill_member-returns-in-Some-clause-filled
fill_member-returns-in-Some-clause-filled t c = λ u all.
    let m = c.args.marks.now in let k = c.args.name.now in let old = c.args.members.now.entries in let w = c.fill.new.value in
    let text = c.as_str.ensures.value in
    let written = (c.get_mut.follows.holds w).0 ∙ ap (λ q. set_value (is_entry q) old w) text in
    let found = ap (λ q. lookup (is_entry q) old) (sym text) ∙ sym c.in-Some.ensures.value in
    record {
      each = λ es none. ap (λ xs. members_overwritten (marked_below to_member es) u (members_view xs)) written
          ∙ member_filled u k m es old c.in-Some.member.now w c.get_mut.ensures.ordered found none (c.fill.ensures.filled u all);
    }

pub fill_member-returns-in_default-clause-filled : goal.fill_member-returns-in_default-clause-filled
fill_member-returns-in_default-clause-filled t c = λ u all.
    let m = c.args.marks.now in let k = c.args.name.now in let old = c.args.members.now.entries in
    let absent = ap (λ q. lookup (is_entry q) old) (sym c.as_str.ensures.value) ∙ sym c.in_default.ensures.value in
    record { each = λ es none. ap (λ (n : BTreeMap (String Global) Value). members_overwritten (marked_below to_member es) u (members_view n.entries)) c.get_mut.follows.holds-at-none ∙ sym (absent_filled u k m es old absent) }

pub fill_items-loop-index-init : goal.fill_items-loop-index-init
fill_items-loop-index-init t c = (λ u all. refl, λ u all. all, omega arith)

pub fill_items-fill_item-requires : goal.fill_items-fill_item-requires
fill_items-fill_item-requires t c =
    let l = c.loop-index in
    let at = turn index nat_cmp index_test c.args.marks.now l.index-index c.loop-index-item.result c.requires.ordered c.loop-index-test.true c.loop-index-item.is in
    (omega (arith, at.fewer), (at.ordered, omega (arith, ap outermost_total at.all, l.invariant.2, c.requires.enough)))

pub fill_items-loop-index-preserved : goal.fill_items-loop-index-preserved
fill_items-loop-index-preserved t c =
    let l = c.loop-index in
    let at = turn index nat_cmp index_test c.args.marks.now l.index-index c.loop-index-item.result c.requires.ordered c.loop-index-test.true c.loop-index-item.is in (
      λ u all. (c.fill_item.ensures.filled u (l.invariant.1 u all)).each (drop (l.index-index + 1) c.args.marks.now) at.once ∙ ap (λ es. items_overwritten (marked_below index es) u 0 (items_view l.items.items)) (sym at.all) ∙ l.invariant.0 u all,
      λ u all. c.fill_item.ensures.alike u (l.invariant.1 u all),
      omega (arith, ap outermost_total at.all, c.fill_item.ensures.fewer, l.invariant.2),
    )

pub fill_items-returns-clause-filled : goal.fill_items-returns-clause-filled
fill_items-returns-clause-filled t c = λ u all.
    let l = c.loop-index in let marks = c.args.marks.now in
    items_end u marks (items_view l.items.items) _ (ap (λ es. items_overwritten (marked_below index es) u 0 (items_view l.items.items)) (sym (drop_all l.index-index marks c.loop-index-test.false)) ∙ l.invariant.0 u all)

pub fill_items-returns-clause-alike : goal.fill_items-returns-clause-alike
fill_items-returns-clause-alike t c = c.loop-index.invariant.1

pub fill_items-returns-clause-fewer : goal.fill_items-returns-clause-fewer
fill_items-returns-clause-fewer t c =
    omega (arith, c.loop-index.invariant.2, ap outermost_total (drop_all c.loop-index.index-index c.args.marks.now c.loop-index-test.false))

pub fill_members-loop-name-init : goal.fill_members-loop-name-init
fill_members-loop-name-init t c = (λ u all. refl, λ u all. all, omega arith)

pub fill_members-fill_member-requires : goal.fill_members-fill_member-requires
fill_members-fill_member-requires t c =
    let l = c.loop-name in
    let at = turn to_member string_cmp name_test c.args.marks.now l.name-index c.loop-name-item.result c.requires.ordered c.loop-name-test.true c.loop-name-item.is in
    (omega (arith, at.fewer), (at.ordered, omega (arith, ap outermost_total at.all, l.invariant.2, c.requires.enough)))

pub fill_members-loop-name-preserved : goal.fill_members-loop-name-preserved
fill_members-loop-name-preserved t c =
    let l = c.loop-name in
    let at = turn to_member string_cmp name_test c.args.marks.now l.name-index c.loop-name-item.result c.requires.ordered c.loop-name-test.true c.loop-name-item.is in (
      λ u all. (c.fill_member.ensures.filled u (l.invariant.1 u all)).each (drop (l.name-index + 1) c.args.marks.now) at.once ∙ ap (λ es. members_overwritten (marked_below to_member es) u (members_view l.members.entries)) (sym at.all) ∙ l.invariant.0 u all,
      λ u all. c.fill_member.ensures.alike u (l.invariant.1 u all),
      omega (arith, ap outermost_total at.all, c.fill_member.ensures.fewer, l.invariant.2),
    )

pub fill_members-returns-clause-filled : goal.fill_members-returns-clause-filled
fill_members-returns-clause-filled t c = λ u all.
    let l = c.loop-name in let marks = c.args.marks.now in
    members_end u marks _ _ (ap (λ es. members_overwritten (marked_below to_member es) u (members_view l.members.entries)) (sym (drop_all l.name-index marks c.loop-name-test.false)) ∙ l.invariant.0 u all)

pub fill_members-returns-clause-alike : goal.fill_members-returns-clause-alike
fill_members-returns-clause-alike t c = c.loop-name.invariant.1

pub fill_members-returns-clause-fewer : goal.fill_members-returns-clause-fewer
fill_members-returns-clause-fewer t c =
    omega (arith, c.loop-name.invariant.2, ap outermost_total (drop_all c.loop-name.name-index c.args.marks.now c.loop-name-test.false))
