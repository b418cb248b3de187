use Rattle.std.proofs.Common.{◌<◌, ◌+◌, length, drop, true≢false, ◌∷◌, BTreeMap, String, Global, string_bytes, string_cmp, nat_cmp, refl, sym, ap, ◌∙◌, arith}
use Rattle.std.proofs.lemmas.List.{drop_all}
use Rattle.jsonpath_base.specs.Prelude.{index, items_view, level_in_order, lookup, marked, marked_below, marks_total, members_thinned, members_view, name, out-LocationTrie, remove_entry, set_value, thinned_below, to_member, Value, view}
use Rattle.serde_json.proofs.Views.{view-Array, view-Object}
use Rattle.jsonpath_base.proofs.Marking.{count_out, marked_here, marked_member, marked_element, name_test, index_test, are_keys}
use Rattle.jsonpath_base.proofs.InOrder.{level_sorted, turn}
use Rattle.jsonpath_base.proofs.OrderedMarks.{names_in_order, indexes_in_order}
use Rattle.jsonpath_base.proofs.Removing.{array_thinned, object_thinned, write_below, beyond_below, here_below, items_end, absent_thinned, removed_thinned, written_thinned, members_end, is_entry}
use Rattle.jsonpath_base.proofs.removal.+thin.Goals as goal

pub thin-thin_items-requires : goal.thin-thin_items-requires
thin-thin_items-requires t c =
    (omega (arith, count_out c.args.marks.now, ap marks_total c.deref.ensures.value), ap (level_in_order nat_cmp) c.deref.ensures.value ∙ indexes_in_order c.args.marks.now c.requires)

pub thin-thin_members-requires : goal.thin-thin_members-requires
thin-thin_members-requires t c =
    let same = c.deref-in-Some-as_object_mut.ensures.value in
    (omega (arith, count_out c.args.marks.now, ap marks_total same), ap (level_in_order string_cmp) same ∙ names_in_order c.args.marks.now c.requires)

pub thin-returns-in-Some : goal.thin-returns-in-Some
thin-returns-in-Some t c =
    let m = c.args.marks.now in
    let keys = are_keys index nat_cmp index_test _ (level_sorted nat_cmp (out-LocationTrie m).indexes.items (indexes_in_order m c.requires)) in
    view-Array c.thin_items.new.items
    ∙ array_thinned (marked_below index c.deref.result.now) (marked m) (view c.args.value.now) _ _ (λ i l. ap (λ es. marked_below index es (index i ∷ l)) c.deref.ensures.value ∙ sym (marked_element m keys i l)) c.in-Some.ensures.value c.thin_items.ensures

pub thin-returns-in-Some-as_object_mut : goal.thin-returns-in-Some-as_object_mut
thin-returns-in-Some-as_object_mut t c =
    let m = c.args.marks.now in let d = c.deref-in-Some-as_object_mut in
    let keys = are_keys to_member string_cmp name_test _ (level_sorted string_cmp (out-LocationTrie m).names.items (names_in_order m c.requires)) in
    view-Object c.thin_members.new.members
    ∙ object_thinned (marked_below to_member d.result.now) (marked m) (view c.args.value.now) _ _ (λ k l. ap (λ es. marked_below to_member es (name k ∷ l)) d.ensures.value ∙ sym (marked_member m keys k l)) c.in-Some-as_object_mut.ensures.value c.thin_members.ensures

pub thin_item-returns-then-marks : goal.thin_item-returns-then-marks
thin_item-returns-then-marks t c =
    let m = c.args.marks.now in
    record { each = λ es none. here_below c.args.index m es none (marked_here m ∙ c.if-marks.true) 0 (items_view c.args.items.now.items) }

pub thin_item-returns-in-Some : goal.thin_item-returns-in-Some
thin_item-returns-in-Some t c =
    let m = c.args.marks.now in let vs = c.args.items.now in let j = c.args.index in
    let within : j < length vs.items = omega (arith, c.in-Some.ensures.variant.0 refl, vs.ok.0) in
    record { each = λ es none. write_below vs.items j 0 j c.in-Some.item.now c.thin.new.value m es (omega arith) within c.in-Some.ensures.value none (marked_here m ∙ c.if-marks.false) c.thin.ensures }

pub thin_item-returns-in_default : goal.thin_item-returns-in_default
thin_item-returns-in_default t c =
    let m = c.args.marks.now in let vs = c.args.items.now in let j = c.args.index in
    let outside : j < length vs.items → ⊥ = λ h. true≢false (sym (c.in_default.ensures.variant.1 (omega (arith, h, vs.ok.0)))) in
    record { each = λ es none. sym (beyond_below vs.items 0 j m es (omega (arith, outside))) }

pub thin_member-returns-then-marks : goal.thin_member-returns-then-marks
thin_member-returns-then-marks t c =
    let m = c.args.marks.now in let k = c.args.name.now in let old = c.args.members.now.entries in
    let text = c.as_str.ensures.value in
    let rest = c.remove.ensures.entries ∙ ap (λ q. remove_entry (is_entry q) old) text in
    let gone = ap (lookup (is_entry (string_bytes k))) (sym rest) ∙ ap (λ q. lookup (is_entry q) c.remove.new.self.entries) (sym text) ∙ c.remove.ensures.updates.1 in
    record { each = λ es none. ap (λ xs. members_thinned (marked_below to_member es) (members_view xs)) rest ∙ removed_thinned k m es old gone (marked_here m ∙ c.if-marks.true) }

pub thin_member-returns-in-Some : goal.thin_member-returns-in-Some
thin_member-returns-in-Some t c =
    let m = c.args.marks.now in let k = c.args.name.now in let old = c.args.members.now.entries in let w = c.thin.new.value in
    let text = c.as_str-2.ensures.value in
    let written = (c.get_mut.follows.holds w).0 ∙ ap (λ q. set_value (is_entry q) old w) text in
    let found = ap (λ q. lookup (is_entry q) old) (sym text) ∙ sym c.in-Some.ensures.value in
    record {
      each = λ es none. ap (λ xs. members_thinned (marked_below to_member es) (members_view xs)) written
          ∙ written_thinned k m es old c.in-Some.member.now w c.get_mut.ensures.ordered found none (marked_here m ∙ c.if-marks.false) c.thin.ensures;
    }

pub thin_member-returns-in_default : goal.thin_member-returns-in_default
thin_member-returns-in_default t c =
    let m = c.args.marks.now in let k = c.args.name.now in let old = c.args.members.now.entries in
    let absent = ap (λ q. lookup (is_entry q) old) (sym c.as_str-2.ensures.value) ∙ sym c.in_default.ensures.value in
    record { each = λ es none. ap (λ (n : BTreeMap (String Global) Value). members_thinned (marked_below to_member es) (members_view n.entries)) c.get_mut.follows.holds-at-none ∙ sym (absent_thinned k m es old absent) }

pub thin_items-thin_item-requires : goal.thin_items-thin_item-requires
thin_items-thin_item-requires t c =
    let at = turn index nat_cmp index_test c.args.marks.now c.loop-index.index-index c.loop-index-item.result c.requires c.loop-index-test.true c.loop-index-item.is in
    (omega (arith, at.fewer), at.ordered)

pub thin_items-loop-index-preserved : goal.thin_items-loop-index-preserved
thin_items-loop-index-preserved t c =
    let l = c.loop-index in
    let at = turn index nat_cmp index_test c.args.marks.now l.index-index c.loop-index-item.result c.requires c.loop-index-test.true c.loop-index-item.is in
    c.thin_item.ensures.each (drop (l.index-index + 1) c.args.marks.now) at.once ∙ ap (λ es. thinned_below es 0 (items_view l.items.items)) (sym at.all) ∙ l.invariant

pub thin_items-returns : goal.thin_items-returns
thin_items-returns t c =
    let l = c.loop-index in let marks = c.args.marks.now in
    items_end marks (items_view l.items.items) _ _ (ap (λ es. thinned_below es 0 (items_view l.items.items)) (sym (drop_all l.index-index marks c.loop-index-test.false)) ∙ l.invariant) c.drop_marked.ensures

pub thin_members-thin_member-requires : goal.thin_members-thin_member-requires
thin_members-thin_member-requires t c =
    let at = turn to_member string_cmp name_test c.args.marks.now c.loop-name.name-index c.loop-name-item.result c.requires c.loop-name-test.true c.loop-name-item.is in
    (omega (arith, at.fewer), at.ordered)

pub thin_members-loop-name-preserved : goal.thin_members-loop-name-preserved
thin_members-loop-name-preserved t c =
    let l = c.loop-name in
    let at = turn to_member string_cmp name_test c.args.marks.now l.name-index c.loop-name-item.result c.requires c.loop-name-test.true c.loop-name-item.is in
    c.thin_member.ensures.each (drop (l.name-index + 1) c.args.marks.now) at.once ∙ ap (λ es. members_thinned (marked_below to_member es) (members_view l.members.entries)) (sym at.all) ∙ l.invariant

pub thin_members-returns : goal.thin_members-returns
thin_members-returns t c =
    let l = c.loop-name in let marks = c.args.marks.now in
    members_end marks _ _ (ap (λ es. members_thinned (marked_below to_member es) (members_view l.members.entries)) (sym (drop_all l.name-index marks c.loop-name-test.false)) ∙ l.invariant)
