use Rattle.std.proofs.Common.{◌≡◌, [], ◌∷◌, ◌++◌, map, string_bytes, sym, ap, ◌∙◌, subst, append_assoc, append-nil}
use Rattle.std.proofs.lemmas.List.{take_all}
use Rattle.std.specs.List.Sorted.{IsStrictlySortedBy}
use Rattle.std.specs.Map.{keys_of}
use Rattle.std.specs.String.{string_cmp}
use Rattle.serde_json.proofs.Views.{Entry}
use Rattle.cases.specs.DocTree.{pairs_of, trees}
use Rattle.cases.proofs.Copying.{pairs_of-insert_entry}
use Rattle.cases.proofs.OfValues.{turned_value, turned_entries, turned_trees-items, turned_members-entries, put_turned, of_object}
use Rattle.cases.proofs.doc.conversions.+of_value.Goals as goal

pub of_items-returns : goal.of_items-returns
of_items-returns t c =
    let all = c.deref-item-items.result.now in
    ap trees (c.loop-item.invariant ∙ ap (map turned_value) (take_all c.loop-item.item-index all c.loop-item-test.false ∙ c.deref-item-items.ensures.value)) ∙ sym (turned_trees-items c.args.items.now.items)

pub of_members-loop-key-preserved : goal.of_members-loop-key-preserved
of_members-loop-key-preserved t c =
    let l = c.loop-key in
    let done = l.invariant.0 in
    let e : Entry = (c.in-Some.key.now, c.in-Some.member.now) in
    let left = c.next.new.self in
    let all : c.args.members.now.entries ≡ done ++ e ∷ left = l.invariant.1 ∙ ap (λ es. done ++ es) c.in-Some.ensures.steps in
    let last = put_turned done e left (subst (λ es. IsStrictlySortedBy string_cmp (keys_of es)) all c.iter-key-items.ensures.ordered) in
    let same_name : string_bytes c.in_ok-name.name ≡ string_bytes e.0 = c.in_ok-name.ensures.cases in (
      done ++ e ∷ [],
      all ∙ sym (append_assoc done (e ∷ []) left),
      ap pairs_of c.in_ok-insert.ensures.entries ∙ pairs_of-insert_entry l.docs.entries c.in_ok-name.name c.in_ok-of_value.field-0 ∙ rw (same_name, c.in_ok-of_value.ensures, l.invariant.2) last,
    )

pub of_members-returns : goal.of_members-returns
of_members-returns t c =
    let l = c.loop-key in
    let all = l.invariant.1 ∙ ap (λ es. l.invariant.0 ++ es) c.in-None.ensures.steps.0 ∙ append-nil l.invariant.0 in
    l.invariant.2 ∙ ap turned_entries (sym all) ∙ sym (turned_members-entries c.args.members.now.entries)

pub of_value-returns-in_ok-of_members-in-Object : goal.of_value-returns-in_ok-of_members-in-Object
of_value-returns-in_ok-of_members-in-Object t c = of_object c.args.value.now c.in-Object.members c.in_ok-of_members-in-Object.field-0 c.in-Object.is c.in_ok-of_members-in-Object.ensures
