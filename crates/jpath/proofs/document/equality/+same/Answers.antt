use Rattle.std.proofs.Common.{rules, sym, ◌∙◌, inl, inr, ap, arith, length, refl, le_refl}
use Rattle.std.proofs.lemmas.Bool.{and_left, and_right}
use Rattle.jsonpath_base.specs.Prelude.{iter_rest}
use Rattle.jsonpath_base.proofs.SameWalks.{not_true, not_false, compare_first, compare_here, compare_fit, compare_next, compare_end, and_then}
use Rattle.jpath.proofs.DocumentViews.{array_items_whole, object_entries_whole}
use Rattle.jpath.proofs.SameWalks.{array_weight, object_weight, other_length, entries_walk, other_count}
use Rattle.jpath.proofs.document.equality.+same.Goals as goal
use Rattle.jpath.proofs.document.equality.+same.Goals.{same_members-then-ne-via-then-ne, same_members-then-ne-via-else-ne+then-not-same}

pub same-same_items-requires : goal.same-same_items-requires
same-same_items-requires t c = (omega (arith, array_weight _ _ c.in-Array-Array.is-0), (array_items_whole _ _ c.in-Array-Array.is-0 c.requires.left_whole, array_items_whole _ _ c.in-Array-Array.is-1 c.requires.right_whole))

pub same-same_members-requires : goal.same-same_members-requires
same-same_members-requires t c = (omega (arith, object_weight _ _ c.in-Object-Object.is-0), (object_entries_whole _ _ c.in-Object-Object.is-0 c.requires.left_whole, object_entries_whole _ _ c.in-Object-Object.is-1 c.requires.right_whole))

pub same_items-returns-then-len : goal.same_items-returns-then-len
same_items-returns-then-len t c = other_length c.args.items.now.items c.args.others.now.items (λ e. c.if-len.true (search (rules, e)))

pub same_items-loop-item-init : goal.same_items-loop-item-init
same_items-loop-item-init t c =
    compare_first _ _ _ _ refl (le_refl _) c.requires.items_whole c.requires.others_whole
    (ap (λ z. iter_rest z.a) c.into_iter-item-iterator.ensures.into_iter_gives ∙ ap iter_rest c.zip-item-items.ensures.first ∙ c.iter.ensures.rest ∙ c.deref.ensures.value)
    (ap (λ z. iter_rest z.b) c.into_iter-item-iterator.ensures.into_iter_gives ∙ ap iter_rest c.zip-item-items.ensures.second ∙ c.iter-2.ensures.rest ∙ c.deref-2.ensures.value)
    (search rules)

pub same_items-same-requires : goal.same_items-same-requires
same_items-same-requires t c =
    let here = compare_here c.loop-item.invariant c.in-Some.ensures.steps.0 c.in-Some.ensures.steps.1 in
    (omega (arith, here.lighter), compare_fit here)

pub same_items-returns-then-not-same : goal.same_items-returns-then-not-same
same_items-returns-then-not-same t c =
    let here = compare_here c.loop-item.invariant c.in-Some.ensures.steps.0 c.in-Some.ensures.steps.1 in
    sym (here.answer ∙ and_left _ _ (sym c.if-not-same.ensures))

pub same_items-loop-item-preserved : goal.same_items-loop-item-preserved
same_items-loop-item-preserved t c =
    let here = compare_here c.loop-item.invariant c.in-Some.ensures.steps.0 c.in-Some.ensures.steps.1 in
    compare_next here (and_then _ _ c.if-not-same.ensures) (omega arith)

pub same_items-returns : goal.same_items-returns
same_items-returns t c = sym (compare_end _ _ c.loop-item.invariant (elim c.in-None.ensures.steps [ inl h ↦ inl h.1.0 | inr h ↦ inr h.1.0 ]))

pub same_members-returns-then-len : goal.same_members-returns-then-len
same_members-returns-then-len t c = other_count _ _ c.len.ensures.ordered c.len-2.ensures.ordered (λ e. c.if-len.true (c.len.ensures.len ∙ e ∙ sym c.len-2.ensures.len))

pub same_members-loop-name-init : goal.same_members-loop-name-init
same_members-loop-name-init t c =
    compare_first _ _ _ _ (entries_walk _ _ c.len.ensures.ordered c.len-2.ensures.ordered) (le_refl _) c.requires.members_whole c.requires.others_whole
    (ap (λ z. z.a) c.into_iter-name-iterator.ensures.into_iter_gives ∙ c.zip-name-items.ensures.first ∙ c.iter.ensures.rest)
    (ap (λ z. z.b) c.into_iter-name-iterator.ensures.into_iter_gives ∙ c.zip-name-items.ensures.second ∙ c.iter-2.ensures.rest)
    (search rules)

pub same_members-same-requires : goal.same_members-same-requires
same_members-same-requires t c =
    let here = compare_here c.loop-name.invariant c.in-Some.ensures.steps.0 c.in-Some.ensures.steps.1 in
    (omega (arith, here.lighter), compare_fit here)

pub same_members-returns-then-ne : goal.same_members-returns-then-ne
same_members-returns-then-ne t c =
    let here = compare_here c.loop-name.invariant c.in-Some.ensures.steps.0 c.in-Some.ensures.steps.1 in
    elim c.then-ne.branch [
      | same_members-then-ne-via-then-ne w ↦ sym (here.answer ∙ and_left _ _ (not_true _ w.if-ne.ensures))
      | same_members-then-ne-via-else-ne+then-not-same w ↦ sym (here.answer ∙ and_right _ _ (and_left _ _ (sym w.if-not-same.ensures)))
    ]

pub same_members-loop-name-preserved : goal.same_members-loop-name-preserved
same_members-loop-name-preserved t c =
    let here = compare_here c.loop-name.invariant c.in-Some.ensures.steps.0 c.in-Some.ensures.steps.1 in
    compare_next here (and_then _ _ (sym (not_false _ c.if-ne.ensures)) ∙ and_then _ _ c.if-not-same.ensures) (omega arith)

pub same_members-returns : goal.same_members-returns
same_members-returns t c = sym (compare_end _ _ c.loop-name.invariant (elim c.in-None.ensures.steps [ inl h ↦ inl (ap length h.1.0) | inr h ↦ inr (ap length h.1.0) ]))
