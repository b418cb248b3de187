use Rattle.std.proofs.Common.{rules, arith, ◌≡◌, ◌<◌, ◌≤◌, ◌+◌, ◌&&◌, false, reverse, drop, length, get_or, sym, ap, ◌∙◌}
use Rattle.std.specs.Option.{option_map_or}
use Rattle.jsonpath_base.specs.Same.{same, same_members}
use Rattle.cases.specs.DocTree.{doc_tree, pairs_of, members}
use Rattle.cases.proofs.Docs.{Entry}
use Rattle.cases.proofs.Parts.{item_distinct, found_distinct, object_values}
use Rattle.cases.proofs.Comparing.{lists_same, objects_same, list_size, object_size, item_size, last_size, list_distinct, object_distinct, same_lists, other_length, items_at, items_end, members_at, found_member, no_member, other_distinct, got_here, both_hold, first_fails}
use Rattle.cases.proofs.doc.sameness.+same.Goals as goal

pub same-same_items-requires : goal.same-same_items-requires
same-same_items-requires t c = (omega (arith, list_size c.args.left.now c.in-List.items c.in-List.is), list_distinct c.args.right.now _ c.in-Some.ensures c.requires)

pub same-same_members-requires : goal.same-same_members-requires
same-same_members-requires t c = (omega (arith, object_size c.args.left.now c.in-Members.entries c.in-Members.is), object_distinct c.args.right.now _ c.in-Some-object.ensures c.requires)

pub same-returns-in-Some : goal.same-returns-in-Some
same-returns-in-Some t c = c.same_items.ensures ∙ lists_same c.args.left.now c.args.right.now c.in-List.items _ c.in-List.is c.in-Some.ensures

pub same-returns-then-same_members : goal.same-returns-then-same_members
same-returns-then-same_members t c =
    both_hold _ _ _ _ _ c.has_names.ensures c.same_members.ensures c.if-same_members.true (objects_same c.args.left.now c.args.right.now c.in-Members.entries _ c.in-Members.is c.in-Some-object.ensures)

pub same-returns-else-same_members : goal.same-returns-else-same_members
same-returns-else-same_members t c =
    first_fails _ _ _ _ c.same_members.ensures c.if-same_members.false (objects_same c.args.left.now c.args.right.now c.in-Members.entries _ c.in-Members.is c.in-Some-object.ensures)

pub same_items-returns-then-len : goal.same_items-returns-then-len
same_items-returns-then-len t c = other_length c.args.left.now.items c.args.right.now.items (λ e. c.if-len.true (search (rules, e)))

pub same_items-same-requires : goal.same_items-same-requires
same_items-same-requires t c =
    let within : c.loop-i.i < length c.args.right.now.items = search rules in
    let here : c.loop-i.i < length c.args.left.now.items = search rules in
    let is : c.item-item.result ≡ get_or c.args.left.now.items c.loop-i.i c.item-item.result = c.item-item.is ∙ ap (λ zs. get_or zs c.loop-i.i c.item-item.result) c.deref-item-items.ensures.value in
    (omega (arith, item_size c.args.left.now.items c.loop-i.i c.item-item.result here is), item_distinct c.args.right.now.items c.loop-i.i c.index.result.now c.requires within c.index.ensures)

pub same_items-returns-then-not-same : goal.same_items-returns-then-not-same
same_items-returns-then-not-same t c =
    let xs = c.args.left.now.items in
    let ys = c.args.right.now.items in
    let i = c.loop-i.i in
    let within : i < length xs = search rules in
    let also : i < length ys = search rules in
    let is : c.item-item.result ≡ get_or xs i c.item-item.result = c.item-item.is ∙ ap (λ zs. get_or zs i c.item-item.result) c.deref-item-items.ensures.value in
    sym (c.loop-i.invariant ∙ items_at xs ys i c.item-item.result c.index.result.now within also is c.index.ensures ∙ ap (λ b. b && same_lists (drop (i + 1) xs) (drop (i + 1) ys)) (sym c.same.ensures ∙ c.if-not-same.true))

pub same_items-loop-i-preserved : goal.same_items-loop-i-preserved
same_items-loop-i-preserved t c =
    let xs = c.args.left.now.items in
    let ys = c.args.right.now.items in
    let i = c.loop-i.i in
    let within : i < length xs = search rules in
    let also : i < length ys = search rules in
    let is : c.item-item.result ≡ get_or xs i c.item-item.result = c.item-item.is ∙ ap (λ zs. get_or zs i c.item-item.result) c.deref-item-items.ensures.value in
    c.loop-i.invariant ∙ items_at xs ys i c.item-item.result c.index.result.now within also is c.index.ensures ∙ ap (λ b. b && same_lists (drop (i + 1) xs) (drop (i + 1) ys)) (sym c.same.ensures ∙ c.if-not-same.false)

pub same_items-returns : goal.same_items-returns
same_items-returns t c =
    let past : length c.args.left.now.items ≤ c.loop-i.i = search rules in
    let also : length c.args.right.now.items ≤ c.loop-i.i = search rules in
    sym (c.loop-i.invariant ∙ items_end c.args.left.now.items c.args.right.now.items c.loop-i.i past also)

pub same_members-returns-in_default : goal.same_members-returns-in_default
same_members-returns-in_default t c =
    let e : Entry = (c.in-Some.name.now, c.in-Some.member.now) in
    let ns = reverse (pairs_of c.args.right.now.entries) in
    let left = c.next.new.self.iter in
    let got = got_here c.args.right.now.entries _ _ c.get.result c.as_str.ensures.value c.requires c.get.ensures.value in
    sym (c.loop-name.invariant.0 ∙ members_at c.loop-name.name-iterator.iter left e ns c.in-Some.ensures.steps
    ∙ ap (λ o. option_map_or (same (doc_tree e.1)) o false && same_members (members (reverse (pairs_of left))) ns) (no_member _ ns c.get.result got c.in_default.is))

pub same_members-same-requires : goal.same_members-same-requires
same_members-same-requires t c =
    let ns = reverse (pairs_of c.args.right.now.entries) in
    let got = got_here c.args.right.now.entries _ _ c.get.result c.as_str.ensures.value c.requires c.get.ensures.value in
    let e : Entry = (c.in-Some.name.now, c.in-Some.member.now) in
    (omega (arith, last_size c.loop-name.name-iterator.iter c.next.new.self.iter e c.in-Some.ensures.steps, c.loop-name.invariant.1), other_distinct _ ns (doc_tree c.in-Some-get.other.now) (found_distinct _ ns (object_values ns c.requires)) (found_member _ ns c.get.result c.in-Some-get.other got c.in-Some-get.is))

pub same_members-returns-then-not-same : goal.same_members-returns-then-not-same
same_members-returns-then-not-same t c =
    let e : Entry = (c.in-Some.name.now, c.in-Some.member.now) in
    let ns = reverse (pairs_of c.args.right.now.entries) in
    let left = c.next.new.self.iter in
    let rest = same_members (members (reverse (pairs_of left))) ns in
    let got = got_here c.args.right.now.entries _ _ c.get.result c.as_str.ensures.value c.requires c.get.ensures.value in
    sym (c.loop-name.invariant.0 ∙ members_at c.loop-name.name-iterator.iter left e ns c.in-Some.ensures.steps
    ∙ ap (λ o. option_map_or (same (doc_tree e.1)) o false && rest) (found_member _ ns c.get.result c.in-Some-get.other got c.in-Some-get.is)
    ∙ ap (λ b. b && rest) (sym c.same.ensures ∙ c.if-not-same.true))

pub same_members-loop-name-preserved : goal.same_members-loop-name-preserved
same_members-loop-name-preserved t c =
    let e : Entry = (c.in-Some.name.now, c.in-Some.member.now) in
    let ns = reverse (pairs_of c.args.right.now.entries) in
    let left = c.next.new.self.iter in
    let rest = same_members (members (reverse (pairs_of left))) ns in
    let got = got_here c.args.right.now.entries _ _ c.get.result c.as_str.ensures.value c.requires c.get.ensures.value in
    let lighter = last_size c.loop-name.name-iterator.iter left e c.in-Some.ensures.steps in (
      c.loop-name.invariant.0 ∙ members_at c.loop-name.name-iterator.iter left e ns c.in-Some.ensures.steps
          ∙ ap (λ o. option_map_or (same (doc_tree e.1)) o false && rest) (found_member _ ns c.get.result c.in-Some-get.other got c.in-Some-get.is)
          ∙ ap (λ b. b && rest) (sym c.same.ensures ∙ c.if-not-same.false),
      omega (arith, lighter, c.loop-name.invariant.1),
    )

pub same_members-returns : goal.same_members-returns
same_members-returns t c =
    let ns = reverse (pairs_of c.args.right.now.entries) in
    sym (c.loop-name.invariant.0 ∙ ap (λ es. same_members (members (reverse (pairs_of es))) ns) c.in-None.ensures.steps.0)
