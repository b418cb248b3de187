use Rattle.std.proofs.Common.{◌≡◌, if◌then◌else◌, ◌+◌, ◌<◌, length, string_cmp, nat_cmp, sym, ap, ◌∙◌, subst, arith}
use Rattle.std.proofs.lemmas.Result.{IfOk-weaker}
use Rattle.jsonpath_base.specs.Prelude.{distinct_count, in_order, index, IsSameSet, listed, marked, marked_in, marks_total, out-LocationTrie, to_member}
use Rattle.jsonpath_base.proofs.Marking.{count_out, name_test, index_test, rolled}
use Rattle.jsonpath_base.proofs.InOrder.{out_here, out_names, out_indexes, rolled_as, same_rolled, order_rolled, count_of_rolled, ok_given, sofar_at, sofar_next, sofar_ordered, sofar_counted, same_then}
use Rattle.jsonpath_base.proofs.ordering.+order.Goals as goal

pub put_in_order-order_members-requires : goal.put_in_order-order_members-requires
put_in_order-order_members-requires t c = (omega (arith, count_out c.args.marks.now), tt)

pub put_in_order-order_elements-requires : goal.put_in_order-order_elements-requires
put_in_order-order_elements-requires t c =
    let m = out-LocationTrie c.args.marks.now in
    (omega (arith, count_out c.args.marks.now, ap (λ v. marks_total v.items) (out_indexes m.is_marked c.order_members.new.below m.indexes)), tt)

pub put_in_order-returns-clause-same : goal.put_in_order-returns-clause-same
put_in_order-returns-clause-same t c =
    let m = c.args.marks.now in let o = out-LocationTrie m in let ns = c.order_members.new.below in let is = c.order_elements.new.below in
    let last = subst (λ v. IsSameSet (marked_in index v.items) (marked_in index is.items)) (out_indexes o.is_marked ns o.indexes) c.in_ok-indexes.ensures.same in
    ok_given c.sum-2.result (subst (λ x. IsSameSet (marked m) (marked x)) (sym (rolled_as _ _ _ _ is (out_here o.is_marked ns o.indexes) (out_names o.is_marked ns o.indexes))) (same_rolled m ns is c.in_ok-names.ensures.same last))

pub put_in_order-returns-clause-ordered : goal.put_in_order-returns-clause-ordered
put_in_order-returns-clause-ordered t c =
    let o = out-LocationTrie c.args.marks.now in let ns = c.order_members.new.below in let is = c.order_elements.new.below in
    ok_given c.sum-2.result (ap in_order (rolled_as _ _ _ _ is (out_here o.is_marked ns o.indexes) (out_names o.is_marked ns o.indexes)) ∙ order_rolled o.is_marked ns is c.in_ok-names.ensures.ordered c.in_ok-indexes.ensures.ordered)

pub put_in_order-returns-clause-count : goal.put_in_order-returns-clause-count
put_in_order-returns-clause-count t c =
    let o = out-LocationTrie c.args.marks.now in let ns = c.order_members.new.below in let is = c.order_elements.new.below in
    let held = c.ones.ensures ∙ ap (λ b. if b then 1 else 0) (out_here (out-LocationTrie (rolled o.is_marked ns o.indexes)).is_marked (out-LocationTrie (rolled o.is_marked ns o.indexes)).names is ∙ out_here o.is_marked ns o.indexes) in
    let marks = rolled_as _ _ _ _ is (out_here o.is_marked ns o.indexes) (out_names o.is_marked ns o.indexes) in
    IfOk-weaker c.sum-2.result (λ n. n ≡ c.ones.result + c.in_ok-sum.field-0) _
    (λ n e. count_of_rolled o.is_marked ns is n c.ones.result c.in_ok-names.names c.in_ok-indexes.indexes (e ∙ ap (λ k. c.ones.result + k) c.in_ok-sum.ensures) held c.in_ok-names.ensures.count c.in_ok-indexes.ensures.count ∙ ap (λ m. distinct_count (listed m)) (sym marks)) c.sum-2.ensures

pub order_members-put_in_order-requires : goal.order_members-put_in_order-requires
order_members-put_in_order-requires t c =
    let l = c.loop-i in let start = c.order_keys.new.entries in
    let within : l.i < length l.below.items = omega (arith, c.loop-i-test.true, c.len-i-end.ensures, l.invariant.size, start.ok.0) in
    (omega (arith, sofar_at to_member start.items l.below.items l.i l.count c.index_mut.result.now within c.index_mut.ensures.value l.invariant, c.in_ok-order_keys.ensures.fewer), tt)

pub order_members-loop-i-preserved : goal.order_members-loop-i-preserved
order_members-loop-i-preserved t c =
    let l = c.loop-i in let start = c.order_keys.new.entries in let done = c.in_ok-held in
    let within : l.i < length l.below.items = omega (arith, c.loop-i-test.true, c.len-i-end.ensures, l.invariant.size, start.ok.0) in
    sofar_next to_member start.items l.below.items l.i l.count done.held c.in_ok-count.count c.index_mut.result.now c.put_in_order.new.marks within c.index_mut.ensures.value done.ensures.same done.ensures.ordered done.ensures.count c.in_ok-count.ensures l.invariant

pub order_members-returns-clause-same : goal.order_members-returns-clause-same
order_members-returns-clause-same t c =
    same_then (marked_in to_member c.args.below.now.items) (marked_in to_member c.order_keys.new.entries.items) (marked_in to_member c.loop-i.below.items) (record { each = c.in_ok-order_keys.ensures.same.each to_member name_test }) c.loop-i.invariant.same

pub order_members-returns-clause-ordered : goal.order_members-returns-clause-ordered
order_members-returns-clause-ordered t c =
    let l = c.loop-i in let start = c.order_keys.new.entries in
    sofar_ordered to_member string_cmp start.items l.below.items l.i l.count (omega (arith, c.loop-i-test.false, c.len-i-end.ensures, l.invariant.size, start.ok.0)) c.in_ok-order_keys.ensures.sorted l.invariant

pub order_members-returns-clause-count : goal.order_members-returns-clause-count
order_members-returns-clause-count t c =
    let l = c.loop-i in let start = c.order_keys.new.entries in
    sofar_counted to_member string_cmp name_test start.items l.below.items l.i l.count (omega (arith, c.loop-i-test.false, c.len-i-end.ensures, l.invariant.size, start.ok.0)) c.in_ok-order_keys.ensures.sorted l.invariant

pub order_elements-put_in_order-requires : goal.order_elements-put_in_order-requires
order_elements-put_in_order-requires t c =
    let l = c.loop-i in let start = c.order_keys.new.entries in
    let within : l.i < length l.below.items = omega (arith, c.loop-i-test.true, c.len-i-end.ensures, l.invariant.size, start.ok.0) in
    (omega (arith, sofar_at index start.items l.below.items l.i l.count c.index_mut.result.now within c.index_mut.ensures.value l.invariant, c.in_ok-order_keys.ensures.fewer), tt)

pub order_elements-loop-i-preserved : goal.order_elements-loop-i-preserved
order_elements-loop-i-preserved t c =
    let l = c.loop-i in let start = c.order_keys.new.entries in let done = c.in_ok-held in
    let within : l.i < length l.below.items = omega (arith, c.loop-i-test.true, c.len-i-end.ensures, l.invariant.size, start.ok.0) in
    sofar_next index start.items l.below.items l.i l.count done.held c.in_ok-count.count c.index_mut.result.now c.put_in_order.new.marks within c.index_mut.ensures.value done.ensures.same done.ensures.ordered done.ensures.count c.in_ok-count.ensures l.invariant

pub order_elements-returns-clause-same : goal.order_elements-returns-clause-same
order_elements-returns-clause-same t c =
    same_then (marked_in index c.args.below.now.items) (marked_in index c.order_keys.new.entries.items) (marked_in index c.loop-i.below.items) (record { each = c.in_ok-order_keys.ensures.same.each index index_test }) c.loop-i.invariant.same

pub order_elements-returns-clause-ordered : goal.order_elements-returns-clause-ordered
order_elements-returns-clause-ordered t c =
    let l = c.loop-i in let start = c.order_keys.new.entries in
    sofar_ordered index nat_cmp start.items l.below.items l.i l.count (omega (arith, c.loop-i-test.false, c.len-i-end.ensures, l.invariant.size, start.ok.0)) c.in_ok-order_keys.ensures.sorted l.invariant

pub order_elements-returns-clause-count : goal.order_elements-returns-clause-count
order_elements-returns-clause-count t c =
    let l = c.loop-i in let start = c.order_keys.new.entries in
    sofar_counted index nat_cmp index_test start.items l.below.items l.i l.count (omega (arith, c.loop-i-test.false, c.len-i-end.ensures, l.invariant.size, start.ok.0)) c.in_ok-order_keys.ensures.sorted l.invariant
