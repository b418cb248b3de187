use Rattle.std.proofs.Common.{◌≡◌, ◌+◌, ◌≤◌, ◌<◌, length, set, is_eq, refl, sym, ap, ◌∙◌, subst, rules, arith}
use Rattle.std.proofs.lemmas.List.{length-set}
use Rattle.std.proofs.lemmas.List.Sorted.{answers_always, ranks_by}
use Rattle.jsonpath_base.specs.Prelude.{IsJoined, marked, marks_count}
use Rattle.jsonpath_base.proofs.Gathering.{at_start, join_at, next_at, at_end, Falls}
use Rattle.jsonpath_base.proofs.ordering.order_keys.Goals as goal

pub loop-next-init : goal.loop-next-init
loop-next-init g c = record {
  front = omega arith;
  within = omega arith;
  size = refl;
  all = at_start g.K.Ord.cmp g.met.K.Ord.total c.args.entries.now.items c.sort_by.new.self.items c.in_ok-sort_by.ensures.permutation
      (c.in_ok-sort_by.ensures.sorted (Falls g.K.Ord.cmp) (ranks_by g.met.K.Ord.total (λ e. e.0)) (answers_always _ _ _ (λ f a r h q. search rules)));
}

pub loop-next-preserved-then-is_eq : goal.loop-next-preserved-then-is_eq
loop-next-preserved-then-is_eq g c =
    let l = c.loop-next in let es = l.entries.items in let y = c.index_mut.result.now in let x = c.index_mut-then-is_eq.result.now in let n = c.replace-marks.new.dest in
    let within : l.next < length es = omega (arith, c.loop-next-test.true, c.len-next-end.ensures, l.invariant.size, c.sort_by.new.self.ok.0) in
    let size = length-set (set es l.next (y.0, n)) l.unique (x.0, c.join.new.marks) ∙ length-set es l.next (y.0, n) in
    let moved = c.replace-marks.ensures.value in
    record {
      front = omega (arith, l.invariant.front);
      within = omega (arith, size, l.invariant.within);
      size = size ∙ l.invariant.size;
      all = join_at g.K.Ord.cmp c.args.entries.now.items es l.unique l.next c.index.result.now c.index-in-loop-next.result.now x y n c.join.new.marks l.invariant.front within c.index.ensures c.index-in-loop-next.ensures
          (ap is_eq (sym c.cmp.ensures) ∙ sym c.is_eq.ensures ∙ c.if-is_eq.true) c.index_mut.ensures.value c.index_mut-then-is_eq.ensures.value
          (subst (λ m. IsJoined (marked x.1) (marked m) (marked c.join.new.marks)) moved c.in_ok-join.ensures.joined) (subst (λ m. marks_count c.join.new.marks + 1 ≤ marks_count x.1 + marks_count m) moved c.in_ok-join.ensures.fewer) l.invariant.all;
    }

pub loop-next-preserved : goal.loop-next-preserved
loop-next-preserved g c =
    let l = c.loop-next in let es = l.entries.items in
    let within : l.next < length es = omega (arith, c.loop-next-test.true, c.len-next-end.ensures, l.invariant.size, c.sort_by.new.self.ok.0) in
    let size : length c.swap.new.self.items ≡ length es = omega (arith, c.swap.ensures.len, c.swap.new.self.ok.0, l.entries.ok.0) in
    record {
      front = omega (arith, l.invariant.front);
      within = omega (arith, size, within, l.invariant.front);
      size = size ∙ l.invariant.size;
      all = next_at g.K.Ord.cmp c.args.entries.now.items es c.swap.new.self.items l.unique l.next c.index.result.now c.index-in-loop-next.result.now l.invariant.front within c.index.ensures c.index-in-loop-next.ensures
          (ap is_eq (sym c.cmp.ensures) ∙ sym c.is_eq.ensures ∙ c.if-is_eq.false) (c.swap.ensures.by_index.3 c.index.result.now) l.invariant.all;
    }

pub overflow_add-unique-2 : goal.overflow_add-unique-2
overflow_add-unique-2 g c = omega (arith, c.loop-next.invariant.within, c.loop-next.entries.ok.0, c.loop-next.entries.small)

pub returns : goal.returns
returns g c =
    let l = c.loop-next in
    let past : length l.entries.items ≤ l.next = omega (arith, c.loop-next-test.false, c.len-next-end.ensures, l.invariant.size, c.sort_by.new.self.ok.0) in
    let end = at_end g.K.Ord.cmp c.args.entries.now.items l.entries.items c.truncate.new.self.items l.unique l.next past c.truncate.ensures.items l.invariant.all in
    record { sorted = end.sorted; same = end.same; fewer = end.fewer }
