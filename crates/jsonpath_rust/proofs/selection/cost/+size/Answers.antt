use Rattle.std.proofs.Common.{◌≡◌, ◌+◌, map, Some, ap, ◌∙◌, arith, drop, length}
use Rattle.std.proofs.lemmas.List.{drop_all, length-drop}
use Rattle.std.proofs.lemmas.Result.{IfOk-weaker}
use Rattle.jsonpath_rust.proofs.laws.selection.CostLaws.{some_cost, list_cost, object_cost, inside_many, many_mapped, pairs_from, counted_first, counted_next, counted_enough, counted_all}
use Rattle.jsonpath_rust.specs.Prelude.Documents.{tree_of}
use Rattle.jsonpath_rust.specs.Prelude.Selection.{pairs_cost}
use Rattle.jsonpath_rust.proofs.selection.cost.+size.Goals as goal

pub size_within-returns-then-most-le1-clause-size : goal.size_within-returns-then-most-le1-clause-size
size_within-returns-then-most-le1-clause-size g t c = omega (arith, c.if-most-le1.true, some_cost (tree_of c.args.value))

pub inside_size-returns-in-Some-elements-clause-size : goal.inside_size-returns-in-Some-elements-clause-size
inside_size-returns-in-Some-elements-clause-size g t c =
    let tree = g.T.Queryable.tree in
    let list = ap (λ xs. Some (map tree xs)) c.deref.ensures.value ∙ c.in-Some-elements.ensures.value in
    IfOk-weaker c.elements_size.result _ _ (λ n h. omega (arith, h, list_cost (tree_of c.args.value) _ list)) c.elements_size.ensures.size

pub inside_size-returns-then-count-most-clause-size : goal.inside_size-returns-then-count-most-clause-size
inside_size-returns-then-count-most-clause-size g t c =
    omega (arith, c.if-count-most.true, c.unwrap_or-count.ensures, inside_many _ _ c.in_ok-member_count.ensures.value)

pub inside_size-returns-in-Some-2-clause-size : goal.inside_size-returns-in-Some-2-clause-size
inside_size-returns-in-Some-2-clause-size g t c =
    let tree = g.T.Queryable.tree in
    let list = ap (λ xs. Some (map (λ m. (m.0.now, tree m.1.now)) xs)) c.deref-in-Some-2.ensures.value ∙ rw c.in-Some-2.is at (c.in_ok-listed.ensures.value) in
    IfOk-weaker c.members_size.result _ _ (λ n h. omega (arith, h, object_cost (tree_of c.args.value) _ list)) c.members_size.ensures.size

pub members_size-loop-member-init : goal.members_size-loop-member-init
members_size-loop-member-init g t c =
    let tree = g.T.Queryable.tree in
    record { within = omega (arith, c.min-size.ensures); listed = omega (arith, c.min-size.ensures); sum = counted_first _ _ _ _ c.min-size.ensures (many_mapped (λ m. (m.0.now, tree m.1.now)) c.args.members.now.list.now) }

pub members_size-returns-then-size-most-clause-size : goal.members_size-returns-then-size-most-clause-size
members_size-returns-then-size-most-clause-size g t c =
    let tree = g.T.Queryable.tree in
    let items = c.args.members.now.list.now in
    let i = c.loop-member.member-index in
    let next = pairs_from (λ m. (m.0.now, tree m.1.now)) items i c.member-item.result c.loop-member-test.true c.member-item.is in
    let left : length (drop i items) ≡ length (drop (i + 1) items) + 1 = omega (arith, length-drop i items, length-drop (i + 1) items, c.loop-member-test.true) in
    counted_enough _ _ _ _ _ _ _ _ _ c.loop-member.invariant.sum next left (many_mapped (λ m. (m.0.now, tree m.1.now)) (drop (i + 1) items)) (some_cost (tree c.member-item.result.1.now)) (omega (arith, c.saturating_add-size.ensures, c.if-size-most.true, c.ranges.most.fits))

pub members_size-inside_size-requires : goal.members_size-inside_size-requires
members_size-inside_size-requires g t c κs within =
    (omega (arith, c.decreases, c.loop-member.invariant.listed, c.loop-member-test.true, c.if-size-most.false, c.saturating_add-size.ensures), within)

pub members_size-loop-member-preserved : goal.members_size-loop-member-preserved
members_size-loop-member-preserved g t c =
    let tree = g.T.Queryable.tree in
    let items = c.args.members.now.list.now in
    let i = c.loop-member.member-index in
    let next = pairs_from (λ m. (m.0.now, tree m.1.now)) items i c.member-item.result c.loop-member-test.true c.member-item.is in
    let left : length (drop i items) ≡ length (drop (i + 1) items) + 1 = omega (arith, length-drop i items, length-drop (i + 1) items, c.loop-member-test.true) in
    let inside = c.in_ok-inside_size.ensures.size in
    let new = c.saturating_add-size-in-loop-member.ensures in
    let with_name = c.saturating_add-size.ensures in
    record {
      within = omega (arith, new, inside, c.if-size-most.false);
      listed = omega (arith, c.loop-member.invariant.listed, with_name, new, inside, c.if-size-most.false, c.ranges.most.fits);
      sum = counted_next _ _ _ _ _ _ c.saturating_add-size.result _ _ _ _ c.saturating_add-size-in-loop-member.result c.loop-member.invariant.sum next left (many_mapped (λ m. (m.0.now, tree m.1.now)) (drop (i + 1) items)) (some_cost (tree c.member-item.result.1.now)) (omega (arith, with_name, c.if-size-most.false, c.ranges.most.fits)) c.if-size-most.false inside (omega (arith, new, inside, c.if-size-most.false, c.ranges.most.fits));
    }

pub members_size-returns-clause-size : goal.members_size-returns-clause-size
members_size-returns-clause-size g t c =
    let tree = g.T.Queryable.tree in
    let items = c.args.members.now.list.now in
    let none = drop_all c.loop-member.member-index items c.loop-member-test.false in
    counted_all _ _ _ _ _ c.loop-member.invariant.sum (ap (λ ys. pairs_cost (map (λ m. (m.0.now, tree m.1.now)) ys)) none) (ap (λ ys. length ys) none) c.loop-member.invariant.within
