use Rattle.std.proofs.Common.{◌≡◌, ◌∙◌, length, map, ap, arith, refl, IsTrue, string_bytes}
use Rattle.std.proofs.lemmas.List.Elements.{All-head, All-tail}
use Rattle.jsonpath_rust.specs.Prelude.States.{Target}
use Rattle.jsonpath_base.proofs.lemmas.documents.{all_more}
use Rattle.jsonpath_rust.proofs.laws.states.{moved_all, moved_one, shown-targets}
use Rattle.jsonpath_rust.proofs.states.processed.processed_nodes.Goals as goal

pub loop-pointer-preserved : goal.loop-pointer-preserved
loop-pointer-preserved g c =
    let tree = g.T.Queryable.tree in
    let whole = g.T.Queryable.is_whole in
    let i = c.loop-pointer.invariant in
    let front = c.in-Some.ensures.steps.0 in
    let others = rw front at i.others in
    let node = c.from.result in
    let same : (string_bytes node.path, tree node.val.now) ≡ (string_bytes c.in-Some.pointer.path, tree c.in-Some.pointer.inner.now) = rw (c.from.ensures.0, c.from.ensures.1) refl in
    record {
      len = omega (arith, ap length front);
      made = moved_one (λ r. (string_bytes r.path, tree r.val.now)) (λ p. (string_bytes p.path, tree p.inner.now)) c.loop-pointer.nodes.items _ _ _ node c.in-Some.pointer _ c.in_ok-push.ensures.items front same i.made;
      whole = all_more (λ r. IsTrue (whole r.val.now)) c.loop-pointer.nodes.items _ node c.in_ok-push.ensures.items (ap (λ v. whole v.now) c.from.ensures.0 ∙ All-head (λ p. IsTrue (whole p.inner.now)) _ _ others) i.whole;
      others = All-tail (λ p. IsTrue (whole p.inner.now)) _ _ others;
    }

pub returns-clause-nodes : goal.returns-clause-nodes
returns-clause-nodes g c =
    let tree = g.T.Queryable.tree in
    let i = c.loop-pointer.invariant in
    moved_all (λ r. (string_bytes r.path, tree r.val.now)) (λ p. (string_bytes p.path, tree p.inner.now)) c.loop-pointer.nodes.items _ _ _ i.len c.in-None.ensures.steps.0 i.made
    ∙ ap (map (λ p. (string_bytes p.path, tree p.inner.now))) c.into_iter-pointer-iterator.ensures.into_iter_gives.0
    ∙ shown-targets tree c.in_ok-pointers.pointers.items
    ∙ ap (map (λ (p : Target). (p.path, p.tree))) c.in_ok-pointers.ensures.targets
