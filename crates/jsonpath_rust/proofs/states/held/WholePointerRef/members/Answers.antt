use Rattle.std.proofs.Common.{◌∷◌, ◌++◌, [], map, ap, ◌∙◌, refl}
use Rattle.jsonpath_base.specs.Prelude.Documents.{below, member_nodes, name}
use Rattle.jsonpath_rust.specs.Prelude.States.{target_at, targets_at, under}
use Rattle.jsonpath_base.proofs.lemmas.documents.{joined_next}
use Rattle.jsonpath_rust.proofs.states.held.WholePointerRef.members.Goals as goal

pub loop-pair-preserved : goal.loop-pair-preserved
loop-pair-preserved g c =
    let tree = g.T.Queryable.tree in
    let path = (target_at c.args.self).path in
    let pushed = c.in_ok-push.ensures ∙ ap (λ q. targets_at c.loop-pair.found ++ q ∷ []) c.in_ok-below_name.ensures.value in
    joined_next (λ xs. map (under path) (member_nodes [] (map (λ m. (m.0.now, tree m.1.now)) xs))) (λ m. under path (below [] (name m.0.now) (tree m.1.now)) ∷ []) (λ x xs. refl) c.args.pairs.now c.loop-pair.pair-index c.pair-item.result _ _ _ c.loop-pair-test.true c.pair-item.is pushed c.loop-pair.invariant
