use Rattle.std.proofs.Common.{◌<◌, ◌∷◌, ◌++◌, [], map, ap, ◌∙◌, sym, get_or, length, subst, All, rules}
use Rattle.std.proofs.lemmas.List.{map-append}
use Rattle.jsonpath_base.specs.Prelude.Documents.{as_list, element, flat_map, root_node}
use Rattle.jsonpath_rust.specs.Prelude.States.{target_at, targets_at, under}
use Rattle.jsonpath_base.proofs.lemmas.documents.{all_at, element_at, get_or-self, joined_next}
use Rattle.jsonpath_rust.proofs.states.held.WholePointerRef.sliced.Goals as goal

pub loop-at-preserved : goal.loop-at-preserved
loop-at-preserved g c =
    let tree = g.T.Queryable.tree in
    let from = target_at c.args.self in
    let path = from.path in
    let t = from.tree in
    let picked = c.deref-at-items.result.now in
    let items = c.in-Some.items.now.items in
    let idx = c.loop-at.at-index in
    let at = get_or picked idx 0 in
    let some = c.in-Some.ensures.value ∙ ap as_list c.value.ensures in
    let below : All (λ i. i < c.len.result) picked = subst (All (λ i. i < c.len.result)) (sym c.deref-at-items.ensures.value) c.in_ok-picked-in-Some.ensures.below in
    let within : at < c.len.result = all_at (λ i. i < c.len.result) picked idx at below c.loop-at-test.true (get_or-self picked idx 0 c.loop-at-test.true) in
    let inside : at < length items = search rules in
    let here = element_at tree [] t items at c.index-value.result.now some inside c.index-value.ensures in
    let was = targets_at c.loop-at.found in
    let pushed = c.in_ok-push-in-Some.ensures ∙ ap (λ q. was ++ q ∷ []) c.in_ok-below_index-in-Some.ensures.value ∙ ap (λ ns. was ++ map (under path) ns) here in
    joined_next (λ xs. map (under path) (flat_map (λ k. element k (root_node t)) xs)) (λ k. map (under path) (element k (root_node t))) (λ x xs. map-append (under path) (element x (root_node t)) (flat_map (λ k. element k (root_node t)) xs)) picked idx at _ _ _ c.loop-at-test.true (get_or-self picked idx 0 c.loop-at-test.true) pushed c.loop-at.invariant
