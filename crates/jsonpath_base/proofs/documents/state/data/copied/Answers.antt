use Rattle.std.proofs.Common.{◌∷◌, ◌++◌, [], map, ap, ◌∙◌, refl, subst, sym, IsTrue}
use Rattle.std.proofs.lemmas.List.{map-append}
use Rattle.jsonpath_base.specs.Prelude.States.{target_of}
use Rattle.jsonpath_base.proofs.lemmas.documents.{all_at, all_more, joined_next}
use Rattle.jsonpath_base.proofs.documents.state.data.copied.Goals as goal

pub loop-pointer-preserved : goal.loop-pointer-preserved
loop-pointer-preserved g c =
    let tree = g.T.Queryable.tree in
    let whole = g.T.Queryable.is_whole in
    let items = c.args.pointers.now in
    let was = c.loop-pointer.all.items in
    let one = c.in_ok-try_clone.field-0 in
    let inv = c.loop-pointer.invariant in
    let pushed = ap (map (target_of tree)) c.in_ok-push.ensures.items ∙ map-append (target_of tree) was (one ∷ []) ∙ ap (λ q. map (target_of tree) was ++ q ∷ []) c.in_ok-try_clone.ensures.seen in
    record {
      made = joined_next (map (target_of tree)) (λ p. target_of tree p ∷ []) (λ x xs. refl) items c.loop-pointer.pointer-index c.pointer-item.result _ _ _ c.loop-pointer-test.true c.pointer-item.is pushed inv.made;
      whole = λ w. all_more (λ p. IsTrue (whole p.inner.now)) was _ one c.in_ok-push.ensures.items (subst (λ x. IsTrue (whole x)) (sym c.in_ok-try_clone.ensures.inner) (all_at (λ p. IsTrue (whole p.inner.now)) items c.loop-pointer.pointer-index c.pointer-item.result w c.loop-pointer-test.true c.pointer-item.is)) (inv.whole w);
    }
