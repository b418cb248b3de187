use Rattle.std.proofs.Common.{◌∙◌, ℕ, List, map, ap, refl}
use Rattle.jsonpath_base.specs.Prelude.Documents.{Tree}
use Rattle.jsonpath_rust.specs.Prelude.States.{Target}
use Rattle.jsonpath_base.proofs.lemmas.documents.{joined_end}
use Rattle.jsonpath_rust.proofs.laws.states.{values-targets}
use Rattle.jsonpath_rust.proofs.states.processed.processed_values.Goals as goal

pub returns-clause-values : goal.returns-clause-values
returns-clause-values g c =
    let tree = g.T.Queryable.tree in
    joined_end (map (λ p. tree p.inner.now)) refl c.deref-pointer-items.result.now c.loop-pointer.pointer-index (map (λ x. tree x.now) c.loop-pointer.values.items) _ c.loop-pointer-test.false c.loop-pointer.invariant.made
    ∙ ap (map (λ p. tree p.inner.now)) c.deref-pointer-items.ensures.value
    ∙ values-targets tree c.in_ok-pointers.pointers.items
    ∙ ap (λ (ps : List Target). map (λ (n : List ℕ × Tree). n.1) (map (λ (p : Target). (p.path, p.tree)) ps)) c.in_ok-pointers.ensures.targets
