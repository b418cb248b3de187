use Rattle.std.proofs.Common.{rules, ◌≡◌, List, length, map, refl}
use Rattle.jsonpath_base.specs.Prelude.Documents.{same}
use Rattle.jsonpath_rust.specs.Prelude.States.{lists_same, Pointer}
use Rattle.jsonpath_base.proofs.lemmas.documents.{pairs_apart}
use Rattle.jsonpath_rust.proofs.states.evaluate.compare.are_same_values.Goals as goal

pub returns-then-items-nodes : goal.returns-then-items-nodes
returns-then-items-nodes g c =
    let tree = g.T.Queryable.tree in
    let apart : length c.args.items.now ≡ length c.args.nodes.now → ⊥ = search rules in
    pairs_apart (λ xs (ys : List (Pointer _)). lists_same (map tree xs) (map (λ p. tree p.inner.now) ys)) (λ x p. same (tree x) (tree p.inner.now)) (λ x y xs ys. refl) (λ y ys. refl) (λ x xs. refl) c.args.items.now c.args.nodes.now apart
