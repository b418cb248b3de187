use Rattle.std.proofs.Common.{rules, ◌≡◌, List, length, refl, ◌&&◌, bytes_eq}
use Rattle.jsonpath_base.specs.Prelude.Documents.{same}
use Rattle.jsonpath_base.specs.Prelude.States.{Pointer, target_of, targets_of, targets_same}
use Rattle.jsonpath_base.proofs.lemmas.documents.{pairs_apart}
use Rattle.jsonpath_base.proofs.documents.state.data.are_same.Goals as goal

pub returns-then-left-right : goal.returns-then-left-right
returns-then-left-right g c =
    let tree = g.T.Queryable.tree in
    let apart : length c.args.left.now ≡ length c.args.right.now → ⊥ = search rules in
    pairs_apart (λ (xs ys : List (Pointer _)). targets_same (targets_of tree xs) (targets_of tree ys)) (λ p q. same (tree p.inner.now) (tree q.inner.now) && bytes_eq (target_of tree p).path (target_of tree q).path) (λ x y xs ys. refl) (λ y ys. refl) (λ x xs. refl) c.args.left.now c.args.right.now apart
