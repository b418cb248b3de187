use Rattle.std.proofs.Common.{◌++◌, map, ap, ◌∙◌, sym, refl}
use Rattle.jsonpath_rust.specs.Prelude.Documents.{arg_trees}
use Rattle.jsonpath_rust.specs.Prelude.States.{content_of, content_trees}
use Rattle.jsonpath_base.proofs.lemmas.documents.{joined_end}
use Rattle.jsonpath_rust.proofs.laws.states.{targets-trees}
use Rattle.jsonpath_rust.proofs.states.evaluate.calls.push_values.Goals as goal

pub returns-after-loop-from-clause-value : goal.returns-after-loop-from-clause-value
returns-after-loop-from-clause-value g c =
    let tree = g.T.Queryable.tree in
    let olds = arg_trees c.args.values.now in
    joined_end (map (λ p. tree p.inner.now)) refl c.deref-from-items.result.now c.loop-from.from-index (arg_trees c.loop-from.values) _ c.loop-from-test.false c.loop-from.invariant
    ∙ ap (λ xs. olds ++ map (λ p. tree p.inner.now) xs) c.deref-from-items.ensures.value ∙ ap (λ ts. olds ++ ts) (sym (targets-trees tree c.in-Refs.all.items) ∙ ap (λ z. content_trees (content_of tree z)) (sym c.in-Refs.is))
