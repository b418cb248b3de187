use Rattle.std.proofs.Common.{◌≡◌, ◌∷◌, ◌++◌, [], map, ap, ◌∙◌, sym, refl, append_assoc, arith, Some, option_map}
use Rattle.jsonpath_base.specs.Prelude.Documents.{flat_map}
use Rattle.jsonpath_rust.specs.Prelude.States.{parents_in, parts_from, target_at, target_of, targets_at}
use Rattle.jsonpath_base.proofs.lemmas.documents.{joined_end}
use Rattle.jsonpath_rust.proofs.laws.states.{parents-some, part_size}
use Rattle.jsonpath_rust.proofs.states.held.WholePointerRef.+push_parents.Goals as goal

pub push_parents-requires : goal.push_parents-requires
push_parents-requires g t c κs within =
    let tree = g.T.Queryable.tree in
    let items = c.deref-pointer-items.result.now in
    let here : Some (map (target_of tree) items) ≡ parts_from (target_at c.args.self) = ap (λ xs. Some (map (target_of tree) xs)) c.deref-pointer-items.ensures.value ∙ ap (option_map targets_at) (sym c.in-Some.is) ∙ c.in_ok-children.ensures.value in
    (omega (arith, c.decreases, part_size (target_of tree) (target_at c.args.self) items c.loop-pointer.pointer-index c.pointer-item.result here c.loop-pointer-test.true c.pointer-item.is), within)

pub returns-clause-value : goal.returns-clause-value
returns-clause-value g t c =
    let tree = g.T.Queryable.tree in
    let items = c.deref-pointer-items.result.now in
    let from = target_at c.args.self in
    let olds = targets_at c.args.found.now in
    let below = flat_map parents_in (map (target_of tree) items) in
    let here : Some (map (target_of tree) items) ≡ parts_from from = ap (λ xs. Some (map (target_of tree) xs)) c.deref-pointer-items.ensures.value ∙ ap (option_map targets_at) (sym c.in-Some.is) ∙ c.in_ok-children.ensures.value in
    let pushed = c.in_ok-push.ensures ∙ ap (λ q. olds ++ q ∷ []) c.in_ok-try_clone.ensures.value in
    joined_end (λ xs. flat_map parents_in (map (target_of tree) xs)) refl items c.loop-pointer.pointer-index (targets_at c.loop-pointer.found) _ c.loop-pointer-test.false c.loop-pointer.invariant
    ∙ ap (λ qs. qs ++ below) pushed ∙ append_assoc olds (from ∷ []) below ∙ ap (λ qs. olds ++ qs) (sym (parents-some from (map (target_of tree) items) here))
