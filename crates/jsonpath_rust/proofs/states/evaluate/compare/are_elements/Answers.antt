use Rattle.std.proofs.Common.{◌≡◌, map, ap, ◌∙◌, sym, Some}
use Rattle.jsonpath_base.specs.Prelude.Documents.{as_list}
use Rattle.jsonpath_rust.specs.Prelude.Documents.{tree_of}
use Rattle.jsonpath_rust.specs.Prelude.States.{lists_same, target_of}
use Rattle.jsonpath_rust.proofs.laws.states.{are_trees-list, targets-trees}
use Rattle.jsonpath_rust.proofs.states.evaluate.compare.are_elements.Goals as goal

pub returns-in-Some : goal.returns-in-Some
returns-in-Some g c =
    let tree = g.T.Queryable.tree in
    let ts = map tree c.deref.result.now in
    let is_list : Some ts ≡ as_list (tree_of c.args.list) = ap (λ xs. Some (map tree xs)) c.deref.ensures.value ∙ c.in-Some.ensures.value in
    c.are_same_values.ensures ∙ ap (lists_same ts) (sym (targets-trees tree c.args.nodes.now)) ∙ are_trees-list (tree_of c.args.list) ts (map (target_of tree) c.args.nodes.now) is_list
