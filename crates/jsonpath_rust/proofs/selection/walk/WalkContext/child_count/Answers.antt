use Rattle.std.proofs.Common.{◌≡◌, map, length, rules, sym, ◌∙◌}
use Rattle.std.proofs.lemmas.List.{length-map}
use Rattle.jsonpath_rust.specs.Prelude.Documents.{tree_of}
use Rattle.jsonpath_rust.proofs.laws.selection.{list_count, object_count}
use Rattle.jsonpath_rust.proofs.selection.walk.WalkContext.child_count.Goals as goal

pub returns-in-Some-clause-count : goal.returns-in-Some-clause-count
returns-in-Some-clause-count g c =
    let tree = g.T.Queryable.tree in
    let items = c.in-Some.items.now.items in
    let count : c.len.result ≡ length items = search rules in
    count ∙ sym (length-map items tree) ∙ list_count (tree_of c.args.parent) (map tree items) c.in-Some.ensures.value

pub returns-in_ok-spend-in-Some-2-clause-count : goal.returns-in_ok-spend-in-Some-2-clause-count
returns-in_ok-spend-in-Some-2-clause-count g c = object_count (tree_of c.args.parent) c.in-Some-2.count (rw c.in-Some-2.is at c.in_ok-count.ensures.value)
