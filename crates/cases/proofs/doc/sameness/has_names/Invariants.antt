use Rattle.std.proofs.Common.{◌≡◌, reverse}
use Rattle.std.specs.List.{list_all}
use Rattle.jsonpath_base.specs.Same.{has_name}
use Rattle.cases.specs.DocTree.{pairs_of}
use Rattle.cases.proofs.doc.sameness.has_names.Given as goal

abbrev pub invariant-loop-name : goal.invariant-loop-name
invariant-loop-name l =
    let mine = reverse (pairs_of l.left.entries) in
    list_all (λ n. has_name mine n.0) (reverse (pairs_of l.right.entries)) ≡ list_all (λ n. has_name mine n.0) (reverse (pairs_of l.name-iterator.iter))
