use Rattle.std.proofs.Common.{◌≡◌, ◌++◌, map, reverse, List, ℕ}
use Rattle.jsonpath_base.specs.Tree.{Tree}
use Rattle.cases.specs.DocTree.{doc_tree, pairs_of}
use Rattle.cases.proofs.doc.documents.lent_members.Given as goal

-- what is lent, and what is left, are the members
abbrev pub invariant-loop-name : goal.invariant-loop-name
invariant-loop-name l = map {B = List ℕ × Tree} (λ m. (m.0.now, doc_tree m.1.now)) l.lent.items ++ reverse (pairs_of l.name-iterator.iter) ≡ reverse (pairs_of l.entries.entries)
