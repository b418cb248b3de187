use Rattle.std.proofs.Common.{◌≡◌, map, drop}
use Rattle.std.specs.List.{list_all}
use Rattle.jsonpath_base.specs.Same.{same}
use Rattle.jsonpath_rust.specs.documents.Args.{arg_value}
use Rattle.cases.specs.DocTree.{doc_tree}
use Rattle.cases.proofs.doc.sameness.are_same_as.Given as goal

-- the answer for all is the answer for those that are left
abbrev pub invariant-loop-arg : goal.invariant-loop-arg
invariant-loop-arg l = list_all (same (doc_tree l.first)) (map (λ a. doc_tree (arg_value a)) l.args) ≡ list_all (same (doc_tree l.first)) (map (λ a. doc_tree (arg_value a)) (drop l.arg-index l.args))
