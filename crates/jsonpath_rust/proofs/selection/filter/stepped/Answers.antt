use Rattle.std.proofs.Common.{ap, sym, ◌∙◌, [], Some, None, w64, SFits, rules}
use Rattle.std.proofs.lemmas.Int.{to_z-of_z}
use Rattle.jsonpath_base.specs.Prelude.Documents.{indexed, Node, step_view, stepped}
use Rattle.jsonpath_rust.specs.Prelude.Documents.{tree_of}
use Rattle.jsonpath_base.proofs.lemmas.documents.{stepped-found}
use Rattle.jsonpath_rust.proofs.selection.filter.stepped.Goals as goal

pub returns-in-Some : goal.returns-in-Some
returns-in-Some g c =
    let n : Node = record { location = []; tree = tree_of c.args.at } in
    let fits : SFits w64 c.in-Index.index = search rules in
    let same = ap (λ i. indexed i n) (to_z-of_z w64 c.in-Index.index fits) in
    stepped-found c.in-Index.index (tree_of c.args.at) (Some (c.in-Some._position, tree_of c.in-Some.child)) (c.in-Some.ensures.value [] ∙ same) ∙ ap (λ s. stepped (step_view s) (tree_of c.args.at)) (sym c.in-Index.is)

pub returns-in-None : goal.returns-in-None
returns-in-None g c =
    let n : Node = record { location = []; tree = tree_of c.args.at } in
    let fits : SFits w64 c.in-Index.index = search rules in
    let same = ap (λ i. indexed i n) (to_z-of_z w64 c.in-Index.index fits) in
    stepped-found c.in-Index.index (tree_of c.args.at) None (c.in-None.ensures.value [] ∙ same) ∙ ap (λ s. stepped (step_view s) (tree_of c.args.at)) (sym c.in-Index.is)
