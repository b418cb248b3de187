use Rattle.std.proofs.Common.{ap, sym, ◌∙◌}
use Rattle.jsonpath_parser.proofs.laws.tree.ViewEquations.{query_view-segments}
use Rattle.jsonpath_base.specs.Prelude.Documents.{query_view, segments_in, value_document, value_tree}
use Rattle.jsonpath_base.proofs.lemmas.documents.{means_referent, stands_there}
use Rattle.jsonpath_base.proofs.documents.reference.referent_of.Goals as goal

pub returns-in-Ok-clause-means : goal.returns-in-Ok-clause-means
returns-in-Ok-clause-means c =
    let q = c.in-Ok.query in
    means_referent c.args.path.now (value_document c.args.value.now) (query_view q) _ c.follow-referent.result (query_view-segments q ∙ ap segments_in (sym c.deref.ensures.value)) c.in-Ok.ensures.derived c.in-Ok.ensures.complete c.follow-referent.ensures.value

pub returns-in-Ok-clause-there : goal.returns-in-Ok-clause-there
returns-in-Ok-clause-there c = stands_there _ (value_tree c.args.value.now) c.follow-referent.result c.follow-referent.ensures.value
