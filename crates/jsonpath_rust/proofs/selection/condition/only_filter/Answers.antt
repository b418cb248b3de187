use Rattle.std.proofs.Common.{sym, ap, ◌∙◌}
use Rattle.jsonpath_parser.proofs.laws.tree.ViewEquations.{query_view-segments}
use Rattle.jsonpath_base.specs.Prelude.Documents.{segment_view, segments_in}
use Rattle.jsonpath_rust.specs.Prelude.Selection.{filter_of}
use Rattle.jsonpath_rust.proofs.laws.selection.{none_of_more}
use Rattle.jsonpath_rust.proofs.selection.condition.only_filter.Goals as goal

pub returns-else-is_empty : goal.returns-else-is_empty
returns-else-is_empty c =
    let all = query_view-segments c.args.query.now ∙ ap segments_in (sym c.deref.ensures.value) in
    let none = none_of_more segment_view c.deref.result.now c.in-Some.rest.now c.in-Some.first.now c.in-Some.ensures.cases.0 (sym c.is_empty.ensures ∙ c.if-is_empty.false) in
    none ∙ ap filter_of (sym all)
