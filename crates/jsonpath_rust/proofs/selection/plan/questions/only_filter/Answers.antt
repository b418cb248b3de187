use Rattle.std.proofs.Common.{sym, ◌∙◌}
use Rattle.jsonpath_rust.specs.Prelude.Selection.{segment_view}
use Rattle.jsonpath_rust.proofs.laws.selection.{none_of_more}
use Rattle.jsonpath_rust.proofs.selection.plan.questions.only_filter.Goals as goal

pub returns-else-is_empty : goal.returns-else-is_empty
returns-else-is_empty c constants = none_of_more (segment_view constants) c.args.segments.now c.in-Some.rest.now c.in-Some.first.now c.in-Some.ensures.cases.0 (sym c.is_empty.ensures ∙ c.if-is_empty.false)
