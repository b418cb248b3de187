use Rattle.std.proofs.Common.{Some, option_map, ap, sym, ◌∙◌}
use Rattle.jsonpath_base.specs.Prelude.Documents.{count_value}
use Rattle.jsonpath_rust.proofs.selection.walk.WalkContext.length_at.Goals as goal

pub returns-in-Some-clause-value : goal.returns-in-Some-clause-value
returns-in-Some-clause-value g c = ap Some c.count_scalar.ensures ∙ ap (option_map count_value) (sym c.in-Some.is) ∙ c.in_ok-length.ensures.value

pub returns-in-None-clause-value : goal.returns-in-None-clause-value
returns-in-None-clause-value g c = ap (option_map count_value) (sym c.in-None.is) ∙ c.in_ok-length.ensures.value
