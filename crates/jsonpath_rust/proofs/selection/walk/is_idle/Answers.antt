use Rattle.std.proofs.Common.{ap, ◌∙◌}
use Rattle.jsonpath_base.specs.Prelude.Documents.{descendant, Node}
use Rattle.jsonpath_rust.specs.Prelude.Documents.{tree_of}
use Rattle.jsonpath_rust.specs.Prelude.Selection.{visited_nodes, segment_view}
use Rattle.jsonpath_rust.proofs.laws.selection.Leaves.{replaced-none}
use Rattle.jsonpath_rust.proofs.selection.walk.is_idle.Goals as goal

pub returns-in-Descend : goal.returns-in-Descend
returns-in-Descend g c = λ h constants d l.
    let t = tree_of c.args.value in
    let n : Node = record { location = l; tree = t } in
    ap (λ a. visited_nodes constants a d n) c.in-Descend.is ∙ replaced-none (descendant (segment_view constants c.in-Descend.field-0.now)) d l t (c.is_leaf.ensures.list h) (c.is_leaf.ensures.object h)
