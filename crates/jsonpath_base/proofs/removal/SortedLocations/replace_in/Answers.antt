use Rattle.std.proofs.Common.{ap, ◌∙◌, arith}
use Rattle.jsonpath_base.specs.Prelude.{marked, tree_of, view}
use Rattle.jsonpath_base.proofs.Filled.{tree_filled, whole_filled}
use Rattle.jsonpath_base.proofs.Views.{data_whole}
use Rattle.jsonpath_base.proofs.removal.SortedLocations.replace_in.Goals as goal

pub fill-requires : goal.fill-requires
fill-requires c = record { ordered = c.args.self.now.ordered; enough = omega (arith, c.in_ok-copies.ensures.enough) }

pub returns-clause-replaced : goal.returns-clause-replaced
returns-clause-replaced c =
    let m = c.args.self.now.marks in let u = view c.args.new.now in
    ap tree_of (c.fill.ensures.filled u c.in_ok-copies.ensures.alike) ∙ tree_filled (marked m) u (view c.args.value.now)

pub returns-clause-whole : goal.returns-clause-whole
returns-clause-whole c whole new_whole =
    let m = c.args.self.now.marks in let u = view c.args.new.now in
    ap data_whole (c.fill.ensures.filled u c.in_ok-copies.ensures.alike) ∙ whole_filled (marked m) u (view c.args.value.now) new_whole whole
