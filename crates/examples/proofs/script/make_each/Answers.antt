use Rattle.std.proofs.Common.{length, add-one, refl, subst, arith}
use Rattle.std.proofs.lemmas.Option.{slice_get_read}
use Rattle.std.proofs.lemmas.Result.{err_from_is_err_and}
use Rattle.jsonpath_rust.specs.base.Values.{value_tree}
use Rattle.examples.specs.Script.{IsRefusedIn, Leaves}
use Rattle.examples.proofs.Making.{made_next}
use Rattle.examples.proofs.script.make_each.Goals as goal

pub returns-in_err-make-clause-refused : goal.returns-in_err-make-clause-refused
returns-in_err-make-clause-refused c =
    let edits = c.args.edits.now in
    let edit = c.index-edits-index.result in
    let e = c.in_err-make.field-0.0 in
    let refused : IsRefusedIn edits (value_tree c.args.document.now.value) e = record {
      index = c.loop-index.index;
      refused = record { between = value_tree c.loop-index.document.value; before = c.loop-index.invariant; edit = edit; there = slice_get_read edits (length edits) c.loop-index.index edit refl (omega arith) c.index-edits-index.is; is_so = c.in_err-make.ensures.refused };
    } in
    let p = err_from_is_err_and c.from_residual.result c.from_residual.ensures.1 in
    rw (p.1, p.2) refused

pub returns-then-not-branch-clause-stuck : goal.returns-then-not-branch-clause-stuck
returns-then-not-branch-clause-stuck c =
    let edits = c.args.edits.now in
    let edit = c.index-edits-index.result in
    let m = value_tree c.loop-index.document.value in
    let u = value_tree c.make.new.document.value in
    let makes = subst (λ b. Leaves edit m b u) c.if-not-branch.true c.in_ok-make.ensures.made in
    record { between = m; before = c.loop-index.invariant; edit = edit; there = slice_get_read edits (length edits) c.loop-index.index edit refl (omega arith) c.index-edits-index.is; is_so = (u, makes) }

pub loop-index-preserved : goal.loop-index-preserved
loop-index-preserved c =
    let edits = c.args.edits.now in
    let edit = c.index-edits-index.result in
    let m = value_tree c.loop-index.document.value in
    let u = value_tree c.make.new.document.value in
    let makes = subst (λ b. Leaves edit m b u) c.if-not-branch.false c.in_ok-make.ensures.made in
    rw add-one (made_next edits (value_tree c.args.document.now.value) m u c.loop-index.index edit (omega arith) c.index-edits-index.is c.loop-index.invariant makes)
