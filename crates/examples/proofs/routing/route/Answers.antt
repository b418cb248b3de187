use Rattle.std.proofs.Common.{◌≡◌, true, false, IsFalse, IsTrue, ◌∙◌, sym, arith}
use Rattle.std.proofs.lemmas.Result.{err_from_is_err_and}
use Rattle.jsonpath_rust.specs.Document.{document_of}
use Rattle.examples.specs.Conditions.{is_met, IsUndecided, IsUnrouted}
use Rattle.examples.proofs.Firsts.{found_here, passed_next, passed_all, position_here, position_nowhere}
use Rattle.examples.proofs.routing.route.Goals as goal

pub returns-in_err-holds-clause-refused : goal.returns-in_err-holds-clause-refused
returns-in_err-holds-clause-refused g c =
    let doc = document_of g.T.Queryable.tree g.T.Queryable.custom in
    let v = c.args.document.value.now in
    let f = c.index-table-index.result in
    let e = c.in_err-holds.field-0.0 in
    let stop = c.in_err-holds.ensures.refused in
    let unrouted : IsUnrouted c.args.table.now (doc v) e = record { index = c.loop-index.index; refused = found_here c.args.table.now (λ x. IsFalse (is_met (doc v) x)) c.loop-index.index f (IsUndecided (doc v) e) c.loop-index.invariant (omega arith) c.index-table-index.is stop } in
    let p = err_from_is_err_and c.from_residual.result c.from_residual.ensures.1 in
    rw (p.1, p.2) unrouted

pub returns-then-branch-clause-routed : goal.returns-then-branch-clause-routed
returns-then-branch-clause-routed g c =
    let doc = document_of g.T.Queryable.tree g.T.Queryable.custom in
    let v = c.args.document.value.now in
    let f = c.index-table-index.result in
    let held : is_met (doc v) f ≡ true = sym c.in_ok-holds.ensures.holds ∙ c.if-branch.true in
    position_here (is_met (doc v)) c.args.table.now c.loop-index.index (found_here c.args.table.now (λ x. IsFalse (is_met (doc v) x)) c.loop-index.index f (λ x. IsTrue (is_met (doc v) x)) c.loop-index.invariant (omega arith) c.index-table-index.is held)

pub loop-index-preserved : goal.loop-index-preserved
loop-index-preserved g c =
    let doc = document_of g.T.Queryable.tree g.T.Queryable.custom in
    let v = c.args.document.value.now in
    let f = c.index-table-index.result in
    let failed : is_met (doc v) f ≡ false = sym c.in_ok-holds.ensures.holds ∙ c.if-branch.false in
    passed_next c.args.table.now (λ x. IsFalse (is_met (doc v) x)) c.loop-index.index f c.loop-index.invariant (omega arith) c.index-table-index.is failed

pub returns-clause-routed : goal.returns-clause-routed
returns-clause-routed g c =
    let doc = document_of g.T.Queryable.tree g.T.Queryable.custom c.args.document.value.now in
    position_nowhere (is_met doc) c.args.table.now (passed_all c.args.table.now (λ x. IsFalse (is_met doc x)) c.loop-index.index c.loop-index.invariant (omega arith))
