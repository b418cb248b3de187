use Rattle.std.proofs.Common.{◌≡◌, true, false, ◌∙◌, sym, arith, inl, inr, option_map, string_bytes}
use Rattle.std.proofs.lemmas.Result.{err_from_is_err_and}
use Rattle.jsonpath_rust.specs.View.{query_view}
use Rattle.jsonpath_rust.specs.Document.{document_of}
use Rattle.examples.specs.Conditions.{is_met}
use Rattle.examples.specs.Policy.{IsKept, IsBroken, IsRuleStop, IsUnjudged}
use Rattle.examples.proofs.Firsts.{shown_so, found_here, passed_next, passed_all}
use Rattle.examples.proofs.policy.first_violation.Goals as goal

pub returns-in_err-holds-clause-refused : goal.returns-in_err-holds-clause-refused
returns-in_err-holds-clause-refused g c =
    let doc = document_of g.T.Queryable.tree g.T.Queryable.custom in
    let v = c.args.document.value.now in
    let r = c.index-policy-index.result in
    let e = c.in_err-holds.field-0.0 in
    let stop = c.in_err-holds.ensures.refused in
    let unjudged : IsUnjudged c.args.policy.now (doc v) e = record { index = c.loop-index.index; refused = found_here c.args.policy.now (IsKept (doc v)) c.loop-index.index r (IsRuleStop (doc v) e) c.loop-index.invariant (omega arith) c.index-policy-index.is (inl stop) } in
    let p = err_from_is_err_and c.from_residual.result c.from_residual.ensures.1 in
    rw (p.1, p.2) unjudged

pub returns-in_err-path-clause-refused : goal.returns-in_err-path-clause-refused
returns-in_err-path-clause-refused g c =
    let doc = document_of g.T.Queryable.tree g.T.Queryable.custom in
    let v = c.args.document.value.now in
    let r = c.index-policy-index.result in
    let e = c.in_err-path.field-0.0 in
    let unmet : is_met (doc v) r.condition ≡ false = sym c.in_ok-holds.ensures.holds ∙ c.if-not-branch.true in
    let unjudged : IsUnjudged c.args.policy.now (doc v) e = record { index = c.loop-index.index; refused = found_here c.args.policy.now (IsKept (doc v)) c.loop-index.index r (IsRuleStop (doc v) e) c.loop-index.invariant (omega arith) c.index-policy-index.is (inr (unmet, c.in_err-path.ensures.refused)) } in
    let p = err_from_is_err_and c.from_residual-in_err-path.result c.from_residual-in_err-path.ensures.1 in
    rw (p.1, p.2) unjudged

pub returns-then-not-branch-clause-broken : goal.returns-then-not-branch-clause-broken
returns-then-not-branch-clause-broken g c =
    let doc = document_of g.T.Queryable.tree g.T.Queryable.custom in
    let v = c.args.document.value.now in
    let r = c.index-policy-index.result in
    let o = c.in_ok-path.path in
    let unmet : is_met (doc v) r.condition ≡ false = sym c.in_ok-holds.ensures.holds ∙ c.if-not-branch.true in
    let path = option_map string_bytes o in
    let broken : IsBroken (doc v) path r = record { unmet = unmet; shown = shown_so (doc v) (query_view r.shown) o c.in_ok-path.ensures.found c.in_ok-path.ensures.silent } in
    found_here c.args.policy.now (IsKept (doc v)) c.loop-index.index r (IsBroken (doc v) path) c.loop-index.invariant (omega arith) c.index-policy-index.is broken

pub loop-index-preserved : goal.loop-index-preserved
loop-index-preserved g c =
    let doc = document_of g.T.Queryable.tree g.T.Queryable.custom in
    let v = c.args.document.value.now in
    let r = c.index-policy-index.result in
    let met : is_met (doc v) r.condition ≡ true = sym c.in_ok-holds.ensures.holds ∙ c.if-not-branch.false in
    passed_next c.args.policy.now (IsKept (doc v)) c.loop-index.index r c.loop-index.invariant (omega arith) c.index-policy-index.is met

pub returns-clause-obeyed : goal.returns-clause-obeyed
returns-clause-obeyed g c =
    passed_all c.args.policy.now (IsKept (document_of g.T.Queryable.tree g.T.Queryable.custom c.args.document.value.now)) c.loop-index.index c.loop-index.invariant (omega arith)
