use Rattle.std.proofs.Common.{Any, refl, sym, arith}
use Rattle.std.proofs.lemmas.Result.{err_from_is_err_and}
use Rattle.jsonpath_rust.specs.JsonPathError.TheVariants.{OutOfMemory}
use Rattle.jsonpath_rust.specs.Document.{document_of}
use Rattle.examples.specs.Conditions.{IsUndecided}
use Rattle.examples.specs.declared.assertion.Assertion.{Assertion}
use Rattle.examples.proofs.assertion.failures.Goals as goal

pub returns-in_err-holds-clause-refused : goal.returns-in_err-holds-clause-refused
returns-in_err-holds-clause-refused g c =
    let doc = document_of g.T.Queryable.tree g.T.Queryable.custom in
    let e = c.in_err-holds.field-0.0 in
    let a = c.assertion-item.result in
    let stop = c.in_err-holds.ensures.refused in
    let any : Any (λ (b : Assertion). IsUndecided (doc c.args.document.value.now) e b.condition) c.args.assertions.now = (c.loop-assertion.assertion-index, a, omega arith, sym c.assertion-item.is, stop) in
    let p = err_from_is_err_and c.from_residual.result c.from_residual.ensures.1 in
    rw (p.1, p.2) any

pub returns-in_err-push-clause-refused : goal.returns-in_err-push-clause-refused
returns-in_err-push-clause-refused g c =
    let doc = document_of g.T.Queryable.tree g.T.Queryable.custom c.args.document.value.now in
    let a = c.assertion-item.result in
    let any : Any (λ (b : Assertion). IsUndecided doc OutOfMemory b.condition) c.args.assertions.now = (c.loop-assertion.assertion-index, a, omega arith, sym c.assertion-item.is, λ no. absurd (no refl)) in
    let p = err_from_is_err_and c.from_residual-in_err-push.result c.from_residual-in_err-push.ensures.1 in
    rw (p.1, p.2) any
