use Rattle.std.proofs.Common.{◌∙◌, refl, sym, subst, arith}
use Rattle.std.proofs.lemmas.Result.{err_from_is_err_and}
use Rattle.jsonpath_rust.specs.JsonPathError.TheVariants.{OutOfMemory}
use Rattle.jsonpath_rust.specs.View.{query_view}
use Rattle.jsonpath_rust.specs.Document.{value_document}
use Rattle.jsonpath_rust.specs.Patterns.{IsStop}
use Rattle.examples.specs.Redaction.{IsStopAmong}
use Rattle.examples.proofs.redaction.all_places.Goals as goal

pub returns-in_err-found-clause-refused : goal.returns-in_err-found-clause-refused
returns-in_err-found-clause-refused c =
    let q = c.query-item.result in
    let e = c.in_err-found.field-0.0 in
    let stop = subst (λ v. IsStop (query_view q) (value_document v) e) c.as_ref.ensures (subst (λ s. IsStop s (value_document c.as_ref.result.value.now) e) (c.runner.ensures ∙ c.in_ok-prepared.ensures.query) c.in_err-found.ensures.refused) in
    let stopped : IsStopAmong c.args.rules.now (value_document c.args.document.now.value) e = record { query = q; among = (c.loop-query.query-index, omega arith, sym c.query-item.is); stop = stop } in
    let p = err_from_is_err_and c.from_residual-in_err-found.result c.from_residual-in_err-found.ensures.1 in
    rw (p.1, p.2) stopped

pub returns-in_err-prepared-clause-refused : goal.returns-in_err-prepared-clause-refused
returns-in_err-prepared-clause-refused c =
    let doc = value_document c.args.document.now.value in
    let stop : IsStopAmong c.args.rules.now doc OutOfMemory = record { query = c.query-item.result; among = (c.loop-query.query-index, omega arith, sym c.query-item.is); stop = λ no. absurd (no refl) } in
    let p = err_from_is_err_and c.from_residual.result c.from_residual.ensures.1 in
    rw (p.1, p.2, c.in_err-prepared.ensures.memory) stop

pub returns-in_err-append-clause-refused : goal.returns-in_err-append-clause-refused
returns-in_err-append-clause-refused c =
    let doc = value_document c.args.document.now.value in
    let stop : IsStopAmong c.args.rules.now doc OutOfMemory = record { query = c.query-item.result; among = (c.loop-query.query-index, omega arith, sym c.query-item.is); stop = λ no. absurd (no refl) } in
    let p = err_from_is_err_and c.from_residual-in_err-append.result c.from_residual-in_err-append.ensures.1 in
    rw (p.1, p.2) stop
