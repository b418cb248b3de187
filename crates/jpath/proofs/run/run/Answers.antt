use Rattle.std.proofs.Common.{sym, inr, map, string_bytes}
use Rattle.std.proofs.lemmas.Result.{err_from_is_err_and}
use Rattle.jpath.proofs.Told.{told, told_front, no_output}
use Rattle.jpath.proofs.run.run.Goals as goal

pub returns-in_err-output-clause-fault : goal.returns-in_err-output-clause-fault
returns-in_err-output-clause-fault g c =
    let h = no_output (map string_bytes c.args.words.now) (g.R.Read.remaining c.args.reader.now) _ _ c.in-Ok.bytes.items c.in_err-output.field-0.0 (sym c.in-Some.ensures) c.in_ok-query.ensures.derived c.in-Ok.ensures.bytes c.in_err-output.ensures.refused in
    let p = err_from_is_err_and c.from_residual-in_err-output.result c.from_residual-in_err-output.ensures.1 in
    rw (p.1, p.2) h

pub returns-clause-output : goal.returns-clause-output
returns-clause-output g c = told c.write_out.result _ _ _ _ _ _ c.in-Ok.bytes.items _ (sym c.in-Some.ensures) c.in_ok-query.ensures.derived c.in-Ok.ensures.bytes (rw c.as_bytes.ensures.value c.in_ok-output.ensures.text) c.write_out.ensures.ok

pub returns-clause-begun : goal.returns-clause-begun
returns-clause-begun g c is = inr (c.in-Ok.ensures.end, told_front _ _ _ _ _ _ c.in-Ok.bytes.items _ (sym c.in-Some.ensures) c.in_ok-query.ensures.derived c.in-Ok.ensures.bytes (rw c.as_bytes.ensures.value c.in_ok-output.ensures.text) (rw is at c.write_out.ensures.err))
