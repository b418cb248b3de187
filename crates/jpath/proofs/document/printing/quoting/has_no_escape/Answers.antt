use Rattle.std.proofs.Common.{length, subst}
use Rattle.std.specs.Bool.{OnTrue}
use Rattle.json.proofs.Printed.Plain.{escape_on_plain}
use Rattle.json.specs.Written.{PlainBetween}
use Rattle.jpath.proofs.document.printing.quoting.has_no_escape.Goals as goal

pub returns : goal.returns
returns c = escape_on_plain c.is_plain.result c.args.content.now (subst (λ t. OnTrue c.is_plain.result (PlainBetween t 0 (length t))) c.as_bytes.ensures.value c.is_plain.ensures)
