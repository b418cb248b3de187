use Rattle.std.proofs.Common.{◌≡◌, arith}
use Rattle.std.proofs.lemmas.Bool.Decides.{nat_tests}
use Rattle.jsonpath_base.specs.Prelude.{index_of, scan}
use Rattle.jsonpath_base.proofs.pointer.index_by.Goals as goal

pub returns-in_err-index : goal.returns-in_err-index
unfolding index_of
returns-in_err-index c =
    let parts : scan c.args.part.now ≡ c.scan-numeral.result = rw (← c.as_bytes-bytes.ensures.value, c.scan-numeral.ensures.parts) in
    rw parts (grind (arith, nat_tests))

pub returns-then-bytes-ne48 : goal.returns-then-bytes-ne48
unfolding index_of
returns-then-bytes-ne48 c =
    let parts : scan c.args.part.now ≡ c.scan-numeral.result = rw (← c.as_bytes-bytes.ensures.value, c.scan-numeral.ensures.parts) in
    rw parts (grind (arith, nat_tests))

pub returns-else-len-bytes : goal.returns-else-len-bytes
unfolding index_of
returns-else-len-bytes c =
    let parts : scan c.args.part.now ≡ c.scan-numeral.result = rw (← c.as_bytes-bytes.ensures.value, c.scan-numeral.ensures.parts) in
    rw parts (grind (arith, nat_tests))
