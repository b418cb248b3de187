use Rattle.std.proofs.Common.{◌≡◌, vec_len}
use Rattle.jsonpath_base.specs.Prelude.{AreAll, view}
use Rattle.jsonpath_base.proofs.masking.copies_for.Given as goal

abbrev pub invariant-loop : goal.invariant-loop
invariant-loop l = AreAll (view l.value) l.copies.items × (vec_len l.copies ≡ l.counter)
