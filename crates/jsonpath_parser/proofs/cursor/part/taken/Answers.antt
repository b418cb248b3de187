use Rattle.std.proofs.Common.{refl, sym, inl, inr}
use Rattle.jsonpath_parser.proofs.cursor.part.taken.Goals as goal

pub returns-then-is_typed : goal.returns-then-is_typed
returns-then-is_typed g c = (c.in-Ok.base, sym c.in-Ok.is, (_, c.in-Ok-take.ensures), (_, c.if-is_typed.ensures, refl))

pub returns-in-Ok-take : goal.returns-in-Ok-take
returns-in-Ok-take g c = inr ((c.in-Ok.base, c.in-Ok.rest), sym c.in-Ok.is, inr (_, c.if-is_typed.ensures, (_, c.in-Ok-take.ensures), λ e. absurd (cc)))

pub returns-in-Ok : goal.returns-in-Ok
returns-in-Ok g c = inr ((c.in-Ok.base, c.in-Ok.rest), sym c.in-Ok.is, inl (_, c.in-Err-take.ensures))
