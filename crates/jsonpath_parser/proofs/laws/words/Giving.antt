-- What reading gives where a `?` hands an error on.
use Rattle.std.proofs.Common.{◌≡◌, Option, None, Result, Ok, Err, IsErrAnd, ◌∙◌}
use Rattle.jsonpath_parser.specs.Prelude.{Gives, Memory, ParseError}

-- an error that a `?` passes on
pub gives_err : {A B : Type 0} (f : A → B) (r : Result A ParseError) (expected : Option B) (e : ParseError) (Q : ParseError → Type 0)
    → IsErrAnd r Q → ((y : ParseError) → Q y → y ≡ e) → ((e ≡ Memory → ⊥) → expected ≡ None) → Gives f r expected
gives_err f (Ok a) expected e Q h same refused = absurd h
gives_err f (Err y) expected e Q h same refused = λ other. refused (λ m. other (same y h ∙ m))
