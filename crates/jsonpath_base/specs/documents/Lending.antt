-- What becomes of a value once the borrow of what a reference means ends.
use Rattle.std.specs.Prelude.{◌≡◌, List, ℕ, Option, None, Result, Ok, Err, true}
use Rattle.std.specs.Option.{OnSome}
use Rattle.std.specs.Borrow.{LendsSo, MutBor, Fml}
use Rattle.serde_json.specs.contracts.value.Value.{the_row}
use Rattle.serde_json.specs.declared.value.Value.{Value}
use Rattle.jsonpath_parser.specs.declared.errors.JsonPathError.{JsonPathError}
use Rattle.jsonpath_base.specs.Values.{value_tree}
use Rattle.jsonpath_base.specs.documents.Document.{value_document}
use Rattle.jsonpath_base.specs.documents.Referring.{IsReplaced}

-- the reference in a result, if there is one
abbrev pub lent_in : Result (Option (MutBor Value)) JsonPathError → Option (MutBor Value)
lent_in (Ok o) = o
lent_in (Err e) = None

-- s ends with what r points to at the end in the place of what was at the location that the text means, and as it was for `None`
abbrev pub LendsReferred : List ℕ → MutBor Value → Option (MutBor Value) → Fml
LendsReferred text s r = LendsSo the_row the_row s r (λ n w. OnSome r (IsReplaced text (value_document s.now) (value_tree w) true (value_tree n))) (λ n. n ≡ s.now)
