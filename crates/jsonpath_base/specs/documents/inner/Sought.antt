-- What a text was found to mean, for the contracts of `reference_mut`'s parts alone.
use Rattle.std.specs.Prelude.{◌≡◌, Option, None, Result, Ok, Err, Vec, option_map}
use Rattle.std.specs.Global.{Global}
use Rattle.std.specs.Option.{OnSome}
use Rattle.std.specs.Borrow.{LendsSo, MutBor, Fml}
use Rattle.serde_json.specs.contracts.value.Value.{the_row}
use Rattle.serde_json.specs.declared.value.Value.{Value}
use Rattle.jsonpath_parser.specs.Location.{Location}
use Rattle.jsonpath_parser.specs.declared.errors.JsonPathError.{JsonPathError}
use Rattle.jsonpath_base.specs.Steps.{location_view}
use Rattle.jsonpath_base.specs.Values.{value_tree}
use Rattle.jsonpath_base.specs.declared.step.Step.{Step}
use Rattle.jsonpath_base.specs.documents.Referring.{put_there}

-- the location that is meant, if the result has one
abbrev pub place_in : Result (Option (Vec Step Global)) JsonPathError → Option Location
place_in (Ok o) = option_map (λ v. location_view v.items) o
place_in (Err e) = None

-- s ends with what r points to at the end in the place of what was at the location, and as it was for `None`
abbrev pub LendsThere : Option Location → MutBor Value → Option (MutBor Value) → Fml
LendsThere o s r = LendsSo the_row the_row s r (λ n w. OnSome r (value_tree n ≡ put_there o (value_tree w) (value_tree s.now))) (λ n. n ≡ s.now)

-- the borrowed value, or the error
abbrev pub answer_of : Result (Option (Vec Step Global)) JsonPathError → Option (MutBor Value) → Result (Option (MutBor Value)) JsonPathError
answer_of (Ok o) lent = Ok lent
answer_of (Err e) lent = Err e
