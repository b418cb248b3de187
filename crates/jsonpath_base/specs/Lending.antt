-- What becomes of a value once the borrow of a part of it ends.
use Rattle.std.specs.Prelude.{◌≡◌, Option}
use Rattle.std.specs.Option.{OnSome}
use Rattle.std.specs.Borrow.{LendsSo, MutBor, Fml}
use Rattle.serde_json.specs.contracts.value.Value.{the_row}
use Rattle.serde_json.specs.declared.value.Value.{Value}
use Rattle.jsonpath_parser.specs.Location.{Location}
use Rattle.jsonpath_base.specs.Put.{put}
use Rattle.jsonpath_base.specs.Values.{value_tree}

-- s ends with what r points to at the end in the place of what was at the location, and as it was for `None`
abbrev pub LendsAt : Location → MutBor Value → Option (MutBor Value) → Fml
LendsAt l s r = LendsSo the_row the_row s r (λ n w. OnSome r (value_tree n ≡ put l (value_tree w) (value_tree s.now))) (λ n. n ≡ s.now)
