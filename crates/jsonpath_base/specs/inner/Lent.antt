-- What the borrow of a part leaves, by kind, and the last steps of a location.
use Rattle.std.specs.Prelude.{◌≡◌, ℕ, zero, suc, ◌-◌, List, [], ◌∷◌, length, Bool, true, false, Option, Some, None, Vec, String, ⊤, slice_get, string_bytes}
use Rattle.std.specs.BTreeMap.{BTreeMap, is_at}
use Rattle.std.specs.Borrow.{Lends, LendsSo, MutBor, Fml, follows_so}
use Rattle.std.specs.Cmp.Lexicographic.{slice_cmp}
use Rattle.std.specs.Global.{Global}
use Rattle.std.specs.Map.{set_value}
use Rattle.std.specs.Option.{OnSome}
use Rattle.std.specs.Ordering.{nat_cmp}
use Rattle.std.specs.Vec.{with_item}
use mathlib.Core.Option as maybe
use Rattle.serde_json.specs.Rows.{list_row, map_row}
use Rattle.serde_json.specs.contracts.value.Value.{the_row}
use Rattle.serde_json.specs.declared.value.Value.{Value, Array, Object}
use Rattle.jsonpath_parser.specs.Location as location
use Rattle.jsonpath_parser.specs.Location.{Location}
use Rattle.jsonpath_base.specs.Put.{put}
use Rattle.jsonpath_base.specs.Steps.{owned_step}
use Rattle.jsonpath_base.specs.Values.{value_tree}
use Rattle.jsonpath_base.specs.declared.step.Step.{Step}
use Rattle.jsonpath_base.specs.declared.step.Step.TheVariants.{Name, Index}

-- ---- the last steps

-- the first of the remaining steps
abbrev pub next : List Step → ℕ → Option Step
next steps remaining = slice_get steps (length steps - remaining)

abbrev pub has_index : Option Step → Bool
has_index (Some (Index i)) = true
has_index _ = false

abbrev pub index_in : Option Step → ℕ
index_in (Some (Index i)) = i
index_in _ = 0

abbrev pub name_in : Option Step → List ℕ
name_in (Some (Name n)) = string_bytes n
name_in _ = []

abbrev pub step_in : Option Step → location.Step
step_in (Some s) = owned_step s
step_in None = location.index 0

-- where the remaining steps lead
abbrev pub rest : List Step → ℕ → Location
rest steps zero = []
rest steps (suc remaining) = step_in (next steps (suc remaining)) ∷ rest steps remaining

-- ---- borrows

abbrev pub LendsList : MutBor Value → MutBor (Vec Value Global) → Fml
LendsList s r = Lends the_row list_row s r Array

abbrev pub LendsItem : ℕ → MutBor (Vec Value Global) → MutBor Value → Fml
LendsItem i s r = Lends list_row the_row s r (with_item s.now i)

abbrev pub LendsMap : MutBor Value → MutBor (BTreeMap (String Global) Value) → Fml
LendsMap s r = Lends the_row map_row s r Object

abbrev pub is_entry : List ℕ → String Global → Bool
is_entry k = is_at (λ l. slice_cmp nat_cmp k (string_bytes l))

abbrev pub LendsMember : List ℕ → MutBor (BTreeMap (String Global) Value) → Option (MutBor Value) → Fml
LendsMember k s r = LendsSo map_row the_row s r (λ n w. OnSome r (n.entries ≡ set_value (is_entry k) s.now.entries w)) (λ n. n ≡ s.now)

abbrev pub LendsFound : List ℕ → MutBor (BTreeMap (String Global) Value) → MutBor Value → Fml
LendsFound k s r = LendsMember k s (Some r)

-- what is there where the remaining steps lead
abbrev pub LendsRest : List Step → ℕ → MutBor Value → MutBor Value → Fml
LendsRest steps remaining s r = follows_so the_row the_row s.ghost_name (maybe.some r.ghost_name) (λ w n. value_tree n ≡ put (rest steps remaining) (value_tree w) (value_tree s.now)) (λ n. ⊤)
