-- A part that is lent on the way to a location.
use Rattle.std.proofs.Common.{◌≡◌, ℕ, zero, suc, ◌+◌, ◌-◌, ◌<◌, ◌≤◌, List, [], ◌∷◌, length, get_or, Bool, true, false, Option, Some, None, OnSome, IsSome, is_some, Vec, BTreeMap, String, Global, T, eqb, not, true≢false, refl, sym, ap, ap₂, ◌∙◌, arith}
use Rattle.std.specs.List.{slice_get}
use Rattle.jsonpath_base.specs.Prelude.{at, child, has_index, Index, index, index_in, is_entry, items_view, Location, location_view, lookup, members_view, Name, name, name_in, next, null, rest, Tree, Value, value_tree, view}
use Rattle.serde_json.specs.Data as json
use Rattle.serde_json.specs.Find as json_find
use Rattle.jsonpath_base.specs.declared.step.Step.{Step}
use Rattle.jsonpath_base.specs.inner.Lent.{step_in}
use Rattle.jsonpath_base.proofs.Putting.{child_element, child_member, past_element, no_elements, absent_member, no_members}

pub on_some : {T : Type 0} {X : Type 0} (o : Option T) → X → OnSome o X
on_some None x = tt
on_some (Some t) x = x

-- ---- tests

pub positive : (k : ℕ) → T (not (eqb k 0)) → (0 < k) × (k ≡ suc (k - 1))
positive zero t = absurd t
positive (suc m) t = (omega arith, omega arith)

pub is_true : (b : Bool) → T b → b ≡ true
is_true true t = refl
is_true false t = absurd t

pub no_tree : (o : Option Tree) → is_some o ≡ false → None ≡ o
no_tree None e = refl
no_tree (Some t) e = absurd cc

pub is_false : (b : Bool) → T (not b) → b ≡ false
is_false false t = refl
is_false true t = absurd t

-- ---- the steps that are left

index_step : (o : Option Step) → has_index o ≡ true → step_in o ≡ index (index_in o)
index_step None e = absurd cc
index_step (Some (Name n)) e = absurd cc
index_step (Some (Index i)) e = refl

pub rest_index : (steps : List Step) (k j : ℕ) → k ≡ suc j → has_index (next steps k) ≡ true → rest steps k ≡ index (index_in (next steps k)) ∷ rest steps j
rest_index steps k j e is = ap (rest steps) e ∙ ap (λ s. s ∷ rest steps j) (index_step (next steps (suc j)) (ap (λ m. has_index (next steps m)) (sym e) ∙ is)) ∙ ap (λ m. index (index_in (next steps m)) ∷ rest steps j) (sym e)

-- a step that is there and is no index
name_step : (steps : List Step) (i : ℕ) → i < length steps → has_index (slice_get steps i) ≡ false → step_in (slice_get steps i) ≡ name (name_in (slice_get steps i))
name_step [] i l e = absurd (omega (arith, l))
name_step (Name n ∷ steps) zero l e = refl
name_step (Index m ∷ steps) zero l e = absurd cc
name_step (s ∷ steps) (suc i) l e = name_step steps i (omega (arith, l)) e

pub rest_name : (steps : List Step) (k j : ℕ) → k ≡ suc j → k ≤ length steps → has_index (next steps k) ≡ false → rest steps k ≡ name (name_in (next steps k)) ∷ rest steps j
rest_name steps k j e within is =
    ap (rest steps) e ∙ ap (λ s. s ∷ rest steps j) (name_step steps (length steps - suc j) (omega (arith, e, within)) (ap (λ m. has_index (next steps m)) (sym e) ∙ is)) ∙ ap (λ m. name (name_in (next steps m)) ∷ rest steps j) (sym e)

rest_from : (steps more : List Step) (n : ℕ) → ((i : ℕ) → slice_get steps (n + i) ≡ slice_get more i) → length steps ≡ n + length more → rest steps (length more) ≡ location_view more
rest_from steps [] n same long = refl
rest_from steps (s ∷ more) n same long =
    let place : length steps - suc (length more) ≡ n + 0 = omega (arith, long) in
    let further : (i : ℕ) → slice_get steps (suc n + i) ≡ slice_get more i = λ i. (let one : suc n + i ≡ n + suc i = omega arith in ap (slice_get steps) one ∙ same (suc i)) in
    ap₂ (λ o l. step_in o ∷ l) (ap (slice_get steps) place ∙ same 0) (rest_from steps more (suc n) further (omega (arith, long)))

-- before the first step, all are left
pub rest_all : (steps : List Step) (k : ℕ) → k ≡ length steps → rest steps k ≡ location_view steps
rest_all steps k e = ap (rest steps) e ∙ rest_from steps steps 0 (λ i. (let none : 0 + i ≡ i = omega arith in ap (slice_get steps) none)) (omega arith)

-- ---- what is there

at_child : (l : Location) (s : Rattle.jsonpath_parser.specs.Location.Step) (t u : Tree) → child s t ≡ Some u → at (s ∷ l) t ≡ at l u
at_child l s t u e = rw e

pub list_there : (value : Value) (i : ℕ) (l : Location) → IsSome (at (index i ∷ l) (value_tree value)) → IsSome (json_find.as_array (view value))
list_there value i l there = by (json_find.as_array (view value)) refl
  where
    by : (o : Option json.Items) → o ≡ json_find.as_array (view value) → IsSome (json_find.as_array (view value))
    by (Some ds) e = ap is_some (sym e)
    by None e = absurd (true≢false (sym there ∙ (no_elements value i l null e).1))

pub item_there : (value : Value) (v : Vec Value Global) (i : ℕ) (l : Location) → Some (items_view v.items) ≡ json_find.as_array (view value) → IsSome (at (index i ∷ l) (value_tree value)) → i < length v.items
item_there value v i l held there =
    let not_past : length v.items ≤ i → ⊥ = λ past. true≢false (sym there ∙ (past_element value v i l null held past).1) in omega (arith, not_past)

pub at_item : (value : Value) (v : Vec Value Global) (i : ℕ) (l : Location) (x : Value) → Some (items_view v.items) ≡ json_find.as_array (view value) → i < length v.items → x ≡ get_or v.items i x
    → at (index i ∷ l) (value_tree value) ≡ at l (value_tree x)
at_item value v i l x held within read = at_child l (index i) (value_tree value) (value_tree x) (child_element value v i x held within read)

pub object_there : (value : Value) (k : List ℕ) (l : Location) → IsSome (at (name k ∷ l) (value_tree value)) → IsSome (json_find.as_object (view value))
object_there value k l there = by (json_find.as_object (view value)) refl
  where
    by : (o : Option json.Members) → o ≡ json_find.as_object (view value) → IsSome (json_find.as_object (view value))
    by (Some ms) e = ap is_some (sym e)
    by None e = absurd (true≢false (sym there ∙ (no_members value k l null e).1))

pub member_there : (value : Value) (m : BTreeMap (String Global) Value) (k : List ℕ) (l : Location) → Some (members_view m.entries) ≡ json_find.as_object (view value) → IsSome (at (name k ∷ l) (value_tree value))
    → IsSome (lookup (is_entry k) m.entries)
member_there value m k l held there = by (lookup (is_entry k) m.entries) refl
  where
    by : (o : Option Value) → o ≡ lookup (is_entry k) m.entries → IsSome (lookup (is_entry k) m.entries)
    by (Some x) e = ap is_some (sym e)
    by None e = absurd (true≢false (sym there ∙ (absent_member value m m k l null held (sym e) refl).1))

pub at_member : (value : Value) (m : BTreeMap (String Global) Value) (k : List ℕ) (l : Location) (x : Value) → Some (members_view m.entries) ≡ json_find.as_object (view value) → Some x ≡ lookup (is_entry k) m.entries
    → at (name k ∷ l) (value_tree value) ≡ at l (value_tree x)
at_member value m k l x held found = at_child l (name k) (value_tree value) (value_tree x) (child_member value m k x held (sym found))
