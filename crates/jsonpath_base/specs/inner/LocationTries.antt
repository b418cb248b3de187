-- The locations of a trie, for the contracts of tries and of removal alone.
use Rattle.std.specs.Prelude.{◌≡◌, ◌||◌, ℕ, ◌+◌, suc, List, [], ◌∷◌, ◌++◌, map, Bool, true, ◌&&◌, false, if◌then◌else◌, Option, Some, None, String, string_cmp, string_bytes}
use Rattle.std.specs.Global.{Global}
use Rattle.std.specs.List.{list_all}
use Rattle.std.specs.Map.{lookup}
use Rattle.std.specs.Ordering.{nat_cmp, is_lt, is_eq}
use Rattle.std.specs.declared.cmp.Ordering.{Ordering}
use Rattle.jsonpath_parser.specs.Location.{Step, name, index, Location}
use Rattle.jsonpath_base.specs.Without.{is_same_step, is_among, also, counted_with, HasAlso}
use Rattle.jsonpath_base.specs.declared.location_trie.LocationTrie.{LocationTrie, fold-LocationTrie}
use Rattle.jsonpath_base.specs.declared.location_trie.LocationTrie.TheOpen.{LocationTrie-F}
use Rattle.jsonpath_base.specs.declared.location_trie.LocationTrie.TheViews.{out-LocationTrie}

-- the step to the member of this name
abbrev pub to_member : String Global → Step
to_member k = name (string_bytes k)

-- whether the step is that of this key
abbrev pub is_key : {K : Type 0} → (K → Step) → Step → K → Bool
is_key to s k = is_same_step s (to k)

-- the locations of entries, with those below each key already listed
abbrev pub listed_of : {K : Type 0} → (K → Step) → List (K × List Location) → List Location
listed_of to [] = []
listed_of to (e ∷ es) = map (λ l. to e.0 ∷ l) e.1 ++ listed_of to es

abbrev pub listed_step : LocationTrie-F (List Location) → List Location
listed_step m = (if m.is_marked then [] ∷ [] else []) ++ (listed_of to_member m.names.items ++ listed_of index m.indexes.items)

abbrev pub listed : LocationTrie → List Location
listed = fold-LocationTrie (List Location) listed_step

abbrev pub marked : LocationTrie → Location → Bool
marked m = is_among (listed m)

-- the same for the entries of one level
abbrev pub listed_in : {K : Type 0} → (K → Step) → List (K × LocationTrie) → List Location
listed_in to [] = []
listed_in to (e ∷ es) = map (λ l. to e.0 ∷ l) (listed e.1) ++ listed_in to es

abbrev pub marked_in : {K : Type 0} → (K → Step) → List (K × LocationTrie) → Location → Bool
marked_in to es = is_among (listed_in to es)

-- ---- the location that was added last

-- The last entry is of this step, and the trie below it is so.
pub record EndsIn {K : Type 0} (to : K → Step) (s : Step) (IsSo : LocationTrie → Type 0) (es : List (K × LocationTrie)) : Type 0 where
  pub front : List (K × LocationTrie)
  pub key : K
  pub below : LocationTrie
  pub all : es ≡ front ++ (key, below) ∷ []
  pub step : to key ≡ s
  pub further : IsSo below

-- at each level the last entry is of the step of this location, to the end of the location
abbrev pub EndsWith : Location → LocationTrie → Type 0
EndsWith [] m = Unit {0}
EndsWith (name k ∷ l) m = EndsIn to_member (name k) (EndsWith l) (out-LocationTrie m).names.items
EndsWith (index i ∷ l) m = EndsIn index (index i) (EndsWith l) (out-LocationTrie m).indexes.items

-- the same from the entries of one level on
abbrev pub LevelEnds : {K : Type 0} → (K → Step) → Location → List (K × LocationTrie) → Type 0
LevelEnds to [] es = Unit {0}
LevelEnds to (s ∷ l) es = EndsIn to s (EndsWith l) es

-- The trie has this location too, and it is the last one.
pub record Adds (old : LocationTrie) (at : Location) (new : LocationTrie) : Type 0 where
  pub also : HasAlso (marked old) at (marked new)
  pub ends : EndsWith at new

-- The same for the entries of one level.
pub record AddsIn {K : Type 0} (to : K → Step) (old : List (K × LocationTrie)) (at : Location) (new : List (K × LocationTrie)) : Type 0 where
  pub also : HasAlso (marked_in to old) at (marked_in to new)
  pub ends : LevelEnds to at new

-- ---- sorted tries

-- whether each key is less than those after it
abbrev pub keys_rise : {K A : Type 0} → (K → K → Ordering) → List (K × A) → Bool
keys_rise compare [] = true
keys_rise compare (e ∷ es) = list_all (λ x. is_lt (compare e.0 x.0)) es && keys_rise compare es

abbrev pub order_step : LocationTrie-F Bool → Bool
order_step m = (keys_rise string_cmp m.names.items && list_all (λ e. e.1) m.names.items) && (keys_rise nat_cmp m.indexes.items && list_all (λ e. e.1) m.indexes.items)

-- whether at each level the keys ascend
abbrev pub in_order : LocationTrie → Bool
in_order = fold-LocationTrie Bool order_step

-- the same for the entries of one level
abbrev pub level_in_order : {K : Type 0} → (K → K → Ordering) → List (K × LocationTrie) → Bool
level_in_order compare es = keys_rise compare es && list_all (λ e. in_order e.1) es

-- The two sets have the same locations.
pub record IsSameSet (old new : Location → Bool) : Type 0 where
  pub each : (l : Location) → new l ≡ old l

-- The set has the locations of both.
pub record IsJoined (left right both : Location → Bool) : Type 0 where
  pub each : (l : Location) → both l ≡ left l || right l

-- an order of keys distinguishes what their steps distinguish
abbrev pub TestsSteps : {K : Type 0} → (K → Step) → (K → K → Ordering) → Type 0
TestsSteps {K} to compare = (k l : K) → is_eq (compare k l) ≡ is_key to (to k) l

-- The entries have the same locations, whatever steps their keys mean.
pub record HoldsSame {K : Type 0} (compare : K → K → Ordering) (old new : List (K × LocationTrie)) : Type 0 where
  pub each : (to : K → Step) → TestsSteps to compare → (l : Location) → marked_in to new l ≡ marked_in to old l

-- the locations of the trie below a step, if there is one
abbrev pub marked_by : Option LocationTrie → Location → Bool
marked_by None l = false
marked_by (Some m) l = marked m l

-- the locations of the tries below these steps, each of which is there once
abbrev pub marked_below : {K : Type 0} → (K → Step) → List (K × LocationTrie) → Location → Bool
marked_below to es [] = false
marked_below to es (s ∷ l) = marked_by (lookup (is_key to s) es) l

-- a set of n locations, with these too, one after the other
abbrev pub set_with : List Location → (Location → Bool) → ℕ → (Location → Bool) × ℕ
set_with [] set n = (set, n)
set_with (l ∷ ls) set n = set_with ls (also l set) (counted_with l set n)

abbrev pub total : {K : Type 0} → List (K × ℕ) → ℕ
total [] = 0
total (e ∷ es) = e.1 + total es

-- the number of tries, for measures
abbrev pub count_step : LocationTrie-F ℕ → ℕ
count_step m = suc (total m.names.items + total m.indexes.items)

abbrev pub marks_count : LocationTrie → ℕ
marks_count = fold-LocationTrie ℕ count_step

abbrev pub marks_total : {K : Type 0} → List (K × LocationTrie) → ℕ
marks_total [] = 0
marks_total (e ∷ es) = marks_count e.1 + marks_total es
