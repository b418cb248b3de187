-- What a replacement leaves of the data of a value, for its contracts alone: as Overwritten says for trees.
use Rattle.std.specs.Prelude.{◌≡◌, String, ℕ, suc, ◌+◌, List, [], ◌∷◌, Bool, if◌then◌else◌, None, All}
use Rattle.std.specs.Global.{Global}
use Rattle.std.specs.Map.{lookup}
use Rattle.serde_json.specs.Data.{Data, null, boolean, number, string, array, object, Items, no_items, item, Members, no_members, member}
use Rattle.serde_json.specs.View.{view}
use Rattle.serde_json.specs.declared.value.Value.{Value}
use Rattle.jsonpath_parser.specs.Location.{name, index, Location}
use Rattle.jsonpath_base.specs.inner.LocationTries.{to_member, is_key, marked_below, total}
use Rattle.jsonpath_base.specs.declared.location_trie.LocationTrie.{LocationTrie, fold-LocationTrie}
use Rattle.jsonpath_base.specs.declared.location_trie.LocationTrie.TheOpen.{LocationTrie-F}

abbrev mutual
  pub data_below : (Location → Bool) → Data → Data → Data
  data_below set u null = null
  data_below set u (boolean b) = boolean b
  data_below set u (number n) = number n
  data_below set u (string s) = string s
  data_below set u (array ds) = array (items_overwritten set u 0 ds)
  data_below set u (object ms) = object (members_overwritten set u ms)

  pub items_overwritten : (Location → Bool) → Data → ℕ → Items → Items
  items_overwritten set u i no_items = no_items
  items_overwritten set u i (item d ds) =
      item (if set (index i ∷ []) then u else data_below (λ l. set (index i ∷ l)) u d) (items_overwritten set u (suc i) ds)

  pub members_overwritten : (Location → Bool) → Data → Members → Members
  members_overwritten set u no_members = no_members
  members_overwritten set u (member k d ms) =
      member k (if set (name k ∷ []) then u else data_below (λ l. set (name k ∷ l)) u d) (members_overwritten set u ms)

abbrev pub data_overwritten : (Location → Bool) → Data → Data → Data
data_overwritten set u d = if set [] then u else data_below set u d

-- each of the values has this data
abbrev pub AreAll : Data → List Value → Type 0
AreAll u vs = All (λ v. view v ≡ u) vs

-- ---- one entry of a trie after the other

-- With the entries after this element's, the list is overwritten as with its entry too.
pub record IsFilledAt (i : ℕ) (m : LocationTrie) (u : Data) (old new : Items) : Type 0 where
  pub each : (es : List (ℕ × LocationTrie)) → lookup (is_key index (index i)) es ≡ None → items_overwritten (marked_below index es) u 0 new ≡ items_overwritten (marked_below index ((i, m) ∷ es)) u 0 old

-- The same for a member.
pub record IsFilledBy (k : String Global) (m : LocationTrie) (u : Data) (old new : Members) : Type 0 where
  pub each : (es : List (String Global × LocationTrie)) → lookup (is_key to_member (to_member k)) es ≡ None → members_overwritten (marked_below to_member es) u new ≡ members_overwritten (marked_below to_member ((k, m) ∷ es)) u old

-- ---- the number of locations that are inside no other

abbrev pub outermost_step : LocationTrie-F ℕ → ℕ
outermost_step m = if m.is_marked then 1 else total m.names.items + total m.indexes.items

abbrev pub outermost_count : LocationTrie → ℕ
outermost_count = fold-LocationTrie ℕ outermost_step

-- the same for the entries of one level
abbrev pub outermost_total : {K : Type 0} → List (K × LocationTrie) → ℕ
outermost_total [] = 0
outermost_total (e ∷ es) = outermost_count e.1 + outermost_total es
