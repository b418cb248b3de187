-- What removal leaves of the data of a value, for its contracts alone: as Without says for trees.
use Rattle.std.specs.Prelude.{◌≡◌, String, ℕ, suc, List, [], ◌∷◌, Bool, if◌then◌else◌, Option, Some, None}
use Rattle.std.specs.Global.{Global}
use Rattle.std.specs.Map.{lookup}
use Rattle.serde_json.specs.Data.{Data, null, boolean, number, string, array, object, Items, no_items, item, Members, no_members, member}
use Rattle.jsonpath_parser.specs.Location.{name, index, Location}
use Rattle.jsonpath_base.specs.inner.LocationTries.{to_member, is_key, marked, marked_by, marked_below}
use Rattle.jsonpath_base.specs.declared.location_trie.LocationTrie.{LocationTrie}

abbrev mutual
  pub data_thinned : (Location → Bool) → Data → Data
  data_thinned gone null = null
  data_thinned gone (boolean b) = boolean b
  data_thinned gone (number n) = number n
  data_thinned gone (string s) = string s
  data_thinned gone (array ds) = array (items_thinned gone 0 ds)
  data_thinned gone (object ms) = object (members_thinned gone ms)

  pub items_thinned : (Location → Bool) → ℕ → Items → Items
  items_thinned gone i no_items = no_items
  items_thinned gone i (item d ds) =
      if gone (index i ∷ []) then items_thinned gone (suc i) ds else item (data_thinned (λ l. gone (index i ∷ l)) d) (items_thinned gone (suc i) ds)

  pub members_thinned : (Location → Bool) → Members → Members
  members_thinned gone no_members = no_members
  members_thinned gone (member k d ms) =
      if gone (name k ∷ []) then members_thinned gone ms else member k (data_thinned (λ l. gone (name k ∷ l)) d) (members_thinned gone ms)

-- ---- a list in two steps: first below its elements, then the elements

abbrev pub thinned_by : Option LocationTrie → Data → Data
thinned_by None d = d
thinned_by (Some m) d = if marked m [] then d else data_thinned (marked m) d

abbrev pub thinned_below : List (ℕ × LocationTrie) → ℕ → Items → Items
thinned_below es i no_items = no_items
thinned_below es i (item d ds) = item (thinned_by (lookup (is_key index (index i)) es) d) (thinned_below es (suc i) ds)

abbrev pub sieved : List (ℕ × LocationTrie) → ℕ → Items → Items
sieved es i no_items = no_items
sieved es i (item d ds) = if marked_by (lookup (is_key index (index i)) es) [] then sieved es (suc i) ds else item d (sieved es (suc i) ds)

-- ---- one entry of a trie after the other

-- With the entries after this element's, the list is thinned as with its entry too.
pub record IsThinnedAt (i : ℕ) (m : LocationTrie) (old new : Items) : Type 0 where
  pub each : (es : List (ℕ × LocationTrie)) → lookup (is_key index (index i)) es ≡ None → thinned_below es 0 new ≡ thinned_below ((i, m) ∷ es) 0 old

-- The same for a member.
pub record IsThinnedBy (k : String Global) (m : LocationTrie) (old new : Members) : Type 0 where
  pub each : (es : List (String Global × LocationTrie)) → lookup (is_key to_member (to_member k)) es ≡ None → members_thinned (marked_below to_member es) new ≡ members_thinned (marked_below to_member ((k, m) ∷ es)) old
