-- What a replacement leaves of a tree, from what it leaves of data.
use Rattle.std.proofs.Common.{◌≡◌, ℕ, suc, ℤ, [], ◌∷◌, map, Bool, true, false, if◌then◌else◌, Option, Some, None, refl, ap, ap₂, ◌∙◌}
use Rattle.std.proofs.lemmas.Bool.{and_parts, and_from}
use Rattle.serde_json.specs.Data as json
use Rattle.jsonpath_base.specs.Prelude.{are_distinct, as_i64, Data, data_below, data_overwritten, elements_overwritten, has_distinct_names, index, Items, items_overwritten, Location, members_distinct, members_of, members_overwritten, members_whole, name, overwritten, overwritten_below, pairs, Tree, tree_of, tree_of_number, trees_of}
use Rattle.jsonpath_base.specs.Overwritten as replaced
use Rattle.jsonpath_base.specs.Tree as trees
use Rattle.jsonpath_base.proofs.PutWhole.{item_and_more, member_and_more}
use Rattle.jsonpath_base.proofs.Views.{data_whole, items_are_whole, members_are_whole, object_members_whole, first_item_whole, more_items_whole, first_member_whole, more_members_whole}

-- ---- the tree

tree_if : (b : Bool) (u d : Data) (t : Tree) → tree_of d ≡ t → tree_of (if b then u else d) ≡ (if b then tree_of u else t)
tree_if true u d t e = refl
tree_if false u d t e = e

number_filled : (set : Location → Bool) (u : Tree) (o : Option ℤ) → tree_of_number o ≡ overwritten_below set u (tree_of_number o)
number_filled set u None = refl
number_filled set u (Some n) = refl

mutual
  tree_below : (set : Location → Bool) (u d : Data) → tree_of (data_below set u d) ≡ overwritten_below set (tree_of u) (tree_of d)
  tree_below set u json.null = refl
  tree_below set u (json.boolean b) = refl
  tree_below set u (json.number n) = number_filled set (tree_of u) (as_i64 n)
  tree_below set u (json.string s) = refl
  tree_below set u (json.array ds) = ap trees.list (trees_below set u 0 ds)
  tree_below set u (json.object ms) = ap trees.object (object_below set u ms)

  trees_below : (set : Location → Bool) (u : Data) (i : ℕ) (ds : Items) → trees_of (items_overwritten set u i ds) ≡ elements_overwritten set (tree_of u) i (trees_of ds)
  trees_below set u i json.no_items = refl
  trees_below set u i (json.item d ds) = ap₂ trees.tree (tree_if (set (index i ∷ [])) u _ _ (tree_below (λ l. set (index i ∷ l)) u d)) (trees_below set u (suc i) ds)

  object_below : (set : Location → Bool) (u : Data) (ms : json.Members) → members_of (members_overwritten set u ms) ≡ replaced.members_overwritten set (tree_of u) (members_of ms)
  object_below set u json.no_members = refl
  object_below set u (json.member k d ms) = ap₂ (trees.member k) (tree_if (set (name k ∷ [])) u _ _ (tree_below (λ l. set (name k ∷ l)) u d)) (object_below set u ms)

pub tree_filled : (set : Location → Bool) (u d : Data) → tree_of (data_overwritten set u d) ≡ overwritten set (tree_of u) (tree_of d)
tree_filled set u d = tree_if (set []) u _ _ (tree_below set u d)

-- ---- what is whole stays so

whole_if : (b : Bool) (u d : Data) → data_whole u ≡ true → data_whole d ≡ true → data_whole (if b then u else d) ≡ true
whole_if true u d h k = h
whole_if false u d h k = k

-- the names are as they were
names_filled : (set : Location → Bool) (u : Data) (ms : json.Members) → map (λ m. m.0) (pairs (members_of (members_overwritten set u ms))) ≡ map (λ m. m.0) (pairs (members_of ms))
names_filled set u json.no_members = refl
names_filled set u (json.member k d ms) = ap (λ ks. k ∷ ks) (names_filled set u ms)

object_whole : (set : Location → Bool) (u : Data) (ms : json.Members) → members_are_whole (members_overwritten set u ms) ≡ true → data_whole (json.object ms) ≡ true → data_whole (json.object (members_overwritten set u ms)) ≡ true
object_whole set u ms members h =
    let new = members_overwritten set u ms in
    let parts = and_parts (members_whole new) (members_distinct (members_of new)) members in
    let names = (and_parts (members_whole ms) (has_distinct_names (tree_of (json.object ms))) h).1 in
    let distinct = (and_parts (are_distinct (map (λ m. m.0) (pairs (members_of ms)))) (members_distinct (members_of ms)) names).0 in
    and_from (members_whole new) _ parts.0 (and_from (are_distinct (map (λ m. m.0) (pairs (members_of new)))) (members_distinct (members_of new)) (ap are_distinct (names_filled set u ms) ∙ distinct) parts.1)

mutual
  below_whole : (set : Location → Bool) (u d : Data) → data_whole u ≡ true → data_whole d ≡ true → data_whole (data_below set u d) ≡ true
  below_whole set u json.null new h = h
  below_whole set u (json.boolean b) new h = h
  below_whole set u (json.number n) new h = h
  below_whole set u (json.string s) new h = h
  below_whole set u (json.array ds) new h = items_below_whole set u 0 ds new h
  below_whole set u (json.object ms) new h = object_whole set u ms (members_below_whole set u ms new (object_members_whole ms h)) h

  items_below_whole : (set : Location → Bool) (u : Data) (i : ℕ) (ds : Items) → data_whole u ≡ true → items_are_whole ds ≡ true → items_are_whole (items_overwritten set u i ds) ≡ true
  items_below_whole set u i json.no_items new h = h
  items_below_whole set u i (json.item d ds) new h =
      let inside = λ (l : Location). set (index i ∷ l) in
      let first = whole_if (set (index i ∷ [])) u (data_below inside u d) new (below_whole inside u d new (first_item_whole d ds h)) in
      item_and_more (data_overwritten inside u d) (items_overwritten set u (suc i) ds) first (items_below_whole set u (suc i) ds new (more_items_whole d ds h))

  members_below_whole : (set : Location → Bool) (u : Data) (ms : json.Members) → data_whole u ≡ true → members_are_whole ms ≡ true → members_are_whole (members_overwritten set u ms) ≡ true
  members_below_whole set u json.no_members new h = h
  members_below_whole set u (json.member k d ms) new h =
      let inside = λ (l : Location). set (name k ∷ l) in
      let first = whole_if (set (name k ∷ [])) u (data_below inside u d) new (below_whole inside u d new (first_member_whole k d ms h)) in
      member_and_more k (data_overwritten inside u d) (members_overwritten set u ms) first (members_below_whole set u ms new (more_members_whole k d ms h))

pub whole_filled : (set : Location → Bool) (u d : Data) → data_whole u ≡ true → data_whole d ≡ true → data_whole (data_overwritten set u d) ≡ true
whole_filled set u d new h = whole_if (set []) u (data_below set u d) new (below_whole set u d new h)
