-- The text of a value of whole numbers.
use Rattle.std.proofs.Common.{◌≡◌, ℕ, pos, ◌∷◌, Bool, true, false, Some, None, is_some, if◌then◌else◌, nat_lt, ◌^◌, decimal, refl, ap}
use Rattle.std.proofs.lemmas.Bool.{and_parts}
use Rattle.serde_json.specs.Data as json
use Rattle.serde_json.specs.Data.{Data, Items, Members, unsigned, float}
use Rattle.serde_json.specs.Written.{has_float, items_have_float, members_have_float, compact_text, items_text, members_text as object_text}
use Rattle.jsonpath_base.specs.Values.{tree_of, trees_of, members_of, tree_of_number, has_whole_numbers, items_whole, members_whole}
use Rattle.jpath.specs.Json.{json_text, elements_text, members_text}

-- a number that passed a test, here any
number_text-if : (b : Bool) (n : ℕ) → is_some (if b then Some (pos n) else None) ≡ true → decimal n ≡ json_text (tree_of_number (if b then Some (pos n) else None))
number_text-if true n h = refl
number_text-if false n h = cc

-- serde_json writes a value of whole numbers as its tree's text
mutual
  pub compact_text-whole : (d : Data) → has_whole_numbers d ≡ true → compact_text d ≡ json_text (tree_of d)
  compact_text-whole (json.boolean true) h = refl
  compact_text-whole (json.boolean false) h = refl
  compact_text-whole (json.number (unsigned n)) h = number_text-if (nat_lt n (2 ^ 63)) n h
  compact_text-whole (json.number (float x)) h = cc
  compact_text-whole (json.array ds) h = ap (λ x. 91 ∷ x) (items_text-whole false ds h)
  compact_text-whole (json.object ms) h = ap (λ x. 123 ∷ x) (members_text-whole false ms h)
  compact_text-whole _ h = refl

  items_text-whole : (later : Bool) (ds : Items) → items_whole ds ≡ true → items_text later ds ≡ elements_text later (trees_of ds)
  items_text-whole later json.no_items h = refl
  items_text-whole later (json.item d ds) h =
      let parts = and_parts (has_whole_numbers d) (items_whole ds) h in
      rw (compact_text-whole d parts.0, items_text-whole true ds parts.1)

  members_text-whole : (later : Bool) (ms : Members) → members_whole ms ≡ true → object_text later ms ≡ members_text later (members_of ms)
  members_text-whole later json.no_members h = refl
  members_text-whole later (json.member k d ms) h =
      let parts = and_parts (has_whole_numbers d) (members_whole ms) h in
      rw (compact_text-whole d parts.0, members_text-whole true ms parts.1)

-- and it has no float
mutual
  pub has_float-whole : (d : Data) → has_whole_numbers d ≡ true → has_float d ≡ false
  has_float-whole (json.number (float x)) h = cc
  has_float-whole (json.array ds) h = items_have_float-whole ds h
  has_float-whole (json.object ms) h = members_have_float-whole ms h
  has_float-whole _ h = refl

  items_have_float-whole : (ds : Items) → items_whole ds ≡ true → items_have_float ds ≡ false
  items_have_float-whole json.no_items h = refl
  items_have_float-whole (json.item d ds) h =
      let parts = and_parts (has_whole_numbers d) (items_whole ds) h in
      rw (has_float-whole d parts.0, items_have_float-whole ds parts.1)

  members_have_float-whole : (ms : Members) → members_whole ms ≡ true → members_have_float ms ≡ false
  members_have_float-whole json.no_members h = refl
  members_have_float-whole (json.member k d ms) h =
      let parts = and_parts (has_whole_numbers d) (members_whole ms) h in
      rw (has_float-whole d parts.0, members_have_float-whole ms parts.1)
