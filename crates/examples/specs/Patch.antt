-- What a JSON Patch makes of a document (RFC 6902). Its paths are JSON Pointers (RFC 6901). None: the operation fails.
use Rattle.std.specs.Prelude.{◌≡◌, ℕ, List, [], ◌∷◌, ◌==◌, eqb, Bool, ◌&&◌, Option, Some, None, if◌then◌else◌, option_map, option_and_then, codes, length, take, slice_get, slice_index, string_bytes, bytes_eq}
use Rattle.std.specs.List.{starts_with}
use Rattle.std.specs.Path.{rsplit_once}
use Rattle.std.specs.Str.{byte}
use Rattle.jsonpath_rust.specs.Location.{Step, index, Location}
use Rattle.jsonpath_rust.specs.Added.{added, takes_at}
use Rattle.jsonpath_rust.specs.Places.{at}
use Rattle.jsonpath_rust.specs.Pointer.{step_in, location_in}
use Rattle.jsonpath_rust.specs.Put.{put}
use Rattle.jsonpath_rust.specs.Same.{same}
use Rattle.jsonpath_rust.specs.Tree.{Tree, list, elements}
use Rattle.jsonpath_rust.specs.Without.{without, is_among}
use Rattle.jsonpath_rust.specs.base.Values.{value_tree}
use Rattle.examples.specs.declared.patch.Operation.{Operation}
use Rattle.examples.specs.declared.patch.Operation.TheVariants.{Add, Remove, Replace, Move, Copy, Test}

-- ---- where a path leads (RFC 6901)

-- what stands at the location that a path means
abbrev pub value_in : List ℕ → Tree → Option Tree
value_in path t = option_and_then (λ l. at l t) (location_in path t)

-- ---- what each operation makes of a document (RFC 6902, 4)

-- what a token means where a value is added: in a list `-` is the index behind the last element (RFC 6901, 4)
abbrev pub new_step : List ℕ → Tree → Option Step
new_step part (list ts) = if bytes_eq part (codes "-") then Some (index (length (elements ts))) else step_in part (list ts)
new_step part t = step_in part t

-- The tokens up to the last `/` lead to an object or a list; what stands behind it means a member or an element of that.
abbrev pub target_in : List ℕ → Tree → Option (Location × Step)
target_in path t = option_and_then (λ p. option_and_then (λ l. option_map (λ s. (l, s)) (option_and_then (new_step p.1) (at l t))) (location_in p.0 t)) (rsplit_once (byte "/") path)

-- 4.1: the value is the document; or a member, in the place of one of its name; or an element, before the one of its index, which is at most the length.
abbrev pub with_added : List ℕ → Tree → Tree → Option Tree
with_added path u t = if length path == 0 then Some u else option_and_then (λ p. if takes_at p.0 p.1 t then Some (added p.0 p.1 u t) else None) (target_in path t)

-- 4.2: what is there is removed, and later elements move down; of the document null is left.
abbrev pub removed : List ℕ → Tree → Option Tree
removed path t = option_map (λ l. without (is_among (l ∷ [])) t) (location_in path t)

-- 4.3: the value stands in the place of the one that is there.
abbrev pub replaced : List ℕ → Tree → Tree → Option Tree
replaced path u t = option_map (λ l. put l u t) (location_in path t)

-- The path leads inside what `from` leads to: `from` and a `/` begin it.
abbrev pub is_inside : List ℕ → List ℕ → Bool
is_inside path from = starts_with eqb path from && (slice_index path (length from) == byte "/")

-- 4.4: what is there is removed, and then added; nothing is moved into itself.
abbrev pub moved : List ℕ → List ℕ → Tree → Option Tree
moved from path t = if is_inside path from then None else option_and_then (λ u. option_and_then (with_added path u) (removed from t)) (value_in from t)

-- 4.5: what is there is added.
abbrev pub copied : List ℕ → List ℕ → Tree → Option Tree
copied from path t = option_and_then (λ u. with_added path u t) (value_in from t)

-- 4.6: what is there is the same as the value, and nothing changes.
abbrev pub tested : List ℕ → Tree → Tree → Option Tree
tested path u t = option_and_then (λ w. if same w u then Some t else None) (value_in path t)

abbrev pub patched : Operation → Tree → Option Tree
patched (Add path value) t = with_added (string_bytes path) (value_tree value.value) t
patched (Remove path) t = removed (string_bytes path) t
patched (Replace path value) t = replaced (string_bytes path) (value_tree value.value) t
patched (Move from path) t = moved (string_bytes from) (string_bytes path) t
patched (Copy from path) t = copied (string_bytes from) (string_bytes path) t
patched (Test path value) t = tested (string_bytes path) (value_tree value.value) t

-- ---- what a patch makes of it (sections 3 and 5)

-- the operations in turn, each of what the one before it leaves
abbrev pub all_patched : List Operation → Tree → Option Tree
all_patched [] t = Some t
all_patched (o ∷ os) t = option_and_then (all_patched os) (patched o t)

-- Those before this index apply, and the one there fails, of what they leave.
pub record FailsAt (operations : List Operation) (t : Tree) (index : ℕ) : Type 0 where
  pub between : Tree
  pub before : all_patched (take index operations) t ≡ Some between
  pub operation : Operation
  pub there : slice_get operations index ≡ Some operation
  pub fails : patched operation between ≡ None
