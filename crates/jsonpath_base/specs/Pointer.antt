-- JSON Pointer (RFC 6901): the text of a location, and the location that a text means.
use Rattle.std.specs.Prelude.{◌≡◌, ℕ, List, [], ◌∷◌, ◌++◌, ◌==◌, if◌then◌else◌, codes, Option, Some, None, IsSome, option_and_then, option_map, flat_map}
use Rattle.std.specs.Str.{byte}
use Rattle.serde_json.specs.Find as json_find
use Rattle.serde_json.specs.View.{view}
use Rattle.serde_json.specs.declared.value.Value.{Value}
use Rattle.jsonpath_parser.specs.Location.{Step, name, index, Location}
use Rattle.jsonpath_parser.specs.Normal.{index_digits}
use Rattle.jsonpath_base.specs.Places.{child, at}
use Rattle.jsonpath_base.specs.Tree.{Tree, list, object}
use Rattle.jsonpath_base.specs.Values.{tree_of, value_tree}

-- `~0` for `~`, and `~1` for `/` (section 3)
abbrev pub escaped : ℕ → List ℕ
escaped c = if c == byte "~" then codes "~0" else (if c == byte "/" then codes "~1" else c ∷ [])

-- a reference token: a name, or the digits of an index (sections 3 and 4)
abbrev pub token : Step → List ℕ
token (name k) = flat_map escaped k
token (index i) = index_digits i

-- `/` and a token for each step
abbrev pub pointer : Location → List ℕ
pointer [] = []
pointer (s ∷ l) = byte "/" ∷ (token s ++ pointer l)

-- The step that a token means in a value: in an object a name, in a list an index, digits without a leading zero (section 4).
abbrev pub step_in : List ℕ → Tree → Option Step
step_in part (object ms) = Some (name (json_find.unescape part))
step_in part (list ts) = option_map index (json_find.index_of part)
step_in part _ = None

-- what is between one `/` and the next (section 3); of the first, `part` has been read
abbrev pub tokens_from : List ℕ → List ℕ → List (List ℕ)
tokens_from part [] = part ∷ []
tokens_from part (c ∷ rest) = if c == byte "/" then part ∷ tokens_from [] rest else tokens_from (part ++ c ∷ []) rest

-- the reference tokens of a text, as they are written; the text is empty, or begins with `/`
abbrev pub tokens : List ℕ → Option (List (List ℕ))
tokens [] = Some []
tokens (c ∷ rest) = if c == byte "/" then Some (tokens_from [] rest) else None

-- the location to which the tokens lead, one after the other, if there is a value (section 4)
abbrev pub led : List (List ℕ) → Tree → Option Location
led [] t = Some []
led (part ∷ parts) t = option_and_then (λ s. option_and_then (λ c. option_map (λ l. s ∷ l) (led parts c)) (child s t)) (step_in part t)

-- the location that a text means
abbrev pub location_in : List ℕ → Tree → Option Location
location_in text t = option_and_then (λ parts. led parts t) (tokens text)

-- There is a value at the location that a text means.
abbrev pub PointerLeadsToWhatIs : Type 0
PointerLeadsToWhatIs = (text : List ℕ) (t : Tree) (l : Location) → location_in text t ≡ Some l → IsSome (at l t)

-- `Value::pointer` of serde_json finds that value by the text.
abbrev pub PointerLeadsAsFound : Type 0
PointerLeadsAsFound = (text : List ℕ) (v : Value) → option_map tree_of (json_find.pointer text (view v)) ≡ option_and_then (λ l. at l (value_tree v)) (location_in text (value_tree v))

-- The pointer of a location with a value means that location.
abbrev pub PointerReadsBack : Type 0
PointerReadsBack = (v : Value) (l : Location) → IsSome (at l (value_tree v)) → location_in (pointer l) (value_tree v) ≡ Some l

-- For it, `Value::pointer` of serde_json finds that value.
abbrev pub PointerFindsItsPlace : Type 0
PointerFindsItsPlace = (v : Value) (l : Location) (u : Tree) → at l (value_tree v) ≡ Some u → option_map tree_of (json_find.pointer (pointer l) (view v)) ≡ Some u
