-- What is left of a document in which values are masked.
use Rattle.std.specs.Prelude.{◌≡◌, List, Bool, IsTrue}
use Rattle.std.specs.List.{Contains, flat_map, list_all}
use Rattle.jsonpath_rust.specs.Location.{Location, Begins}
use Rattle.jsonpath_rust.specs.View.{query_view}
use Rattle.jsonpath_rust.specs.JsonPathError.{JsonPathError}
use Rattle.jsonpath_rust.specs.JsonPathError.TheVariants.{OutOfMemory}
use Rattle.jsonpath_rust.specs.JpQuery.{JpQuery}
use Rattle.jsonpath_rust.specs.Without.{is_among}
use Rattle.jsonpath_rust.specs.Document.{Document}
use Rattle.jsonpath_rust.specs.Masking.{has_no_filter}
use Rattle.jsonpath_rust.specs.Meaning.{selected}
use Rattle.jsonpath_rust.specs.Patterns.{IsStop}

-- the locations that the queries select in a document, those of the first query first
abbrev pub all_selected : List JpQuery → Document → List Location
all_selected queries doc = flat_map (λ q. selected (query_view q) doc) queries

-- none of the queries has a filter
abbrev pub have_no_filter : List JpQuery → Bool
have_no_filter queries = list_all (λ q. has_no_filter (query_view q)) queries

-- The location lies neither at one of these, nor inside one, nor above one.
abbrev pub IsApart : List Location → Location → Type 0
IsApart ls m = (l : Location) → IsTrue (is_among ls l) → (Begins l m → ⊥) × (Begins m l → ⊥)

-- one of the queries is refused so
pub record IsStopAmong (queries : List JpQuery) (doc : Document) (e : JsonPathError) : Type 0 where
  pub query : JpQuery
  pub among : Contains queries query
  pub stop : IsStop (query_view query) doc e

-- memory ran out, or one of the queries is refused so
abbrev pub IsRefusalOf : List JpQuery → Document → JsonPathError → Type 0
IsRefusalOf queries doc e = (e ≡ OutOfMemory → ⊥) → IsStopAmong queries doc e
