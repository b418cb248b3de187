-- What the program reads and writes.
use Rattle.std.specs.Prelude.{◌≡◌, ◌≢◌, ◌⊎◌, ℕ, List, [], ◌++◌, take, codes, decimal, Option, Some, None, IsSome, IfSome, false, IsTrue, IsUtf8, ⊤}
use Rattle.std.specs.List.{flat_map}
use Rattle.std.specs.Io.KnownBytes.{Appends}
use Rattle.serde_json.specs.Data.{Data}
use Rattle.serde_json.specs.Read.{read}
use Rattle.jsonpath_parser.specs.Location.{Location}
use Rattle.jsonpath_parser.specs.Normal.{normal}
use Rattle.jsonpath_parser.specs.tree.Syntax as syntax
use Rattle.jsonpath_parser.specs.Derives.{Derives, IsRefusal}
use Rattle.jsonpath_parser.specs.declared.errors.JsonPathError.{JsonPathError}
use Rattle.jsonpath_parser.specs.declared.errors.JsonPathError.TheVariants.{OutOfMemory}
use Rattle.jsonpath_base.specs.Tree.{Tree}
use Rattle.jsonpath_base.specs.Places.{at}
use Rattle.jsonpath_base.specs.SetFunctions.{set_function}
use Rattle.jsonpath_base.specs.Without.{without, is_among, distinct_count}
use Rattle.jsonpath_base.specs.Values.{tree_of, has_whole_numbers}
use Rattle.jsonpath_rust.specs.documents.Document.{Document}
use Rattle.jsonpath_rust.specs.documents.Meaning.{selected}
use Rattle.jsonpath_base.specs.Pattern.{IsInvalid}
use Rattle.jsonpath_rust.specs.documents.Patterns.{segments_patterns, AsksPattern}
use Rattle.jpath.specs.Json.{json_text}
use Rattle.jpath.specs.Words.{Request, asked_by}
use Rattle.jpath.specs.declared.words.Command.{Command}
use Rattle.jpath.specs.declared.words.Command.TheVariants.{Print, Delete}
use Rattle.jpath.specs.declared.words.Listing.{Listing}
use Rattle.jpath.specs.declared.words.Listing.TheVariants.{Nodes, Values, Paths}
use Rattle.jpath.specs.declared.fault.Fault.{Fault}
use Rattle.jpath.specs.declared.fault.Fault.TheVariants.{Usage, Query, NotJson, NotWhole, Io, Memory}

-- ---- the input

-- the bytes are a text that serde_json reads as this data
abbrev pub IsJson : List ℕ → Data → Type 0
IsJson bytes d = IsUtf8 bytes × (read bytes ≡ Some d)

abbrev pub IsNoJson : List ℕ → Type 0
IsNoJson bytes = IsUtf8 bytes → read bytes ≡ None

-- the bytes are JSON of whole numbers, with this data
abbrev pub IsWholeJson : List ℕ → Data → Type 0
IsWholeJson bytes d = IsJson bytes d × IsTrue (has_whole_numbers d)

-- what a query is asked of: the data, with the custom functions of sets
abbrev pub queried : Data → Document
queried d = record { root = tree_of d; custom = set_function }

-- ---- the output

-- the value at a location; a selected location has one
abbrev pub value_text : Option Tree → List ℕ
value_text None = []
value_text (Some t) = json_text t

-- the line of a node, by its path and the text of its value
abbrev pub line : Listing → List ℕ → List ℕ → List ℕ
line Nodes path value = path ++ (codes "\t" ++ (value ++ codes "\n"))
line Values path value = value ++ codes "\n"
line Paths path value = path ++ codes "\n"

-- the line of a location: by its Normalized Path (RFC 9535, 2.7), and the value there
abbrev pub location_line : Listing → Document → Location → List ℕ
location_line listing doc l = line listing (normal l) (value_text (at l doc.root))

-- the lines of the nodes that a query selects in a document, in their order
abbrev pub listed : Listing → syntax.Query → Document → List ℕ
listed listing q doc = flat_map (location_line listing doc) (selected q doc)

-- how many locations were deleted, and the document that is left, each on a line
abbrev pub deletion_text : ℕ → Tree → List ℕ
deletion_text count left = decimal count ++ (codes "\n" ++ (json_text left ++ codes "\n"))

-- what a command prints of what a query selects in a document; what is deleted goes all at once
abbrev pub printed : Command → syntax.Query → Document → List ℕ
printed (Print listing) q doc = listed listing q doc
printed Delete q doc = deletion_text (distinct_count (selected q doc)) (without (is_among (selected q doc)) doc.root)

-- The words ask for a query, of brackets no deeper than they say; the bytes are JSON of whole numbers; and the output is what the command prints.
pub record IsOutput (words : List (List ℕ)) (bytes out : List ℕ) : Type 0 where
  pub asked : Request
  pub by_words : asked_by words ≡ Some asked
  pub query : syntax.Query
  pub derived : Derives asked.depth asked.query query
  pub document : Data
  pub json : IsJson bytes document
  pub whole : IsTrue (has_whole_numbers document)
  pub written : out ≡ printed asked.command query (queried document)

-- known bytes grow by a beginning of bs
abbrev pub AppendsFront : Option (List ℕ) → Option (List ℕ) → List ℕ → Type 0
AppendsFront old new bs = (k : ℕ) × Appends old new (take k bs)

-- ---- the faults: each comes in the case that it names, the first that holds in this order

-- the words ask for a query that the grammar derives
abbrev pub AsksQuery : List (List ℕ) → Type 0
AsksQuery words = (a : Request) × (q : syntax.Query) × (asked_by words ≡ Some a) × Derives a.depth a.query q

-- the words ask for a text that the parser refuses so, for another cause than memory
abbrev pub RefusesQuery : List (List ℕ) → JsonPathError → Type 0
RefusesQuery words e = (a : Request) × (asked_by words ≡ Some a) × IsRefusal a.depth a.query e × (e ≢ OutOfMemory)

-- the words ask for a query that the grammar derives; the input is a document; and a pattern stands in the query whose value at some
-- node of it is a text that `regex` reads
abbrev pub AsksPatternOf : List (List ℕ) → Option (List ℕ) → Type 0
AsksPatternOf words input = (a : Request) × (q : syntax.Query) × (d : Data) × (asked_by words ≡ Some a) × Derives a.depth a.query q
    × IfSome input (λ bytes. IsWholeJson bytes d) × AsksPattern (segments_patterns q) (queried d)

-- why a query is refused: by the parser; or, with the document read, by `InvalidJsonPath`, and there is such a pattern
abbrev pub IsFaultOfQuery : List (List ℕ) → Option (List ℕ) → JsonPathError → Type 0
IsFaultOfQuery words input e = RefusesQuery words e ⊎ (IsInvalid e × AsksPatternOf words input)

-- why the input is no document, where its bytes are known
abbrev pub IsNoDocument : Option (List ℕ) → Fault → Type 0
IsNoDocument input NotJson = IfSome input IsNoJson
IsNoDocument input NotWhole = IfSome input (λ bytes. (d : Data) × IsJson bytes d × (has_whole_numbers d ≡ false))
IsNoDocument input Io = ⊤
IsNoDocument input Memory = ⊤
IsNoDocument input _ = ⊥

abbrev pub IsFaultOf : List (List ℕ) → Option (List ℕ) → Fault → Type 0
IsFaultOf words input Usage = asked_by words ≡ None
IsFaultOf words input (Query e) = IsFaultOfQuery words input e
IsFaultOf words input NotJson = AsksQuery words × IsNoDocument input NotJson
IsFaultOf words input NotWhole = AsksQuery words × IsNoDocument input NotWhole
IsFaultOf words input Io = AsksQuery words
IsFaultOf words input Memory = IsSome (asked_by words)

-- it comes before anything is read
abbrev pub IsOfWords : Fault → Type 0
IsOfWords Usage = ⊤
IsOfWords (Query e) = IsInvalid e → ⊥
IsOfWords _ = ⊥

-- it comes when all is read: the input is no document of whole numbers, or a pattern was refused
abbrev pub IsOfDocument : Fault → Type 0
IsOfDocument (Query e) = IsInvalid e
IsOfDocument NotJson = ⊤
IsOfDocument NotWhole = ⊤
IsOfDocument _ = ⊥
