-- Which tree a whole text is read as, and which refusal it gets. The laws of proofs/ join it to the grammar, so a user need not believe it.
use Rattle.std.specs.Prelude.{◌≡◌, ◌<◌, ◌≤◌, ℕ, true, is_some, if◌then◌else◌, List, Option, Some, None, string_bytes, ⊤}
use Rattle.std.specs.Str.{IsCharBoundary}
use Rattle.jsonpath_parser.specs.words.Depth.{depth}
use Rattle.jsonpath_parser.specs.words.inner.Reading.{◌>>=◌}
use Rattle.jsonpath_parser.specs.inner.ReadingGrammar.{number_reading, whole_query}
use Rattle.jsonpath_parser.specs.tree.Syntax.{Query}
use Rattle.jsonpath_parser.specs.tree.Typing.{is_typed}
use Rattle.jsonpath_parser.specs.Valueless.{IsValuelessIn}
use Rattle.jsonpath_parser.specs.declared.errors.JsonPathError.{JsonPathError}
use Rattle.jsonpath_parser.specs.declared.errors.JsonPathError.TheVariants.{PestError, InvalidNumber, MaxNestingDepthExceeded, OutOfMemory}
use Rattle.jsonpath_parser.specs.declared.grammar.literals.NumberMode.{NumberMode}
use Rattle.jsonpath_parser.specs.declared.grammar.literals.NumberMode.TheVariants.{Valued, Any}

-- the query that the whole text is, where it is well-typed
unfoldable pub typed_query : NumberMode → List ℕ → Option Query
typed_query numbers text = whole_query (number_reading numbers) text >>= (λ q. if is_typed q then Some q else None)

-- The refusals of a text that is no query: it would be one if each number literal had a value, or it is none. The place stands between two characters of the text or at an end of it.
abbrev pub IsTextRefusal : List ℕ → JsonPathError → Type 0
IsTextRefusal text (InvalidNumber literal) = IsValuelessIn text (string_bytes literal) × (is_some (typed_query Any text) ≡ true)
IsTextRefusal text (PestError place) = IsCharBoundary text place × (typed_query Any text ≡ None)
IsTextRefusal text OutOfMemory = ⊤
IsTextRefusal text _ = ⊥

-- The refusals of a text: brackets nest too deep, or it is no query.
abbrev pub IsReadRefusal : ℕ → List ℕ → JsonPathError → Type 0
IsReadRefusal limit text (MaxNestingDepthExceeded n) = (n ≡ limit) × (limit < depth text)
IsReadRefusal limit text (InvalidNumber literal) = (depth text ≤ limit) × (typed_query Valued text ≡ None) × IsTextRefusal text (InvalidNumber literal)
IsReadRefusal limit text (PestError place) = (depth text ≤ limit) × (typed_query Valued text ≡ None) × IsTextRefusal text (PestError place)
IsReadRefusal limit text OutOfMemory = depth text ≤ limit
IsReadRefusal limit text _ = ⊥
