-- What is printed of the document that some bytes are, and why nothing is. The definitions here are for the contracts of the printing alone.
use Rattle.std.specs.Prelude.{◌≡◌, ◌⊎◌, ℕ, List, Some, ⊤}
use Rattle.serde_json.specs.Data.{Data}
use Rattle.jsonpath_parser.specs.tree.Syntax as syntax
use Rattle.jsonpath_rust.specs.documents.Document.{Document}
use Rattle.jsonpath_base.specs.Pattern.{IsInvalid}
use Rattle.jsonpath_rust.specs.documents.Patterns.{segments_patterns, AsksPattern}
use Rattle.jpath.specs.Output.{IsNoDocument, IsWholeJson, printed, queried}
use Rattle.jpath.specs.declared.words.Command.{Command}
use Rattle.jpath.specs.declared.fault.Fault.{Fault}
use Rattle.jpath.specs.declared.fault.Fault.TheVariants.{Query, Memory}

-- what a command prints of the document that these bytes are
abbrev pub IsPrinted : Command → syntax.Query → List ℕ → List ℕ → Type 0
IsPrinted command q bytes out = (d : Data) × IsWholeJson bytes d × (out ≡ printed command q (queried d))

-- why a query has no answer in a document: memory ran out; or it is `InvalidJsonPath`, and a pattern stands in the query whose value at
-- some node of the document is a text that `regex` reads
abbrev pub IsNoAnswer : syntax.Query → Document → Fault → Type 0
IsNoAnswer q doc (Query e) = IsInvalid e × AsksPattern (segments_patterns q) doc
IsNoAnswer q doc Memory = ⊤
IsNoAnswer q doc _ = ⊥

-- why nothing is printed of what these bytes are: they are no document, or the query has no answer in it
abbrev pub IsNoOutput : syntax.Query → List ℕ → Fault → Type 0
IsNoOutput q bytes fault = IsNoDocument (Some bytes) fault ⊎ ((d : Data) × IsWholeJson bytes d × IsNoAnswer q (queried d) fault)
