-- Why a walk ends with an error, for the contracts of the walk alone: the definitions here are no part of what a query means.
use Rattle.std.specs.Prelude.{◌≡◌, List, Bool, true, false}
use Rattle.jsonpath_parser.specs.tree.Syntax.{Argument}
use Rattle.jsonpath_base.specs.documents.Document.{Document}
use Rattle.jsonpath_base.specs.documents.Patterns.{AsksPattern}
use Rattle.jsonpath_base.specs.declared.documents.walk_error.WalkError.{WalkError}
use Rattle.jsonpath_base.specs.declared.documents.walk_error.WalkError.TheVariants.{Memory, Spent}
use Rattle.jsonpath_rust.specs.declared.selection.limits.WorkLimit.{WorkLimit}
use Rattle.jsonpath_rust.specs.declared.selection.limits.WorkLimit.TheVariants.{Limited, Unlimited}

-- units are counted if the limit counts them and the call is not free
abbrev pub limit_of : Bool → Bool → WorkLimit
limit_of true false = Limited
limit_of true true = Unlimited
limit_of false free = Unlimited

-- the units of a limited walk ran out
abbrev pub IsSpent : WorkLimit → WalkError → Type 0
IsSpent limit halt = (halt ≡ Spent) × (limit ≡ Limited)

-- memory ran out, or the units did, or one of these patterns has, at some node of the document, a value that is a text that `regex` reads
abbrev pub IsWalkError : WorkLimit → List (Bool × Argument) → Document → WalkError → Type 0
IsWalkError limit patterns doc halt = (halt ≡ Memory → ⊥) → (IsSpent limit halt → ⊥) → AsksPattern patterns doc
