-- Which patterns a part of a query asks on a state, and at which values: what an error of `process` means.
use Rattle.std.specs.Prelude.{◌≡◌, ◌⊎◌, List, ◌∷◌, map, Bool, Some}
use Rattle.std.specs.List.{Contains}
use Rattle.jsonpath_parser.specs.Location.{Location}
use Rattle.jsonpath_parser.specs.tree.Syntax.{Argument}
use Rattle.jsonpath_parser.specs.declared.errors.JsonPathError.{JsonPathError}
use Rattle.jsonpath_parser.specs.declared.errors.JsonPathError.TheVariants.{OutOfMemory}
use Rattle.jsonpath_base.specs.Places.{at}
use Rattle.jsonpath_base.specs.Tree.{Tree}
use Rattle.jsonpath_base.specs.documents.Document.{Document}
use Rattle.jsonpath_base.specs.Pattern.{IsInvalid}
use Rattle.jsonpath_base.specs.documents.Patterns.{IsPattern}
use Rattle.jsonpath_rust.specs.states.Process.{plain, argument_content}
use Rattle.jsonpath_base.specs.documents.State.{Content, targets, inside}

-- the trees in which the nodes of a state are: that of the document, and those of its nodes
abbrev pub tops : Document → Content → List Tree
tops d c = d.root ∷ map (λ p. p.tree) (targets c)

-- It is a value in the document or in a node of the state, by itself.
pub record IsBelow (d : Document) (c s : Content) : Type 0 where
  pub top : Tree
  pub among : Contains (tops d c) top
  pub location : Location
  pub tree : Tree
  pub there : at location top ≡ Some tree
  pub alone : s ≡ inside tree

-- the state itself, or such a value
abbrev pub IsAsked : Document → Content → Content → Type 0
IsAsked d c s = (s ≡ c) ⊎ IsBelow d c s

-- One of these patterns has, at one of these states, a value that is a text that `regex` reads.
pub record AsksPatternAt (patterns : List (Bool × Argument)) (d : Document) (States : Content → Type 0) : Type 0 where
  pub entire : Bool
  pub pattern : Argument
  pub stands : Contains patterns (entire, pattern)
  pub state : Content
  pub at_state : States state
  pub read : IsPattern entire (plain (argument_content pattern d state))

-- Memory ran out; or it is `InvalidJsonPath`, and there is such a pattern at the state, or at a value in the document or in its nodes.
abbrev pub IsProcessStop : List (Bool × Argument) → Document → Content → JsonPathError → Type 0
IsProcessStop patterns d c e = (e ≡ OutOfMemory → ⊥) → IsInvalid e × AsksPatternAt patterns d (IsAsked d c)
