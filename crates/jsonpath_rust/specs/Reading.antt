-- Why a text is no document.
use Rattle.std.specs.Prelude.{◌≡◌, ℕ, List, Some, None, ⊤, IsFalse}
use Rattle.serde_json.specs.Data.{Data}
use Rattle.serde_json.specs.Read.{read as read_text}
use Rattle.jsonpath_base.specs.Values.{has_whole_numbers}
use Rattle.jsonpath_rust.specs.declared.checked.read.ReadError.{ReadError}
use Rattle.jsonpath_rust.specs.declared.checked.read.ReadError.TheVariants.{NotJson, NotWhole, Memory}

-- `serde_json` reads a document with a number that is not an integer of 64 bits
pub record ReadsNotWhole (text : List ℕ) : Type 0 where
  pub value : Data
  pub reads : read_text text ≡ Some value
  pub not_whole : IsFalse (has_whole_numbers value)

-- The errors, each with what it means: `serde_json` reads nothing; it reads what is not whole; memory ran out.
abbrev pub IsReadRefusal : List ℕ → ReadError → Type 0
IsReadRefusal text NotJson = read_text text ≡ None
IsReadRefusal text NotWhole = ReadsNotWhole text
IsReadRefusal text Memory = ⊤
