-- No text spells two trees (RFC 9535, 2.1 to 2.5): a law of the grammar, which no answer and no memory has a part in.
use Rattle.std.specs.Prelude.{◌≡◌, ℕ, ℤ, List, Option}
use Rattle.jsonpath_parser.specs.Derives.{Derives}
use Rattle.jsonpath_parser.specs.words.Numbers.{SpellsNumber}
use Rattle.jsonpath_parser.specs.Parts.{Spelling}
use Rattle.jsonpath_parser.specs.tree.Syntax.{Query}
use Rattle.jsonpath_parser.specs.Values.{IsValued}

-- No text derives two trees, whatever the limits of depth.
abbrev pub NoTextDerivesTwoTrees : Type 0
NoTextDerivesTwoTrees = (m n : ℕ) (text : List ℕ) (t u : Query) → Derives m text t → Derives n text u → t ≡ u

-- no text spells two trees of this kind, where number literals are spelled so
abbrev pub SpellsOneTree : {V : Type 0} → Spelling V → (Option ℤ → List ℕ → Type 0) → Type 0
SpellsOneTree {V} spells Number = (v w : V) (text : List ℕ) → spells Number v text → spells Number w text → v ≡ w

-- However number literals are taken, no text spells two trees of this kind: each as its value; or each as it is written, with a value or without.
pub record IsUnambiguous {V : Type 0} (spells : Spelling V) : Type 0 where
  pub valued : SpellsOneTree spells IsValued
  pub written : SpellsOneTree spells SpellsNumber
