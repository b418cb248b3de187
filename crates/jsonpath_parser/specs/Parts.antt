-- What the grammar functions of a cursor answer: each reads one kind of tree at the cursor's place (RFC 9535, 2.1 to 2.5).
use Rattle.std.specs.Prelude.{◌≡◌, ℕ, ◌-◌, Bool, true, false, IsTrue, ℤ, List, [], ◌++◌, length, codes, Option, Result, MatchResult, IfOk, IfErr, OnErr, string_bytes, ⊤}
use Rattle.std.specs.Str.{IsCharBoundary}
use Rattle.jsonpath_parser.specs.Grammar.{SpellsSlice, SpellsSegment, SpellsSegments, SpellsLogical, SpellsTest, SpellsArgument, is_conjunction, is_basic}
use Rattle.jsonpath_parser.specs.words.Numbers.{SpellsNumber}
use Rattle.jsonpath_parser.specs.tree.Syntax.{Segment, descendant, Segments, Filter, compare, Test, relative, Argument}
use Rattle.jsonpath_parser.specs.tree.Typing.{is_singular, is_singular_test, is_comparable}
use Rattle.jsonpath_parser.specs.Valueless.{IsValuelessIn}
use Rattle.jsonpath_parser.specs.Values.{IsValued}
use Rattle.jsonpath_parser.specs.declared.errors.JsonPathError.{JsonPathError}
use Rattle.jsonpath_parser.specs.declared.errors.JsonPathError.TheVariants.{PestError, InvalidNumber, OutOfMemory}
use Rattle.jsonpath_parser.specs.declared.cursor.Cursor.{Cursor}

-- the text of a cursor
abbrev pub text_of : Cursor → List ℕ
text_of c = c.text.now

-- and what stands behind its place
abbrev pub rest_of : Cursor → List ℕ
rest_of c = c.rest.now

-- its place, a count of bytes from the start
abbrev pub place_of : Cursor → ℕ
place_of c = length (text_of c) - length (rest_of c)

-- A kind of tree: how it is spelled, where number literals are spelled so.
abbrev pub Spelling : Type 0 → Type 1
Spelling V = (Option ℤ → List ℕ → Type 0) → V → List ℕ → Type 0

-- `@` and segments (2.3.5.1)
abbrev pub SpellsRelative : Spelling Segments
SpellsRelative Number gs text = SpellsTest Number (relative gs) text

-- what may stand behind `..`: selectors between brackets, `*` or a shorthand name (2.5.2.1)
abbrev pub SpellsChild : Spelling Segment
SpellsChild Number g text = SpellsSegment Number (descendant g) (codes ".." ++ text)

-- start, end and step of a slice (2.3.4)
abbrev pub SpellsSliceParts : Spelling (Option ℤ × Option ℤ × Option ℤ)
SpellsSliceParts Number p text = SpellsSlice p.0 p.1 p.2 text

-- each step perhaps after blanks (2.3.5.1)
abbrev pub SpellsSteps : Spelling Segments
SpellsSteps Number gs text = IsTrue (is_singular gs) × SpellsSegments Number gs text

-- `@` or `$` and such steps
abbrev pub SpellsSingular : Spelling Test
SpellsSingular Number t text = IsTrue (is_singular_test t) × SpellsTest Number t text

-- an operand of `||` (2.3.5.1)
abbrev pub SpellsConjunction : Spelling Filter
SpellsConjunction Number f text = IsTrue (is_conjunction f) × SpellsLogical Number f text

-- an operand of `&&`
abbrev pub SpellsBasic : Spelling Filter
SpellsBasic Number f text = IsTrue (is_basic f) × SpellsLogical Number f text

-- a comparison (2.3.5.2.2)
abbrev pub is_comparison : Filter → Bool
is_comparison (compare op left right) = true
is_comparison _ = false

abbrev pub SpellsComparison : Spelling Filter
SpellsComparison Number f text = IsTrue (is_comparison f) × SpellsLogical Number f text

-- a side of a comparison (2.3.5.1)
abbrev pub SpellsComparable : Spelling Argument
SpellsComparable Number x text = IsTrue (is_comparable x) × SpellsArgument Number x text

-- no call stands in such a tree
abbrev pub always : {V : Type 0} → V → Bool
always v = true

-- The part of the text from the old place to the new one spells the tree, each number literal as its value, and the tree is well-typed. The part spells no other tree, each of its number literals with a value or without.
pub record IsPart {V : Type 0} (spells : Spelling V) (typed : V → Bool) (v : V) (old new : Cursor) : Type 0 where
  pub part : List ℕ
  pub spelled : spells IsValued v part
  pub well_typed : typed v ≡ true
  pub one_tree : (w : V) → spells SpellsNumber w part → w ≡ v
  pub moved : rest_of old ≡ part ++ rest_of new

-- The refusals, each with what it means: the rest spells such a tree as it is written, but not with each number literal as its value, and what is said is nothing, or a number literal without a value that stands in the rest; it spells no such tree, its number literals with a value or without, and the place stands between two characters of the text or at an end of it; memory ran out.
abbrev pub IsPartRefusal : {V : Type 0} → Spelling V → (V → Bool) → Cursor → JsonPathError → Type 0
IsPartRefusal {V} spells typed c (InvalidNumber said) = IsValuelessIn (rest_of c) (string_bytes said) × ((v : V) × spells SpellsNumber v (rest_of c) × (typed v ≡ true) × (spells IsValued v (rest_of c) → ⊥))
IsPartRefusal {V} spells typed c (PestError place) = IsCharBoundary (text_of c) place × ((v : V) → spells SpellsNumber v (rest_of c) → typed v ≡ true → ⊥)
IsPartRefusal spells typed c OutOfMemory = ⊤
IsPartRefusal spells typed c _ = ⊥

-- What a grammar function answers. The tree that the whole rest spells is the one, unless memory ran out; so a refusal for another cause comes only where the rest spells none. After a refusal the cursor is as it was.
pub record ReadsPart {T V : Type 0} (spells : Spelling V) (typed : V → Bool) (view : T → V) (old new : Cursor) (result : Result T JsonPathError) : Type 0 where
  pub outcome : IfOk result (λ t. IsPart spells typed (view t) old new)
  pub complete : (v : V) → spells IsValued v (rest_of old) → typed v ≡ true → MatchResult result (λ t. (view t ≡ v) × (rest_of new ≡ [])) (λ e. e ≡ OutOfMemory)
  pub refused : IfErr result (IsPartRefusal spells typed old)
  pub unchanged_on_error : OnErr result (new ≡ old)
  pub same : text_of new ≡ text_of old
