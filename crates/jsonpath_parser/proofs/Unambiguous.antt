-- No text spells two trees: a query that is spelled is read, and reading is a function, so a query's text spells one; and each other kind of tree can stand in a query.
use Rattle.std.proofs.Common.{◌≡◌, ℕ, true, false, ℤ, List, [], ◌++◌, codes, Option, Some, refl, sym, ap, inl, append-nil}
use Rattle.jsonpath_parser.specs.Prelude.{absolute, and, call, compare, descendant, equal, filter, first, is_int_first, IsUnambiguous, IsValued, literal_argument, no_segments, NoTextDerivesTwoTrees, number_at, number_reading, one, or, Read, relative, segment, slice, slice_in, Spelling, Spells, SpellsBasic, SpellsCall, SpellsChild, SpellsComparable, SpellsComparison, SpellsConjunction, SpellsLiteral, SpellsLogical, SpellsNumber, SpellsRelative, SpellsSegment, SpellsSegments, SpellsSelector, SpellsSingular, SpellsSliceParts, SpellsSteps, SpellsTest, Test, test, test_argument, Valued}
use Rattle.jsonpath_parser.specs.Unambiguous.{SpellsOneTree}
use Rattle.jsonpath_parser.proofs.Complete.{complete_query, valued_start, valued_over}
use Rattle.jsonpath_parser.proofs.NumberComplete.{EndsNumber, number_start, complete_number}

-- ---- queries

query_one : (Number : Option ℤ → List ℕ → Type 0) → ((v : Option ℤ) (a more : List ℕ) → Number v a → is_int_first (first (a ++ more)) ≡ true)
    → (literal_at : List ℕ → Read (Option ℤ)) → ((v : Option ℤ) (a more : List ℕ) → Number v a → EndsNumber more → literal_at (a ++ more) ≡ Some (v, more))
    → SpellsOneTree Spells Number
query_one Number number_first literal_at number_over t u text h k =
    let mine = complete_query Number number_first literal_at number_over t text h in
    let other = complete_query Number number_first literal_at number_over u text k in
    cc

pub query_unambiguous : IsUnambiguous Spells
query_unambiguous = record {
  valued = query_one IsValued valued_start (number_reading Valued) valued_over;
  written = query_one SpellsNumber number_start number_at complete_number;
}

-- no text derives two
pub no_text_derives_two_trees : NoTextDerivesTwoTrees
no_text_derives_two_trees m n text t u h k = query_unambiguous.valued t u text h.spelled k.spelled

-- ---- kinds that stand in others

-- what stands whole in a tree of another kind is the same where that tree is
within : {V W : Type 0} (spells : Spelling V) (outer : Spelling W) (make : V → W) (around : List ℕ → List ℕ)
    → ((v w : V) → make v ≡ make w → v ≡ w)
    → ((Number : Option ℤ → List ℕ → Type 0) (v : V) (text : List ℕ) → spells Number v text → outer Number (make v) (around text))
    → IsUnambiguous outer → IsUnambiguous spells
within spells outer make around injective stands law = record {
  valued = λ v w text h k. injective v w (law.valued (make v) (make w) (around text) (stands IsValued v text h) (stands IsValued w text k));
  written = λ v w text h k. injective v w (law.written (make v) (make w) (around text) (stands SpellsNumber v text h) (stands SpellsNumber w text k));
}

-- `$` before segments
pub segments_unambiguous : IsUnambiguous SpellsSegments
segments_unambiguous = within SpellsSegments Spells (λ gs. gs) (λ text. codes "$" ++ text) (λ v w e. e) (λ Number gs text h. (text, h, refl)) query_unambiguous

-- a segment alone
pub segment_unambiguous : IsUnambiguous SpellsSegment
segment_unambiguous = within SpellsSegment SpellsSegments (λ g. segment g no_segments) (λ text. text) (λ v w e. cc) (λ Number g text h. ([], text, [], tt, h, refl, sym (append-nil text))) segments_unambiguous

-- `..` before a child segment
pub child_unambiguous : IsUnambiguous SpellsChild
child_unambiguous = within SpellsChild SpellsSegment descendant (λ text. codes ".." ++ text) (λ v w e. cc) (λ Number g text h. h) segment_unambiguous

-- brackets around a selector
pub selector_unambiguous : IsUnambiguous SpellsSelector
selector_unambiguous = within SpellsSelector SpellsSegment one (λ text. codes "[" ++ (text ++ codes "]")) (λ v w e. cc) (λ Number s text h. inl ([], text, [], tt, h, tt, refl)) segment_unambiguous

-- start, end and step in a slice
some_slice : (p q : Option ℤ × Option ℤ × Option ℤ) → slice p.0 p.1 p.2 ≡ slice q.0 q.1 q.2 → p ≡ q
some_slice p q e = let same : Some p ≡ Some q = ap slice_in e in cc

pub slice_unambiguous : IsUnambiguous SpellsSliceParts
slice_unambiguous = within SpellsSliceParts SpellsSelector (λ p. slice p.0 p.1 p.2) (λ text. text) some_slice (λ Number p text h. h) selector_unambiguous

-- `?` before a logical expression
pub logical_unambiguous : IsUnambiguous SpellsLogical
logical_unambiguous = within SpellsLogical SpellsSelector filter (λ text. codes "?" ++ text) (λ v w e. cc) (λ Number f text h. ([], text, tt, h, refl)) selector_unambiguous

-- a logical expression that is an operand of `||` or of `&&`, or a comparison
pub conjunction_unambiguous : IsUnambiguous SpellsConjunction
conjunction_unambiguous = within SpellsConjunction SpellsLogical (λ f. f) (λ text. text) (λ v w e. e) (λ Number f text h. h.1) logical_unambiguous

pub basic_unambiguous : IsUnambiguous SpellsBasic
basic_unambiguous = within SpellsBasic SpellsLogical (λ f. f) (λ text. text) (λ v w e. e) (λ Number f text h. h.1) logical_unambiguous

pub comparison_unambiguous : IsUnambiguous SpellsComparison
comparison_unambiguous = within SpellsComparison SpellsLogical (λ f. f) (λ text. text) (λ v w e. e) (λ Number f text h. h.1) logical_unambiguous

-- a side of `==`, compared with itself
pub comparable_unambiguous : IsUnambiguous SpellsComparable
comparable_unambiguous = within SpellsComparable SpellsLogical (λ c. compare equal c c) (λ text. text ++ (codes "==" ++ text)) (λ v w e. cc) (λ Number c text h. (text, [], codes "==", [], text, h, tt, refl, tt, h, refl)) logical_unambiguous

pub literal_unambiguous : IsUnambiguous SpellsLiteral
literal_unambiguous = within SpellsLiteral SpellsComparable literal_argument (λ text. text) (λ v w e. cc) (λ Number l text h. (refl, h)) comparable_unambiguous

-- a singular query as a side
singular_alone : (Number : Option ℤ → List ℕ → Type 0) (q : Test) (text : List ℕ) → SpellsSingular Number q text → SpellsComparable Number (test_argument q) text
singular_alone Number (relative gs) text h = h
singular_alone Number (absolute gs) text h = h
singular_alone Number (call c) text h = let none = h.0 in absurd (cc)

pub singular_unambiguous : IsUnambiguous SpellsSingular
singular_unambiguous = within SpellsSingular SpellsComparable test_argument (λ text. text) (λ v w e. cc) singular_alone comparable_unambiguous

-- `@` before steps
pub steps_unambiguous : IsUnambiguous SpellsSteps
steps_unambiguous = within SpellsSteps SpellsSingular relative (λ text. codes "@" ++ text) (λ v w e. cc) (λ Number gs text h. (h.0, (text, h.1, refl))) singular_unambiguous

-- a test without `!`
pub test_unambiguous : IsUnambiguous SpellsTest
test_unambiguous = within SpellsTest SpellsLogical (λ t. test false t) (λ text. text) (λ v w e. cc) (λ Number t text h. ([], text, refl, h, refl)) logical_unambiguous

pub relative_unambiguous : IsUnambiguous SpellsRelative
relative_unambiguous = within SpellsRelative SpellsTest relative (λ text. text) (λ v w e. cc) (λ Number gs text h. h) test_unambiguous

pub call_unambiguous : IsUnambiguous SpellsCall
call_unambiguous = within SpellsCall SpellsTest call (λ text. text) (λ v w e. cc) (λ Number c text h. h) test_unambiguous
