-- What the parts of a query are read as, each by itself, and which refusal they get. The laws of proofs/ join it to the grammar, so a user need not believe it.
use Rattle.std.specs.Prelude.{◌≡◌, ◌⊎◌, ℕ, suc, ◌==◌, Bool, true, false, if◌then◌else◌, ℤ, List, [], length, Option, Some, None, Result, Ok, Err, MatchResult, IsOkAnd, IfOk, IfErr, OnErr, ◌-◌, drop, string_bytes, ⊤}
use Rattle.std.specs.Borrow.{Bor}
use Rattle.std.specs.Str.{IsCharBoundary}
use Rattle.jsonpath_parser.specs.Grammar.{is_basic}
use Rattle.jsonpath_parser.specs.Parts.{text_of, rest_of, is_comparison}
use Rattle.jsonpath_parser.specs.words.inner.Reading.{Read, ◌>>=◌, first}
use Rattle.jsonpath_parser.specs.inner.ReadingGrammar.{number_reading, comparable_of, filter_of, shorthand_at, selection_at, operand_at, basic_at, conjunction_at, all_segments_at, segment_at, selector_at, logical_at, argument_at}
use Rattle.jsonpath_parser.specs.tree.Syntax.{Literal, Selector, slice, Segment, one, Segments, Filter, Test, relative, absolute, call, Call, Argument, literal_argument, test_argument, Query}
use Rattle.jsonpath_parser.specs.Valueless.{IsValuelessIn}
use Rattle.jsonpath_parser.specs.declared.errors.JsonPathError.{JsonPathError}
use Rattle.jsonpath_parser.specs.declared.errors.JsonPathError.TheVariants.{PestError, InvalidNumber, OutOfMemory}
use Rattle.jsonpath_parser.specs.declared.grammar.literals.NumberMode.{NumberMode}
use Rattle.jsonpath_parser.specs.declared.grammar.literals.NumberMode.TheVariants.{Valued, Any}
use Rattle.jsonpath_parser.specs.declared.cursor.Cursor.{Cursor}
use Rattle.jsonpath_parser.specs.declared.words.parse_error.ParseError.{ParseError}
use Rattle.jsonpath_parser.specs.declared.words.parse_error.ParseError.TheVariants.{Memory}

-- ---- what an operand, or a logical expression, is as another kind of tree

abbrev pub literal_in : Argument → Option Literal
literal_in (literal_argument l) = Some l
literal_in _ = None

abbrev pub test_in : Argument → Option Test
test_in (test_argument t) = Some t
test_in _ = None

abbrev pub call_in : Argument → Option Call
call_in (test_argument (call c)) = Some c
call_in _ = None

abbrev pub relative_in : Argument → Option Segments
relative_in (test_argument (relative gs)) = Some gs
relative_in _ = None

abbrev pub query_in : Argument → Option Query
query_in (test_argument (absolute gs)) = Some gs
query_in _ = None

abbrev pub singular_of : Argument → Option Test
singular_of (test_argument (relative gs)) = Some (relative gs)
singular_of (test_argument (absolute gs)) = Some (absolute gs)
singular_of _ = None

abbrev pub singular_in : Argument → Option Test
singular_in x = comparable_of x >>= singular_of

-- the filter, if the test holds
abbrev pub where_it_is : (Filter → Bool) → Filter → Option Filter
where_it_is keeps f = if keeps f then Some f else None

abbrev pub atom_in : Argument → Option Filter
atom_in x = filter_of x >>= where_it_is is_basic

abbrev pub comparison_in : Argument → Option Filter
comparison_in x = atom_in x >>= where_it_is is_comparison

abbrev pub slice_in : Selector → Option (Option ℤ × Option ℤ × Option ℤ)
slice_in (slice start end step) = Some (start, end, step)
slice_in _ = None

-- ---- what is read at the front

-- where it is such a tree, and well-typed
unfoldable pub taken_at : {X V : Type 0} → (X → Option V) → (V → Bool) → Read X → Read V
taken_at take typed r = r >>= (λ x. take x.0 >>= (λ v. if typed v then Some (v, x.1) else None))

module _ (numbers : NumberMode) (text : List ℕ) where
  -- how an argument inside is read: no nesting is deeper than the text is long
  abbrev pub inner_at : List ℕ → Read Argument
  inner_at = argument_at (number_reading numbers) (length text)

  abbrev pub operand_in : Read Argument
  operand_in = operand_at (number_reading numbers) inner_at text

  abbrev pub basic_in : Read Argument
  basic_in = basic_at (number_reading numbers) inner_at text

  abbrev pub conjunction_in : Read Argument
  conjunction_in = conjunction_at (number_reading numbers) inner_at text

  abbrev pub logical_in : Read Filter
  logical_in = logical_at (number_reading numbers) (argument_at (number_reading numbers) (suc (length text))) text

  abbrev pub segments_in : Read Segments
  segments_in = all_segments_at (number_reading numbers) inner_at text

  abbrev pub segment_in : Read Segment
  segment_in = segment_at (number_reading numbers) inner_at text

  abbrev pub selector_in : Read Selector
  selector_in = selector_at (number_reading numbers) inner_at text

  -- brackets, or what stands behind a dot
  unfoldable pub child_in : Read Segment
  child_in =
      if first text == 91 then selection_at (number_reading numbers) inner_at text
      else shorthand_at text >>= (λ s. Some (one s.0, s.1))

-- ---- refusals

-- The refusal at a cursor, where reading stopped; `again` is what it is read as with any number literals. The place stands between two characters of the text or at an end of it.
abbrev pub IsCursorRefusal : {T : Type 0} → Cursor → ParseError → Result (T × Bor (List ℕ)) ParseError → JsonPathError → Type 0
IsCursorRefusal c stop again (InvalidNumber said) = (stop ≡ Memory → ⊥) × IsValuelessIn (rest_of c) (string_bytes said) × IsOkAnd again (λ p. p.1.now ≡ [])
IsCursorRefusal c stop again (PestError place) = IsCharBoundary (text_of c) place × (stop ≡ Memory → ⊥) × MatchResult again (λ p. p.1.now ≡ [] → ⊥) (λ e. e ≡ Memory → ⊥)
IsCursorRefusal c stop again OutOfMemory = ⊤
IsCursorRefusal c stop again _ = ⊥

-- ---- one reading of a kind of tree: what is read, how it is turned into a tree of the kind, and whether that is well-typed

module _ {X T : Type 0} (reads : NumberMode → Result (X × Bor (List ℕ)) ParseError → Type 0) (takes : X → Result T ParseError → Type 0) (checks : Bor T → Bool → Type 0) where
  -- a tree of the kind and the text after it, or what stopped the reading
  abbrev pub Accepts : NumberMode → Result (T × Bor (List ℕ)) ParseError → Type 0
  Accepts numbers (Ok p) = (x : X) × reads numbers (Ok (x, p.1)) × takes x (Ok p.0) × ((t : Bor T) × checks t true × (t.now ≡ p.0))
  Accepts numbers (Err e) = reads numbers (Err e) ⊎ ((p : X × Bor (List ℕ)) × reads numbers (Ok p) × (takes p.0 (Err e) ⊎ ((t : Bor T) × checks t false × takes p.0 (Ok t.now) × (e ≡ Memory → ⊥))))

  -- where a tree is read, the cursor's text ends in what stands after it
  pub record StaysInText (c : Cursor) : Type 0 where
    pub ends : (outcome : _) → Accepts Valued outcome → IfOk outcome (λ p. drop (length (text_of c) - length p.1.now) (text_of c) ≡ p.1.now)

  -- what a cursor's function answers, by what reading answers
  pub record IsAnswer (old new : Cursor) (result : Result T JsonPathError) : Type 0 where
    pub tree : IfOk result (λ t. Accepts Valued (Ok (t, new.rest)))
    pub refusal : IfErr result (λ e. (stop : ParseError) × Accepts Valued (Err stop) × ((again : _) × Accepts Any again × IsCursorRefusal old stop again e))
    pub unchanged_on_error : OnErr result (new ≡ old)
    pub same : text_of new ≡ text_of old
