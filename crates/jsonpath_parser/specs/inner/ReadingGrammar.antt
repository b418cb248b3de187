-- What the reading functions of the grammar compute: a tree and the text after it, or nothing. Only contracts inside the crate cite it; the laws of proofs/ join it to the grammar, so a user need not believe it.
--
-- An argument of a call is the widest production: a literal, a query or a call alone, or a logical expression. So it is read once, and what stands in its place makes of it what it wants.
use Rattle.std.specs.Prelude.{◌≡◌, ℕ, zero, suc, Bool, true, false, ◌&&◌, ◌||◌, ◌==◌, ℤ, pos, unwrap_or, if◌then◌else◌, List, [], ◌∷◌, length, drop, slice_index, codes, bytes_eq, Option, Some, None}
use Rattle.std.specs.Char.{is_ascii_digit}
use Rattle.jsonpath_parser.specs.words.Numbers.{SpellsNumber}
use Rattle.jsonpath_parser.specs.words.Lexical.{is_function_first, is_function_byte, is_quote}
use Rattle.jsonpath_parser.specs.words.inner.Reading.{Read, ◌>>=◌, split_while, skip_blank, first, after_byte, int_at, name_at}
use Rattle.jsonpath_parser.specs.inner.ReadingLists.{found_then, many_at, separated_at}
use Rattle.jsonpath_parser.specs.words.inner.ReadingNumbers.{number_at}
use Rattle.jsonpath_parser.specs.words.inner.ReadingStrings.{string_at}
use Rattle.jsonpath_parser.specs.declared.grammar.literals.NumberMode.{NumberMode}
use Rattle.jsonpath_parser.specs.declared.grammar.literals.NumberMode.TheVariants.{Valued, Any}
use Rattle.jsonpath_parser.specs.tree.Syntax.{Literal, number, string, bool, null, Operator, equal, not_equal, greater, greater_or_equal, less, less_or_equal, Selector, name, wildcard, index, slice, filter, Selectors, no_selectors, selector, Segment, one, several, descendant, Segments, no_segments, segment, Filter, or, and, Filters, no_filters, filter_then, group, test, compare, relative, absolute, call, Call, Argument, literal_argument, test_argument, filter_argument, Arguments, no_arguments, argument, Query, list_of}
use Rattle.jsonpath_parser.specs.tree.Typing.{call_of}

-- ---- how the code's values are seen

-- a number literal as its value; one without a value is refused, or read as 0
unfoldable pub number_reading : NumberMode → List ℕ → Read (Option ℤ)
number_reading Valued text = number_at text >>= (λ n. n.0 >>= (λ v. Some (Some v, n.1)))
number_reading Any text = number_at text >>= (λ n. Some (Some (unwrap_or n.0 (pos 0)), n.1))

-- what the second takes: any number literal; one without a value stands as 0
abbrev pub IsAny : Option ℤ → List ℕ → Type 0
IsAny v text = (w : Option ℤ) × SpellsNumber w text × (v ≡ Some (unwrap_or w (pos 0)))

-- ---- what a part becomes

-- one selector alone, or several
abbrev pub selection_of : Selectors → Segment
selection_of (selector s no_selectors) = one s
selection_of ss = several ss

-- a segment of one name or one index
abbrev pub step_of_segment : Segment → Option Segment
step_of_segment (one (name n)) = Some (one (name n))
step_of_segment (one (index i)) = Some (one (index i))
step_of_segment _ = None

-- the segments, where each is one name or one index
abbrev pub steps_of : Segments → Option (List Segment)
steps_of no_segments = Some []
steps_of (segment g gs) = step_of_segment g >>= (λ s. steps_of gs >>= (λ ss. Some (s ∷ ss)))

abbrev pub steps_in : Segments → Option Segments
steps_in gs = steps_of gs >>= (λ ss. Some (list_of segment no_segments ss))

-- what an argument is as a side of a comparison
abbrev pub comparable_of : Argument → Option Argument
comparable_of (literal_argument l) = Some (literal_argument l)
comparable_of (test_argument (relative gs)) = steps_in gs >>= (λ ss. Some (test_argument (relative ss)))
comparable_of (test_argument (absolute gs)) = steps_in gs >>= (λ ss. Some (test_argument (absolute ss)))
comparable_of (test_argument (call c)) = Some (test_argument (call c))
comparable_of (filter_argument f) = None

-- and as a logical expression
abbrev pub filter_of : Argument → Option Filter
filter_of (literal_argument l) = None
filter_of (test_argument t) = Some (test false t)
filter_of (filter_argument f) = Some f

-- a test behind `!`
abbrev pub negated_of : Argument → Option Argument
negated_of (test_argument t) = Some (filter_argument (test true t))
negated_of _ = None

-- ---- slices and indexes

-- whether an int begins with this byte
abbrev pub is_int_first : ℕ → Bool
is_int_first b = is_ascii_digit b || b == 45

-- a bound, and the blanks behind it
unfoldable pub end_at : List ℕ → Read (Option ℤ)
end_at text = if is_int_first (first text) then int_at text >>= (λ i. Some (Some i.0, skip_blank i.1)) else Some (None, text)

-- the step of a slice, behind its `:`; blanks that no int follows are not read
unfoldable pub step_at : List ℕ → Read (Option ℤ)
step_at text =
    if is_int_first (first (skip_blank text)) then int_at (skip_blank text) >>= (λ i. Some (Some i.0, i.1))
    else Some (None, text)

-- the end and the step of a slice, behind its first `:`
unfoldable pub slice_at : Option ℤ → List ℕ → Read Selector
slice_at start text =
    end_at (skip_blank text) >>= (λ e.
    if first e.1 == 58 then step_at (drop 1 e.1) >>= (λ s. Some (slice start e.0 s.0, s.1))
    else Some (slice start e.0 None, e.1))

-- an index or a slice
unfoldable pub numbered_at : List ℕ → Read Selector
numbered_at text =
    if first text == 58 then slice_at None (drop 1 text)
    else int_at text >>= (λ i.
    if first (skip_blank i.1) == 58 then slice_at (Some i.0) (drop 1 (skip_blank i.1))
    else Some (index i.0, i.1))

-- ---- names, operators

-- `*` or a shorthand name, behind a dot
unfoldable pub shorthand_at : List ℕ → Read Selector
shorthand_at text =
    if first text == 42 then Some (wildcard, drop 1 text)
    else name_at text >>= (λ n. Some (name n.0, n.1))

abbrev pub starts_segment : List ℕ → Bool
starts_segment text = first text == 46 || first text == 91

-- the name of a function, or a word
unfoldable pub word_at : List ℕ → Read (List ℕ)
word_at text = if is_function_first (first text) then Some (split_while is_function_byte text) else None

-- the literal that a word is
abbrev pub word_literal : List ℕ → Option Literal
word_literal word =
    if bytes_eq word (codes "true") then Some (bool true)
    else (if bytes_eq word (codes "false") then Some (bool false)
    else (if bytes_eq word (codes "null") then Some null
    else None))

-- whether an operator may begin with this byte
abbrev pub is_operator_first : ℕ → Bool
is_operator_first b = ((b == 33 || b == 61) || b == 60) || b == 62

unfoldable pub operator_at : List ℕ → Read Operator
operator_at text =
    if slice_index text 1 == 61 then (
    if first text == 61 then Some (equal, drop 2 text)
    else (if first text == 33 then Some (not_equal, drop 2 text)
    else (if first text == 60 then Some (less_or_equal, drop 2 text)
    else (if first text == 62 then Some (greater_or_equal, drop 2 text)
    else None))))
    else (if first text == 60 then Some (less, drop 1 text)
    else (if first text == 62 then Some (greater, drop 1 text)
    else None))

-- whether this byte stands twice at the front
abbrev pub is_twice : ℕ → List ℕ → Bool
is_twice b text = first text == b && slice_index text 1 == b

-- an operand behind two of a mark, as a logical expression
abbrev pub operand_behind : (List ℕ → Read Argument) → List ℕ → Read Filter
operand_behind part_at text = part_at (skip_blank (drop 2 (skip_blank text))) >>= (λ x. filter_of x.0 >>= (λ f. Some (f, x.1)))

-- ---- the rest, over how a number literal and an argument are read

module _ (number_literal_at : List ℕ → Read (Option ℤ)) (argument_at : List ℕ → Read Argument) where
  -- a logical expression
  unfoldable pub logical_at : List ℕ → Read Filter
  logical_at text = argument_at text >>= (λ x. filter_of x.0 >>= (λ f. Some (f, x.1)))

  -- 2.3
  unfoldable pub selector_at : List ℕ → Read Selector
  selector_at text =
      if first text == 42 then Some (wildcard, drop 1 text)
      else (if first text == 63 then logical_at (skip_blank (drop 1 text)) >>= (λ f. Some (filter f.0, f.1))
      else (if is_quote (first text) then string_at text >>= (λ n. Some (name n.0, n.1))
      else numbered_at text))

  -- selectors up to what is no comma
  abbrev pub selectors_at : ℕ → List ℕ → Read Selectors
  selectors_at k text = separated_at selector no_selectors selector_at k text

  -- selectors between brackets
  unfoldable pub selection_at : List ℕ → Read Segment
  selection_at text =
      after_byte 91 text >>= (λ inner.
      selectors_at (suc (length inner)) (skip_blank inner) >>= (λ ss.
      after_byte 93 (skip_blank ss.1) >>= (λ rest. Some (selection_of ss.0, rest))))

  -- behind `..`
  unfoldable pub descendant_at : List ℕ → Read Segment
  descendant_at text =
      if first text == 91 then selection_at text >>= (λ g. Some (descendant g.0, g.1))
      else shorthand_at text >>= (λ s. Some (descendant (one s.0), s.1))

  -- 2.5
  unfoldable pub segment_at : List ℕ → Read Segment
  segment_at text =
      if first text == 46 then (
      if slice_index text 1 == 46 then descendant_at (drop 2 text)
      else shorthand_at (drop 1 text) >>= (λ s. Some (one s.0, s.1)))
      else selection_at text

  -- segments; blanks that no segment follows are not read
  abbrev pub segments_at : ℕ → List ℕ → Read Segments
  segments_at k text = many_at segment no_segments (λ t. segment_at (skip_blank t)) (λ t. starts_segment (skip_blank t)) k text

  -- all of them
  unfoldable pub all_segments_at : List ℕ → Read Segments
  all_segments_at text = segments_at (suc (length text)) text

  -- arguments up to what is no comma
  abbrev pub arguments_at : ℕ → List ℕ → Read Arguments
  arguments_at k text = separated_at argument no_arguments argument_at k text

  -- perhaps none, up to `)`
  unfoldable pub all_arguments_at : List ℕ → Read Arguments
  all_arguments_at text = if first text == 41 then Some (no_arguments, text) else arguments_at (suc (length text)) text

  -- the call of this name, behind its `(`
  unfoldable pub called_at : List ℕ → List ℕ → Read Call
  called_at called text =
      all_arguments_at (skip_blank text) >>= (λ xs.
      after_byte 41 (skip_blank xs.1) >>= (λ rest.
      call_of called xs.0 >>= (λ c. Some (c, rest))))

  -- a call, or a literal that is a word
  unfoldable pub word_operand_at : List ℕ → Read Argument
  word_operand_at text =
      word_at text >>= (λ w.
      if first w.1 == 40 then called_at w.0 (drop 1 w.1) >>= (λ c. Some (test_argument (call c.0), c.1))
      else word_literal w.0 >>= (λ l. Some (literal_argument l, w.1)))

  -- a literal, a query or a call
  unfoldable pub operand_at : List ℕ → Read Argument
  operand_at text =
      if first text == 64 then all_segments_at (drop 1 text) >>= (λ gs. Some (test_argument (relative gs.0), gs.1))
      else (if first text == 36 then all_segments_at (drop 1 text) >>= (λ gs. Some (test_argument (absolute gs.0), gs.1))
      else (if is_quote (first text) then string_at text >>= (λ s. Some (literal_argument (string s.0), s.1))
      else (if is_int_first (first text) then number_literal_at text >>= (λ n. Some (literal_argument (number n.0), n.1))
      else word_operand_at text)))

  -- a group in parentheses
  unfoldable pub group_at : Bool → List ℕ → Read Argument
  group_at negated text =
      after_byte 40 text >>= (λ inner.
      logical_at (skip_blank inner) >>= (λ f.
      after_byte 41 (skip_blank f.1) >>= (λ rest. Some (filter_argument (group negated f.0), rest))))

  -- a group or a test, behind `!`
  unfoldable pub negated_at : List ℕ → Read Argument
  negated_at text =
      if first text == 40 then group_at true text
      else operand_at text >>= (λ x. negated_of x.0 >>= (λ f. Some (f, x.1)))

  -- a comparison, from its operator on
  unfoldable pub compared_at : Argument → List ℕ → Read Argument
  compared_at left text =
      operator_at text >>= (λ op.
      operand_at (skip_blank op.1) >>= (λ right.
      comparable_of left >>= (λ l.
      comparable_of right.0 >>= (λ r. Some (filter_argument (compare op.0 l r), right.1)))))

  -- an operand alone, or a comparison
  unfoldable pub plain_at : List ℕ → Read Argument
  plain_at text =
      operand_at text >>= (λ x.
      if is_operator_first (first (skip_blank x.1)) then compared_at x.0 (skip_blank x.1)
      else Some (x.0, x.1))

  -- an operand of `&&`, or a literal
  unfoldable pub basic_at : List ℕ → Read Argument
  basic_at text =
      if first text == 33 then negated_at (skip_blank (drop 1 text))
      else (if first text == 40 then group_at false text
      else plain_at text)

  -- the operands of `&&` behind the first one
  abbrev pub ands_at : ℕ → List ℕ → Read Filters
  ands_at k text = many_at filter_then no_filters (operand_behind basic_at) (λ t. is_twice 38 (skip_blank t)) k text

  -- an operand of `||`, or a literal
  unfoldable pub conjunction_at : List ℕ → Read Argument
  conjunction_at text =
      basic_at text >>= (λ x.
      if is_twice 38 (skip_blank x.1) then
      filter_of x.0 >>= (λ f.
      found_then filter_then (f ∷ []) (ands_at (suc (length x.1)) x.1) >>= (λ fs. Some (filter_argument (and fs.0), fs.1)))
      else Some (x.0, x.1))

  -- the operands of `||` behind the first one
  abbrev pub ors_at : ℕ → List ℕ → Read Filters
  ors_at k text = many_at filter_then no_filters (operand_behind conjunction_at) (λ t. is_twice 124 (skip_blank t)) k text

  -- an argument, one turn of the recursion
  unfoldable pub disjunction_at : List ℕ → Read Argument
  disjunction_at text =
      conjunction_at text >>= (λ x.
      if is_twice 124 (skip_blank x.1) then
      filter_of x.0 >>= (λ f.
      found_then filter_then (f ∷ []) (ors_at (suc (length x.1)) x.1) >>= (λ fs. Some (filter_argument (or fs.0), fs.1)))
      else Some (x.0, x.1))

module _ (number_literal_at : List ℕ → Read (Option ℤ)) where
  -- an argument, where its parts nest less than n deep
  unfoldable pub argument_at : ℕ → List ℕ → Read Argument
  argument_at zero text = None
  argument_at (suc n) text = disjunction_at number_literal_at (argument_at n) text

  -- `$` and segments
  unfoldable pub query_at : ℕ → List ℕ → Read Query
  query_at n text = after_byte 36 text >>= (λ rest. all_segments_at number_literal_at (argument_at n) rest)

  -- the query that the whole text is
  unfoldable pub whole_query : List ℕ → Option Query
  whole_query text = query_at (length text) text >>= (λ q. if length q.1 == 0 then Some q.0 else None)
