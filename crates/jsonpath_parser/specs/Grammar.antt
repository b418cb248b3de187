-- The grammar: which texts spell a tree, one case for each production (RFC 9535, 2.1 to 2.5).
--
-- `Number v text` is how a number literal of the value v is written; all else stands here.
use Rattle.std.specs.Prelude.{◌≡◌, ◌⊎◌, ℕ, zero, suc, ◌≤◌, ◌≤ℤ◌, ℤ, pos, negsuc, Bool, true, false, IsTrue, Option, Some, None, List, [], ◌++◌, slice_index, codes}
use Rattle.std.specs.Str.{byte}
use Rattle.std.specs.Str.Parse.{digits_value}
use Rattle.std.specs.Char.{is_ascii_digit}
use Rattle.jsonpath_parser.specs.words.Lexical.{IsRun, IsBlank, IsName, IsFunctionName}
use Rattle.jsonpath_parser.specs.words.Strings.{SpellsString}
use Rattle.jsonpath_parser.specs.tree.Typing.{is_comparable, is_table_name}
use Rattle.jsonpath_parser.specs.tree.Syntax.{Literal, number, string, bool, null, Operator, equal, not_equal, greater, greater_or_equal, less, less_or_equal, Selector, name, wildcard, index, slice, filter, Selectors, no_selectors, selector, Segment, one, several, descendant, Segments, no_segments, segment, Filter, or, and, Filters, no_filters, filter_then, group, test, compare, Test, relative, absolute, call, Call, custom_call, length_call, value_call, count_call, search_call, match_call, Argument, literal_argument, test_argument, filter_argument, Arguments, no_arguments, argument, Query}

-- a digit from 1 to 9, then digits (2.3.3.1)
abbrev pub SpellsPositive : ℕ → List ℕ → Type 0
SpellsPositive n text = IsRun is_ascii_digit text × (byte "1" ≤ slice_index text 0) × (n ≡ digits_value 10 text)

-- `0`, or a positive number, perhaps behind `-` (`negsuc n` is -(n + 1))
abbrev pub SpellsInt : ℤ → List ℕ → Type 0
SpellsInt (pos zero) text = text ≡ codes "0"
SpellsInt (pos (suc n)) text = SpellsPositive (suc n) text
SpellsInt (negsuc n) text = (digits : List ℕ) × SpellsPositive (suc n) digits × (text ≡ codes "-" ++ digits)

-- from -(2^53 - 1) to 2^53 - 1 (2.1)
abbrev pub IsInRange : ℤ → Type 0
IsInRange i = (negsuc 9007199254740990 ≤ℤ i) × (i ≤ℤ pos 9007199254740991)

-- an index or a part of a slice
abbrev pub SpellsIndex : ℤ → List ℕ → Type 0
SpellsIndex i text = SpellsInt i text × IsInRange i

-- the start or the end of a slice, with blanks behind it (2.3.4)
abbrev pub SpellsBound : Option ℤ → List ℕ → Type 0
SpellsBound None text = text ≡ []
SpellsBound (Some i) text = (a b : List ℕ) × SpellsIndex i a × IsBlank b × (text ≡ a ++ b)

-- the step of a slice, behind `:`; without a step the `:` may be left out
abbrev pub SpellsStep : Option ℤ → List ℕ → Type 0
SpellsStep None text = (text ≡ []) ⊎ (text ≡ codes ":")
SpellsStep (Some i) text = (b a : List ℕ) × IsBlank b × SpellsIndex i a × (text ≡ codes ":" ++ (b ++ a))

-- start, `:`, end and step
abbrev pub SpellsSlice : Option ℤ → Option ℤ → Option ℤ → List ℕ → Type 0
SpellsSlice start end step text = (a b c d : List ℕ) × SpellsBound start a × IsBlank b × SpellsBound end c × SpellsStep step d × (text ≡ a ++ (codes ":" ++ (b ++ (c ++ d))))

-- a shorthand name or `*`, behind a dot or two (2.5.1.1, 2.5.2.1)
abbrev pub SpellsShorthand : Selector → List ℕ → Type 0
SpellsShorthand (name n) text = IsName n × (text ≡ n)
SpellsShorthand wildcard text = text ≡ codes "*"
SpellsShorthand _ text = ⊥

-- a text between two others, with blanks inside them
abbrev pub Between : List ℕ → (List ℕ → Type 0) → List ℕ → List ℕ → Type 0
Between before spells after text = (b a c : List ℕ) × IsBlank b × spells a × IsBlank c × (text ≡ before ++ (b ++ (a ++ (c ++ after))))

-- a text behind a mark with blanks on both sides of it, then others
abbrev pub Behind : List ℕ → (List ℕ → Type 0) → (List ℕ → Type 0) → List ℕ → Type 0
Behind mark spells others text = (b c a d : List ℕ) × IsBlank b × IsBlank c × spells a × others d × (text ≡ b ++ (mark ++ (c ++ (a ++ d))))

-- a text, then others
abbrev pub Then : (List ℕ → Type 0) → (List ℕ → Type 0) → List ℕ → Type 0
Then spells others text = (a d : List ℕ) × spells a × others d × (text ≡ a ++ d)

-- 2.3.5.2.2
abbrev pub SpellsOperator : Operator → List ℕ → Type 0
SpellsOperator equal text = text ≡ codes "=="
SpellsOperator not_equal text = text ≡ codes "!="
SpellsOperator less_or_equal text = text ≡ codes "<="
SpellsOperator greater_or_equal text = text ≡ codes ">="
SpellsOperator less text = text ≡ codes "<"
SpellsOperator greater text = text ≡ codes ">"

-- `!` and blanks, where it is negated
abbrev pub SpellsNot : Bool → List ℕ → Type 0
SpellsNot true text = (b : List ℕ) × IsBlank b × (text ≡ codes "!" ++ b)
SpellsNot false text = text ≡ []

-- the name of a call and what stands in its parentheses (2.4)
abbrev pub SpellsCalled : List ℕ → (List ℕ → Type 0) → List ℕ → Type 0
SpellsCalled called spells text = Between (called ++ codes "(") spells (codes ")") text

-- no text
abbrev pub IsNothing : List ℕ → Type 0
IsNothing text = text ≡ []

-- the name of a function outside the table of types (2.4)
abbrev pub IsCustomName : List ℕ → Type 0
IsCustomName n = IsFunctionName n × (is_table_name n ≡ false)

-- two or more
abbrev pub IsSeveral : Selectors → Type 0
IsSeveral (selector s (selector t ss)) = Unit {0}
IsSeveral _ = ⊥

abbrev pub IsPlural : Filters → Type 0
IsPlural (filter_then f (filter_then g fs)) = Unit {0}
IsPlural _ = ⊥

-- what may be an operand of `||`: no `||` (2.3.5.1)
abbrev pub is_conjunction : Filter → Bool
is_conjunction (or fs) = false
is_conjunction _ = true

-- what may be an operand of `&&`: neither `||` nor `&&`
abbrev pub is_basic : Filter → Bool
is_basic (or fs) = false
is_basic (and fs) = false
is_basic _ = true

-- no test alone
abbrev pub IsNoBareTest : Filter → Type 0
IsNoBareTest (test false t) = ⊥
IsNoBareTest _ = Unit {0}

module _ (Number : Option ℤ → List ℕ → Type 0) where
  -- 2.3.5.1
  abbrev pub SpellsLiteral : Literal → List ℕ → Type 0
  SpellsLiteral (number v) text = Number v text
  SpellsLiteral (string s) text = SpellsString s text
  SpellsLiteral (bool true) text = text ≡ codes "true"
  SpellsLiteral (bool false) text = text ≡ codes "false"
  SpellsLiteral null text = text ≡ codes "null"

  abbrev mutual
    -- 2.3
    pub SpellsSelector : Selector → List ℕ → Type 0
    SpellsSelector (name n) text = SpellsString n text
    SpellsSelector wildcard text = text ≡ codes "*"
    SpellsSelector (index i) text = SpellsIndex i text
    SpellsSelector (slice start end step) text = SpellsSlice start end step text
    SpellsSelector (filter f) text = (b a : List ℕ) × IsBlank b × SpellsLogical f a × (text ≡ codes "?" ++ (b ++ a))

    -- a selector, then others, each behind a comma
    pub SpellsSelectors : Selectors → List ℕ → Type 0
    SpellsSelectors no_selectors text = ⊥
    SpellsSelectors (selector s ss) text = Then (SpellsSelector s) (SpellsMoreSelectors ss) text

    pub SpellsMoreSelectors : Selectors → List ℕ → Type 0
    SpellsMoreSelectors no_selectors text = text ≡ []
    SpellsMoreSelectors (selector s ss) text = Behind (codes ",") (SpellsSelector s) (SpellsMoreSelectors ss) text

    -- 2.5; `..` is followed by what a segment spells behind its dot, or by brackets
    pub SpellsSegment : Segment → List ℕ → Type 0
    SpellsSegment (one s) text = Between (codes "[") (SpellsSelector s) (codes "]") text ⊎ ((a : List ℕ) × SpellsShorthand s a × (text ≡ codes "." ++ a))
    SpellsSegment (several ss) text = IsSeveral ss × Between (codes "[") (SpellsSelectors ss) (codes "]") text
    SpellsSegment (descendant (one s)) text = (a : List ℕ) × (Between (codes "[") (SpellsSelector s) (codes "]") a ⊎ SpellsShorthand s a) × (text ≡ codes ".." ++ a)
    SpellsSegment (descendant (several ss)) text = (a : List ℕ) × IsSeveral ss × Between (codes "[") (SpellsSelectors ss) (codes "]") a × (text ≡ codes ".." ++ a)
    SpellsSegment (descendant (descendant g)) text = ⊥

    -- each segment, perhaps after blanks
    pub SpellsSegments : Segments → List ℕ → Type 0
    SpellsSegments no_segments text = text ≡ []
    SpellsSegments (segment g gs) text = (b a c : List ℕ) × IsBlank b × SpellsSegment g a × SpellsSegments gs c × (text ≡ b ++ (a ++ c))

    -- two or more operands of `||`, two or more of `&&`, a filter in parentheses, a test, or a comparison (2.3.5.1)
    pub SpellsLogical : Filter → List ℕ → Type 0
    SpellsLogical (or fs) text = IsPlural fs × SpellsOr fs text
    SpellsLogical (and fs) text = IsPlural fs × SpellsAnd fs text
    SpellsLogical (group negated f) text = (a b : List ℕ) × SpellsNot negated a × Between (codes "(") (SpellsLogical f) (codes ")") b × (text ≡ a ++ b)
    SpellsLogical (test negated t) text = (a b : List ℕ) × SpellsNot negated a × SpellsTest t b × (text ≡ a ++ b)
    SpellsLogical (compare op l r) text = (a b o c d : List ℕ) × (IsTrue (is_comparable l) × SpellsArgument l a) × IsBlank b × SpellsOperator op o × IsBlank c × (IsTrue (is_comparable r) × SpellsArgument r d) × (text ≡ a ++ (b ++ (o ++ (c ++ d))))

    pub SpellsOr : Filters → List ℕ → Type 0
    SpellsOr no_filters text = ⊥
    SpellsOr (filter_then f fs) text = Then (λ a. IsTrue (is_conjunction f) × SpellsLogical f a) (SpellsMoreOr fs) text

    pub SpellsMoreOr : Filters → List ℕ → Type 0
    SpellsMoreOr no_filters text = text ≡ []
    SpellsMoreOr (filter_then f fs) text = Behind (codes "||") (λ a. IsTrue (is_conjunction f) × SpellsLogical f a) (SpellsMoreOr fs) text

    pub SpellsAnd : Filters → List ℕ → Type 0
    SpellsAnd no_filters text = ⊥
    SpellsAnd (filter_then f fs) text = Then (λ a. IsTrue (is_basic f) × SpellsLogical f a) (SpellsMoreAnd fs) text

    pub SpellsMoreAnd : Filters → List ℕ → Type 0
    SpellsMoreAnd no_filters text = text ≡ []
    SpellsMoreAnd (filter_then f fs) text = Behind (codes "&&") (λ a. IsTrue (is_basic f) × SpellsLogical f a) (SpellsMoreAnd fs) text

    pub SpellsTest : Test → List ℕ → Type 0
    SpellsTest (relative gs) text = (a : List ℕ) × SpellsSegments gs a × (text ≡ codes "@" ++ a)
    SpellsTest (absolute gs) text = (a : List ℕ) × SpellsSegments gs a × (text ≡ codes "$" ++ a)
    SpellsTest (call c) text = SpellsCall c text

    -- 2.4; the functions of the table of types have their own number of arguments, and each other name any
    pub SpellsCall : Call → List ℕ → Type 0
    SpellsCall (custom_call n xs) text = IsCustomName n × SpellsCalled n (SpellsArguments xs) text
    SpellsCall (length_call x) text = SpellsCalled (codes "length") (SpellsArgument x) text
    SpellsCall (value_call x) text = SpellsCalled (codes "value") (SpellsArgument x) text
    SpellsCall (count_call x) text = SpellsCalled (codes "count") (SpellsArgument x) text
    SpellsCall (search_call x y) text = SpellsCalled (codes "search") (Then (SpellsArgument x) (Behind (codes ",") (SpellsArgument y) IsNothing)) text
    SpellsCall (match_call x y) text = SpellsCalled (codes "match") (Then (SpellsArgument x) (Behind (codes ",") (SpellsArgument y) IsNothing)) text

    -- A query or a call alone is that; behind `!`, in parentheses or with an operator it is a logical expression.
    pub SpellsArgument : Argument → List ℕ → Type 0
    SpellsArgument (literal_argument l) text = SpellsLiteral l text
    SpellsArgument (test_argument t) text = SpellsTest t text
    SpellsArgument (filter_argument f) text = IsNoBareTest f × SpellsLogical f text

    -- perhaps none
    pub SpellsArguments : Arguments → List ℕ → Type 0
    SpellsArguments no_arguments text = text ≡ []
    SpellsArguments (argument x xs) text = Then (SpellsArgument x) (SpellsMoreArguments xs) text

    pub SpellsMoreArguments : Arguments → List ℕ → Type 0
    SpellsMoreArguments no_arguments text = text ≡ []
    SpellsMoreArguments (argument x xs) text = Behind (codes ",") (SpellsArgument x) (SpellsMoreArguments xs) text

  -- 2.1.1, 2.2.1
  abbrev pub Spells : Query → List ℕ → Type 0
  Spells q text = (a : List ℕ) × SpellsSegments q a × (text ≡ codes "$" ++ a)
