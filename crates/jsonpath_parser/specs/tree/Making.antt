-- What the makers of trees answer.
use Rattle.std.specs.Prelude.{◌≡◌, ℕ, Bool, true, false, not, List, Option, Some, None, Result, MatchResult, ⊤, is_none, bytes_eq, codes, option_map, option_and_then, if◌then◌else◌}
use Rattle.jsonpath_parser.specs.tree.Syntax.{Operator, equal, not_equal, greater, greater_or_equal, less, less_or_equal, Filter, compare, Test, call, Call, Argument, literal_argument, filter_argument, Arguments}
use Rattle.jsonpath_parser.specs.tree.Typing.{call_of, gives_value, takes}
use Rattle.jsonpath_parser.specs.declared.errors.JsonPathError.{JsonPathError}
use Rattle.jsonpath_parser.specs.declared.errors.JsonPathError.TheVariants.{InvalidJsonPath, OutOfMemory}

-- The refusals of a maker: `InvalidJsonPath` where there is nothing to make, or `OutOfMemory`.
abbrev pub IsMakersRefusal : Bool → JsonPathError → Type 0
IsMakersRefusal nothing (InvalidJsonPath text) = nothing ≡ true
IsMakersRefusal nothing OutOfMemory = ⊤
IsMakersRefusal nothing _ = ⊥

-- the answer is what is wanted, or a refusal
abbrev pub Makes : {A B : Type 0} → (A → B) → Result A JsonPathError → Option B → Type 0
Makes view r wanted = MatchResult r (λ a. wanted ≡ Some (view a)) (IsMakersRefusal (is_none wanted))

-- the operator that the text is (RFC 9535, 2.3.5.1)
abbrev pub operator_of : List ℕ → Option Operator
operator_of text =
    if bytes_eq text (codes "==") then Some equal
    else (if bytes_eq text (codes "!=") then Some not_equal
    else (if bytes_eq text (codes ">") then Some greater
    else (if bytes_eq text (codes ">=") then Some greater_or_equal
    else (if bytes_eq text (codes "<") then Some less
    else (if bytes_eq text (codes "<=") then Some less_or_equal
    else None)))))

-- the comparison by this operator
abbrev pub comparison_of : List ℕ → Argument → Argument → Option Filter
comparison_of text left right = option_map (λ op. compare op left right) (operator_of text)

-- the call of this name, where the function takes the arguments
abbrev pub typed_call_of : List ℕ → Arguments → Option Call
typed_call_of name xs = option_and_then (λ c. if takes c then Some c else None) (call_of name xs)

-- the left and the right of a comparison
abbrev pub sides : Filter → Option (Argument × Argument)
sides (compare op left right) = Some (left, right)
sides _ = None

-- a call that gives a truth
abbrev pub is_truth_call : Test → Bool
is_truth_call (call c) = not (gives_value c)
is_truth_call _ = false

abbrev pub is_literal_argument : Argument → Bool
is_literal_argument (literal_argument l) = true
is_literal_argument _ = false

abbrev pub is_filter_argument : Argument → Bool
is_filter_argument (filter_argument f) = true
is_filter_argument _ = false
