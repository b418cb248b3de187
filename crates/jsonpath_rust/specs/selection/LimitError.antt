-- Why a call of a runner, with any limit, has no result.
use Rattle.std.specs.Prelude.{Bool, IsFalse}
use Rattle.jsonpath_parser.specs.tree.Syntax.{Filter, Query}
use Rattle.jsonpath_parser.specs.tree.Typing.{is_singular}
use Rattle.jsonpath_base.specs.documents.Document.{Document}
use Rattle.jsonpath_base.specs.documents.Patterns.{IsStop}
use Rattle.jsonpath_rust.specs.selection.Condition.{filter_query, tests_singular}
use Rattle.jsonpath_rust.specs.declared.selection.limits.LimitError.{LimitError}
use Rattle.jsonpath_rust.specs.declared.selection.limits.LimitError.TheVariants as limit_error

-- with a number of units: they were not enough, in a call that is not free; or the call fails as one without a limit
abbrev pub StopsUnits : Bool → Query → Document → LimitError → Type 0
StopsUnits free q doc limit_error.Exhausted = IsFalse free
StopsUnits free q doc (limit_error.Query e) = IsStop q doc e

-- under a limit with these stops: for a query, which is free if it is singular (RFC 9535, 2.3.5.1)
abbrev pub IsStopOf : {S : Type 0} → (Bool → Query → Document → S → Type 0) → Query → Document → S → Type 0
IsStopOf stops q doc stop = stops (is_singular q) q doc stop

-- and for a condition, which is free if it is a test of such a query
abbrev pub IsConditionStop : {S : Type 0} → (Bool → Query → Document → S → Type 0) → Filter → Document → S → Type 0
IsConditionStop stops f doc stop = stops (tests_singular f) (filter_query f) doc stop
