-- What an error holds, without where it lies in memory: its variant, the bytes of its texts, its number.
use Rattle.std.specs.Prelude.{ℕ, List, string_bytes}
use Rattle.jsonpath_parser.specs.declared.errors.JsonPathError.{JsonPathError}
use Rattle.jsonpath_parser.specs.declared.errors.JsonPathError.TheVariants as code

pub data Error : Type 0 where
  pest_error : ℕ → Error
  unexpected_rule : List ℕ → List ℕ → Error
  unexpected_none : List ℕ → List ℕ → Error
  unexpected_output : Error
  no_rule_path : Error
  no_descent : Error
  no_field : Error
  invalid_number : List ℕ → Error
  invalid_top_level_rule : List ℕ → Error
  empty_inner : List ℕ → Error
  invalid_json_path : List ℕ → Error
  too_deep : ℕ → Error
  out_of_memory : Error

abbrev pub error_view : JsonPathError → Error
error_view (code.PestError place) = pest_error place
error_view (code.UnexpectedRuleLogicError rule text) = unexpected_rule (string_bytes rule) (string_bytes text)
error_view (code.UnexpectedNoneLogicError part text) = unexpected_none (string_bytes part) (string_bytes text)
error_view code.UnexpectedPestOutput = unexpected_output
error_view code.NoRulePath = no_rule_path
error_view code.NoJsonPathDescent = no_descent
error_view code.NoJsonPathField = no_field
error_view (code.InvalidNumber text) = invalid_number (string_bytes text)
error_view (code.InvalidTopLevelRule rule) = invalid_top_level_rule (string_bytes rule)
error_view (code.EmptyInner text) = empty_inner (string_bytes text)
error_view (code.InvalidJsonPath text) = invalid_json_path (string_bytes text)
error_view (code.MaxNestingDepthExceeded depth) = too_deep depth
error_view code.OutOfMemory = out_of_memory
