-- `==` of errors is equality of what they hold.
use Rattle.std.proofs.Common.{◌≡◌, refl}
use Rattle.jsonpath_parser.specs.Prelude.{Decides, error_view, JsonPathError}
use Rattle.jsonpath_parser.specs.Errors as error
use Rattle.jsonpath_parser.proofs.Deciding.{under, under_two, differ, string_same}
use Rattle.jsonpath_parser.specs.declared.errors.JsonPathError.TheVariants as code
use Rattle.jsonpath_parser.specs.contracts.errors.JsonPathErrorPartialEq.TheImpl as error_eq
use Rattle.std.proofs.lemmas.Bool.Decides.{Decides-eqb}

pub error_same : (a b : JsonPathError) → Decides (error_eq.eq-value.it a b) (error_view a ≡ error_view b)
error_same (code.PestError a) (code.PestError b) = under error.pest_error (λ s t h. cc) (Decides-eqb a b) refl refl refl
error_same (code.UnexpectedRuleLogicError a c) (code.UnexpectedRuleLogicError b d) = under_two error.unexpected_rule (λ a c b d h. (cc, cc)) (string_same a b) (string_same c d) refl refl refl
error_same (code.UnexpectedNoneLogicError a c) (code.UnexpectedNoneLogicError b d) = under_two error.unexpected_none (λ a c b d h. (cc, cc)) (string_same a b) (string_same c d) refl refl refl
error_same code.UnexpectedPestOutput code.UnexpectedPestOutput = (λ _. refl, λ _. refl)
error_same code.NoRulePath code.NoRulePath = (λ _. refl, λ _. refl)
error_same code.NoJsonPathDescent code.NoJsonPathDescent = (λ _. refl, λ _. refl)
error_same code.NoJsonPathField code.NoJsonPathField = (λ _. refl, λ _. refl)
error_same (code.InvalidNumber a) (code.InvalidNumber b) = under error.invalid_number (λ s t h. cc) (string_same a b) refl refl refl
error_same (code.InvalidTopLevelRule a) (code.InvalidTopLevelRule b) = under error.invalid_top_level_rule (λ s t h. cc) (string_same a b) refl refl refl
error_same (code.EmptyInner a) (code.EmptyInner b) = under error.empty_inner (λ s t h. cc) (string_same a b) refl refl refl
error_same (code.InvalidJsonPath a) (code.InvalidJsonPath b) = under error.invalid_json_path (λ s t h. cc) (string_same a b) refl refl refl
error_same (code.MaxNestingDepthExceeded a) (code.MaxNestingDepthExceeded b) = under error.too_deep (λ s t h. cc) (Decides-eqb a b) refl refl refl
error_same code.OutOfMemory code.OutOfMemory = (λ _. refl, λ _. refl)
error_same a b = differ refl (λ h. cc)
