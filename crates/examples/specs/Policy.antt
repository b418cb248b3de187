-- Whether a document keeps the rules of a policy, and where it breaks one.
use Rattle.std.specs.Prelude.{◌⊎◌, ℕ, List, Option, MatchOption, IsTrue, IsFalse}
use Rattle.jsonpath_rust.specs.JsonPathError.{JsonPathError}
use Rattle.jsonpath_rust.specs.View.{query_view}
use Rattle.jsonpath_rust.specs.Document.{Document}
use Rattle.jsonpath_rust.specs.Patterns.{IsStop}
use Rattle.examples.specs.declared.policy.Rule.{Rule}
use Rattle.examples.specs.Conditions.{is_met, IsUndecided}
use Rattle.examples.specs.First.{IsSilent, IsFirst, IsFirstPath}

-- the document meets the condition of the rule
abbrev pub IsKept : Document → Rule → Type 0
IsKept doc rule = IsTrue (is_met doc rule.condition)

-- The document does not meet the condition of the rule. The path is that of the first node that the query of the rule selects; None where it selects nothing.
pub record IsBroken (doc : Document) (path : Option (List ℕ)) (rule : Rule) : Type 0 where
  pub unmet : IsFalse (is_met doc rule.condition)
  pub shown : MatchOption path (IsSilent doc (query_view rule.shown)) (λ p. IsFirstPath doc p (query_view rule.shown))

-- The rule is refused so: its condition, or its query, which is asked where the condition is not met.
abbrev pub IsRuleStop : Document → JsonPathError → Rule → Type 0
IsRuleStop doc e rule = IsUndecided doc e rule.condition ⊎ (IsFalse (is_met doc rule.condition) × IsStop (query_view rule.shown) doc e)

-- One of the rules is refused so, and those before it are kept.
pub record IsUnjudged (policy : List Rule) (doc : Document) (e : JsonPathError) : Type 0 where
  pub index : ℕ
  pub refused : IsFirst policy (IsKept doc) index (IsRuleStop doc e)
