-- What adding a value leaves of another, for the contracts of `adding` alone.
use Rattle.std.specs.Prelude.{◌≡◌, Bool, true, IsTrue, IfOk, OnOk, Result, Ok}
use Rattle.std.specs.declared.alloc.AllocError.{AllocError}
use Rattle.serde_json.specs.View.{view}
use Rattle.serde_json.specs.declared.value.Value.{Value}
use Rattle.jsonpath_base.specs.Tree.{Tree}
use Rattle.jsonpath_base.specs.Values.{value_tree, value_is_whole}

-- For Ok the tree is `made` of the old one, and the result says whether that takes what is added; for all but Ok true the data is as it was.
pub record Adds (made : Tree → Tree) (takes : Tree → Bool) (added old new : Value) (r : Result Bool AllocError) : Type 0 where
  pub value : OnOk r (value_tree new ≡ made (value_tree old))
  pub found : IfOk r (λ b. b ≡ takes (value_tree old))
  pub same : (r ≡ Ok true → ⊥) → view new ≡ view old
  pub whole : IsTrue (value_is_whole added) → IsTrue (value_is_whole old) → IsTrue (value_is_whole new)
