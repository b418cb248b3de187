-- How many constants a plan keeps.
use Rattle.std.proofs.Common.{◌≡◌, List, length, sym, ◌∙◌, ap}
use Rattle.std.proofs.Math.ListN.{length-map}
use Rattle.jsonpath_rust.specs.Prelude.Selection.{Constant, constant_view, IsStable, constants_view}

pub as_many : (es : List Constant) → IsStable es → length (constants_view es) ≡ length es
as_many es s = sym (ap (λ xs. length xs) s) ∙ length-map es (constant_view (constants_view es))
