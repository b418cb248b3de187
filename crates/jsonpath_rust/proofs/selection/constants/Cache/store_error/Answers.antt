use Rattle.std.proofs.Common.{◌≡◌, sym, ◌∙◌}
use Rattle.jsonpath_rust.specs.Prelude.Documents.{Memory, Pattern, Spent}
use Rattle.jsonpath_rust.proofs.selection.constants.Cache.store_error.Goals as goal

pub returns-in-Pattern-clause-right : goal.returns-in-Pattern-clause-right
returns-in-Pattern-clause-right g c constants doc limit h keeps =
    let asks = h (λ m. let no : Pattern ≡ Memory = sym c.in-Pattern.is ∙ m in absurd cc) (λ s. let no : Pattern ≡ Spent = sym c.in-Pattern.is ∙ s.0 in absurd cc) in
    c.store.ensures.right constants doc asks keeps
