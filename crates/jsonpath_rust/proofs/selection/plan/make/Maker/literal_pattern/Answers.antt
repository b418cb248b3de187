use Rattle.std.proofs.Common.{◌≡◌, ◌∙◌, ap, refl, string_bytes, rules}
use Rattle.jsonpath_parser.specs.tree.Syntax as syntax
use Rattle.jsonpath_parser.specs.tree.View as tree
use Rattle.jsonpath_rust.specs.Prelude.Selection.{every, Single}
use Rattle.jsonpath_rust.proofs.laws.selection.{expr_view-Literal, expr_view-Pattern, made_around, made_none, same_maker}
use Rattle.jsonpath_rust.proofs.selection.plan.make.Maker.literal_pattern.Goals as goal

pub returns-in_ok-from_str-in-Some-clause-made : goal.returns-in_ok-from_str-in-Some-clause-made
returns-in_ok-from_str-in-Some-clause-made c =
    let bytes : string_bytes c.in_ok-from_str-in-Some.field-0 ≡ string_bytes c.in-String.text = search rules in
    made_around same_maker c.in_ok-number-in-String.ensures.beside (λ h. (h, refl)) (made_none {test = every} _ _ (λ constants. expr_view-Pattern constants _ _ Single ∙ ap (λ s. syntax.literal_argument (syntax.string s)) bytes) (ap (λ l. syntax.literal_argument (tree.literal_view l)) c.in-String.is) refl)

pub returns-in_ok-try_clone-in-None-clause-made : goal.returns-in_ok-try_clone-in-None-clause-made
returns-in_ok-try_clone-in-None-clause-made c =
    made_around same_maker c.in_ok-number-in-String.ensures.beside (λ h. (h, refl)) (made_none {test = every} _ _ (λ constants. expr_view-Literal constants _ Single ∙ ap syntax.literal_argument c.in_ok-try_clone-in-None.ensures.same) refl refl)
