-- Steps on the way of a walk lead to the value at hand.
use Rattle.std.proofs.Common.{◌≡◌, ℕ, ℤ, List, [], ◌∷◌, ◌++◌, sym, ◌∙◌, ap, subst, Some, IsTrue}
use Rattle.std.proofs.lemmas.List.{map-append}
use Rattle.jsonpath_base.specs.Prelude.Documents.{AllByRecursion, at, below, child, has_distinct_names, index, indexed, lent_location, lent_step, Node, Tree}
use Rattle.jsonpath_rust.specs.Prelude.Documents.{Index, StepRef}
use Rattle.jsonpath_base.proofs.lemmas.documents.{at-below, IsPositioned, stands-indexed}

-- the same steps lead to the same value
pub leads_as : (p q : List StepRef) (root t : Tree) → p ≡ q → at (lent_location q) root ≡ Some t → at (lent_location p) root ≡ Some t
leads_as p q root t e h = ap (λ steps. at (lent_location steps) root) e ∙ h

-- one step more leads to a child
pub leads_below : (steps : List StepRef) (s : StepRef) (root t u : Tree) → at (lent_location steps) root ≡ Some t → child (lent_step s) t ≡ Some u → at (lent_location (steps ++ s ∷ [])) root ≡ Some u
leads_below steps s root t u h e = ap (λ l. at l root) (map-append lent_step steps (s ∷ [])) ∙ at-below (lent_location steps) (lent_step s) root t h ∙ e

-- to the element that an index means
pub leads_indexed : (steps : List StepRef) (i : ℤ) (k : ℕ) (root t u : Tree) → IsTrue (has_distinct_names t) → at (lent_location steps) root ≡ Some t → below (lent_location steps) (index k) u ∷ [] ≡ indexed i (record { location = lent_location steps; tree = t }) → at (lent_location (steps ++ Index k ∷ [])) root ≡ Some u
leads_indexed steps i k root t u distinct h e =
    let n : Node = record { location = lent_location steps; tree = t } in
    let P : List Node → Type 0 = AllByRecursion (IsPositioned root) in
    ap (λ l. at l root) (map-append lent_step steps (Index k ∷ [])) ∙ (subst P (sym e) (stands-indexed i root n (record { there = h; distinct = distinct }))).0.there
