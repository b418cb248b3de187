-- What is so of each comparison and of each atom of the code.
use Rattle.std.proofs.Common.{◌≡◌, Bool, true, refl, ap, ◌∙◌, rules}
use Rattle.jsonpath_parser.specs.Prelude.{atom_view, comparable_view, Comparison, comparison_view, filter_view, FilterAtom, is_basic, is_comparison, test_view, the_lemmas}
use Rattle.jsonpath_parser.specs.tree.Syntax as tree
use Rattle.jsonpath_parser.specs.declared.tree.model.FilterAtom
use Rattle.jsonpath_parser.specs.declared.tree.model.FilterAtom.TheVariants as atom_variants
use Rattle.jsonpath_parser.proofs.laws.tree.ViewEquations.{comparison_view-Eq, comparison_view-Ne, comparison_view-Gt, comparison_view-Gte, comparison_view-Lt, comparison_view-Lte}

-- how an atom opens into its variant and its parts
ruleset layers = (rules, the_lemmas, atom_variants.outs-Filter', atom_variants.outs-Test', atom_variants.outs-Comparison')

-- what is so of each comparison of two arguments
pub of_comparison : {A : Type 0} (f : tree.Filter → A) (x : A) → ((op : tree.Operator) (l r : tree.Argument) → f (tree.compare op l r) ≡ x) → (c : Comparison) → f (comparison_view c) ≡ x
of_comparison f x each (Comparison.Eq a b) = ap f (comparison_view-Eq a b) ∙ each tree.equal (comparable_view a) (comparable_view b)
of_comparison f x each (Comparison.Ne a b) = ap f (comparison_view-Ne a b) ∙ each tree.not_equal (comparable_view a) (comparable_view b)
of_comparison f x each (Comparison.Gt a b) = ap f (comparison_view-Gt a b) ∙ each tree.greater (comparable_view a) (comparable_view b)
of_comparison f x each (Comparison.Gte a b) = ap f (comparison_view-Gte a b) ∙ each tree.greater_or_equal (comparable_view a) (comparable_view b)
of_comparison f x each (Comparison.Lt a b) = ap f (comparison_view-Lt a b) ∙ each tree.less (comparable_view a) (comparable_view b)
of_comparison f x each (Comparison.Lte a b) = ap f (comparison_view-Lte a b) ∙ each tree.less_or_equal (comparable_view a) (comparable_view b)

-- and of each filter in parentheses and each test
pub of_atom : {A : Type 0} (f : tree.Filter → A) (x : A) → ((b : Bool) (g : tree.Filter) → f (tree.group b g) ≡ x) → ((b : Bool) (t : tree.Test) → f (tree.Filter.test b t) ≡ x)
    → ((op : tree.Operator) (l r : tree.Argument) → f (tree.compare op l r) ≡ x) → (a : FilterAtom) → f (atom_view a) ≡ x
of_atom f x groups tests each (FilterAtom.Filter' p e b) = let open_ : atom_view (FilterAtom.Filter' p e b) ≡ tree.group b (filter_view e) = search layers in ap f open_ ∙ groups b (filter_view e)
of_atom f x groups tests each (FilterAtom.Test' p e b) = let open_ : atom_view (FilterAtom.Test' p e b) ≡ tree.Filter.test b (test_view e) = search layers in ap f open_ ∙ tests b (test_view e)
of_atom f x groups tests each (FilterAtom.Comparison' p c) = let open_ : atom_view (FilterAtom.Comparison' p c) ≡ comparison_view c = search layers in ap f open_ ∙ of_comparison f x each c

pub comparison_is_comparison : (c : Comparison) → is_comparison (comparison_view c) ≡ true
comparison_is_comparison = of_comparison is_comparison true (λ op l r. refl)

pub atom_is_basic : (a : FilterAtom) → is_basic (atom_view a) ≡ true
atom_is_basic = of_atom is_basic true (λ b g. refl) (λ b t. refl) (λ op l r. refl)
