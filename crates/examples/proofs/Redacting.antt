-- What the rules of a redaction select, by the queries that they are.
use Rattle.std.proofs.Common.{◌≡◌, ℕ, zero, suc, ◌<◌, List, [], ◌∷◌, ◌++◌, length, get_or, Bool, true, false, ◌&&◌, ◌||◌, map, refl, ap, ◌∙◌, arith}
use Rattle.std.proofs.lemmas.List.Folds.{list_any-append}
use Rattle.std.specs.List.{list_all}
use Rattle.jsonpath_rust.specs.Document.{Document}
use Rattle.jsonpath_rust.specs.JpQuery.{JpQuery}
use Rattle.jsonpath_rust.specs.Location.{Location}
use Rattle.jsonpath_rust.specs.Masking as masking
use Rattle.jsonpath_rust.specs.Masking.{has_no_filter}
use Rattle.jsonpath_rust.specs.Meaning.{selected}
use Rattle.jsonpath_rust.specs.View.{query_view}
use Rattle.jsonpath_rust.specs.Without.{is_among, is_location}
use Rattle.examples.specs.Redaction.{all_selected, have_no_filter}

pub by_views : (qs : List JpQuery) (d : Document) → masking.all_selected (map query_view qs) d ≡ all_selected qs d
by_views [] d = refl
by_views (q ∷ qs) d = ap (λ ls. selected (query_view q) d ++ ls) (by_views qs d)

pub views_have_none : (qs : List JpQuery) → list_all has_no_filter (map query_view qs) ≡ have_no_filter qs
views_have_none [] = refl
views_have_none (q ∷ qs) = ap (λ b. has_no_filter (query_view q) && b) (views_have_none qs)

-- what one of the rules selects, they select
pub among_rules : (qs : List JpQuery) (q : JpQuery) (d : Document) (l : Location) (i : ℕ) → i < length qs → get_or qs i q ≡ q → is_among (selected (query_view q) d) l ≡ true → is_among (all_selected qs d) l ≡ true
among_rules [] q d l i within is there = absurd (omega (arith, within))
among_rules (p ∷ qs) q d l zero within is there =
    list_any-append (λ m. is_location m l) (selected (query_view p) d) (all_selected qs d) ∙ ap (λ b. b || is_among (all_selected qs d) l) (ap (λ x. is_among (selected (query_view x) d) l) is ∙ there)
among_rules (p ∷ qs) q d l (suc i) within is there =
    list_any-append (λ m. is_location m l) (selected (query_view p) d) (all_selected qs d) ∙ ap (λ b. is_among (selected (query_view p) d) l || b) (among_rules qs q d l i (omega (arith, within)) is there) ∙ or_true (is_among (selected (query_view p) d) l)
  where
    or_true : (b : Bool) → (b || true) ≡ true
    or_true true = refl
    or_true false = refl
