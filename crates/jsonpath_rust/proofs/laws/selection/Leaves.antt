-- A value that is no list and no object: nothing is selected below it.
use Rattle.std.proofs.Common.{◌≡◌, ℕ, List, [], ◌∷◌, ◌++◌, filter, length, refl, sym, ◌∙◌, ap, None, option_and_then, option_to_list}
use Rattle.jsonpath_base.specs.Prelude.Documents.{all_pick, as_list, as_members, descendant, Document, element, element_of, flat_map, get, holds, list, Location, no_selectors, Node, null, number, object, one, picks, replaced, Segment, Selector, selector, Selectors, several, slice, slice_of, subtree, subtree_at, text, Tree, truth, wildcard}
use Rattle.jsonpath_base.proofs.lemmas.documents.{children_at-none, named_none, subtree-children}
use Rattle.jsonpath_parser.specs.tree.Syntax as syntax

get-none : (k : List ℕ) (t : Tree) → None ≡ as_members t → None ≡ get k t
get-none k null m = refl
get-none k (truth b) m = refl
get-none k (number n) m = refl
get-none k (text s) m = refl
get-none k (list ts) m = refl
get-none k (object ms) m = cc

subtree_at-none : (l : Location) (t : Tree) → None ≡ as_list t → None ≡ as_members t → subtree_at l t ≡ record { location = l; tree = t } ∷ []
subtree_at-none l t h m = subtree-children l t ∙ ap (λ ns. record { location = l; tree = t } ∷ flat_map subtree ns) (children_at-none l t h m)

picks-none : (s : Selector) (d : Document) (l : Location) (t : Tree) → None ≡ as_list t → None ≡ as_members t → picks s d (record { location = l; tree = t }) ≡ []
picks-none (syntax.Selector.name k) d l t h m = named_none l k t (get-none k t m)
picks-none wildcard d l t h m = children_at-none l t h m
picks-none (syntax.Selector.index i) d l t h m =
    let n : Node = record { location = l; tree = t } in
    ap (λ o. flat_map (λ k. element k n) (option_to_list (option_and_then (λ ts. element_of i (length ts)) o))) (sym h)
picks-none (slice start end step) d l t h m =
    let n : Node = record { location = l; tree = t } in
    ap (λ o. flat_map (λ ts. flat_map (λ k. element k n) (slice_of start end step (length ts))) (option_to_list o)) (sym h)
picks-none (syntax.Selector.filter f) d l t h m = ap (λ ns. filter (holds f d) ns) (children_at-none l t h m)

all_pick-none : (ss : Selectors) (d : Document) (l : Location) (t : Tree) → None ≡ as_list t → None ≡ as_members t → all_pick ss d (record { location = l; tree = t }) ≡ []
all_pick-none no_selectors d l t h m = refl
all_pick-none (selector s ss) d l t h m = ap (λ ns. ns ++ all_pick ss d (record { location = l; tree = t })) (picks-none s d l t h m) ∙ all_pick-none ss d l t h m

pub replaced-none : (g : Segment) (d : Document) (l : Location) (t : Tree) → None ≡ as_list t → None ≡ as_members t → replaced g d (record { location = l; tree = t }) ≡ []
replaced-none (one s) d l t h m = picks-none s d l t h m
replaced-none (several ss) d l t h m = all_pick-none ss d l t h m
replaced-none (descendant g) d l t h m = ap (flat_map (replaced g d)) (subtree_at-none l t h m) ∙ ap (λ ns. ns ++ []) (replaced-none g d l t h m)
