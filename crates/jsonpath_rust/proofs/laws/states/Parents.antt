-- A segment selects nothing at a value that is no list and no object, so a descendant segment may pass over it.
use Rattle.std.proofs.Common.{◌≡◌, ℕ, List, [], ◌∷◌, ◌++◌, map, filter, cond, length, refl, sym, ◌∙◌, ap, Bool, true, false, None, option_and_then, option_to_list}
use Rattle.std.proofs.lemmas.Bool.{true≢false}
use Rattle.jsonpath_base.specs.Prelude.Documents.{all_pick, AllZip, as_list, below, children_at, descendant, Document, element, element_of, flat_map, get, holds, list, Location, name, no_selectors, Node, null, number, object, one, picks, replaced, Segment, Selector, selector, Selectors, several, slice, slice_of, subtree, subtree_at, text, Tree, truth, wildcard}
use Rattle.jsonpath_rust.specs.Prelude.States.{has_parts, parents_from, Target, targets}
use Rattle.jsonpath_rust.proofs.laws.selection.{flat_map-flat_map}
use Rattle.jsonpath_parser.specs.tree.Syntax as syntax
use Rattle.jsonpath_rust.proofs.laws.states.Contents.{targets-parents}
use Rattle.jsonpath_rust.proofs.laws.states.Finding.{Shows, finds, subtree-by_tree, shows-as, shows-kept}

-- ---- a value without parts

record HasNone (t : Tree) : Type 0 where
  no_list : as_list t ≡ None
  no_member : (k : List ℕ) → get k t ≡ None
  no_children : (l : Location) → children_at l t ≡ []
  itself : (l : Location) → subtree_at l t ≡ record { location = l; tree = t } ∷ []

none : (t : Tree) → has_parts t ≡ false → HasNone t
none (list ts) h = absurd (true≢false h)
none (object ms) h = absurd (true≢false h)
none null h = record { no_list = refl; no_member = λ k. refl; no_children = λ l. refl; itself = λ l. refl }
none (truth b) h = record { no_list = refl; no_member = λ k. refl; no_children = λ l. refl; itself = λ l. refl }
none (number n) h = record { no_list = refl; no_member = λ k. refl; no_children = λ l. refl; itself = λ l. refl }
none (text s) h = record { no_list = refl; no_member = λ k. refl; no_children = λ l. refl; itself = λ l. refl }

picks-none : (s : Selector) (d : Document) (l : Location) (t : Tree) → HasNone t → picks s d (record { location = l; tree = t }) ≡ []
picks-none (syntax.Selector.name k) d l t h = ap (λ o. map (below l (name k)) (option_to_list o)) (h.no_member k)
picks-none wildcard d l t h = h.no_children l
picks-none (syntax.Selector.index i) d l t h = ap (λ o. flat_map (λ k. element k (record { location = l; tree = t })) (option_to_list (option_and_then (λ ts. element_of i (length ts)) o))) h.no_list
picks-none (slice start end step) d l t h = ap (λ o. flat_map (λ ts. flat_map (λ k. element k (record { location = l; tree = t })) (slice_of start end step (length ts))) (option_to_list o)) h.no_list
picks-none (syntax.Selector.filter f) d l t h = ap (filter (holds f d)) (h.no_children l)

all_pick-none : (ss : Selectors) (d : Document) (l : Location) (t : Tree) → HasNone t → all_pick ss d (record { location = l; tree = t }) ≡ []
all_pick-none no_selectors d l t h = refl
all_pick-none (selector s ss) d l t h = ap (λ ns. ns ++ all_pick ss d (record { location = l; tree = t })) (picks-none s d l t h) ∙ all_pick-none ss d l t h

replaced-none : (g : Segment) (d : Document) (l : Location) (t : Tree) → HasNone t → replaced g d (record { location = l; tree = t }) ≡ []
replaced-none (one s) d l t h = picks-none s d l t h
replaced-none (several ss) d l t h = all_pick-none ss d l t h
replaced-none (descendant g) d l t h = ap (flat_map (replaced g d)) (h.itself l) ∙ ap (λ ns. ns ++ []) (replaced-none g d l t h)

-- ---- the lists and objects there and below

abbrev pub parents : Node → List Node
parents n = filter (λ m. has_parts m.tree) (subtree n)

pub parents-agree : (told : Bool) (n : Node) (p : Target) → Shows told n p → AllZip (Shows told) (parents n) (targets (parents_from p))
parents-agree told n p h = shows-as told (parents n) (targets-parents p) (shows-kept told (λ m. has_parts m.tree) (λ q. has_parts q.tree) (λ m q k. ap has_parts k.alike) (subtree n) _ (finds told subtree subtree-by_tree n p h))

passed_turn : (f : Node → List Node) (m : Node) (ms : List Node) (b : Bool) → (b ≡ false → f m ≡ []) → flat_map f (filter (λ n. has_parts n.tree) ms) ≡ flat_map f ms → flat_map f (cond b (m ∷ filter (λ n. has_parts n.tree) ms) (filter (λ n. has_parts n.tree) ms)) ≡ f m ++ flat_map f ms
passed_turn f m ms true k h = ap (λ ns. f m ++ ns) h
passed_turn f m ms false k h = h ∙ sym (ap (λ ns. ns ++ flat_map f ms) (k refl))

passed : (f : Node → List Node) → ((m : Node) → has_parts m.tree ≡ false → f m ≡ []) → (ms : List Node) → flat_map f (filter (λ n. has_parts n.tree) ms) ≡ flat_map f ms
passed f k [] = refl
passed f k (m ∷ ms) = passed_turn f m ms (has_parts m.tree) (k m) (passed f k ms)

each-same : (f g : Node → List Node) → ((n : Node) → f n ≡ g n) → (ns : List Node) → flat_map f ns ≡ flat_map g ns
each-same f g k [] = refl
each-same f g k (n ∷ ns) = ap (λ ms. ms ++ flat_map f ns) (k n) ∙ ap (λ ms. g n ++ ms) (each-same f g k ns)

pub parents-replaced : (g : Segment) (d : Document) (ns : List Node) → flat_map (replaced g d) (flat_map parents ns) ≡ flat_map (replaced (descendant g) d) ns
parents-replaced g d ns =
    flat_map-flat_map parents (replaced g d) ns
    ∙ each-same (λ n. flat_map (replaced g d) (parents n)) (replaced (descendant g) d) (λ n. passed (replaced g d) (λ m e. replaced-none g d m.location m.tree (none m.tree e)) (subtree n)) ns
