-- The loops of the walk.
use Rattle.std.proofs.Common.{◌≡◌, ℕ, suc, ◌+◌, ◌<◌, ◌≤◌, List, [], ◌∷◌, ◌++◌, map, filter, cond, length, get_or, drop, drop-cons, add-one, refl, sym, ◌∙◌, ap, subst, All, Bool, true, false}
use Rattle.std.proofs.lemmas.Grind.{flat_map-append}
use Rattle.std.proofs.lemmas.List.{at_drop_all}
use Rattle.std.proofs.lemmas.List.Elements.{All-head, All-tail}
use Rattle.jsonpath_base.specs.Prelude.Documents.{all_pick, below, children_at, Document, element_nodes, flat_map, index, Location, member_nodes, name, Node, picks, subtree, subtree_at, Tree}
use Rattle.jsonpath_rust.specs.Prelude.Selection.{Constants, feed, Seen, selector_view, selectors_meant, Fed}
use Rattle.jsonpath_base.proofs.lemmas.documents.{subtree-children}
use Rattle.jsonpath_rust.proofs.laws.selection.Sinks.{feed-append, feed-full}

-- ---- a loop: G k gives what is left of the list from its k-th element on, g k gives that element

pub record Turns {X : Type 0} (G : ℕ → List X → List Node) (g : ℕ → X → List Node) : Type 0 where
  pub none : (k : ℕ) → G k [] ≡ []
  pub more : (k : ℕ) (x : X) (xs : List X) → G k (x ∷ xs) ≡ g k x ++ G (suc k) xs

turn : {X : Type 0} (G : ℕ → List X → List Node) (g : ℕ → X → List Node) → Turns G g → (xs : List X) (i : ℕ) (x : X) → i < length xs → x ≡ get_or xs i x → G i (drop i xs) ≡ g i x ++ G (i + 1) (drop (i + 1) xs)
turn G g t xs i x h e = ap (G i) (drop-cons xs i x h) ∙ t.more i (get_or xs i x) (drop (suc i) xs) ∙ ap (λ y. g i y ++ G (suc i) (drop (suc i) xs)) (sym e) ∙ ap (λ j. g i x ++ G j (drop j xs)) (sym (add-one i))

-- the turn at x goes on
pub turn_next : {X : Type 0} (G : ℕ → List X → List Node) (g : ℕ → X → List Node) → Turns G g → (xs : List X) (i : ℕ) (x : X) (s m w : Seen) (b : Bool) → i < length xs → x ≡ get_or xs i x → Fed s (g i x) m b → feed s (G i (drop i xs)) ≡ w → feed m (G (i + 1) (drop (i + 1) xs)) ≡ w
turn_next G g t xs i x s m w b h e k v =
    let rest = G (i + 1) (drop (i + 1) xs) in
    ap (λ q. feed q rest) k.given ∙ sym (feed-append s (g i x) rest) ∙ ap (feed s) (sym (turn G g t xs i x h e)) ∙ v

-- the turn at x ends the loop: the rest makes no difference
pub turn_stop : {X : Type 0} (G : ℕ → List X → List Node) (g : ℕ → X → List Node) → Turns G g → (xs : List X) (i : ℕ) (x : X) (s m w : Seen) (b : Bool) → i < length xs → x ≡ get_or xs i x → Fed s (g i x) m b → b ≡ false → feed s (G i (drop i xs)) ≡ w → m ≡ w
turn_stop G g t xs i x s m w b h e k f v = sym (feed-full m (G (i + 1) (drop (i + 1) xs)) (k.stopped f)) ∙ turn_next G g t xs i x s m w b h e k v

-- nothing is left
pub turn_end : {X : Type 0} (G : ℕ → List X → List Node) (g : ℕ → X → List Node) → Turns G g → (xs : List X) (i : ℕ) (s w : Seen) → length xs ≤ i → feed s (G i (drop i xs)) ≡ w → s ≡ w
turn_end G g t xs i s w h v = sym (ap (feed s) (at_drop_all (G i) xs i h ∙ t.none i)) ∙ v

pub flat_map-flat_map : {A B C : Type 0} (f : A → List B) (g : B → List C) (xs : List A) → flat_map g (flat_map f xs) ≡ flat_map (λ x. flat_map g (f x)) xs
flat_map-flat_map f g [] = refl
flat_map-flat_map f g (x ∷ xs) = flat_map-append g (f x) (flat_map f xs) ∙ ap (λ z. flat_map g (f x) ++ z) (flat_map-flat_map f g xs)

pub flat_map-alone : {A : Type 0} (xs : List A) → flat_map (λ x. x ∷ []) xs ≡ xs
flat_map-alone [] = refl
flat_map-alone (x ∷ xs) = ap (λ ys. x ∷ ys) (flat_map-alone xs)

pub flat_map-filter : {A : Type 0} (f : A → Bool) (xs : List A) → flat_map (λ x. filter f (x ∷ [])) xs ≡ filter f xs
flat_map-filter f [] = refl
flat_map-filter f (x ∷ xs) = ap (λ ys. filter f (x ∷ []) ++ ys) (flat_map-filter f xs) ∙ sym (split (f x))
  where
    split : (b : Bool) → cond b (x ∷ filter f xs) (filter f xs) ≡ cond b (x ∷ []) [] ++ filter f xs
    split true = refl
    split false = refl

-- the loops of a walk: over selectors, elements, members and places
pub selector_turns : (constants : Constants) (d : Document) (n : Node) (rest : Node → List Node) → Turns (λ k ss. flat_map rest (all_pick (selectors_meant constants ss) d n)) (λ k s. flat_map rest (picks (selector_view constants s) d n))
selector_turns constants d n rest = record { none = λ k. refl; more = λ k s ss. flat_map-append rest (picks (selector_view constants s) d n) (all_pick (selectors_meant constants ss) d n) }

pub element_turns : {A : Type 0} (tree : A → Tree) (l : Location) (rest act : Node → List Node) → Turns (λ k xs. flat_map rest (flat_map act (element_nodes l k (map tree xs)))) (λ k x. flat_map rest (act (below l (index k) (tree x))))
element_turns tree l rest act = record { none = λ k. refl; more = λ k x xs. flat_map-append rest (act (below l (index k) (tree x))) (flat_map act (element_nodes l (suc k) (map tree xs))) }

pub member_turns : {M : Type 0} (pair : M → List ℕ × Tree) (l : Location) (rest act : Node → List Node) → Turns (λ k ms. flat_map rest (flat_map act (member_nodes l (map pair ms)))) (λ k m. flat_map rest (act (below l (name (pair m).0) (pair m).1)))
member_turns pair l rest act = record { none = λ k. refl; more = λ k m ms. flat_map-append rest (act (below l (name (pair m).0) (pair m).1)) (flat_map act (member_nodes l (map pair ms))) }

-- one place of a slice: it goes on, or ends the loop
pub place_next : (rest : Node → List Node) (at : ℕ → List Node) (old new : List ℕ) (i : ℕ) (s m w : Seen) (b : Bool) → old ≡ i ∷ new → Fed s (flat_map rest (at i)) m b → feed s (flat_map rest (flat_map at old)) ≡ w → feed m (flat_map rest (flat_map at new)) ≡ w
place_next rest at old new i s m w b e k v =
    ap (λ q. feed q (flat_map rest (flat_map at new))) k.given ∙ sym (feed-append s (flat_map rest (at i)) (flat_map rest (flat_map at new))) ∙ ap (feed s) (sym (flat_map-append rest (at i) (flat_map at new))) ∙ ap (λ is. feed s (flat_map rest (flat_map at is))) (sym e) ∙ v

pub place_stop : (rest : Node → List Node) (at : ℕ → List Node) (old new : List ℕ) (i : ℕ) (s m w : Seen) (b : Bool) → old ≡ i ∷ new → Fed s (flat_map rest (at i)) m b → b ≡ false → feed s (flat_map rest (flat_map at old)) ≡ w → m ≡ w
place_stop rest at old new i s m w b e k f v = sym (feed-full m (flat_map rest (flat_map at new)) (k.stopped f)) ∙ place_next rest at old new i s m w b e k v

-- at a node, and then at what is below each child
pub below_more : (rest act : Node → List Node) (l : Location) (t : Tree) → flat_map rest (act (record { location = l; tree = t })) ++ flat_map rest (flat_map (λ m. flat_map act (subtree m)) (children_at l t)) ≡ flat_map rest (flat_map act (subtree_at l t))
below_more rest act l t = sym (ap (λ ns. flat_map rest (flat_map act ns)) (subtree-children l t) ∙ flat_map-append rest (act (record { location = l; tree = t })) (flat_map act (flat_map subtree (children_at l t))) ∙ ap (λ ns. flat_map rest (act (record { location = l; tree = t })) ++ flat_map rest ns) (flat_map-flat_map subtree act (children_at l t)))

-- the first of places that are all below m, and the later ones
pub first_below : {m k : ℕ} {is js : List ℕ} → is ≡ k ∷ js → All (λ i. i < m) is → k < m
first_below {m = m} {k = k} e h = All-head (λ i. i < m) k _ (subst (All (λ i. i < m)) e h)

pub later_below : {m k : ℕ} {is js : List ℕ} → is ≡ k ∷ js → All (λ i. i < m) is → All (λ i. i < m) js
later_below {m = m} {k = k} e h = All-tail (λ i. i < m) k _ (subst (All (λ i. i < m)) e h)
