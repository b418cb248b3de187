-- What is found from a target is what is found from a node that it shows: the children of a name or an index, those of a slice, all of them,
-- and all that is below.
use Rattle.std.proofs.Common.{◌≡◌, ℕ, suc, ℤ, List, [], ◌∷◌, ◌++◌, map, filter, cond, length, append_assoc, append-nil, refl, sym, ◌∙◌, ap, subst, Bool, true, false, Option, Some, None, option_and_then, option_to_list, IsTrue}
use Rattle.std.proofs.lemmas.Bool.{false≢true}
use Rattle.std.proofs.lemmas.List.{map-append}
use Rattle.std.specs.Prelude.{codes}
use Rattle.jsonpath_base.specs.Prelude.Documents.{AllZip, as_list, below, child, children, element, element_nodes, element_of, elements, flat_map, index, indexed, IsNormal, list, Location, member_nodes, name, named, Node, null, number, object, pairs, root_node, slice_of, sliced, Step, steps_text, subtree, subtree_at, text, Tree, truth}
use Rattle.jsonpath_rust.specs.Prelude.States.{found_from, Target, under}
use Rattle.jsonpath_rust.proofs.laws.states.Found.{shift, subtree-shift, steps_text-append}

-- ---- each goes by the tree alone: from another location it finds the same, behind that location

abbrev pub GoesByTree : (Node → List Node) → Type 0
GoesByTree f = (l : Location) (t : Tree) → f (record { location = l; tree = t }) ≡ map (shift l) (f (root_node t))

option-shift : (l : Location) (s : Step) (o : Option Tree) → map (below l s) (option_to_list o) ≡ map (shift l) (map (below [] s) (option_to_list o))
option-shift l s None = refl
option-shift l s (Some t) = refl

flat_map-shift : {X : Type 0} (l : Location) (f g : X → List Node) → ((x : X) → f x ≡ map (shift l) (g x)) → (xs : List X) → flat_map f xs ≡ map (shift l) (flat_map g xs)
flat_map-shift l f g k [] = refl
flat_map-shift l f g k (x ∷ xs) = ap (λ ns. ns ++ flat_map f xs) (k x) ∙ ap (λ ns. map (shift l) (g x) ++ ns) (flat_map-shift l f g k xs) ∙ sym (map-append (shift l) (g x) (flat_map g xs))

elements-shift : (l : Location) (k : ℕ) (ts : List Tree) → element_nodes l k ts ≡ map (shift l) (element_nodes [] k ts)
elements-shift l k [] = refl
elements-shift l k (t ∷ ts) = ap (λ ns. below l (index k) t ∷ ns) (elements-shift l (suc k) ts)

members-shift : (l : Location) (ms : List (List ℕ × Tree)) → member_nodes l ms ≡ map (shift l) (member_nodes [] ms)
members-shift l [] = refl
members-shift l (m ∷ ms) = ap (λ ns. below l (name m.0) m.1 ∷ ns) (members-shift l ms)

pub named-by_tree : (k : List ℕ) → GoesByTree (named k)
named-by_tree k l t = option-shift l (name k) (child (name k) t)

places-shift : (l : Location) (t : Tree) (ks : List ℕ) → flat_map (λ k. element k (record { location = l; tree = t })) ks ≡ map (shift l) (flat_map (λ k. element k (root_node t)) ks)
places-shift l t ks = flat_map-shift l (λ (k : ℕ). element k (record { location = l; tree = t })) (λ (k : ℕ). element k (root_node t)) (λ k. option-shift l (index k) (child (index k) t)) ks

pub indexed-by_tree : (i : ℤ) → GoesByTree (indexed i)
indexed-by_tree i l t = places-shift l t (option_to_list (option_and_then (λ ts. element_of i (length ts)) (as_list t)))

pub sliced-by_tree : (start end step : Option ℤ) → GoesByTree (sliced start end step)
sliced-by_tree start end step l t =
    flat_map-shift l (λ (ts : List Tree). flat_map (λ k. element k (record { location = l; tree = t })) (slice_of start end step (length ts))) (λ (ts : List Tree). flat_map (λ k. element k (root_node t)) (slice_of start end step (length ts))) (λ ts. places-shift l t (slice_of start end step (length ts))) (option_to_list (as_list t))

pub children-by_tree : GoesByTree children
children-by_tree l (list ts) = elements-shift l 0 (elements ts)
children-by_tree l (object ms) = members-shift l (pairs ms)
children-by_tree l null = refl
children-by_tree l (truth b) = refl
children-by_tree l (number n) = refl
children-by_tree l (text s) = refl

pub subtree-by_tree : GoesByTree subtree
subtree-by_tree l t = ap (λ m. subtree_at m t) (sym (append-nil l)) ∙ subtree-shift l [] t

-- ---- nodes and the targets that show them

-- The target has the node's tree, and, where paths are told, the node's Normalized Path.
pub record Shows (told : Bool) (n : Node) (p : Target) : Type 0 where
  pub alike : n.tree ≡ p.tree
  pub path : IsTrue told → IsNormal n.location p.path

-- by their trees alone
pub alone : (n : Node) (p : Target) → n.tree ≡ p.tree → Shows false n p
alone n p e = record { alike = e; path = λ h. absurd (false≢true h) }

-- so does what stands these steps below it
further : (told : Bool) (n : Node) (p : Target) (m : Location) (t : Tree) → Shows told n p → Shows told (record { location = n.location ++ m; tree = t }) (record { path = p.path ++ steps_text m; tree = t })
further told n p m t h = record {
  alike = refl;
  path = λ k. ap (λ x. x ++ steps_text m) (h.path k) ∙ append_assoc (codes "$") (steps_text n.location) (steps_text m) ∙ ap (λ x. codes "$" ++ x) (sym (steps_text-append n.location m));
}

further_each : (told : Bool) (n : Node) (p : Target) → Shows told n p → (ms : List Node) → AllZip (Shows told) (map (shift n.location) ms) (map (under p.path) ms)
further_each told n p h [] = tt
further_each told n p h (m ∷ ms) = (further told n p m.location m.tree h, further_each told n p h ms)

-- what is found from a target shows what is found from the node
pub finds : (told : Bool) (f : Node → List Node) → GoesByTree f → (n : Node) (p : Target) → Shows told n p → AllZip (Shows told) (f n) (found_from p f)
finds told f by_tree n p h =
    let same : f n ≡ map (shift n.location) (f (root_node p.tree)) = by_tree n.location n.tree ∙ ap (λ t. map (shift n.location) (f (root_node t))) h.alike in
    subst (λ ns. AllZip (Shows told) ns (found_from p f)) (sym same) (further_each told n p h (f (root_node p.tree)))

-- ---- lists of them

pub shows-append : (told : Bool) (ns ms : List Node) (ps qs : List Target) → AllZip (Shows told) ns ps → AllZip (Shows told) ms qs → AllZip (Shows told) (ns ++ ms) (ps ++ qs)
shows-append told [] ms [] qs h k = k
shows-append told [] ms (p ∷ ps) qs h k = absurd h
shows-append told (n ∷ ns) ms [] qs h k = absurd h
shows-append told (n ∷ ns) ms (p ∷ ps) qs h k = (h.0, shows-append told ns ms ps qs h.1 k)

-- what is made of each
pub shows-each : (told : Bool) (f : Node → List Node) (g : Target → List Target) → ((n : Node) (p : Target) → Shows told n p → AllZip (Shows told) (f n) (g p)) → (ns : List Node) (ps : List Target) → AllZip (Shows told) ns ps → AllZip (Shows told) (flat_map f ns) (flat_map g ps)
shows-each told f g k [] [] h = tt
shows-each told f g k [] (p ∷ ps) h = absurd h
shows-each told f g k (n ∷ ns) [] h = absurd h
shows-each told f g k (n ∷ ns) (p ∷ ps) h = shows-append told (f n) (flat_map f ns) (g p) (flat_map g ps) (k n p h.0) (shows-each told f g k ns ps h.1)

kept_or_not : (told b c : Bool) (n : Node) (p : Target) (ns : List Node) (ps : List Target) → b ≡ c → Shows told n p → AllZip (Shows told) ns ps → AllZip (Shows told) (cond b (n ∷ ns) ns) (cond c (p ∷ ps) ps)
kept_or_not told true true n p ns ps e h k = (h, k)
kept_or_not told false false n p ns ps e h k = k
kept_or_not told true false n p ns ps e h k = absurd (false≢true (sym e))
kept_or_not told false true n p ns ps e h k = absurd (false≢true e)

-- those that a test keeps
pub shows-kept : (told : Bool) (f : Node → Bool) (g : Target → Bool) → ((n : Node) (p : Target) → Shows told n p → f n ≡ g p) → (ns : List Node) (ps : List Target) → AllZip (Shows told) ns ps → AllZip (Shows told) (filter f ns) (filter g ps)
shows-kept told f g k [] [] h = tt
shows-kept told f g k [] (p ∷ ps) h = absurd h
shows-kept told f g k (n ∷ ns) [] h = absurd h
shows-kept told f g k (n ∷ ns) (p ∷ ps) h = kept_or_not told (f n) (g p) n p (filter f ns) (filter g ps) (k n p h.0) h.0 (shows-kept told f g k ns ps h.1)

-- the same targets, or nodes, in other words
pub shows-as : {ps qs : List Target} (told : Bool) (ns : List Node) → ps ≡ qs → AllZip (Shows told) ns qs → AllZip (Shows told) ns ps
shows-as told ns e h = subst (AllZip (Shows told) ns) (sym e) h

pub shows-same : {ns ms : List Node} (told : Bool) (ps : List Target) → ns ≡ ms → AllZip (Shows told) ns ps → AllZip (Shows told) ms ps
shows-same told ps e h = subst (λ ns. AllZip (Shows told) ns ps) e h
