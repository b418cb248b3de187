-- What a sink has, once it was given nodes.
use Rattle.std.proofs.Common.{◌≡◌, ℕ, zero, suc, pos, min, take, ◌-◌, List, [], ◌∷◌, ◌++◌, map, length, append-nil, append_assoc, refl, sym, ◌∙◌, ap, arith, Bool, true, false, Result, IfOk, Some, None, unwrap_or}
use Rattle.std.proofs.lemmas.Result.{IfOk-weaker}
use Rattle.std.proofs.lemmas.Bool.{false≢true}
use Rattle.jsonpath_base.specs.Prelude.Documents.{also, counted_with, distinct_count, greatest_count, is_among, Location, Node, normal, number, of_nodes, location_count, location_set, Tree}
use Rattle.jsonpath_rust.specs.Prelude.Documents.{LocationSet}
use Rattle.jsonpath_rust.specs.Prelude.Selection.{add, count_in, counted, few, finished, full, feed, result_for, IsLocationSetOf, locations, locations_in, nodes_in, nothing, one, path_and_tree, paths, paths_in, removal, location_set_in, Seen, several, start, Fed, values, values_in, Demand}
use Rattle.jsonpath_base.specs.inner.LocationTries.{set_with}
use Rattle.jsonpath_base.proofs.Removed.{set_begun}
use Rattle.jsonpath_rust.specs.selection.inner.Sinks.{nodes}
use Rattle.jsonpath_rust.specs.selection.inner.Wanting as wanting
use Rattle.jsonpath_rust.specs.declared.selection.sink.Demand.TheVariants as demand

pub feed-append : (s : Seen) (xs ys : List Node) → feed s (xs ++ ys) ≡ feed (feed s xs) ys
feed-append s [] ys = refl
feed-append s (x ∷ xs) ys = feed-append (add s x) xs ys

add-full : (s : Seen) (n : Node) → full s ≡ true → add s n ≡ s
add-full (nodes ns) n h = absurd (false≢true h)
add-full (paths ps) n h = absurd (false≢true h)
add-full (values ts) n h = absurd (false≢true h)
add-full (locations ls) n h = absurd (false≢true h)
add-full (removal set k) n h = absurd (false≢true h)
add-full (counted zero most) n h = refl
add-full (counted (suc room) most) n h = absurd (false≢true h)
add-full nothing n h = absurd (false≢true h)
add-full (one t) n h = absurd (false≢true h)
add-full several n h = refl
add-full (few zero ms) n h = refl
add-full (few (suc room) ms) n h = absurd (false≢true h)

-- a sink that wants no more nodes stays as it is
pub feed-full : (s : Seen) (ns : List Node) → full s ≡ true → feed s ns ≡ s
feed-full s [] h = refl
feed-full s (n ∷ ns) h = ap (λ z. feed z ns) (add-full s n h) ∙ feed-full s ns h

pub true_false : {A : Type 0} → true ≡ false → A
true_false h = absurd (false≢true (sym h))

-- where no node is to be given, nothing is done
pub took_none : (s : Seen) (ns : List Node) → ns ≡ [] → Fed s ns s true
took_none s ns e = record { given = sym (ap (feed s) e); stopped = λ h. true_false h }

pub took_as : (s : Seen) (xs ys : List Node) (z : Seen) (b : Bool) → xs ≡ ys → Fed s xs z b → Fed s ys z b
took_as s xs ys z b e h = record { given = h.given ∙ ap (feed s) e; stopped = h.stopped }

pub took_then : (s : Seen) (xs ys all : List Node) (m z : Seen) (a b : Bool) → xs ++ ys ≡ all → Fed s xs m a → Fed m ys z b → Fed s all z b
took_then s xs ys all m z a b e h k = record { given = k.given ∙ ap (λ q. feed q ys) h.given ∙ sym (feed-append s xs ys) ∙ ap (feed s) e; stopped = k.stopped }

-- the rest makes no difference
pub took_stop : (s : Seen) (xs ys all : List Node) (m : Seen) (a b : Bool) → xs ++ ys ≡ all → Fed s xs m a → a ≡ false → Fed s all m b
took_stop s xs ys all m a b e h f = record { given = sym (feed-full m ys (h.stopped f)) ∙ ap (λ q. feed q ys) h.given ∙ sym (feed-append s xs ys) ∙ ap (feed s) e; stopped = λ _. h.stopped f }

-- a call's answer, with what it gave in other words
pub result_as : {E : Type 0} (r : Result Bool E) (s z : Seen) (xs ys : List Node) → xs ≡ ys → IfOk r (λ b. Fed s xs z b) → IfOk r (λ b. Fed s ys z b)
result_as r s z xs ys e h = IfOk-weaker r (λ b. Fed s xs z b) (λ b. Fed s ys z b) (λ b k. took_as s xs ys z b e k) h

-- ---- inside a filter

-- each node takes one from the room
feed-counted : (room most : ℕ) (ns : List Node) → feed (counted room most) ns ≡ counted (room - length ns) most
feed-counted room most [] = ap (λ k. counted k most) (omega arith)
feed-counted room most (n ∷ ns) = feed-counted (room - 1) most ns ∙ ap (λ k. counted k most) (omega arith)

-- so many nodes came, up to the room there was
pub counted_all : (most : ℕ) (ns : List Node) → count_in (feed (counted most most) ns) ≡ min (length ns) most
counted_all most ns = ap count_in (feed-counted most most ns) ∙ omega arith

twice : (n : ℕ) → min (greatest_count - (greatest_count - n)) greatest_count ≡ min n greatest_count
twice n = omega arith

-- ---- what it has in the end

feed-nodes : (ms : List (List ℕ × Tree)) (ns : List Node) → feed (nodes ms) ns ≡ nodes (ms ++ map path_and_tree ns)
feed-nodes ms [] = ap nodes (sym (append-nil ms))
feed-nodes ms (n ∷ ns) = feed-nodes (ms ++ path_and_tree n ∷ []) ns ∙ ap nodes (append_assoc ms (path_and_tree n ∷ []) (map path_and_tree ns))

feed-paths : (ps : List (List ℕ)) (ns : List Node) → feed (paths ps) ns ≡ paths (ps ++ map (λ n. normal n.location) ns)
feed-paths ps [] = ap paths (sym (append-nil ps))
feed-paths ps (n ∷ ns) = feed-paths (ps ++ normal n.location ∷ []) ns ∙ ap paths (append_assoc ps (normal n.location ∷ []) (map (λ m. normal m.location) ns))

feed-locations : (ls : List Location) (ns : List Node) → feed (locations ls) ns ≡ locations (ls ++ map (λ n. n.location) ns)
feed-locations ls [] = ap locations (sym (append-nil ls))
feed-locations ls (n ∷ ns) = feed-locations (ls ++ n.location ∷ []) ns ∙ ap locations (append_assoc ls (n.location ∷ []) (map (λ m. m.location) ns))

feed-removal : (set : Location → Bool) (k : ℕ) (ns : List Node) → feed (removal set k) ns ≡ removal (set_with (map (λ n. n.location) ns) set k).0 (set_with (map (λ n. n.location) ns) set k).1
feed-removal set k [] = refl
feed-removal set k (n ∷ ns) = feed-removal (also n.location set) (counted_with n.location set k) ns

feed-values : (ts : List Tree) (ns : List Node) → feed (values ts) ns ≡ values (ts ++ map (λ n. n.tree) ns)
feed-values ts [] = ap values (sym (append-nil ts))
feed-values ts (n ∷ ns) = feed-values (ts ++ n.tree ∷ []) ns ∙ ap values (append_assoc ts (n.tree ∷ []) (map (λ m. m.tree) ns))

-- what a sink for what is wanted gives is that of its nodes
pub finished_all : (w : Demand) (ns : List Node) → finished w (feed (start w) ns) ≡ result_for w (of_nodes ns)
finished_all demand.Exists [] = refl
finished_all demand.Exists (n ∷ ns) = ap (finished demand.Exists) (feed-full (counted 0 1) ns refl)
finished_all demand.Count ns = ap (finished demand.Count) (feed-counted greatest_count greatest_count ns) ∙ ap (λ k. wanting.value (Some (number (pos k)))) (twice (length ns))
finished_all demand.Single [] = refl
finished_all demand.Single (n ∷ []) = refl
finished_all demand.Single (n ∷ m ∷ ns) = ap (finished demand.Single) (feed-full several ns refl)
finished_all demand.Values ns = ap (finished demand.Values) (feed-values [] ns)

-- the first nodes are kept, as many as there is room for
feed-few : (room : ℕ) (ms : List (List ℕ × Tree)) (ns : List Node) → nodes_in (feed (few room ms) ns) ≡ ms ++ take room (map path_and_tree ns)
feed-few zero ms ns = ap nodes_in (feed-full (few zero ms) ns refl) ∙ sym (append-nil ms)
feed-few (suc room) ms [] = sym (append-nil ms)
feed-few (suc room) ms (n ∷ ns) = feed-few room (ms ++ path_and_tree n ∷ []) ns ∙ append_assoc ms (path_and_tree n ∷ []) (take room (map path_and_tree ns))

-- what an empty sink has, once it was given these nodes
pub given_few : (begun z : Seen) (room : ℕ) (ns : List Node) → begun ≡ few room [] → z ≡ feed begun ns → nodes_in z ≡ take room (map path_and_tree ns)
given_few begun z room ns h e = ap nodes_in (e ∙ ap (λ s. feed s ns) h) ∙ feed-few room [] ns

pub given_nodes : {X : Type 0} (f : X → List ℕ × Tree) (xs : List X) (z : Seen) (ns : List Node) → xs ≡ [] → z ≡ feed (nodes (map f xs)) ns → nodes_in z ≡ map path_and_tree ns
given_nodes f xs z ns h e = ap nodes_in (e ∙ ap (λ ys. feed (nodes (map f ys)) ns) h ∙ feed-nodes [] ns)

pub given_paths : {X : Type 0} (f : X → List ℕ) (xs : List X) (z : Seen) (ns : List Node) → xs ≡ [] → z ≡ feed (paths (map f xs)) ns → paths_in z ≡ map (λ n. normal n.location) ns
given_paths f xs z ns h e = ap paths_in (e ∙ ap (λ ys. feed (paths (map f ys)) ns) h ∙ feed-paths [] ns)

pub given_locations : {X : Type 0} (f : X → Location) (xs : List X) (z : Seen) (ns : List Node) → xs ≡ [] → z ≡ feed (locations (map f xs)) ns → locations_in z ≡ map (λ n. n.location) ns
given_locations f xs z ns h e = ap locations_in (e ∙ ap (λ ys. feed (locations (map f ys)) ns) h ∙ feed-locations [] ns)

-- what a removal of nothing has, once it was given these nodes
pub given_removal : (set : Location → Bool) (k : ℕ) (z : Seen) (ns : List Node) → ((l : Location) → set l ≡ false) → k ≡ 0 → z ≡ feed (removal set k) ns
    → location_set_in z ≡ Some (is_among (map (λ n. n.location) ns), distinct_count (map (λ n. n.location) ns))
given_removal set k z ns none is e = ap location_set_in (e ∙ feed-removal set k ns) ∙ ap Some (set_begun set k (map (λ n. n.location) ns) none is)

-- a removal that was begun with no location is of those of the nodes that it was given
pub removal_is : (begun r : LocationSet) (z : Seen) (ns : List Node) → ((l : Location) → location_set begun l ≡ false) → location_count begun ≡ 0 → z ≡ feed (removal (location_set begun) (location_count begun)) ns
    → Some (location_set r, location_count r) ≡ location_set_in z → IsLocationSetOf r (map (λ n. n.location) ns)
removal_is begun r z ns none is e h =
    let all = h ∙ given_removal (location_set begun) (location_count begun) z ns none is e in
    let both : (location_set r, location_count r) ≡ (is_among (map (λ n. n.location) ns), distinct_count (map (λ n. n.location) ns)) = ap (λ o. unwrap_or o (location_set r, location_count r)) all in
    record { set = ap (λ p. p.0) both; count = ap (λ p. p.1) both }

pub removal_there : {A : Type 0} (begun : LocationSet) (z : Seen) (ns : List Node) → ((l : Location) → location_set begun l ≡ false) → location_count begun ≡ 0 → z ≡ feed (removal (location_set begun) (location_count begun)) ns → None ≡ location_set_in z → A
removal_there begun z ns none is e h = missed _ (h ∙ given_removal (location_set begun) (location_count begun) z ns none is e)
  where
    missed : {A X : Type 0} (x : X) → None ≡ Some x → A
    missed x h = absurd cc

pub given_values : {X : Type 0} (f : X → Tree) (xs : List X) (z : Seen) (ns : List Node) → xs ≡ [] → z ≡ feed (values (map f xs)) ns → values_in z ≡ map (λ n. n.tree) ns
given_values f xs z ns h e = ap values_in (e ∙ ap (λ ys. feed (values (map f ys)) ns) h ∙ feed-values [] ns)
