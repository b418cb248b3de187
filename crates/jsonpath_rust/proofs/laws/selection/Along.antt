-- What a sink has, once it was given nodes along the way.
use Rattle.std.proofs.Common.{◌≡◌, ℕ, ◌+◌, ◌<◌, ◌≤◌, List, [], ◌∷◌, ◌++◌, drop, take, length, map, get_or, append-nil, sym, ◌∙◌, ap, arith, subst, Bool, true, false, Some, Result, rules}
use Rattle.std.proofs.lemmas.Result.{IfOk-weaker}
use Rattle.std.proofs.lemmas.List.{take-append-le, take-take, take-append-drop, length-map, map-append}
use Rattle.jsonpath_base.specs.Prelude.Documents.{as_list, as_members, children_at, element_nodes, elements, flat_map, LastBegins, lent_location, lent_step, list, Location, member_nodes, Node, null, number, object, pairs, text, Tree, truth}
use Rattle.jsonpath_rust.specs.Prelude.Documents.{Ghosts, LocationSet, StepRef}
use Rattle.jsonpath_rust.specs.Prelude.Selection.{feed, IsPrefixInSync, seen, start, Feeds, FeedsInSync, Fed, FedInSync, Demand}
use Rattle.std.specs.declared.fmt.Debug as debug
use Rattle.jsonpath_base.specs.declared.current_path.CurrentPath.{CurrentPath}
use Rattle.jsonpath_base.proofs.LastMarks.{ends_less}
use Rattle.jsonpath_rust.specs.declared.selection.sink.Sink.{Sink}
use Rattle.jsonpath_rust.specs.declared.selection.sink.Sink.TheVariants as sink
use Rattle.jsonpath_rust.specs.declared.selection.sink.Demand.TheVariants as demand
use Rattle.jsonpath_rust.proofs.laws.selection.Sinks.{took_none, took_as, took_then, took_stop, true_false}
use Rattle.jsonpath_rust.proofs.laws.selection.Walks.{Turns, turn_next, turn_stop, turn_end, place_next, place_stop}

-- ---- the tie

-- the steps that are shared
abbrev settled_steps : CurrentPath → Location
settled_steps w = take w.shared_len (lent_location w.steps.items)

tied_by : {A : Type 0} {R : Ghosts A} {D : debug.Ghosts A} (s : Sink A R D) (w v : CurrentPath) → ((r : LocationSet) → LastBegins r (settled_steps w) → LastBegins r (settled_steps v)) → IsPrefixInSync s w → IsPrefixInSync s v
tied_by (sink.LocationSet r copy) w v f t = f r.value t
tied_by (sink.Nodes ns) w v f t = tt
tied_by (sink.Paths ps) w v f t = tt
tied_by (sink.Values vs) w v f t = tt
tied_by (sink.Locations ls) w v f t = tt
tied_by (sink.Count room most) w v f t = tt
tied_by (sink.Single o) w v f t = tt
tied_by (sink.Few ns) w v f t = tt

-- at the root
pub tied_at_root : {A : Type 0} {R : Ghosts A} {D : debug.Ghosts A} (s : Sink A R D) (w : CurrentPath) → w.steps.items ≡ [] → IsPrefixInSync s w
tied_at_root (sink.LocationSet r copy) w e = subst (LastBegins r.value) (sym (none w.shared_len (lent_location w.steps.items) (ap lent_location e))) tt
  where
    none : (n : ℕ) (l : Location) → l ≡ [] → take n l ≡ []
    none n l e = search (rules, e)
tied_at_root (sink.Nodes ns) w e = tt
tied_at_root (sink.Paths ps) w e = tt
tied_at_root (sink.Values vs) w e = tt
tied_at_root (sink.Locations ls) w e = tt
tied_at_root (sink.Count room most) w e = tt
tied_at_root (sink.Single o) w e = tt
tied_at_root (sink.Few ns) w e = tt

-- a sink of a filter marks nothing
pub tied_inside : {A : Type 0} {R : Ghosts A} {D : debug.Ghosts A} (s : Sink A R D) (w : CurrentPath) (of : Demand) → seen s ≡ start of → IsPrefixInSync s w
tied_inside (sink.LocationSet r copy) w demand.Exists e = absurd cc
tied_inside (sink.LocationSet r copy) w demand.Count e = absurd cc
tied_inside (sink.LocationSet r copy) w demand.Single e = absurd cc
tied_inside (sink.LocationSet r copy) w demand.Values e = absurd cc
tied_inside (sink.Nodes ns) w of e = tt
tied_inside (sink.Paths ps) w of e = tt
tied_inside (sink.Values vs) w of e = tt
tied_inside (sink.Locations ls) w of e = tt
tied_inside (sink.Count room most) w of e = tt
tied_inside (sink.Single o) w of e = tt
tied_inside (sink.Few ns) w of e = tt

-- one step further
pub tied_further : {A : Type 0} {R : Ghosts A} {D : debug.Ghosts A} (s : Sink A R D) (w v : CurrentPath) (step : StepRef) → v.steps.items ≡ w.steps.items ++ step ∷ [] → v.shared_len ≡ w.shared_len → IsPrefixInSync s w → IsPrefixInSync s v
tied_further s w v step e n t = tied_by s w v (λ r h. subst (LastBegins r) same h) t
  where
    same : settled_steps w ≡ settled_steps v
    same =
        let within : w.shared_len ≤ length (lent_location w.steps.items) = omega (arith, w.within, length-map w.steps.items lent_step) in
        sym (take-append-le w.shared_len (lent_location w.steps.items) (lent_step step ∷ []) within) ∙ ap (take w.shared_len) (sym (ap lent_location e ∙ map-append lent_step w.steps.items (step ∷ []))) ∙ ap (λ k. take k (lent_location v.steps.items)) (sym n)

-- back, or where it was, with no more steps shared
pub tied_back : {A : Type 0} {R : Ghosts A} {D : debug.Ghosts A} (s : Sink A R D) (w v : CurrentPath) (more : List StepRef) → w.steps.items ≡ v.steps.items ++ more → v.shared_len ≤ w.shared_len → IsPrefixInSync s w → IsPrefixInSync s v
tied_back s w v more e le t = tied_by s w v (λ r h. ends_less (settled_steps v) rest _ (subst (LastBegins r) (sym same) h)) t
  where
    rest : Location
    rest = drop v.shared_len (settled_steps w)

    front : take v.shared_len (settled_steps w) ≡ settled_steps v
    front =
        let within : v.shared_len ≤ length (lent_location v.steps.items) = omega (arith, v.within, length-map v.steps.items lent_step) in
        take-take v.shared_len w.shared_len (lent_location w.steps.items) le ∙ ap (take v.shared_len) (ap lent_location e ∙ map-append lent_step v.steps.items more) ∙ take-append-le v.shared_len (lent_location v.steps.items) (lent_location more) within

    same : settled_steps v ++ rest ≡ settled_steps w
    same = ap (λ x. x ++ rest) (sym front) ∙ take-append-drop v.shared_len (settled_steps w)

pub tied_still : {A : Type 0} {R : Ghosts A} {D : debug.Ghosts A} (s : Sink A R D) (w v : CurrentPath) → v.steps.items ≡ w.steps.items → v.shared_len ≤ w.shared_len → IsPrefixInSync s w → IsPrefixInSync s v
tied_still s w v e le t = tied_back s w v [] (sym e ∙ sym (append-nil v.steps.items)) le t

-- ---- one call after another

-- where no node is to be given, nothing is done
pub along_none : {A : Type 0} {R : Ghosts A} {D : debug.Ghosts A} (s : Sink A R D × CurrentPath) (ns : List Node) → ns ≡ [] → FedInSync s ns s true
along_none s ns e = record { took = λ t. took_none (seen s.0) ns e; tied = λ t. t }

pub along_idle : {A : Type 0} {R : Ghosts A} {D : debug.Ghosts A} (s : Sink A R D) (w v : CurrentPath) (ns : List Node) → ns ≡ [] → (IsPrefixInSync s w → IsPrefixInSync s v) → FedInSync (s, w) ns (s, v) true
along_idle s w v ns e f = record { took = λ t. took_none (seen s) ns e; tied = f }

pub along_as : {A : Type 0} {R : Ghosts A} {D : debug.Ghosts A} (s : Sink A R D × CurrentPath) (xs ys : List Node) (z : Sink A R D × CurrentPath) (b : Bool) → xs ≡ ys → FedInSync s xs z b → FedInSync s ys z b
along_as s xs ys z b e h = record { took = λ t. took_as (seen s.0) xs ys (seen z.0) b e (h.took t); tied = h.tied }

-- from and to another way that the sinks are tied to
pub along_between : {A : Type 0} {R : Ghosts A} {D : debug.Ghosts A} {s z : Sink A R D} {w p v u : CurrentPath} {ns : List Node} {b : Bool} → FedInSync (s, p) ns (z, v) b → (IsPrefixInSync s w → IsPrefixInSync s p) → (IsPrefixInSync z v → IsPrefixInSync z u) → FedInSync (s, w) ns (z, u) b
along_between h f g = record { took = λ t. h.took (f t); tied = λ t. g (h.tied (f t)) }

along_then : {A : Type 0} {R : Ghosts A} {D : debug.Ghosts A} (s : Sink A R D × CurrentPath) (xs ys all : List Node) (m z : Sink A R D × CurrentPath) (a b : Bool) → xs ++ ys ≡ all → FedInSync s xs m a → FedInSync m ys z b → FedInSync s all z b
along_then s xs ys all m z a b e h k = record { took = λ t. took_then (seen s.0) xs ys all (seen m.0) (seen z.0) a b e (h.took t) (k.took (h.tied t)); tied = λ t. k.tied (h.tied t) }

-- the rest makes no difference
pub along_stop : {A : Type 0} {R : Ghosts A} {D : debug.Ghosts A} (s : Sink A R D × CurrentPath) (xs ys all : List Node) (m : Sink A R D × CurrentPath) (a b : Bool) → xs ++ ys ≡ all → FedInSync s xs m a → a ≡ false → FedInSync s all m b
along_stop s xs ys all m a b e h f = record { took = λ t. took_stop (seen s.0) xs ys all (seen m.0) a b e (h.took t) f; tied = h.tied }

-- a call's answer, with what it gave in other words
pub takes_as : {A E : Type 0} {R : Ghosts A} {D : debug.Ghosts A} (r : Result Bool E) (s z : Sink A R D × CurrentPath) (xs ys : List Node) → xs ≡ ys → FeedsInSync s z xs r → FeedsInSync s z ys r
takes_as r s z xs ys e h = IfOk-weaker r (λ b. FedInSync s xs z b) (λ b. FedInSync s ys z b) (λ b k. along_as s xs ys z b e k) h

pub takes_then : {A E : Type 0} {R : Ghosts A} {D : debug.Ghosts A} (r : Result Bool E) (s m z : Sink A R D × CurrentPath) (xs ys all : List Node) (a : Bool) → xs ++ ys ≡ all → FedInSync s xs m a → FeedsInSync m z ys r → FeedsInSync s z all r
takes_then r s m z xs ys all a e h k = IfOk-weaker r (λ b. FedInSync m ys z b) (λ b. FedInSync s all z b) (λ b q. along_then s xs ys all m z a b e h q) k

pub takes_from : {A E : Type 0} {R : Ghosts A} {D : debug.Ghosts A} (r : Result Bool E) (s : Sink A R D) (w p : CurrentPath) (z : Sink A R D × CurrentPath) (ns : List Node) → FeedsInSync (s, p) z ns r → (IsPrefixInSync s w → IsPrefixInSync s p) → FeedsInSync (s, w) z ns r
takes_from r s w p z ns h f = IfOk-weaker r (λ b. FedInSync (s, p) ns z b) (λ b. FedInSync (s, w) ns z b) (λ b k. along_between k f (λ t. t)) h

-- what the sink took, where it is tied
pub takes : {A E : Type 0} {R : Ghosts A} {D : debug.Ghosts A} (r : Result Bool E) (s z : Sink A R D × CurrentPath) (ns : List Node) → IsPrefixInSync s.0 s.1 → FeedsInSync s z ns r → Feeds s.0 z.0 ns r
takes r s z ns t h = IfOk-weaker r (λ b. FedInSync s ns z b) (λ b. Fed (seen s.0) ns (seen z.0) b) (λ b k. k.took t) h

-- ---- a loop

-- What was given, with what is left, is what all of them give.
pub record Goes {A : Type 0} {R : Ghosts A} {D : debug.Ghosts A} (s z : Sink A R D × CurrentPath) (left all : List Node) : Type 0 where
  pub given : IsPrefixInSync s.0 s.1 → feed (seen z.0) left ≡ feed (seen s.0) all
  pub tied : IsPrefixInSync s.0 s.1 → IsPrefixInSync z.0 z.1

pub goes_off : {A : Type 0} {R : Ghosts A} {D : debug.Ghosts A} (s : Sink A R D × CurrentPath) (left all : List Node) → left ≡ all → Goes s s left all
goes_off s left all e = record { given = λ t. ap (feed (seen s.0)) e; tied = λ t. t }

pub goes_on : {A : Type 0} {R : Ghosts A} {D : debug.Ghosts A} {X : Type 0} (G : ℕ → List X → List Node) (g : ℕ → X → List Node) → Turns G g → (xs : List X) (i : ℕ) (x : X) (o s m : Sink A R D × CurrentPath) (all : List Node) (b : Bool) → i < length xs → x ≡ get_or xs i x
    → FedInSync s (g i x) m b → Goes o s (G i (drop i xs)) all → Goes o m (G (i + 1) (drop (i + 1) xs)) all
goes_on G g turns xs i x o s m all b lt e k v = record { given = λ t. turn_next G g turns xs i x (seen s.0) (seen m.0) (feed (seen o.0) all) b lt e (k.took (v.tied t)) (v.given t); tied = λ t. k.tied (v.tied t) }

-- the turn at x ends it: the rest makes no difference
pub goes_no_more : {A : Type 0} {R : Ghosts A} {D : debug.Ghosts A} {X : Type 0} (G : ℕ → List X → List Node) (g : ℕ → X → List Node) → Turns G g → (xs : List X) (i : ℕ) (x : X) (o s m : Sink A R D × CurrentPath) (all : List Node) (b c : Bool) → i < length xs → x ≡ get_or xs i x
    → FedInSync s (g i x) m b → b ≡ false → Goes o s (G i (drop i xs)) all → FedInSync o all m c
goes_no_more G g turns xs i x o s m all b c lt e k f v = record {
  took = λ t. record { given = turn_stop G g turns xs i x (seen s.0) (seen m.0) (feed (seen o.0) all) b lt e (k.took (v.tied t)) f (v.given t); stopped = λ _. (k.took (v.tied t)).stopped f };
  tied = λ t. k.tied (v.tied t);
}

-- nothing is left
pub goes_to_the_end : {A : Type 0} {R : Ghosts A} {D : debug.Ghosts A} {X : Type 0} (G : ℕ → List X → List Node) (g : ℕ → X → List Node) → Turns G g → (xs : List X) (i : ℕ) (o s : Sink A R D × CurrentPath) (all : List Node) → length xs ≤ i → Goes o s (G i (drop i xs)) all → FedInSync o all s true
goes_to_the_end G g turns xs i o s all le v = record { took = λ t. record { given = turn_end G g turns xs i (seen s.0) (feed (seen o.0) all) le (v.given t); stopped = λ h. true_false h }; tied = v.tied }

-- one place of a slice
pub goes_on_to_place : {A : Type 0} {R : Ghosts A} {D : debug.Ghosts A} (rest : Node → List Node) (at : ℕ → List Node) (old new : List ℕ) (i : ℕ) (o s m : Sink A R D × CurrentPath) (all : List Node) (b : Bool) → old ≡ i ∷ new → FedInSync s (flat_map rest (at i)) m b
    → Goes o s (flat_map rest (flat_map at old)) all → Goes o m (flat_map rest (flat_map at new)) all
goes_on_to_place rest at old new i o s m all b e k v = record { given = λ t. place_next rest at old new i (seen s.0) (seen m.0) (feed (seen o.0) all) b e (k.took (v.tied t)) (v.given t); tied = λ t. k.tied (v.tied t) }

pub goes_to_no_place : {A : Type 0} {R : Ghosts A} {D : debug.Ghosts A} (rest : Node → List Node) (at : ℕ → List Node) (old new : List ℕ) (i : ℕ) (o s m : Sink A R D × CurrentPath) (all : List Node) (b c : Bool) → old ≡ i ∷ new → FedInSync s (flat_map rest (at i)) m b → b ≡ false
    → Goes o s (flat_map rest (flat_map at old)) all → FedInSync o all m c
goes_to_no_place rest at old new i o s m all b c e k f v = record {
  took = λ t. record { given = place_stop rest at old new i (seen s.0) (seen m.0) (feed (seen o.0) all) b e (k.took (v.tied t)) f (v.given t); stopped = λ _. (k.took (v.tied t)).stopped f };
  tied = λ t. k.tied (v.tied t);
}

pub goes_past_places : {A : Type 0} {R : Ghosts A} {D : debug.Ghosts A} (rest : Node → List Node) (at : ℕ → List Node) (left : List ℕ) (o s : Sink A R D × CurrentPath) (all : List Node) → left ≡ [] → Goes o s (flat_map rest (flat_map at left)) all → FedInSync o all s true
goes_past_places rest at left o s all e v = record { took = λ t. record { given = sym (ap (λ is. feed (seen s.0) (flat_map rest (flat_map at is))) e) ∙ v.given t; stopped = λ h. true_false h }; tied = v.tied }

-- ---- all children, before the first

pub children-list : {A : Type 0} (tree_of : A → Tree) (l : Location) (t : Tree) (xs : List A) → Some (map tree_of xs) ≡ as_list t → element_nodes l 0 (map tree_of xs) ≡ children_at l t
children-list tree_of l (list us) xs h =
    let same : map tree_of xs ≡ elements us = cc in
    ap (element_nodes l 0) same
children-list tree_of l (object us) xs h = cc
children-list tree_of l null xs h = cc
children-list tree_of l (truth b) xs h = cc
children-list tree_of l (number n) xs h = cc
children-list tree_of l (text s) xs h = cc

pub children-members : {A : Type 0} (pair : A → List ℕ × Tree) (l : Location) (t : Tree) (xs : List A) → Some (map pair xs) ≡ as_members t → member_nodes l (map pair xs) ≡ children_at l t
children-members pair l (object us) xs h =
    let same : map pair xs ≡ pairs us = cc in
    ap (member_nodes l) same
children-members pair l (list us) xs h = cc
children-members pair l null xs h = cc
children-members pair l (truth b) xs h = cc
children-members pair l (number n) xs h = cc
children-members pair l (text s) xs h = cc
