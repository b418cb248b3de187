-- Every node that a query answers on a state lies in the document or in a node of the state.
use Rattle.std.proofs.Common.{◌≡◌, ℕ, zero, suc, ◌<◌, List, [], ◌∷◌, ◌++◌, length, get_or, map, refl, ◌∙◌, ap, subst, arith, Bool, true, false, Some, option_and_then, IsTrue}
use Rattle.jsonpath_base.specs.Prelude.Documents.{AllByRecursion, at, children, Contains, descendant, Document, has_distinct_names, list, Location, no_selectors, Node, null, number, object, picks, root_node, Segment, Selector, selector, Selectors, several, size, slice, subtree, text, Tree, truth, wildcard}
use Rattle.jsonpath_rust.specs.Prelude.States.{children_from, Content, found_from, has_parts, holds_at, in_list, in_parts, indexed_from, inside, joined_from, kept_from, mapped, named_from, nothing, only, parents_from, parents_in, reduced, ref, refs, segment_content, selector_content, sliced_from, some, Target, targets, tops, under, unless_none, value}
use Rattle.jsonpath_base.proofs.lemmas.documents.{at-append, each-append, each-filter, each-flat_map, IsPositioned, stands-picks, stands-subtree}
use Rattle.jsonpath_parser.specs.tree.Syntax as syntax

-- the tree is at some location in one of these
pub record LiesIn (tops : List Tree) (t : Tree) : Type 0 where
  pub top : Tree
  pub among : Contains tops top
  pub location : Location
  pub there : at location top ≡ Some t

-- and no object in it has a name twice
pub record Stays (tops : List Tree) (p : Target) : Type 0 where
  pub lies : LiesIn tops p.tree
  pub distinct : IsTrue (has_distinct_names p.tree)

-- no object in its value has a name twice
abbrev pub IsDistinct : Target → Type 0
IsDistinct p = IsTrue (has_distinct_names p.tree)

-- what stands in the tree of a target
stays-found : (ts : List Tree) (p : Target) (ns : List Node) → Stays ts p → AllByRecursion (IsPositioned p.tree) ns → AllByRecursion (Stays ts) (map (under p.path) ns)
stays-found ts p [] h k = tt
stays-found ts p (n ∷ ns) h k = (
  record {
    lies = record { top = h.lies.top; among = h.lies.among; location = h.lies.location ++ n.location; there = at-append h.lies.location n.location h.lies.top ∙ ap (option_and_then (at n.location)) h.lies.there ∙ k.0.there };
    distinct = k.0.distinct;
  },
  stays-found ts p ns h k.1,
)

here : (ts : List Tree) (p : Target) → Stays ts p → IsPositioned p.tree (root_node p.tree)
here ts p h = record { there = refl; distinct = h.distinct }

-- what a selector without a filter picks there
stays-picked : (s : Selector) (d : Document) (ts : List Tree) (p : Target) → Stays ts p → AllByRecursion (Stays ts) (map (under p.path) (picks s (record { root = p.tree; custom = d.custom }) (root_node p.tree)))
stays-picked s d ts p h = stays-found ts p (picks s (record { root = p.tree; custom = d.custom }) (root_node p.tree)) h (stands-picks s (record { root = p.tree; custom = d.custom }) (root_node p.tree) (here ts p h))

each-only : (P : Target → Type 0) (ps : List Target) → AllByRecursion P ps → AllByRecursion P (targets (only ps))
each-only P [] h = tt
each-only P (p ∷ ps) h = (h.0, tt)

each-some : (P : Target → Type 0) (ps : List Target) → AllByRecursion P ps → AllByRecursion P (targets (some ps))
each-some P [] h = tt
each-some P (p ∷ ps) h = h

each-in_list : (P : Target → Type 0) (t : Tree) (ps : List Target) → AllByRecursion P ps → AllByRecursion P (targets (in_list t ps))
each-in_list P (list ts) ps h = h
each-in_list P (object ms) ps h = tt
each-in_list P null ps h = tt
each-in_list P (truth b) ps h = tt
each-in_list P (number n) ps h = tt
each-in_list P (text s) ps h = tt

each-in_parts : (P : Target → Type 0) (b : Bool) (ps : List Target) → AllByRecursion P ps → AllByRecursion P (targets (in_parts b ps))
each-in_parts P true ps h = h
each-in_parts P false ps h = tt

each-mapped : (P : Target → Type 0) (f : Target → Content) → ((p : Target) → P p → AllByRecursion P (targets (f p))) → (c : Content) → AllByRecursion P (targets c) → AllByRecursion P (targets (mapped f c))
each-mapped P f k (ref p) h = k p h.0
each-mapped P f k (refs ps) h = each-flat_map P P (λ p. targets (f p)) k ps h
each-mapped P f k (value t) h = tt
each-mapped P f k nothing h = tt

each-reduced : (P : Target → Type 0) (a b : Content) → AllByRecursion P (targets a) → AllByRecursion P (targets b) → AllByRecursion P (targets (reduced a b))
each-reduced P (ref p) (ref q) h k = (h.0, k)
each-reduced P (ref p) (refs qs) h k = (h.0, k)
each-reduced P (ref p) nothing h k = h
each-reduced P (ref p) (value t) h k = tt
each-reduced P (refs ps) (ref q) h k = each-append P ps (q ∷ []) h k
each-reduced P (refs ps) (refs qs) h k = each-append P ps qs h k
each-reduced P (refs ps) nothing h k = h
each-reduced P (refs ps) (value t) h k = tt
each-reduced P nothing (ref q) h k = k
each-reduced P nothing (refs qs) h k = k
each-reduced P nothing nothing h k = tt
each-reduced P nothing (value t) h k = tt
each-reduced P (value u) (ref q) h k = tt
each-reduced P (value u) (refs qs) h k = tt
each-reduced P (value u) nothing h k = tt
each-reduced P (value u) (value t) h k = tt

each-unless : (P : Target → Type 0) (ss : Selectors) (c : Content) → AllByRecursion P (targets c) → AllByRecursion P (targets (unless_none ss c))
each-unless P no_selectors c h = tt
each-unless P (selector s ss) c h = h

stays-parents : (ts : List Tree) (p : Target) → Stays ts p → AllByRecursion (Stays ts) (targets (parents_from p))
stays-parents ts p h =
    each-in_parts (Stays ts) (has_parts p.tree) (parents_in p) (each-filter (Stays ts) (λ q. has_parts q.tree) (found_from p subtree) (stays-found ts p (subtree (root_node p.tree)) h (stands-subtree p.tree (size p.tree) [] p.tree (omega arith) (here ts p h))))

-- the children of a target
pub stays-children : (ts : List Tree) (p : Target) → Stays ts p → AllByRecursion (Stays ts) (found_from p children)
stays-children ts p h = stays-picked wildcard (record { root = p.tree; custom = λ _ _. null }) ts p h

-- the lists and objects in nodes of a state, and what selectors and segments answer there
pub mapped-parents-stays : (ts : List Tree) (c : Content) → AllByRecursion (Stays ts) (targets c) → AllByRecursion (Stays ts) (targets (mapped parents_from c))
mapped-parents-stays ts c h = each-mapped (Stays ts) parents_from (λ p j. stays-parents ts p j) c h

mutual
  selector-stays : (s : Selector) (d : Document) (ts : List Tree) (c : Content) → AllByRecursion (Stays ts) (targets c) → AllByRecursion (Stays ts) (targets (selector_content s d c))
  selector-stays (syntax.Selector.name k) d ts c h = each-mapped (Stays ts) (named_from k) (λ p j. each-only (Stays ts) _ (stays-picked (syntax.Selector.name k) d ts p j)) c h
  selector-stays wildcard d ts c h = each-mapped (Stays ts) children_from (λ p j. each-some (Stays ts) _ (stays-picked wildcard d ts p j)) c h
  selector-stays (syntax.Selector.index i) d ts c h = each-mapped (Stays ts) (indexed_from i) (λ p j. each-only (Stays ts) _ (stays-picked (syntax.Selector.index i) d ts p j)) c h
  selector-stays (slice start end step) d ts c h = each-mapped (Stays ts) (sliced_from start end step) (λ p j. each-in_list (Stays ts) p.tree _ (stays-picked (slice start end step) d ts p j)) c h
  selector-stays (syntax.Selector.filter f) d ts c h = each-mapped (Stays ts) (kept_from (holds_at f d)) (λ p j. each-in_parts (Stays ts) (has_parts p.tree) _ (each-filter (Stays ts) (λ q. holds_at f d (inside q.tree)) _ (stays-picked wildcard d ts p j))) c h

  joined-stays : (ss : Selectors) (d : Document) (ts : List Tree) (c : Content) (p : Target) → AllByRecursion (Stays ts) (targets c) → Stays ts p → AllByRecursion (Stays ts) (targets (joined_from ss d c p))
  joined-stays no_selectors d ts c p h j = h
  joined-stays (selector s ss) d ts c p h j = joined-stays ss d ts (reduced c (selector_content s d (ref p))) p (each-reduced (Stays ts) c (selector_content s d (ref p)) h (selector-stays s d ts (ref p) (j, tt))) j

  pub segment-stays : (g : Segment) (d : Document) (ts : List Tree) (c : Content) → AllByRecursion (Stays ts) (targets c) → AllByRecursion (Stays ts) (targets (segment_content g d c))
  segment-stays (syntax.one s) d ts c h = selector-stays s d ts c h
  segment-stays (several ss) d ts c h = each-unless (Stays ts) ss _ (each-mapped (Stays ts) (joined_from ss d nothing) (λ p j. joined-stays ss d ts nothing p tt j) c h)
  segment-stays (descendant g) d ts c h = segment-stays g d ts _ (mapped-parents-stays ts c h)

-- ---- the nodes of a state lie in it

one_more : {X : Type 0} (y : X) (xs : List X) (x : X) → Contains xs x → Contains (y ∷ xs) x
one_more y xs x h = (suc h.0, omega (arith, h.1), h.2)

each-itself : (ts : List Tree) (ps : List Target) → ((t : Tree) → Contains (map (λ (p : Target). p.tree) ps) t → Contains ts t) → AllByRecursion IsDistinct ps → AllByRecursion (Stays ts) ps
each-itself ts [] k h = tt
each-itself ts (p ∷ ps) k h = (
  record { lies = record { top = p.tree; among = k p.tree (0, omega arith, refl); location = []; there = refl }; distinct = h.0 },
  each-itself ts ps (λ t j. k t (one_more p.tree (map (λ (q : Target). q.tree) ps) t j)) h.1,
)

pub stays-itself : (d : Document) (c : Content) → AllByRecursion IsDistinct (targets c) → AllByRecursion (Stays (tops d c)) (targets c)
stays-itself d c h = each-itself (tops d c) (targets c) (λ t j. one_more d.root (map (λ (p : Target). p.tree) (targets c)) t j) h

-- the tree of one of the targets
pub lies-target : (ts : List Tree) (ps : List Target) (i : ℕ) (t : Tree) → AllByRecursion (Stays ts) ps → i < length ps → get_or (map (λ (p : Target). p.tree) ps) i t ≡ t → LiesIn ts t
lies-target ts [] i t h lt e = absurd (omega (arith, lt))
lies-target ts (p ∷ ps) zero t h lt e = subst (LiesIn ts) e h.0.lies
lies-target ts (p ∷ ps) (suc i) t h lt e = lies-target ts ps i t h.1 (omega (arith, lt)) e
