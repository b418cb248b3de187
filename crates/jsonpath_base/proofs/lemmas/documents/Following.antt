-- A singular query selects what following its segments gives.
use Rattle.std.proofs.Common.{◌≡◌, ℕ, ◌<◌, ℤ, List, [], ◌∷◌, ◌++◌, length, get_or, map, true, Option, Some, None, option_map, option_and_then, option_to_list, IsTrue, IfSome, IfOk, Result, Ok, Err, append-nil, refl, sym, ap, ◌∙◌, subst}
use Rattle.std.proofs.lemmas.Bool.{and_parts, and_from, false≢true}
use Rattle.jsonpath_base.specs.Prelude.Documents.{all_applied, as_list, at, below, child, Derives, descendant, Document, element, element_of, element_step, flat_map, followed, get, index, is_singular, is_step, IsReference, Location, location_view, name, no_segments, Node, one, Query, referent_view, replaced, Segment, segment, segment_child, Segments, selected, several, Step, step_to, Tree, Value, value_tree}
use Rattle.jsonpath_parser.specs.tree.Syntax as syntax
use Rattle.jsonpath_base.specs.declared.documents.reference.Referent.{Referent}
use Rattle.jsonpath_base.proofs.lemmas.documents.NodesAt.{at-below}
use Rattle.jsonpath_base.proofs.lemmas.documents.Trees.{child_there}

abbrev pub node_at : Location → Tree → Node
node_at l t = record { location = l; tree = t }

abbrev nodes_below : Location → Option (Step × Tree) → List Node
nodes_below l o = map (λ p. below l p.0 p.1) (option_to_list o)

abbrev pub nodes_of : Option (Location × Tree) → List Node
nodes_of o = map (λ p. node_at p.0 p.1) (option_to_list o)

-- ---- one segment

stepped_to : (l : Location) (s : Step) (o : Option Tree) → map (below l s) (option_to_list o) ≡ nodes_below l (option_map (λ u. (s, u)) o)
stepped_to l s None = refl
stepped_to l s (Some u) = refl

element_stepped : (l : Location) (t : Tree) (o : Option ℕ) → flat_map (λ k. element k (node_at l t)) (option_to_list o) ≡ nodes_below l (option_and_then (λ k. step_to (index k) t) o)
element_stepped l t None = refl
element_stepped l t (Some k) = append-nil (element k (node_at l t)) ∙ stepped_to l (index k) (child (index k) t)

replaced_by_step : (g : Segment) (d : Document) (l : Location) (t : Tree) → is_step g ≡ true → replaced g d (node_at l t) ≡ nodes_below l (segment_child g t)
replaced_by_step (one (syntax.Selector.name k)) d l t h = stepped_to l (name k) (child (name k) t)
replaced_by_step (one (syntax.Selector.index i)) d l t h = element_stepped l t (option_and_then (λ ts. element_of i (length ts)) (as_list t))
replaced_by_step (one syntax.Selector.wildcard) d l t h = absurd (false≢true h)
replaced_by_step (one (syntax.Selector.slice a b c)) d l t h = absurd (false≢true h)
replaced_by_step (one (syntax.Selector.filter f)) d l t h = absurd (false≢true h)
replaced_by_step (several ss) d l t h = absurd (false≢true h)
replaced_by_step (descendant g) d l t h = absurd (false≢true h)

-- what is followed is one name or one index
step_is_step : (g : Segment) (t : Tree) (p : Step × Tree) → segment_child g t ≡ Some p → is_step g ≡ true
step_is_step (one (syntax.Selector.name k)) t p e = refl
step_is_step (one (syntax.Selector.index i)) t p e = refl
step_is_step (one syntax.Selector.wildcard) t p e = absurd cc
step_is_step (one (syntax.Selector.slice a b c)) t p e = absurd cc
step_is_step (one (syntax.Selector.filter f)) t p e = absurd cc
step_is_step (several ss) t p e = absurd cc
step_is_step (descendant g) t p e = absurd cc

stepped_child : (s : Step) (t : Tree) (o : Option Tree) (p : Step × Tree) → child s t ≡ o → option_map (λ u. (s, u)) o ≡ Some p → child p.0 t ≡ Some p.1
stepped_child s t None p is e = absurd cc
stepped_child s t (Some u) p is e = let same : (s, u) ≡ p = cc in subst (λ q. child q.0 t ≡ Some q.1) same is

element_child : (t : Tree) (o : Option ℕ) (p : Step × Tree) → option_and_then (λ k. step_to (index k) t) o ≡ Some p → child p.0 t ≡ Some p.1
element_child t None p e = absurd cc
element_child t (Some k) p e = stepped_child (index k) t (child (index k) t) p refl e

-- it leads to a child
step_child : (g : Segment) (t : Tree) (p : Step × Tree) → segment_child g t ≡ Some p → child p.0 t ≡ Some p.1
step_child (one (syntax.Selector.name k)) t p e = stepped_child (name k) t (child (name k) t) p refl e
step_child (one (syntax.Selector.index i)) t p e = element_child t (option_and_then (λ ts. element_of i (length ts)) (as_list t)) p e
step_child (one syntax.Selector.wildcard) t p e = absurd cc
step_child (one (syntax.Selector.slice a b c)) t p e = absurd cc
step_child (one (syntax.Selector.filter f)) t p e = absurd cc
step_child (several ss) t p e = absurd cc
step_child (descendant g) t p e = absurd cc

-- ---- all segments

pub applied_to_none : (gs : Segments) (d : Document) → all_applied gs d [] ≡ []
applied_to_none no_segments d = refl
applied_to_none (segment g gs) d = applied_to_none gs d

abbrev pub Applied : Segments → Document → Location → Tree → Type 0
Applied gs d l t = all_applied gs d (node_at l t ∷ []) ≡ nodes_of (followed gs l t)

applied_behind : (gs : Segments) (d : Document) (l : Location) (o : Option (Step × Tree)) → ((m : Location) (u : Tree) → Applied gs d m u) → all_applied gs d (nodes_below l o) ≡ nodes_of (option_and_then (λ p. followed gs (l ++ p.0 ∷ []) p.1) o)
applied_behind gs d l None more = applied_to_none gs d
applied_behind gs d l (Some p) more = more (l ++ p.0 ∷ []) p.1

-- the key: a singular query selects what following its segments gives
pub applied_followed : (gs : Segments) (d : Document) (l : Location) (t : Tree) → is_singular gs ≡ true → Applied gs d l t
applied_followed no_segments d l t h = refl
applied_followed (segment g gs) d l t h =
    let parts = and_parts (is_step g) (is_singular gs) h in
    ap (all_applied gs d) (append-nil (replaced g d (node_at l t)) ∙ replaced_by_step g d l t parts.0) ∙ applied_behind gs d l (segment_child g t) (λ m u. applied_followed gs d m u parts.1)

abbrev IsLed : Segments → Tree → Location × Tree → Type 0
IsLed gs doc p = IsTrue (is_singular gs) × (at p.0 doc ≡ Some p.1)

led_by : (g : Segment) (gs : Segments) (doc : Tree) (l : Location) (t : Tree) (o : Option (Step × Tree)) (p : Location × Tree) → at l doc ≡ Some t → segment_child g t ≡ o
    → ((m : Location) (u : Tree) → at m doc ≡ Some u → followed gs m u ≡ Some p → IsLed gs doc p) → option_and_then (λ q. followed gs (l ++ q.0 ∷ []) q.1) o ≡ Some p → IsLed (segment g gs) doc p
led_by g gs doc l t None p here is more e = absurd cc
led_by g gs doc l t (Some q) p here is more e =
    let rest = more (l ++ q.0 ∷ []) q.1 (at-below l q.0 doc t here ∙ step_child g t q is) e in
    (and_from (is_step g) (is_singular gs) (step_is_step g t q is) rest.0, rest.1)

led : (gs : Segments) (doc : Tree) (l : Location) (t : Tree) (p : Location × Tree) → at l doc ≡ Some t → followed gs l t ≡ Some p → IsLed gs doc p
led no_segments doc l t p here e = let same : (l, t) ≡ p = cc in (refl, subst (λ q. at q.0 doc ≡ Some q.1) same here)
led (segment g gs) doc l t p here e = led_by g gs doc l t (segment_child g t) p here refl (λ m u. led gs doc m u p) e

-- ---- what a text means

abbrev OnlyDerived : List ℕ → Query → Type 0
OnlyDerived text q = (t : Query) → Derives 128 text t → q ≡ t

pub selected_followed : (q : Query) (doc : Document) → IsTrue (is_singular q) → selected q doc ≡ map (λ n. n.location) (nodes_of (followed q [] doc.root))
selected_followed q doc h = ap (map (λ n. n.location)) (applied_followed q doc [] doc.root h)

meant_by : (text : List ℕ) (doc : Document) (q : Query) (o : Option (Location × Tree)) → followed q [] doc.root ≡ o → Derives 128 text q → OnlyDerived text q → IsReference text doc (option_map (λ p. p.0) o)
meant_by text doc q None is derived only = record {
  found = tt;
  all = λ l h.
      let same = only h.query h.derived in
      let singular : IsTrue (is_singular q) = ap is_singular same ∙ h.singular in
      let none : [] ≡ l ∷ [] = sym (selected_followed q doc singular ∙ ap (λ x. map (λ n. n.location) (nodes_of x)) is) ∙ ap (λ t. selected t doc) same ∙ h.only in
      absurd cc;
}
meant_by text doc q (Some p) is derived only =
    let singular = (led q doc.root [] doc.root p refl is).0 in
    let this : selected q doc ≡ p.0 ∷ [] = selected_followed q doc singular ∙ ap (λ x. map (λ n. n.location) (nodes_of x)) is in
    record {
      found = record { query = q; derived = derived; singular = singular; only = this };
      all = λ l h. let one : p.0 ∷ [] ≡ l ∷ [] = sym this ∙ ap (λ t. selected t doc) (only h.query h.derived) ∙ h.only in cc;
    }

-- the place to which its segments lead is at that location
pub means_referent : {E : Type 0} (text : List ℕ) (doc : Document) (q : Query) (gs : Segments) (r : Result (Option Referent) E) → q ≡ gs → Derives 128 text q → OnlyDerived text q
    → IfOk r (λ o. option_map referent_view o ≡ followed gs [] doc.root) → IfOk r (λ o. IsReference text doc (option_map (λ p. location_view p.steps.items) o))
means_referent text doc q gs (Err e) same derived only h = tt
means_referent text doc q gs (Ok None) same derived only h = meant_by text doc q None (ap (λ x. followed x [] doc.root) same ∙ sym h) derived only
means_referent text doc q gs (Ok (Some p)) same derived only h = meant_by text doc q (Some (referent_view p)) (ap (λ x. followed x [] doc.root) same ∙ sym h) derived only

-- and its value stands there
pub stands_there : {E : Type 0} (gs : Segments) (doc : Tree) (r : Result (Option Referent) E) → IfOk r (λ o. option_map referent_view o ≡ followed gs [] doc) → IfOk r (λ o. IfSome o (λ p. at (location_view p.steps.items) doc ≡ Some (value_tree p.value.now)))
stands_there gs doc (Err e) h = tt
stands_there gs doc (Ok None) h = tt
stands_there gs doc (Ok (Some p)) h = (led gs doc [] doc (referent_view p) refl (sym h)).1

-- ---- one step in a value

pub member_some : (k s : List ℕ) (t u : Tree) → Some u ≡ get k t → s ≡ k → Some (name s, u) ≡ step_to (name k) t
member_some k s t u h e = ap (λ x. Some (name x, u)) e ∙ ap (option_map (λ x. (name k, x))) h

pub member_none : (k : List ℕ) (t : Tree) → None ≡ get k t → None ≡ step_to (name k) t
member_none k t h = ap (option_map (λ x. (name k, x))) h

pub element_some : (t : Tree) (xs : List Value) (i : ℤ) (k : ℕ) (x : Value) → Some (map value_tree xs) ≡ as_list t → Some k ≡ element_of i (length (map value_tree xs)) → k < length xs → x ≡ get_or xs k x → Some (index k, value_tree x) ≡ element_step i t
element_some t xs i k x is_list is_place h e =
    sym (ap (λ o. option_and_then (λ j. step_to (index j) t) (option_and_then (λ ts. element_of i (length ts)) o)) (sym is_list) ∙ ap (option_and_then (λ j. step_to (index j) t)) (sym is_place) ∙ ap (option_map (λ u. (index k, u))) (child_there value_tree t xs k x is_list h e))

pub element_none : (t : Tree) (xs : List Value) (i : ℤ) → Some (map value_tree xs) ≡ as_list t → None ≡ element_of i (length (map value_tree xs)) → None ≡ element_step i t
element_none t xs i is_list no_place =
    sym (ap (λ o. option_and_then (λ j. step_to (index j) t) (option_and_then (λ ts. element_of i (length ts)) o)) (sym is_list) ∙ ap (option_and_then (λ j. step_to (index j) t)) (sym no_place))
