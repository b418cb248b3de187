-- The contents that the parts of a query make: which are nodes, which are no list of nodes, and what their targets and values are.
use Rattle.std.proofs.Common.{◌≡◌, ℕ, ℤ, List, [], ◌∷◌, ◌++◌, map, filter, length, append-nil, refl, sym, ap, Bool, true, false, not, ◌||◌, Option, Some, None, option_and_then, option_to_list, IsTrue}
use Rattle.std.proofs.lemmas.Bool.{false≢true, and_parts}
use Rattle.jsonpath_base.specs.Prelude.Documents.{absolute, are_equal, Argument, as_list, below, Call, call, child, children, children_at, compares, count_call, custom_call, descendant, Document, element, element_of, equal, filter_argument, flat_map, greater, greater_or_equal, index, indexed, is_below, is_singular, is_step, is_value_argument, is_value_test, length_call, length_of, less, less_or_equal, list, literal_argument, match_call, name, named, no_segments, no_selectors, not_equal, null, number, object, relative, root_node, search_call, Segment, segment, Segments, Selector, selector, Selectors, several, slice, sliced, Step, subtree_at, Test, test_argument, text, Tree, truth, value_call, wildcard}
use Rattle.jsonpath_rust.specs.Prelude.States.{argument_content, call_content, children_from, Content, contents_compare, contents_equal, count_content, found_from, has_parts, holds_at, in_list, in_parts, indexed_from, inside, joined_from, kept_from, length_content, mapped, named_from, nothing, only, optional, parents_from, parents_in, plain, reduced, ref, refs, root_content, segment_content, segments_content, selector_content, sliced_from, some, Target, targets, test_content, under, unless_none, value, value_content}
use Rattle.jsonpath_parser.specs.tree.Syntax as syntax
use Rattle.jsonpath_parser.specs.tree.Syntax.{Operator}

-- nodes, or nothing
abbrev pub IsNodes : Content → Type 0
IsNodes (ref p) = Unit {0}
IsNodes (refs ps) = Unit {0}
IsNodes (value t) = ⊥
IsNodes nothing = Unit {0}

-- one node, one value, or nothing
abbrev pub IsPlain : Content → Type 0
IsPlain (ref p) = Unit {0}
IsPlain (refs ps) = ⊥
IsPlain (value t) = Unit {0}
IsPlain nothing = Unit {0}

-- ---- what is made at each node

pub targets-mapped : (f : Target → Content) (c : Content) → targets (mapped f c) ≡ flat_map (λ p. targets (f p)) (targets c)
targets-mapped f (ref p) = sym (append-nil (targets (f p)))
targets-mapped f (refs ps) = refl
targets-mapped f (value t) = refl
targets-mapped f nothing = refl

mapped-nodes : (f : Target → Content) → ((p : Target) → IsNodes (f p)) → (c : Content) → IsNodes (mapped f c)
mapped-nodes f k (ref p) = k p
mapped-nodes f k (refs ps) = tt
mapped-nodes f k (value t) = tt
mapped-nodes f k nothing = tt

mapped-plain : (f : Target → Content) → ((p : Target) → IsPlain (f p)) → (c : Content) → IsPlain c → IsPlain (mapped f c)
mapped-plain f k (ref p) h = k p
mapped-plain f k (refs ps) h = absurd h
mapped-plain f k (value t) h = tt
mapped-plain f k nothing h = tt

-- ---- what is joined

pub reduced-nodes : (a b : Content) → IsNodes (reduced a b)
reduced-nodes (ref p) (ref q) = tt
reduced-nodes (ref p) (refs qs) = tt
reduced-nodes (ref p) (value u) = tt
reduced-nodes (ref p) nothing = tt
reduced-nodes (refs ps) (ref q) = tt
reduced-nodes (refs ps) (refs qs) = tt
reduced-nodes (refs ps) (value u) = tt
reduced-nodes (refs ps) nothing = tt
reduced-nodes (value t) (ref q) = tt
reduced-nodes (value t) (refs qs) = tt
reduced-nodes (value t) (value u) = tt
reduced-nodes (value t) nothing = tt
reduced-nodes nothing (ref q) = tt
reduced-nodes nothing (refs qs) = tt
reduced-nodes nothing (value u) = tt
reduced-nodes nothing nothing = tt

pub targets-reduced : (a b : Content) → IsNodes a → IsNodes b → targets (reduced a b) ≡ targets a ++ targets b
targets-reduced (ref p) (ref q) h k = refl
targets-reduced (ref p) (refs qs) h k = refl
targets-reduced (ref p) (value u) h k = absurd k
targets-reduced (ref p) nothing h k = refl
targets-reduced (refs ps) (ref q) h k = refl
targets-reduced (refs ps) (refs qs) h k = refl
targets-reduced (refs ps) (value u) h k = absurd k
targets-reduced (refs ps) nothing h k = sym (append-nil ps)
targets-reduced (value t) b h k = absurd h
targets-reduced nothing (ref q) h k = refl
targets-reduced nothing (refs qs) h k = refl
targets-reduced nothing (value u) h k = absurd k
targets-reduced nothing nothing h k = refl

-- ---- what is found

only-nodes : (ps : List Target) → IsNodes (only ps)
only-nodes [] = tt
only-nodes (p ∷ ps) = tt

only-plain : (ps : List Target) → IsPlain (only ps)
only-plain [] = tt
only-plain (p ∷ ps) = tt

some-nodes : (ps : List Target) → IsNodes (some ps)
some-nodes [] = tt
some-nodes (p ∷ ps) = tt

in_list-nodes : (t : Tree) (ps : List Target) → IsNodes (in_list t ps)
in_list-nodes (list ts) ps = tt
in_list-nodes (object ms) ps = tt
in_list-nodes null ps = tt
in_list-nodes (truth b) ps = tt
in_list-nodes (number n) ps = tt
in_list-nodes (text s) ps = tt

in_parts-nodes : (b : Bool) (ps : List Target) → IsNodes (in_parts b ps)
in_parts-nodes true ps = tt
in_parts-nodes false ps = tt

only-option : (path : List ℕ) (s : Step) (o : Option Tree) → targets (only (map (under path) (map (below [] s) (option_to_list o)))) ≡ map (under path) (map (below [] s) (option_to_list o))
only-option path s None = refl
only-option path s (Some t) = refl

pub targets-named : (k : List ℕ) (p : Target) → targets (named_from k p) ≡ found_from p (named k)
targets-named k p = only-option p.path (name k) (child (name k) p.tree)

only-element : (path : List ℕ) (s : Step) (o : Option Tree) → targets (only (map (under path) (map (below [] s) (option_to_list o) ++ []))) ≡ map (under path) (map (below [] s) (option_to_list o) ++ [])
only-element path s None = refl
only-element path s (Some t) = refl

only-place : (path : List ℕ) (t : Tree) (o : Option ℕ) → targets (only (map (under path) (flat_map (λ k. element k (root_node t)) (option_to_list o)))) ≡ map (under path) (flat_map (λ k. element k (root_node t)) (option_to_list o))
only-place path t None = refl
only-place path t (Some k) = only-element path (index k) (child (index k) t)

pub targets-indexed : (i : ℤ) (p : Target) → targets (indexed_from i p) ≡ found_from p (indexed i)
targets-indexed i p = only-place p.path p.tree (option_and_then (λ ts. element_of i (length ts)) (as_list p.tree))

pub targets-some : (ps : List Target) → targets (some ps) ≡ ps
targets-some [] = refl
targets-some (p ∷ ps) = refl

sliced-in : (start end step : Option ℤ) (path : List ℕ) (t : Tree) → targets (in_list t (map (under path) (sliced start end step (root_node t)))) ≡ map (under path) (sliced start end step (root_node t))
sliced-in start end step path (list ts) = refl
sliced-in start end step path (object ms) = refl
sliced-in start end step path null = refl
sliced-in start end step path (truth b) = refl
sliced-in start end step path (number n) = refl
sliced-in start end step path (text s) = refl

pub targets-sliced : (start end step : Option ℤ) (p : Target) → targets (sliced_from start end step p) ≡ found_from p (sliced start end step)
targets-sliced start end step p = sliced-in start end step p.path p.tree

kept-in : (h : Target → Bool) (path : List ℕ) (t : Tree) → targets (in_parts (has_parts t) (filter h (map (under path) (children_at [] t)))) ≡ filter h (map (under path) (children_at [] t))
kept-in h path (list ts) = refl
kept-in h path (object ms) = refl
kept-in h path null = refl
kept-in h path (truth b) = refl
kept-in h path (number n) = refl
kept-in h path (text s) = refl

pub targets-kept : (h : Content → Bool) (p : Target) → targets (kept_from h p) ≡ filter (λ q. h (inside q.tree)) (found_from p children)
targets-kept h p = kept-in (λ q. h (inside q.tree)) p.path p.tree

parents-there : (path : List ℕ) (t : Tree) → targets (in_parts (has_parts t) (filter (λ (q : Target). has_parts q.tree) (map (under path) (subtree_at [] t)))) ≡ filter (λ (q : Target). has_parts q.tree) (map (under path) (subtree_at [] t))
parents-there path (list ts) = refl
parents-there path (object ms) = refl
parents-there path null = refl
parents-there path (truth b) = refl
parents-there path (number n) = refl
parents-there path (text s) = refl

pub targets-parents : (p : Target) → targets (parents_from p) ≡ parents_in p
targets-parents p = parents-there p.path p.tree

-- ---- what selectors and segments make

pub targets-selector : (s : Selector) (d : Document) (c : Content) → targets (selector_content s d c) ≡ flat_map (λ p. targets (selector_content s d (ref p))) (targets c)
targets-selector (syntax.Selector.name k) d c = targets-mapped (named_from k) c
targets-selector wildcard d c = targets-mapped children_from c
targets-selector (syntax.Selector.index i) d c = targets-mapped (indexed_from i) c
targets-selector (slice start end step) d c = targets-mapped (sliced_from start end step) c
targets-selector (syntax.Selector.filter f) d c = targets-mapped (kept_from (holds_at f d)) c

pub selector-nodes : (s : Selector) (d : Document) (c : Content) → IsNodes (selector_content s d c)
selector-nodes (syntax.Selector.name k) d c = mapped-nodes (named_from k) (λ p. only-nodes (found_from p (named k))) c
selector-nodes wildcard d c = mapped-nodes children_from (λ p. some-nodes (found_from p children)) c
selector-nodes (syntax.Selector.index i) d c = mapped-nodes (indexed_from i) (λ p. only-nodes (found_from p (indexed i))) c
selector-nodes (slice start end step) d c = mapped-nodes (sliced_from start end step) (λ p. in_list-nodes p.tree (found_from p (sliced start end step))) c
selector-nodes (syntax.Selector.filter f) d c = mapped-nodes (kept_from (holds_at f d)) (λ p. in_parts-nodes (has_parts p.tree) (filter (λ q. holds_at f d (inside q.tree)) (found_from p children))) c

joined-nodes : (ss : Selectors) (d : Document) (c : Content) (p : Target) → IsNodes c → IsNodes (joined_from ss d c p)
joined-nodes no_selectors d c p h = h
joined-nodes (selector s ss) d c p h = joined-nodes ss d (reduced c (selector_content s d (ref p))) p (reduced-nodes c (selector_content s d (ref p)))

unless-nodes : (ss : Selectors) (c : Content) → IsNodes c → IsNodes (unless_none ss c)
unless-nodes no_selectors c h = tt
unless-nodes (selector s ss) c h = h

segment-nodes : (g : Segment) (d : Document) (c : Content) → IsNodes (segment_content g d c)
segment-nodes (syntax.one s) d c = selector-nodes s d c
segment-nodes (several ss) d c = unless-nodes ss (mapped (joined_from ss d nothing) c) (mapped-nodes (joined_from ss d nothing) (λ p. joined-nodes ss d nothing p tt) c)
segment-nodes (descendant g) d c = segment-nodes g d (mapped parents_from c)

pub segments-nodes : (gs : Segments) (d : Document) (c : Content) → IsNodes c → IsNodes (segments_content gs d c)
segments-nodes no_segments d c h = h
segments-nodes (segment g gs) d c h = segments-nodes gs d (segment_content g d c) (segment-nodes g d c)

-- ---- what a singular query makes

step-plain : (g : Segment) (d : Document) (c : Content) → IsTrue (is_step g) → IsPlain c → IsPlain (segment_content g d c)
step-plain (syntax.one (syntax.Selector.name k)) d c h k' = mapped-plain (named_from k) (λ p. only-plain (found_from p (named k))) c k'
step-plain (syntax.one (syntax.Selector.index i)) d c h k' = mapped-plain (indexed_from i) (λ p. only-plain (found_from p (indexed i))) c k'
step-plain (syntax.one wildcard) d c h k' = absurd (false≢true h)
step-plain (syntax.one (slice start end step)) d c h k' = absurd (false≢true h)
step-plain (syntax.one (syntax.Selector.filter f)) d c h k' = absurd (false≢true h)
step-plain (several ss) d c h k' = absurd (false≢true h)
step-plain (descendant g) d c h k' = absurd (false≢true h)

singular-plain : (gs : Segments) (d : Document) (c : Content) → IsTrue (is_singular gs) → IsPlain c → IsPlain (segments_content gs d c)
singular-plain no_segments d c h k = k
singular-plain (segment g gs) d c h k =
    let both = and_parts (is_step g) (is_singular gs) h in
    singular-plain gs d (segment_content g d c) both.1 (step-plain g d c both.0 k)

-- ---- what a function makes

optional-plain : (o : Option Tree) → IsPlain (optional o)
optional-plain None = tt
optional-plain (Some t) = tt

optional-value : (o : Option Tree) → plain (optional o) ≡ o
optional-value None = refl
optional-value (Some t) = refl

length-plain : (c : Content) → IsPlain (length_content c)
length-plain (ref p) = optional-plain (length_of (Some p.tree))
length-plain (refs ps) = tt
length-plain (value t) = optional-plain (length_of (Some t))
length-plain nothing = tt

pub length-value : (c : Content) → IsPlain c → plain (length_content c) ≡ length_of (plain c)
length-value (ref p) h = optional-value (length_of (Some p.tree))
length-value (refs ps) h = absurd h
length-value (value t) h = optional-value (length_of (Some t))
length-value nothing h = refl

value-plain : (c : Content) → IsPlain (value_content c)
value-plain (ref p) = tt
value-plain (refs []) = tt
value-plain (refs (p ∷ [])) = tt
value-plain (refs (p ∷ q ∷ ps)) = tt
value-plain (value t) = tt
value-plain nothing = tt

count-plain : (c : Content) → IsPlain (count_content c)
count-plain (ref p) = tt
count-plain (refs ps) = tt
count-plain (value t) = tt
count-plain nothing = tt

pub call-plain : (f : Call) (d : Document) (c : Content) → IsPlain (call_content f d c)
call-plain (custom_call called xs) d c = tt
call-plain (length_call x) d c = length-plain (argument_content x d c)
call-plain (value_call x) d c = value-plain (argument_content x d c)
call-plain (count_call x) d c = count-plain (argument_content x d c)
call-plain (search_call x y) d c = tt
call-plain (match_call x y) d c = tt

value_test-plain : (t : Test) (d : Document) (p : Target) → IsTrue (is_value_test t) → IsPlain (test_content t d (ref p))
value_test-plain (relative gs) d p h = singular-plain gs d (ref p) h tt
value_test-plain (absolute gs) d p h = singular-plain gs d (root_content d) h tt
value_test-plain (call f) d p h = call-plain f d (ref p)

-- where a function wants a value
pub value_argument-plain : (a : Argument) (d : Document) (p : Target) → IsTrue (is_value_argument a) → IsPlain (argument_content a d (ref p))
value_argument-plain (literal_argument l) d p h = tt
value_argument-plain (test_argument t) d p h = value_test-plain t d p h
value_argument-plain (filter_argument f) d p h = tt

-- ---- how they compare

equal-plain : (a b : Content) → IsPlain a → IsPlain b → contents_equal a b ≡ are_equal (plain a) (plain b)
equal-plain (ref p) (ref q) h k = refl
equal-plain (ref p) (refs qs) h k = absurd k
equal-plain (ref p) (value u) h k = refl
equal-plain (ref p) nothing h k = refl
equal-plain (refs ps) b h k = absurd h
equal-plain (value t) (ref q) h k = refl
equal-plain (value t) (refs qs) h k = absurd k
equal-plain (value t) (value u) h k = refl
equal-plain (value t) nothing h k = refl
equal-plain nothing (ref q) h k = refl
equal-plain nothing (refs qs) h k = absurd k
equal-plain nothing (value u) h k = refl
equal-plain nothing nothing h k = refl

pub compare-plain : (op : Operator) (a b : Content) → IsPlain a → IsPlain b → contents_compare op a b ≡ compares op (plain a) (plain b)
compare-plain equal a b h k = equal-plain a b h k
compare-plain not_equal a b h k = ap not (equal-plain a b h k)
compare-plain less a b h k = refl
compare-plain less_or_equal a b h k = ap (λ x. is_below (plain a) (plain b) || x) (equal-plain a b h k)
compare-plain greater a b h k = refl
compare-plain greater_or_equal a b h k = ap (λ x. is_below (plain b) (plain a) || x) (equal-plain a b h k)
