-- The two evaluators agree: on every well-typed query, what `process` makes from the root is what the query selects.
use Rattle.std.proofs.Common.{◌≡◌, ℕ, List, [], ◌∷◌, ◌++◌, map, append_assoc, append-nil, refl, sym, ◌∙◌, ap, Bool, true, false, ◌||◌, ◌&&◌, Option, Some, Result, Ok, Err, IfOk, IsTrue}
use Rattle.std.proofs.lemmas.Bool.{and_parts}
use Rattle.std.specs.Prelude.{codes}
use Rattle.jsonpath_base.specs.Prelude.Documents.{absolute, all_applied, all_pick, all_trees, AllByRecursion, AllZip, and, answer, are_typed_arguments, are_typed_filters, are_typed_selectors, argued, Argument, argument, Arguments, as_nodes, as_trees, as_value, at, Call, call, children, compare, compares, count_call, custom_call, descendant, Document, each_holds, Filter, filter_argument, filter_then, Filters, flat_map, group, has_distinct_names, holds, indexed, is_matched, is_truth_test, is_typed, is_typed_argument, is_typed_call, is_typed_filter, is_typed_segment, is_typed_selector, is_typed_side, is_typed_test, is_value_argument, IsNodeAt, IsValueAt, length_call, length_of, literal_argument, match_call, named, negated, no_arguments, no_filters, no_segments, no_selectors, Node, nodelist, normal, one, or, picks, Query, relative, replaced, root_node, search_call, Segment, segment, Segments, selected, Selector, selector, Selectors, several, slice, sliced, some_holds, takes, Test, test, test_argument, tested, Tree, truth, value_call, wildcard}
use Rattle.jsonpath_rust.specs.Prelude.States.{argument_content, arguments_trees, call_content, Content, each_holds_at, found_from, holds_at, inside, joined_from, mapped, nothing, parents_from, plain, processed, ProcessGivesTheNodelist, reduced, ref, root_content, segment_content, segments_content, selector_content, some_holds_at, Target, targets, test_content, unless_none}
use Rattle.jsonpath_base.proofs.lemmas.documents.{nodes_at}
use Rattle.jsonpath_parser.specs.tree.Syntax as syntax
use Rattle.jsonpath_rust.proofs.laws.states.Contents.{IsNodes, IsPlain, targets-mapped, reduced-nodes, targets-reduced, targets-named, targets-some, targets-indexed, targets-sliced, targets-kept, targets-selector, selector-nodes, segments-nodes, length-value, call-plain, value_argument-plain, compare-plain}
use Rattle.jsonpath_rust.proofs.laws.states.Finding.{Shows, alone, finds, named-by_tree, indexed-by_tree, sliced-by_tree, children-by_tree, shows-append, shows-each, shows-kept, shows-as, shows-same}
use Rattle.jsonpath_rust.proofs.laws.states.Meant.{Means, meant-value, meant-nodes, meant-trees, meant-truth, value-shown, count-shown}
use Rattle.jsonpath_rust.proofs.laws.states.Parents.{parents, parents-agree, parents-replaced}

-- ---- one step each of what follows, from what its parts make

none_picked : (d : Document) (ns : List Node) → [] ≡ flat_map (all_pick no_selectors d) ns
none_picked d [] = refl
none_picked d (n ∷ ns) = none_picked d ns

-- no selectors pick nothing
several-agree : (ss : Selectors) (d : Document) (told : Bool) (ns : List Node) (c : Content) → AllZip (Shows told) (flat_map (all_pick ss d) ns) (targets c) → AllZip (Shows told) (flat_map (all_pick ss d) ns) (targets (unless_none ss c))
several-agree no_selectors d told ns c h = shows-same told [] (none_picked d ns) tt
several-agree (selector s ss) d told ns c h = h

-- one selector more, behind what there is
joined-agrees : (s : Selector) (d : Document) (told : Bool) (n : Node) (p : Target) (ns : List Node) (c : Content) → IsNodes c → AllZip (Shows told) ns (targets c) → AllZip (Shows told) (picks s d n) (targets (selector_content s d (ref p))) → AllZip (Shows told) (ns ++ picks s d n) (targets (reduced c (selector_content s d (ref p))))
joined-agrees s d told n p ns c h z w =
    let more = selector_content s d (ref p) in
    shows-as told (ns ++ picks s d n) (targets-reduced c more h (selector-nodes s d (ref p))) (shows-append told ns (picks s d n) (targets c) (targets more) z w)

-- the parts of a call

lengths-agree : (a : Argument) (d : Document) (n : Node) (p : Target) → IsTrue (is_value_argument a) → Means (argument_content a d (ref p)) (argued a d n) → plain (call_content (length_call a) d (ref p)) ≡ answer (length_call a) d n
lengths-agree a d n p h m =
    let c = argument_content a d (ref p) in
    let is_plain = value_argument-plain a d p h in
    length-value c is_plain ∙ ap length_of (meant-value c (argued a d n) is_plain m)

values-agree : (a : Argument) (d : Document) (n : Node) (p : Target) → IsTrue (takes (value_call a)) → Means (argument_content a d (ref p)) (argued a d n) → plain (call_content (value_call a) d (ref p)) ≡ answer (value_call a) d n
values-agree a d n p h m =
    let c = argument_content a d (ref p) in
    let both = meant-nodes a d n c h m in
    value-shown c (as_nodes (argued a d n)) both.0 both.1

counts-agree : (a : Argument) (d : Document) (n : Node) (p : Target) → IsTrue (takes (count_call a)) → Means (argument_content a d (ref p)) (argued a d n) → plain (call_content (count_call a) d (ref p)) ≡ answer (count_call a) d n
counts-agree a d n p h m =
    let c = argument_content a d (ref p) in
    let both = meant-nodes a d n c h m in
    count-shown c (as_nodes (argued a d n)) both.0 both.1

matches-agree : (entire : Bool) (a b : Argument) (d : Document) (n : Node) (p : Target) → IsTrue (is_value_argument a && is_value_argument b) → Means (argument_content a d (ref p)) (argued a d n) → Means (argument_content b d (ref p)) (argued b d n)
    → is_matched entire (plain (argument_content a d (ref p))) (plain (argument_content b d (ref p))) ≡ is_matched entire (as_value (argued a d n)) (as_value (argued b d n))
matches-agree entire a b d n p h m k =
    let both = and_parts (is_value_argument a) (is_value_argument b) h in
    let c = argument_content a d (ref p) in
    let e = argument_content b d (ref p) in
    ap (λ o. is_matched entire o (plain e)) (meant-value c (argued a d n) (value_argument-plain a d p both.0) m) ∙ ap (is_matched entire (as_value (argued a d n))) (meant-value e (argued b d n) (value_argument-plain b d p both.1) k)

-- a side of a comparison
side-agrees : (a : Argument) (d : Document) (n : Node) (p : Target) → IsTrue (is_value_argument a) → Means (argument_content a d (ref p)) (argued a d n) → IsPlain (argument_content a d (ref p)) × (plain (argument_content a d (ref p)) ≡ as_value (argued a d n))
side-agrees a d n p h m =
    let c = argument_content a d (ref p) in
    let is_plain = value_argument-plain a d p h in
    (is_plain, meant-value c (argued a d n) is_plain m)

-- ---- what every part of a well-typed query makes of a target that shows a node

mutual
  selector-agrees : (s : Selector) (d : Document) (told : Bool) (n : Node) (p : Target) → IsTrue (is_typed_selector s) → Shows told n p → AllZip (Shows told) (picks s d n) (targets (selector_content s d (ref p)))
  selector-agrees (syntax.Selector.name k) d told n p h r = shows-as told (named k n) (targets-named k p) (finds told (named k) (named-by_tree k) n p r)
  selector-agrees wildcard d told n p h r = shows-as told (children n) (targets-some (found_from p children)) (finds told children children-by_tree n p r)
  selector-agrees (syntax.Selector.index i) d told n p h r = shows-as told (indexed i n) (targets-indexed i p) (finds told (indexed i) (indexed-by_tree i) n p r)
  selector-agrees (slice start end step) d told n p h r = shows-as told (sliced start end step n) (targets-sliced start end step p) (finds told (sliced start end step) (sliced-by_tree start end step) n p r)
  selector-agrees (syntax.Selector.filter f) d told n p h r =
      shows-as told (picks (syntax.Selector.filter f) d n) (targets-kept (holds_at f d) p)
      (shows-kept told (holds f d) (λ q. holds_at f d (inside q.tree)) (λ m q k. sym (filter-agrees f d m (record { path = []; tree = q.tree }) h k.alike)) (children n) (found_from p children) (finds told children children-by_tree n p r))

  selectors-agree : (ss : Selectors) (d : Document) (told : Bool) (n : Node) (p : Target) (ns : List Node) (c : Content) → IsTrue (are_typed_selectors ss) → Shows told n p → IsNodes c → AllZip (Shows told) ns (targets c) → AllZip (Shows told) (ns ++ all_pick ss d n) (targets (joined_from ss d c p))
  selectors-agree no_selectors d told n p ns c h r k z = shows-same told (targets c) (sym (append-nil ns)) z
  selectors-agree (selector s ss) d told n p ns c h r k z =
      let both = and_parts (is_typed_selector s) (are_typed_selectors ss) h in
      shows-same told (targets (joined_from ss d (reduced c (selector_content s d (ref p))) p)) (append_assoc ns (picks s d n) (all_pick ss d n))
      (selectors-agree ss d told n p (ns ++ picks s d n) (reduced c (selector_content s d (ref p))) both.1 r (reduced-nodes c (selector_content s d (ref p))) (joined-agrees s d told n p ns c k z (selector-agrees s d told n p both.0 r)))

  segment-agrees : (g : Segment) (d : Document) (told : Bool) (ns : List Node) (c : Content) → IsTrue (is_typed_segment g) → AllZip (Shows told) ns (targets c) → AllZip (Shows told) (flat_map (replaced g d) ns) (targets (segment_content g d c))
  segment-agrees (one s) d told ns c h z =
      shows-as told (flat_map (replaced (one s) d) ns) (targets-selector s d c) (shows-each told (replaced (one s) d) (λ p. targets (selector_content s d (ref p))) (λ n p r. selector-agrees s d told n p h r) ns (targets c) z)
  segment-agrees (several ss) d told ns c h z =
      several-agree ss d told ns (mapped (joined_from ss d nothing) c)
      (shows-as told (flat_map (all_pick ss d) ns) (targets-mapped (joined_from ss d nothing) c) (shows-each told (all_pick ss d) (λ p. targets (joined_from ss d nothing p)) (λ n p r. selectors-agree ss d told n p [] nothing h r tt tt) ns (targets c) z))
  segment-agrees (descendant g) d told ns c h z =
      shows-same told (targets (segment_content g d (mapped parents_from c))) (parents-replaced g d ns)
      (segment-agrees g d told (flat_map parents ns) (mapped parents_from c) h
      (shows-as told (flat_map parents ns) (targets-mapped parents_from c) (shows-each told parents (λ p. targets (parents_from p)) (parents-agree told) ns (targets c) z)))

  segments-agree : (gs : Segments) (d : Document) (told : Bool) (ns : List Node) (c : Content) → IsTrue (is_typed gs) → AllZip (Shows told) ns (targets c) → AllZip (Shows told) (all_applied gs d ns) (targets (segments_content gs d c))
  segments-agree no_segments d told ns c h z = z
  segments-agree (segment g gs) d told ns c h z =
      let both = and_parts (is_typed_segment g) (is_typed gs) h in
      segments-agree gs d told (flat_map (replaced g d) ns) (segment_content g d c) both.1 (segment-agrees g d told ns c both.0 z)

  filter-agrees : (f : Filter) (d : Document) (n : Node) (p : Target) → IsTrue (is_typed_filter f) → n.tree ≡ p.tree → holds_at f d (ref p) ≡ holds f d n
  filter-agrees (or fs) d n p h e = some-agree fs d n p h e
  filter-agrees (and fs) d n p h e = each-agree fs d n p h e
  filter-agrees (group turn f) d n p h e = ap (negated turn) (filter-agrees f d n p h e)
  filter-agrees (test turn q) d n p h e =
      let both = and_parts (is_truth_test q) (is_typed_test q) h in
      meant-truth turn q d n (ref p) both.0 (test-agrees q d n p both.1 e)
  filter-agrees (compare op a b) d n p h e =
      let both = and_parts (is_typed_side a) (is_typed_side b) h in
      let one_side = and_parts (is_value_argument a) (is_typed_argument a) both.0 in
      let other = and_parts (is_value_argument b) (is_typed_argument b) both.1 in
      let left = side-agrees a d n p one_side.0 (argument-agrees a d n p one_side.1 e) in
      let right = side-agrees b d n p other.0 (argument-agrees b d n p other.1 e) in
      compare-plain op (argument_content a d (ref p)) (argument_content b d (ref p)) left.0 right.0 ∙ ap (λ o. compares op o (plain (argument_content b d (ref p)))) left.1 ∙ ap (compares op (as_value (argued a d n))) right.1

  some-agree : (fs : Filters) (d : Document) (n : Node) (p : Target) → IsTrue (are_typed_filters fs) → n.tree ≡ p.tree → some_holds_at fs d (ref p) ≡ some_holds fs d n
  some-agree no_filters d n p h e = refl
  some-agree (filter_then f fs) d n p h e =
      let both = and_parts (is_typed_filter f) (are_typed_filters fs) h in
      ap (λ b. b || some_holds_at fs d (ref p)) (filter-agrees f d n p both.0 e) ∙ ap (λ b. holds f d n || b) (some-agree fs d n p both.1 e)

  each-agree : (fs : Filters) (d : Document) (n : Node) (p : Target) → IsTrue (are_typed_filters fs) → n.tree ≡ p.tree → each_holds_at fs d (ref p) ≡ each_holds fs d n
  each-agree no_filters d n p h e = refl
  each-agree (filter_then f fs) d n p h e =
      let both = and_parts (is_typed_filter f) (are_typed_filters fs) h in
      ap (λ b. b && each_holds_at fs d (ref p)) (filter-agrees f d n p both.0 e) ∙ ap (λ b. holds f d n && b) (each-agree fs d n p both.1 e)

  test-agrees : (q : Test) (d : Document) (n : Node) (p : Target) → IsTrue (is_typed_test q) → n.tree ≡ p.tree → Means (test_content q d (ref p)) (tested q d n)
  test-agrees (relative gs) d n p h e = (segments-nodes gs d (ref p) tt, segments-agree gs d false (n ∷ []) (ref p) h (alone n p e, tt))
  test-agrees (absolute gs) d n p h e = (segments-nodes gs d (root_content d) tt, segments-agree gs d false (root_node d.root ∷ []) (root_content d) h (alone (root_node d.root) (record { path = codes "$"; tree = d.root }) refl, tt))
  test-agrees (call f) d n p h e = (call-plain f d (ref p), call-agrees f d n p h e)

  call-agrees : (f : Call) (d : Document) (n : Node) (p : Target) → IsTrue (is_typed_call f) → n.tree ≡ p.tree → plain (call_content f d (ref p)) ≡ answer f d n
  call-agrees (custom_call called xs) d n p h e = ap (λ ts. Some (d.custom called ts)) (arguments-agree xs d n p h e)
  call-agrees (length_call a) d n p h e =
      let both = and_parts (takes (length_call a)) (is_typed_argument a) h in
      lengths-agree a d n p both.0 (argument-agrees a d n p both.1 e)
  call-agrees (value_call a) d n p h e =
      let both = and_parts (takes (value_call a)) (is_typed_argument a) h in
      values-agree a d n p both.0 (argument-agrees a d n p both.1 e)
  call-agrees (count_call a) d n p h e =
      let both = and_parts (takes (count_call a)) (is_typed_argument a) h in
      counts-agree a d n p both.0 (argument-agrees a d n p both.1 e)
  call-agrees (search_call a b) d n p h e =
      let both = and_parts (takes (search_call a b)) (is_typed_argument a && is_typed_argument b) h in
      let typed = and_parts (is_typed_argument a) (is_typed_argument b) both.1 in
      ap (λ x. Some (truth x)) (matches-agree false a b d n p both.0 (argument-agrees a d n p typed.0 e) (argument-agrees b d n p typed.1 e))
  call-agrees (match_call a b) d n p h e =
      let both = and_parts (takes (match_call a b)) (is_typed_argument a && is_typed_argument b) h in
      let typed = and_parts (is_typed_argument a) (is_typed_argument b) both.1 in
      ap (λ x. Some (truth x)) (matches-agree true a b d n p both.0 (argument-agrees a d n p typed.0 e) (argument-agrees b d n p typed.1 e))

  argument-agrees : (a : Argument) (d : Document) (n : Node) (p : Target) → IsTrue (is_typed_argument a) → n.tree ≡ p.tree → Means (argument_content a d (ref p)) (argued a d n)
  argument-agrees (literal_argument l) d n p h e = (tt, refl)
  argument-agrees (test_argument q) d n p h e = test-agrees q d n p h e
  argument-agrees (filter_argument f) d n p h e = (tt, ap (λ b. Some (truth b)) (filter-agrees f d n p h e))

  arguments-agree : (xs : Arguments) (d : Document) (n : Node) (p : Target) → IsTrue (are_typed_arguments xs) → n.tree ≡ p.tree → arguments_trees xs d (ref p) ≡ all_trees xs d n
  arguments-agree no_arguments d n p h e = refl
  arguments-agree (argument a rest) d n p h e =
      let both = and_parts (is_typed_argument a) (are_typed_arguments rest) h in
      ap (λ ts. ts ++ arguments_trees rest d (ref p)) (meant-trees (argument_content a d (ref p)) (argued a d n) (argument-agrees a d n p both.0 e)) ∙ ap (λ ts. as_trees (argued a d n) ++ ts) (arguments-agree rest d n p both.1 e)

-- ---- from the root

shown-paths : (ns : List Node) (ps : List Target) → AllZip (Shows true) ns ps → map {B = List ℕ × Tree} (λ p. (p.path, p.tree)) ps ≡ map (λ n. (normal n.location, n.tree)) ns
shown-paths [] [] z = refl
shown-paths [] (p ∷ ps) z = absurd z
shown-paths (n ∷ ns) [] z = absurd z
shown-paths (n ∷ ns) (p ∷ ps) z = λ i. (z.0.path refl i, sym z.0.alike i) ∷ shown-paths ns ps z.1 i

root-shown : (d : Document) → Shows true (root_node d.root) (record { path = codes "$"; tree = d.root })
root-shown d = record { alike = refl; path = λ h. sym (append-nil (codes "$")) }

pub process_gives_the_nodelist : ProcessGivesTheNodelist
process_gives_the_nodelist q doc typed = shown-paths (nodelist q doc) (targets (segments_content q doc (root_content doc))) (segments-agree q doc true (root_node doc.root ∷ []) (root_content doc) typed (root-shown doc, tt))

-- ---- what a call answers of a well-typed query is what `process` gives

same_some : (o : Option Tree) (t u : Tree) → o ≡ Some t → o ≡ Some u → t ≡ u
same_some o t u e k = cc

answered-nodes : (doc : Document) (ns : List Node) (answer : List (List ℕ × Tree)) → AllByRecursion (λ n. at n.location doc.root ≡ Some n.tree) ns → AllZip (IsNodeAt doc) (map (λ n. n.location) ns) answer → answer ≡ map (λ n. (normal n.location, n.tree)) ns
answered-nodes doc [] [] h z = refl
answered-nodes doc [] (x ∷ xs) h z = absurd z
answered-nodes doc (n ∷ ns) [] h z = absurd z
answered-nodes doc (n ∷ ns) (x ∷ xs) h z =
    let path : x.0 ≡ normal n.location = z.0.0.0 in
    let value = same_some (at n.location doc.root) x.1 n.tree z.0.1 h.0 in
    λ i. (path i, value i) ∷ answered-nodes doc ns xs h.1 z.1 i

answered-values : (doc : Document) (ns : List Node) (answer : List Tree) → AllByRecursion (λ n. at n.location doc.root ≡ Some n.tree) ns → AllZip (IsValueAt doc) (map (λ n. n.location) ns) answer → answer ≡ map (λ (x : List ℕ × Tree). x.1) (map (λ n. (normal n.location, n.tree)) ns)
answered-values doc [] [] h z = refl
answered-values doc [] (t ∷ ts) h z = absurd z
answered-values doc (n ∷ ns) [] h z = absurd z
answered-values doc (n ∷ ns) (t ∷ ts) h z = λ i. same_some (at n.location doc.root) t n.tree z.0 h.0 i ∷ answered-values doc ns ts h.1 z.1 i

pub typed-nodes : {X E : Type 0} (show : X → List (List ℕ × Tree)) (q : Query) (doc : Document) (r : Result X E) → IsTrue (has_distinct_names doc.root) → IsTrue (is_typed q) → IfOk r (λ v. AllZip (IsNodeAt doc) (selected q doc) (show v)) → IfOk r (λ v. show v ≡ processed q doc)
typed-nodes show q doc (Ok v) distinct typed h = answered-nodes doc (nodelist q doc) (show v) (nodes_at q doc distinct) h ∙ sym (process_gives_the_nodelist q doc typed)
typed-nodes show q doc (Err e) distinct typed h = tt

pub typed-values : {X E : Type 0} (show : X → List Tree) (q : Query) (doc : Document) (r : Result X E) → IsTrue (has_distinct_names doc.root) → IsTrue (is_typed q) → IfOk r (λ v. AllZip (IsValueAt doc) (selected q doc) (show v)) → IfOk r (λ v. show v ≡ map (λ n. n.1) (processed q doc))
typed-values show q doc (Ok v) distinct typed h = answered-values doc (nodelist q doc) (show v) (nodes_at q doc distinct) h ∙ ap (map (λ (x : List ℕ × Tree). x.1)) (sym (process_gives_the_nodelist q doc typed))
typed-values show q doc (Err e) distinct typed h = tt
