-- What a content means: the value of a function or of a comparison's side, the nodes of a query, the truth of a test.
use Rattle.std.proofs.Common.{◌≡◌, List, [], ◌∷◌, map, length, refl, sym, ◌∙◌, ap, Bool, true, false, not, Option, Some, option_to_list, IsTrue}
use Rattle.std.proofs.lemmas.Bool.{false≢true}
use Rattle.std.proofs.lemmas.Slice.Zip.{AllZip-long}
use Rattle.jsonpath_base.specs.Prelude.Documents.{absolute, AllZip, answer, argued, Argument, as_nodes, as_trees, as_truth, as_value, Call, call, count_call, count_of, count_value, custom_call, Document, Evaluated, filter_argument, gives_value, has_node, is_query_argument, is_true, is_truth_call, is_truth_test, length_call, literal_argument, match_call, negated, Node, of_nodes, of_value, only_value, relative, search_call, Test, test_argument, tested, Tree, value_call}
use Rattle.jsonpath_rust.specs.Prelude.States.{call_content, Content, content_trees, count_content, has_target, is_truth, nothing, plain, ref, refs, Target, targets, test_content, test_truth, value, value_content}
use Rattle.jsonpath_rust.proofs.laws.states.Contents.{IsNodes, IsPlain}
use Rattle.jsonpath_rust.proofs.laws.states.Finding.{Shows}

-- the same value, or none; or targets that show the nodes
abbrev pub Means : Content → Evaluated → Type 0
Means c (of_value o) = IsPlain c × (plain c ≡ o)
Means c (of_nodes ns) = IsNodes c × AllZip (Shows false) ns (targets c)

-- ---- as a value (2.4.3)

only-shown : (c : Content) (ns : List Node) → IsPlain c → IsNodes c → AllZip (Shows false) ns (targets c) → plain c ≡ only_value ns
only-shown (ref p) [] h k z = absurd z
only-shown (ref p) (n ∷ []) h k z = ap Some (sym z.0.alike)
only-shown (ref p) (n ∷ m ∷ ns) h k z = absurd z.1
only-shown (refs ps) ns h k z = absurd h
only-shown (value t) ns h k z = absurd k
only-shown nothing [] h k z = refl
only-shown nothing (n ∷ ns) h k z = absurd z

pub meant-value : (c : Content) (e : Evaluated) → IsPlain c → Means c e → plain c ≡ as_value e
meant-value c (of_value o) h m = m.1
meant-value c (of_nodes ns) h m = only-shown c ns h m.0 m.1

-- ---- as nodes, where a function wants a query (2.4.5 and 2.4.8)

pub meant-nodes : (a : Argument) (d : Document) (n : Node) (c : Content) → IsTrue (is_query_argument a) → Means c (argued a d n) → IsNodes c × AllZip (Shows false) (as_nodes (argued a d n)) (targets c)
meant-nodes (literal_argument l) d n c h m = absurd (false≢true h)
meant-nodes (test_argument (relative gs)) d n c h m = m
meant-nodes (test_argument (absolute gs)) d n c h m = m
meant-nodes (test_argument (call f)) d n c h m = absurd (false≢true h)
meant-nodes (filter_argument f) d n c h m = absurd (false≢true h)

several-shown : (ps : List Target) (ns : List Node) → AllZip (Shows false) ns ps → plain (value_content (refs ps)) ≡ only_value ns
several-shown [] [] z = refl
several-shown [] (n ∷ ns) z = absurd z
several-shown (p ∷ ps) [] z = absurd z
several-shown (p ∷ []) (n ∷ []) z = ap Some (sym z.0.alike)
several-shown (p ∷ []) (n ∷ m ∷ ns) z = absurd z.1
several-shown (p ∷ q ∷ ps) (n ∷ []) z = absurd z.1
several-shown (p ∷ q ∷ ps) (n ∷ m ∷ ns) z = refl

pub value-shown : (c : Content) (ns : List Node) → IsNodes c → AllZip (Shows false) ns (targets c) → plain (value_content c) ≡ only_value ns
value-shown (ref p) ns h z = only-shown (ref p) ns tt h z
value-shown (refs ps) ns h z = several-shown ps ns z
value-shown (value t) ns h z = absurd h
value-shown nothing ns h z = only-shown nothing ns tt h z

count-targets : (c : Content) → IsNodes c → plain (count_content c) ≡ Some (count_value (length (targets c)))
count-targets (ref p) h = refl
count-targets (refs ps) h = refl
count-targets (value t) h = absurd h
count-targets nothing h = refl

pub count-shown : (c : Content) (ns : List Node) → IsNodes c → AllZip (Shows false) ns (targets c) → plain (count_content c) ≡ count_of ns
count-shown c ns h z = count-targets c h ∙ ap (λ k. Some (count_value k)) (AllZip-long (Shows false) ns (targets c) z)

-- ---- as arguments of a custom function

trees-shown : (ns : List Node) (ps : List Target) → AllZip (Shows false) ns ps → map (λ (p : Target). p.tree) ps ≡ map (λ (n : Node). n.tree) ns
trees-shown [] [] z = refl
trees-shown [] (p ∷ ps) z = absurd z
trees-shown (n ∷ ns) [] z = absurd z
trees-shown (n ∷ ns) (p ∷ ps) z = ap (λ t. t ∷ map (λ (q : Target). q.tree) ps) (sym z.0.alike) ∙ ap (λ ts. n.tree ∷ ts) (trees-shown ns ps z.1)

nodes-trees : (c : Content) → IsNodes c → content_trees c ≡ map (λ (p : Target). p.tree) (targets c)
nodes-trees (ref p) h = refl
nodes-trees (refs ps) h = refl
nodes-trees (value t) h = absurd h
nodes-trees nothing h = refl

plain-trees : (c : Content) → IsPlain c → content_trees c ≡ option_to_list (plain c)
plain-trees (ref p) h = refl
plain-trees (refs ps) h = absurd h
plain-trees (value t) h = refl
plain-trees nothing h = refl

pub meant-trees : (c : Content) (e : Evaluated) → Means c e → content_trees c ≡ as_trees e
meant-trees c (of_value o) m = plain-trees c m.0 ∙ ap option_to_list m.1
meant-trees c (of_nodes ns) m = nodes-trees c m.0 ∙ trees-shown ns (targets c) m.1

-- ---- as a test (2.3.5.2.1)

some-shown : (ns : List Node) (ps : List Target) → AllZip (Shows false) ns ps → has_target ps ≡ has_node ns
some-shown [] [] z = refl
some-shown [] (p ∷ ps) z = absurd z
some-shown (n ∷ ns) [] z = absurd z
some-shown (n ∷ ns) (p ∷ ps) z = refl

-- a truth of its own, perhaps behind `!`
told-truth : (turn : Bool) (u : Tree) (o : Option Tree) → Some u ≡ o → is_truth (test_truth turn true (value u)) ≡ negated turn (is_true o)
told-truth true u o e = ap (λ x. not (is_true x)) e
told-truth false u o e = ap is_true e

called-truth : (turn : Bool) (f : Call) (d : Document) (c : Content) (o : Option Tree) → IsTrue (not (gives_value f)) → plain (call_content f d c) ≡ o → is_truth (test_truth turn (not (gives_value f)) (call_content f d c)) ≡ negated turn (is_true o)
called-truth turn (custom_call called xs) d c o h e = told-truth turn _ o e
called-truth turn (length_call x) d c o h e = absurd (false≢true h)
called-truth turn (value_call x) d c o h e = absurd (false≢true h)
called-truth turn (count_call x) d c o h e = absurd (false≢true h)
called-truth turn (search_call x y) d c o h e = told-truth turn _ o e
called-truth turn (match_call x y) d c o h e = told-truth turn _ o e

pub meant-truth : (turn : Bool) (q : Test) (d : Document) (n : Node) (c : Content) → IsTrue (is_truth_test q) → Means (test_content q d c) (tested q d n) → is_truth (test_truth turn (is_truth_call q) (test_content q d c)) ≡ negated turn (as_truth (tested q d n))
meant-truth turn (relative gs) d n c h m = ap (negated turn) (some-shown _ _ m.1)
meant-truth turn (absolute gs) d n c h m = ap (negated turn) (some-shown _ _ m.1)
meant-truth turn (call f) d n c h m = called-truth turn f d c (answer f d n) h m.1
