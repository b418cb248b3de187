-- What the calls answer, from what the walk gave.
use Rattle.std.proofs.Common.{◌≡◌, ◌↔◌, ◌≤◌, ℕ, min, nat_lt, length, arith, IfSome, IfNone, List, [], ◌∷◌, map, take, Bool, true, false, Some, IsTrue, IsFalse, sym, ◌∙◌, ap, subst, refl, string_bytes}
use Rattle.std.proofs.lemmas.Bool.{false≢true}
use Rattle.std.proofs.lemmas.List.{length-map}
use Rattle.jsonpath_base.specs.Prelude.Documents.{AllByRecursion, AllZip, at, Document, greatest_count, has_distinct_names, IsNodeAt, IsPathAt, IsValueAt, Node, nodelist, normal, Query, selected, Tree}
use Rattle.jsonpath_rust.specs.Prelude.Selection.{count_in, counted, feed, IsFirstNode, IsOnly, IsOnlyOf, node_count, path_and_tree, sole_node}
use Rattle.jsonpath_base.proofs.lemmas.documents.{nodes_at}
use Rattle.jsonpath_parser.proofs.NormalLemmas.{only_path}
use Rattle.jsonpath_rust.specs.declared.selection.sink.Only.{Only}
use Rattle.jsonpath_rust.specs.declared.selection.sink.Only.TheVariants.{Nothing, One, Several}
use Rattle.jsonpath_rust.proofs.laws.selection.Sinks.{counted_all}

nodes_zipped : (doc : Document) (ns : List Node) → AllByRecursion (λ n. at n.location doc.root ≡ Some n.tree) ns → AllZip (IsNodeAt doc) (map (λ n. n.location) ns) (map path_and_tree ns)
nodes_zipped doc [] h = tt
nodes_zipped doc (n ∷ ns) h = (((refl, only_path n.location), h.0), nodes_zipped doc ns h.1)

paths_zipped : (doc : Document) (ns : List Node) → AllZip (IsPathAt doc) (map (λ n. n.location) ns) (map (λ n. normal n.location) ns)
paths_zipped doc [] = tt
paths_zipped doc (n ∷ ns) = ((refl, only_path n.location), paths_zipped doc ns)

values_zipped : (doc : Document) (ns : List Node) → AllByRecursion (λ n. at n.location doc.root ≡ Some n.tree) ns → AllZip (IsValueAt doc) (map (λ n. n.location) ns) (map (λ n. n.tree) ns)
values_zipped doc [] h = tt
values_zipped doc (n ∷ ns) h = (h.0, values_zipped doc ns h.1)

-- the answered list, where it shows the nodelist
pub nodes_answered : (q : Query) (doc : Document) (answer : List (List ℕ × Tree)) → IsTrue (has_distinct_names doc.root) → answer ≡ map path_and_tree (nodelist q doc) → AllZip (IsNodeAt doc) (selected q doc) answer
nodes_answered q doc answer distinct e = subst (AllZip (IsNodeAt doc) (selected q doc)) (sym e) (nodes_zipped doc (nodelist q doc) (nodes_at q doc distinct))

pub paths_answered : (q : Query) (doc : Document) (answer : List (List ℕ)) → answer ≡ map (λ n. normal n.location) (nodelist q doc) → AllZip (IsPathAt doc) (selected q doc) answer
paths_answered q doc answer e = subst (AllZip (IsPathAt doc) (selected q doc)) (sym e) (paths_zipped doc (nodelist q doc))

pub values_answered : (q : Query) (doc : Document) (answer : List Tree) → IsTrue (has_distinct_names doc.root) → answer ≡ map (λ n. n.tree) (nodelist q doc) → AllZip (IsValueAt doc) (selected q doc) answer
values_answered q doc answer distinct e = subst (AllZip (IsValueAt doc) (selected q doc)) (sym e) (values_zipped doc (nodelist q doc) (nodes_at q doc distinct))

-- ---- where the walk ends at the first node, or at the second one

first_there : (q : Query) (doc : Document) (answer : List ℕ × Tree) (ns : List Node) → nodelist q doc ≡ ns → AllByRecursion (λ n. at n.location doc.root ≡ Some n.tree) ns → take 1 (map path_and_tree ns) ≡ answer ∷ [] → IsFirstNode q doc answer
first_there q doc answer [] e h k = absurd cc
first_there q doc answer (n ∷ ns) e h k =
    let same : path_and_tree n ≡ answer = cc in
    record {
      location = n.location;
      rest = map (λ m. m.location) ns;
      selects = ap (map (λ m. m.location)) e;
      node = subst (IsNodeAt doc n.location) same ((refl, only_path n.location), h.0);
    }

none_there : (q : Query) (doc : Document) (ns : List Node) → nodelist q doc ≡ ns → take 1 (map path_and_tree ns) ≡ [] → selected q doc ≡ []
none_there q doc [] e k = ap (map (λ n. n.location)) e
none_there q doc (n ∷ ns) e k = absurd cc

none_more : {A : Type 0} (ns : List (List ℕ × Tree)) → 2 ≤ length (take 1 ns) → A
none_more [] h = absurd (omega (arith, h))
none_more (n ∷ ns) h = absurd (omega (arith, h))

-- the node that was kept, where one of the nodelist was wanted
pub first_answered : {A : Type 0} (tree : A → Tree) (q : Query) (doc : Document) (o : Only A) (ns : List (List ℕ × Tree)) → IsTrue (has_distinct_names doc.root) → ns ≡ take 1 (map path_and_tree (nodelist q doc)) → IsOnlyOf tree ns o → IfSome (sole_node o) (λ n. IsFirstNode q doc (string_bytes n.path, tree n.val.now)) × IfNone (sole_node o) (selected q doc ≡ [])
first_answered tree q doc Nothing ns distinct e k = (tt, none_there q doc (nodelist q doc) refl (sym e ∙ k))
first_answered tree q doc (One m) ns distinct e k = (first_there q doc _ (nodelist q doc) refl (nodes_at q doc distinct) (sym e ∙ k), tt)
first_answered tree q doc Several ns distinct e k = none_more (map path_and_tree (nodelist q doc)) (subst (λ ms. 2 ≤ length ms) e k)

-- whether there is a node
pub no_node : (k : ℕ) (b : Bool) (ns : List Node) → k ≡ count_in (feed (counted 1 1) ns) → b ≡ nat_lt 0 k → IsFalse b ↔ (map (λ n. n.location) ns ≡ [])
no_node k b [] e f = (λ h. refl, λ h. f ∙ ap (nat_lt 0) e)
no_node k b (n ∷ ns) e f =
    let one : min (length (n ∷ ns)) 1 ≡ 1 = omega arith in
    let is : b ≡ true = f ∙ ap (nat_lt 0) (e ∙ counted_all 1 (n ∷ ns) ∙ one) in
    (λ h. absurd (false≢true (sym h ∙ is)), λ h. absurd cc)

only_there : {A : Type 0} (tree : A → Tree) (q : Query) (doc : Document) (o : Only A) (ns : List Node) → nodelist q doc ≡ ns → AllByRecursion (λ n. at n.location doc.root ≡ Some n.tree) ns → IsOnlyOf tree (take 2 (map path_and_tree ns)) o → IsOnly tree q doc o
only_there tree q doc Nothing [] e h k = ap (map (λ n. n.location)) e
only_there tree q doc Nothing (n ∷ ns) e h k = absurd cc
only_there tree q doc (One m) [] e h k = absurd cc
only_there tree q doc (One m) (n ∷ []) e h k =
    let same : path_and_tree n ≡ (string_bytes m.path, tree m.val.now) = cc in
    (n.location, ap (map (λ r. r.location)) e, subst (IsNodeAt doc n.location) same ((refl, only_path n.location), h.0))
only_there tree q doc (One m) (n ∷ r ∷ ns) e h k = absurd cc
only_there tree q doc Several [] e h k = absurd (omega (arith, k))
only_there tree q doc Several (n ∷ []) e h k = absurd (omega (arith, k))
only_there tree q doc Several (n ∷ m ∷ ns) e h k = (n.location, m.location, map (λ r. r.location) ns, ap (map (λ r. r.location)) e)

-- what is told of the only node, where the nodelist was given
pub only_answered : {A : Type 0} (tree : A → Tree) (q : Query) (doc : Document) (o : Only A) (ns : List (List ℕ × Tree)) → IsTrue (has_distinct_names doc.root) → ns ≡ take 2 (map path_and_tree (nodelist q doc)) → IsOnlyOf tree ns o → IsOnly tree q doc o
only_answered tree q doc o ns distinct e k = only_there tree q doc o (nodelist q doc) refl (nodes_at q doc distinct) (subst (λ ms. IsOnlyOf tree ms o) e k)

-- ---- how many nodes there are

pub count_answered : (q : Query) (doc : Document) (k : ℕ) → k ≡ count_in (feed (counted greatest_count greatest_count) (nodelist q doc)) → k ≡ node_count q doc
count_answered q doc k e = e ∙ counted_all greatest_count (nodelist q doc) ∙ ap (λ (n : ℕ). min n greatest_count) (sym (length-map (nodelist q doc) (λ (n : Node). n.location)))
