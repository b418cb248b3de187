-- What has no `@` is the same at all nodes, and what is kept of it is what it stands for.
use Rattle.std.proofs.Common.{◌≡◌, ◌+◌, ℕ, suc, zero, List, [], ◌∷◌, ◌++◌, refl, sym, ◌∙◌, ap, Bool, true, false, ◌&&◌, ◌||◌, Option, Some, option_to_list, IsTrue, if◌then◌else◌}
use Rattle.std.proofs.lemmas.Bool.{and_parts}
use Rattle.jsonpath_base.specs.Prelude.Documents.{absolute, all_trees, and, answer, argued, Argument, argument, argument_patterns, Arguments, as_nodes, as_trees, as_truth, as_value, Call, call, compare, compares, count_call, count_of, custom_call, Document, each_holds, equal, Evaluated, Filter, filter_argument, segments_patterns, filter_then, Filters, group, holds, is_matched, is_true, length_call, length_of, list, list_all, literal_argument, literal_tree, match_call, negated, no_arguments, no_filters, no_segments, Node, nodelist, null, number, object, of_nodes, of_value, only_value, or, Query, relative, root_node, search_call, some_holds, Test, test, test_argument, tested, text, Tree, truth, value_call}
use Rattle.jsonpath_rust.specs.Prelude.Selection.{call_result, AreRooted, argument_at, argument_in, argument_is_rooted, arguments_are_rooted, asked, call_is_rooted, compared, ConstantPart, Constants, filter_is_rooted, filters_are_rooted, fits, result_of, given_value, is_same_demand, nodes, part_at, part_is_rooted, part_patterns, test_is_rooted, demanded_value, trees_in, truth_of, Demand, demand_of}
use Rattle.jsonpath_rust.specs.declared.selection.sink.Demand.TheVariants as demand
use Rattle.jsonpath_rust.proofs.laws.selection.Kept.{wanted_given}

mutual
  filter_same : (f : Filter) (d : Document) (n m : Node) → IsTrue (filter_is_rooted f) → holds f d n ≡ holds f d m
  filter_same (or fs) d n m h = some_same fs d n m h
  filter_same (and fs) d n m h = each_same fs d n m h
  filter_same (group t f) d n m h = ap (negated t) (filter_same f d n m h)
  filter_same (test t q) d n m h = ap (λ e. negated t (as_truth e)) (test_same q d n m h)
  filter_same (compare op a b) d n m h =
      let both = and_parts (argument_is_rooted a) (argument_is_rooted b) h in
      ap (λ e. compares op (as_value e) (as_value (argued b d n))) (argument_same a d n m both.0) ∙ ap (λ e. compares op (as_value (argued a d m)) (as_value e)) (argument_same b d n m both.1)

  some_same : (fs : Filters) (d : Document) (n m : Node) → IsTrue (filters_are_rooted fs) → some_holds fs d n ≡ some_holds fs d m
  some_same no_filters d n m h = refl
  some_same (filter_then f fs) d n m h =
      let both = and_parts (filter_is_rooted f) (filters_are_rooted fs) h in
      ap (λ b. b || some_holds fs d n) (filter_same f d n m both.0) ∙ ap (λ b. holds f d m || b) (some_same fs d n m both.1)

  each_same : (fs : Filters) (d : Document) (n m : Node) → IsTrue (filters_are_rooted fs) → each_holds fs d n ≡ each_holds fs d m
  each_same no_filters d n m h = refl
  each_same (filter_then f fs) d n m h =
      let both = and_parts (filter_is_rooted f) (filters_are_rooted fs) h in
      ap (λ b. b && each_holds fs d n) (filter_same f d n m both.0) ∙ ap (λ b. holds f d m && b) (each_same fs d n m both.1)

  test_same : (t : Test) (d : Document) (n m : Node) → IsTrue (test_is_rooted t) → tested t d n ≡ tested t d m
  test_same (relative gs) d n m h = absurd cc
  test_same (absolute gs) d n m h = refl
  test_same (call f) d n m h = ap of_value (call_same f d n m h)

  pub call_same : (f : Call) (d : Document) (n m : Node) → IsTrue (call_is_rooted f) → answer f d n ≡ answer f d m
  call_same (custom_call name args) d n m h = ap (λ ts. Some (d.custom name ts)) (arguments_same args d n m h)
  call_same (length_call a) d n m h = ap (λ e. length_of (as_value e)) (argument_same a d n m h)
  call_same (value_call a) d n m h = ap (λ e. only_value (as_nodes e)) (argument_same a d n m h)
  call_same (count_call a) d n m h = ap (λ e. count_of (as_nodes e)) (argument_same a d n m h)
  call_same (search_call a b) d n m h =
      let both = and_parts (argument_is_rooted a) (argument_is_rooted b) h in
      ap (λ e. Some (truth (is_matched false (as_value e) (as_value (argued b d n))))) (argument_same a d n m both.0) ∙ ap (λ e. Some (truth (is_matched false (as_value (argued a d m)) (as_value e)))) (argument_same b d n m both.1)
  call_same (match_call a b) d n m h =
      let both = and_parts (argument_is_rooted a) (argument_is_rooted b) h in
      ap (λ e. Some (truth (is_matched true (as_value e) (as_value (argued b d n))))) (argument_same a d n m both.0) ∙ ap (λ e. Some (truth (is_matched true (as_value (argued a d m)) (as_value e)))) (argument_same b d n m both.1)

  argument_same : (a : Argument) (d : Document) (n m : Node) → IsTrue (argument_is_rooted a) → argued a d n ≡ argued a d m
  argument_same (literal_argument l) d n m h = refl
  argument_same (test_argument t) d n m h = test_same t d n m h
  argument_same (filter_argument f) d n m h = ap (λ b. of_value (Some (truth b))) (filter_same f d n m h)

  arguments_same : (args : Arguments) (d : Document) (n m : Node) → IsTrue (arguments_are_rooted args) → all_trees args d n ≡ all_trees args d m
  arguments_same no_arguments d n m h = refl
  arguments_same (argument a rest) d n m h =
      let both = and_parts (argument_is_rooted a) (arguments_are_rooted rest) h in
      ap (λ e. as_trees e ++ all_trees rest d n) (argument_same a d n m both.0) ∙ ap (λ ts. as_trees (argued a d m) ++ ts) (arguments_same rest d n m both.1)

-- ---- what is kept

part_rooted : (constants : Constants) (n : ℕ) → AreRooted constants → IsTrue (part_is_rooted (part_at constants n))
part_rooted [] n h = refl
part_rooted (p ∷ ps) zero h = (and_parts (part_is_rooted p) (list_all part_is_rooted ps) h).0
part_rooted (p ∷ ps) (suc n) h = part_rooted ps n (and_parts (part_is_rooted p) (list_all part_is_rooted ps) h).1

-- ---- what is kept of a constant is what it stands for, at each node

same_query : (w v : Demand) (q r : Query) → IsTrue (is_same_demand w v) → (w ≡ v) × ((if is_same_demand w v then q else r) ≡ q)
same_query demand.Exists demand.Exists q r h = (refl, refl)
same_query demand.Count demand.Count q r h = (refl, refl)
same_query demand.Single demand.Single q r h = (refl, refl)
same_query demand.Values demand.Values q r h = (refl, refl)
same_query demand.Exists demand.Count q r h = absurd cc
same_query demand.Exists demand.Single q r h = absurd cc
same_query demand.Exists demand.Values q r h = absurd cc
same_query demand.Count demand.Exists q r h = absurd cc
same_query demand.Count demand.Single q r h = absurd cc
same_query demand.Count demand.Values q r h = absurd cc
same_query demand.Single demand.Exists q r h = absurd cc
same_query demand.Single demand.Count q r h = absurd cc
same_query demand.Single demand.Values q r h = absurd cc
same_query demand.Values demand.Exists q r h = absurd cc
same_query demand.Values demand.Count q r h = absurd cc
same_query demand.Values demand.Single q r h = absurd cc

pub told_nodes : (w : Demand) (ns : List Node) → demanded_value w (of_nodes ns) ≡ demand_of w (of_nodes ns)
told_nodes demand.Exists ns = refl
told_nodes demand.Count ns = refl
told_nodes demand.Single ns = refl
told_nodes demand.Values ns = refl

pub told_one : (w : Demand) (o : Option Tree) → demanded_value w (of_value o) ≡ o
told_one demand.Exists o = refl
told_one demand.Count o = refl
told_one demand.Single o = refl
told_one demand.Values o = refl

part_told : (w : Demand) (p : ConstantPart) (d : Document) (n : Node) → IsTrue (fits w p) → IsTrue (part_is_rooted p) → given_value (Some (result_of p d)) ≡ demanded_value w (argued (argument_in w p) d n)
part_told w (nodes v q) d n f h =
    let same = same_query w v q no_segments f in
    wanted_given v (of_nodes (nodelist q d)) ∙ ap (λ u. demand_of u (of_nodes (nodelist q d))) (sym same.0) ∙ ap (λ r. demand_of w (of_nodes (nodelist r d))) (sym same.1) ∙ sym (told_nodes w _)
part_told w (call_result c) d n f h = call_same c d (root_node d.root) n h ∙ sym (told_one w _)
part_told w (compared c) d n f h = ap (λ b. Some (truth b)) (filter_same c d (root_node d.root) n h) ∙ sym (told_one w _)

part_trees : (p : ConstantPart) (d : Document) (n : Node) → IsTrue (fits demand.Values p) → IsTrue (part_is_rooted p) → trees_in (result_of p d) ≡ as_trees (argued (argument_in demand.Values p) d n)
part_trees (nodes demand.Values q) d n f h = refl
part_trees (nodes demand.Exists q) d n f h = absurd cc
part_trees (nodes demand.Count q) d n f h = absurd cc
part_trees (nodes demand.Single q) d n f h = absurd cc
part_trees (call_result c) d n f h = ap option_to_list (call_same c d (root_node d.root) n h)
part_trees (compared c) d n f h = ap (λ b. truth b ∷ []) (filter_same c d (root_node d.root) n h)

-- the value of what was wanted
pub kept_told : (constants : Constants) (k : ℕ) (w : Demand) (d : Document) (n : Node) → AreRooted constants → IsTrue (fits w (part_at constants k)) → given_value (Some (result_of (part_at constants k) d)) ≡ demanded_value w (argued (argument_at constants w k) d n)
kept_told constants k w d n h f = part_told w (part_at constants k) d n f (part_rooted constants k h)

-- the values of its nodes
pub kept_trees : (constants : Constants) (k : ℕ) (d : Document) (n : Node) → AreRooted constants → IsTrue (fits demand.Values (part_at constants k)) → trees_in (result_of (part_at constants k) d) ≡ as_trees (argued (argument_at constants demand.Values k) d n)
kept_trees constants k d n h f = part_trees (part_at constants k) d n f (part_rooted constants k h)

-- ---- what tests true

pub told_truth : (e : Evaluated) → is_true (demanded_value demand.Exists e) ≡ as_truth e
told_truth (of_value o) = refl
told_truth (of_nodes ns) = refl

same_truth : (t : Tree) → compares equal (Some t) (Some (truth true)) ≡ is_true (Some t)
same_truth null = refl
same_truth (truth true) = refl
same_truth (truth false) = refl
same_truth (number k) = refl
same_truth (text s) = refl
same_truth (list ts) = refl
same_truth (object ms) = refl

pub truth_held : (a : Argument) (d : Document) (n : Node) → holds (truth_of a) d n ≡ as_truth (argued a d n)
truth_held (test_argument t) d n = refl
truth_held (filter_argument f) d n = refl
truth_held (literal_argument l) d n = same_truth (literal_tree l)

pub asked_held : (t : Bool) (a : Argument) (d : Document) (n : Node) → holds (asked t a) d n ≡ negated t (as_truth (argued a d n))
asked_held t (test_argument q) d n = refl
asked_held t (filter_argument f) d n = ap (negated t) (truth_held (filter_argument f) d n)
asked_held t (literal_argument l) d n = ap (negated t) (truth_held (literal_argument l) d n)

-- ---- what is asked of it

pub fit_patterns : (w : Demand) (p : ConstantPart) → IsTrue (fits w p) → argument_patterns (argument_in w p) ≡ part_patterns p
fit_patterns w (nodes v q) f = ap segments_patterns (same_query w v q no_segments f).1
fit_patterns w (call_result c) f = refl
fit_patterns w (compared c) f = refl
