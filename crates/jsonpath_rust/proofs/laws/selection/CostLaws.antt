-- What a value costs, by its kind, and what a loop over its parts finds.
use Rattle.std.proofs.Common.{◌≡◌, ℕ, suc, min, ◌+◌, ◌-◌, ◌/◌, ◌<◌, ◌≤◌, map, get_or, drop, drop-cons, add-one, List, [], ◌∷◌, length, refl, sym, ◌∙◌, ap, arith, Option, Some, None, option_map, unwrap_or}
use Rattle.jsonpath_base.specs.Prelude.Documents.{as_list, as_members, elements, list, member, Members, no_members, no_trees, null, number, object, pairs, text, Tree, tree, Trees, truth}
use Rattle.jsonpath_rust.specs.Prelude.Selection.{cost, elements_cost, members_cost, pairs_cost, trees_cost}

trees-elements : (ts : Trees) → trees_cost ts ≡ elements_cost (elements ts)
trees-elements no_trees = refl
trees-elements (tree t ts) = ap (λ n. cost t + n) (trees-elements ts)

members-pairs : (ms : Members) → members_cost ms ≡ pairs_cost (pairs ms)
members-pairs no_members = refl
members-pairs (member k t ms) = ap (λ n. length k / 16 + (cost t + n)) (members-pairs ms)

-- each value costs something
pub some_cost : (t : Tree) → 1 ≤ cost t
some_cost null = omega arith
some_cost (truth b) = omega arith
some_cost (number n) = omega arith
some_cost (text s) = omega arith
some_cost (list ts) = omega arith
some_cost (object ms) = omega arith

pub list_cost : (t : Tree) (ts : List Tree) → Some ts ≡ as_list t → cost t ≡ elements_cost ts + 1
list_cost (list us) ts h = ap (λ n. n + 1) (trees-elements us ∙ sym (ap cost_or h))
  where
    cost_or : Option (List Tree) → ℕ
    cost_or None = 0
    cost_or (Some vs) = elements_cost vs
list_cost null ts h = absurd cc
list_cost (truth b) ts h = absurd cc
list_cost (number n) ts h = absurd cc
list_cost (text s) ts h = absurd cc
list_cost (object ms) ts h = absurd cc

pub object_cost : (t : Tree) (ms : List (List ℕ × Tree)) → Some ms ≡ as_members t → cost t ≡ pairs_cost ms + 1
object_cost (object us) ms h = ap (λ n. n + 1) (members-pairs us ∙ sym (ap cost_or h))
  where
    cost_or : Option (List (List ℕ × Tree)) → ℕ
    cost_or None = 0
    cost_or (Some vs) = pairs_cost vs
object_cost null ms h = absurd cc
object_cost (truth b) ms h = absurd cc
object_cost (number n) ms h = absurd cc
object_cost (text s) ms h = absurd cc
object_cost (list ts) ms h = absurd cc

-- each member costs something
pub many_pairs : (ms : List (List ℕ × Tree)) → length ms ≤ pairs_cost ms
many_pairs [] = omega arith
many_pairs (m ∷ ms) = omega (arith, many_pairs ms, some_cost m.1)

pub inside_many : (t : Tree) (o : Option ℕ) → o ≡ option_map (λ ms. length ms) (as_members t) → unwrap_or o 0 ≤ cost t - 1
inside_many t o e = by_members (as_members t) refl
  where
    by_members : (m : Option (List (List ℕ × Tree))) → m ≡ as_members t → unwrap_or o 0 ≤ cost t - 1
    by_members None h = omega (arith, ap (λ x. unwrap_or x 0) (e ∙ ap (option_map (λ ms. length ms)) (sym h)))
    by_members (Some ms) h = omega (arith, ap (λ x. unwrap_or x 0) (e ∙ ap (option_map (λ ns. length ns)) (sym h)), object_cost t ms h, many_pairs ms)

pub many_mapped : {X : Type 0} (pair : X → List ℕ × Tree) (xs : List X) → length xs ≤ pairs_cost (map pair xs)
many_mapped pair [] = omega arith
many_mapped pair (x ∷ xs) = omega (arith, many_mapped pair xs, some_cost (pair x).1)

-- the cost of the members from a place on
pub pairs_from : {X : Type 0} (pair : X → List ℕ × Tree) (xs : List X) (i : ℕ) (x : X) → i < length xs → x ≡ get_or xs i x → pairs_cost (map pair (drop i xs)) ≡ length (pair x).0 / 16 + (cost (pair x).1 + pairs_cost (map pair (drop (i + 1) xs)))
pairs_from pair xs i x h e = ap (λ ys. pairs_cost (map pair ys)) (drop-cons xs i x h) ∙ ap (λ y. pairs_cost (map pair (y ∷ drop (suc i) xs))) (sym e) ∙ ap (λ j. pairs_cost (map pair (x ∷ drop j xs))) (sym (add-one i))

-- where each member counts one from the beginning: at first, and a member further
pub counted_first : (pairs size listed most : ℕ) → size ≡ min listed most → listed ≤ pairs → min (size + pairs) (most + listed) ≡ min (pairs + listed) (most + listed)
counted_first pairs size listed most e h = omega (arith, e, h)

pub counted_next : (pairs rest all listed left size with_name name value inside most new : ℕ) → min (size + pairs) (most + listed) ≡ min (all + listed) (most + listed) → pairs ≡ name + (value + rest) → listed ≡ left + 1 → left ≤ rest → 1 ≤ value → with_name ≡ size + name → with_name < most → inside ≡ min (value - 1) (most - with_name) → new ≡ with_name + inside → min (new + rest) (most + left) ≡ min (all + left) (most + left)
counted_next pairs rest all listed left size with_name name value inside most new sum p l m v w b i n = omega (arith, sum, p, l, m, v, w, b, i, n)

pub counted_enough : (pairs rest all listed left size name value most : ℕ) → min (size + pairs) (most + listed) ≡ min (all + listed) (most + listed) → pairs ≡ name + (value + rest) → listed ≡ left + 1 → left ≤ rest → 1 ≤ value → most ≤ size + name → most ≡ min all most
counted_enough pairs rest all listed left size name value most sum p l m v b = omega (arith, sum, p, l, m, v, b)

pub counted_all : (pairs all listed size most : ℕ) → min (size + pairs) (most + listed) ≡ min (all + listed) (most + listed) → pairs ≡ 0 → listed ≡ 0 → size ≤ most → size ≡ min all most
counted_all pairs all listed size most sum p l w = omega (arith, sum, p, l, w)
