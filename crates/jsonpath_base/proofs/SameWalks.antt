-- Two values walked side by side: what is left to compare in each loop of `same`, of any type of document, and that a walk in the order of names decides objects.
use Rattle.std.proofs.Common.{◌⊎◌, inl, inr, Ordering, Less, Equal, Greater, ◌≡◌, ◌≢◌, ◌+◌, ◌<◌, ◌≤◌, ℕ, suc, List, [], ◌∷◌, length, None, All, String, Vec, BTreeMap, Global, string_bytes, string_cmp, nat_cmp, bytes_eq, Bool, true, false, not, IsTrue, ◌&&◌, refl, sym, ap, ◌∙◌, subst, arith, le_trans}
use Rattle.std.proofs.Math.Bool.{and_assoc, and-false}
use Rattle.std.proofs.lemmas.Cmp.{nat_list_cmp_total}
use Rattle.std.proofs.lemmas.List.Elements.{All-head, All-tail}
use Rattle.std.proofs.lemmas.Map.Text.{is_eq-slice_cmp}
use Rattle.jsonpath_base.specs.Prelude.{AllByRecursion, Array, find, has_name, is_eq, IsStrictlySortedBy, items_view, keys_of, list, list_all, member, Members, members_of, members_view, no_members, no_trees, null, number, Object, object, ordering_reverse, pairs, same, same_members, same_trees, slice_cmp, text, Tree, tree, Trees, trees_of, truth, Value, value_is_whole, value_tree}
use Rattle.serde_json.proofs.Views.{Entry, view-Array, view-Object}
use Rattle.jsonpath_base.proofs.Views.{data_whole, all_items_whole, all_members_whole, object_members_whole}

-- ---- parts of whole values

pub array_items_whole : (v : Value) (a : Vec Value Global) → v ≡ Array a → IsTrue (value_is_whole v) → All (λ x. IsTrue (value_is_whole x)) a.items
array_items_whole v a e h = all_items_whole a.items (subst (λ d. data_whole d ≡ true) (view-Array a) (subst (λ x. IsTrue (value_is_whole x)) e h))

pub object_entries_whole : (v : Value) (m : BTreeMap (String Global) Value) → v ≡ Object m → IsTrue (value_is_whole v) → All (λ e. IsTrue (value_is_whole e.1)) m.entries
object_entries_whole v m e h =
    all_members_whole m.entries (object_members_whole (members_view m.entries) (subst (λ d. data_whole d ≡ true) (view-Object m) (subst (λ x. IsTrue (value_is_whole x)) e h)))

-- ---- what the recursion goes down by

abbrev mutual
  pub weight : Tree → ℕ
  weight null = 0
  weight (truth b) = 0
  weight (number n) = 0
  weight (text s) = 0
  weight (list ts) = suc (trees_weight ts)
  weight (object ms) = suc (members_weight ms)

  pub trees_weight : Trees → ℕ
  trees_weight no_trees = 0
  trees_weight (tree t ts) = suc (weight t + trees_weight ts)

  pub members_weight : Members → ℕ
  members_weight no_members = 0
  members_weight (member k t ms) = suc (weight t + members_weight ms)

-- the trees of a list of values, and the members of a map's entries
abbrev pub trees : List Value → Trees
trees vs = trees_of (items_view vs)

abbrev pub members : List Entry → Members
members es = members_of (members_view es)

pub array_weight : (v : Value) (a : Vec Value Global) → v ≡ Array a → trees_weight (trees a.items) < weight (value_tree v)
array_weight v a e = rw (e, view-Array a) (omega arith)

pub object_weight : (v : Value) (m : BTreeMap (String Global) Value) → v ≡ Object m → members_weight (members m.entries) < weight (value_tree v)
object_weight v m e = rw (e, view-Object m) (omega arith)

-- ---- two lists that are walked side by side

-- the answer for all is the answer for those that are left, which weigh no more
pub record ToCompare {E : Type 0} (Fits : E → Type 0) (all : Bool) (most : ℕ) (answer_of : List E → List E → Bool) (weight_of : List E → ℕ) (left right : List E) : Type 0 where
  pub answer : all ≡ answer_of left right
  pub long : length left ≡ length right
  pub lighter : weight_of left ≤ most
  pub left_fit : All Fits left
  pub right_fit : All Fits right

module _ {E : Type 0} {F : E → Type 0} {b : Bool} {n : ℕ} {a : List E → List E → Bool} {w : List E → ℕ} where
  -- before the first turn
  pub compare_first : (xs ys left right : List E) → b ≡ a xs ys → w xs ≤ n → All F xs → All F ys → left ≡ xs → right ≡ ys → length xs ≡ length ys → ToCompare F b n a w left right
  compare_first xs ys left right i m f g e h l = record {
    answer = i ∙ sym (rw (e, h));
    long = ap length e ∙ l ∙ sym (ap length h);
    lighter = subst (λ vs. w vs ≤ n) (sym e) m;
    left_fit = subst (All F) (sym e) f;
    right_fit = subst (All F) (sym h) g;
  }

  pub compare_here : {left right xs ys : List E} → ToCompare F b n a w left right → left ≡ xs → right ≡ ys → ToCompare F b n a w xs ys
  compare_here {left} {ys} c e h = subst (λ vs. ToCompare F b n a w vs ys) e (subst (ToCompare F b n a w left) h c)

  pub compare_fit : {more rest : List E} {x y : E} → ToCompare F b n a w (x ∷ more) (y ∷ rest) → F x × F y
  compare_fit {more} {rest} {x} {y} c = (All-head F x more c.left_fit, All-head F y rest c.right_fit)

  -- where the first two decide nothing
  pub compare_next : {more rest : List E} {x y : E} → ToCompare F b n a w (x ∷ more) (y ∷ rest) → a (x ∷ more) (y ∷ rest) ≡ a more rest → w more ≤ w (x ∷ more) → ToCompare F b n a w more rest
  compare_next {more} {rest} {x} {y} c i m = record {
    answer = c.answer ∙ i;
    long = let l = c.long in omega (arith, l);
    lighter = le_trans m c.lighter;
    left_fit = All-tail F x more c.left_fit;
    right_fit = All-tail F y rest c.right_fit;
  }

  pub compare_end : (left right : List E) → ToCompare F b n a w left right → (length left ≡ 0) ⊎ (length right ≡ 0) → b ≡ a [] []
  compare_end [] [] c h = c.answer
  compare_end [] (y ∷ ys) c h = absurd (let l = c.long in omega (arith, l))
  compare_end (x ∷ xs) [] c h = absurd (let l = c.long in omega (arith, l))
  compare_end (x ∷ xs) (y ∷ ys) c h = absurd (elim h [ inl p ↦ omega (arith, p) | inr p ↦ omega (arith, p) ])

pub and_then : (x y : Bool) → true ≡ x → (x && y) ≡ y
and_then x y e = rw (← e) refl

-- ---- two lists of values

abbrev pub ItemsToCompare : (xs ys left right : List Value) → Type 0
ItemsToCompare xs ys = ToCompare (λ v. IsTrue (value_is_whole v)) (same_trees (trees xs) (trees ys)) (trees_weight (trees xs)) (λ l r. same_trees (trees l) (trees r)) (λ l. trees_weight (trees l))

-- lists of two lengths are not the same
pub other_length : (xs ys : List Value) → length xs ≢ length ys → false ≡ same_trees (trees xs) (trees ys)
other_length [] [] h = absurd (h refl)
other_length [] (y ∷ ys) h = refl
other_length (x ∷ xs) [] h = refl
other_length (x ∷ xs) (y ∷ ys) h =
    let shorter : length xs ≢ length ys = λ e. h (omega (arith, e)) in
    rw (← other_length xs ys shorter) (sym (and-false (same (value_tree x) (value_tree y))))

-- ---- two objects, whose names ascend

-- a name below all names
abbrev pub IsBelow : List ℕ → Members → Type 0
IsBelow k no_members = Unit {0}
IsBelow k (member l t ms) = (slice_cmp nat_cmp k l ≡ Less) × IsBelow k ms

abbrev pub Ascends : Members → Type 0
Ascends no_members = Unit {0}
Ascends (member k t ms) = IsBelow k ms × Ascends ms

-- side by side
abbrev pub walk : Members → Members → Bool
walk no_members no_members = true
walk (member k t ms) (member l u ns) = bytes_eq k l && (same t u && walk ms ns)
walk _ _ = false

above : (k l : List ℕ) → slice_cmp nat_cmp k l ≡ Less → slice_cmp nat_cmp l k ≡ Greater
above k l h = nat_list_cmp_total.antisymm l k ∙ ap ordering_reverse h

unequal : (k l : List ℕ) → slice_cmp nat_cmp k l ≡ Less → bytes_eq k l ≡ false
unequal k l h = sym (is_eq-slice_cmp k l) ∙ ap is_eq h

unequal_above : (k l : List ℕ) → slice_cmp nat_cmp k l ≡ Greater → bytes_eq k l ≡ false
unequal_above k l h = sym (is_eq-slice_cmp k l) ∙ ap is_eq h

below_more : (k l : List ℕ) (ms : Members) → slice_cmp nat_cmp k l ≡ Less → IsBelow l ms → IsBelow k ms
below_more k l no_members h b = tt
below_more k l (member m t ms) h b = (nat_list_cmp_total.trans k l m h b.0, below_more k l ms h b.1)

find_below : (k : List ℕ) (ms : Members) → IsBelow k ms → find k (pairs ms) ≡ None
find_below k no_members b = refl
find_below k (member l t ms) b = rw (unequal k l b.0) (find_below k ms b.1)

-- a member below all names is none that they ask for
same_members_below : (ms : Members) (l : List ℕ) (u : Tree) (ns : Members) → IsBelow l ms → same_members ms (pairs (member l u ns)) ≡ same_members ms (pairs ns)
same_members_below no_members l u ns b = refl
same_members_below (member k t ms) l u ns b = rw (unequal_above k l (above l k b.0), same_members_below ms l u ns b.1)

names_below : (k : List ℕ) (t : Tree) (ms ns : Members) → IsBelow k ns → list_all (λ n. has_name (pairs (member k t ms)) n.0) (pairs ns) ≡ list_all (λ n. has_name (pairs ms) n.0) (pairs ns)
names_below k t ms no_members b = refl
names_below k t ms (member l u ns) b = rw (unequal_above l k (above k l b.0), names_below k t ms ns b.1)

below_alike : (k l : List ℕ) (ms : Members) → slice_cmp nat_cmp k l ≡ Equal → IsBelow k ms → IsBelow l ms
below_alike k l no_members h b = tt
below_alike k l (member m t ms) h b = (sym (nat_list_cmp_total.congr k l m h) ∙ b.0, below_alike k l ms h b.1)

walk_step : (o : Ordering) (k : List ℕ) (t : Tree) (ms : Members) (l : List ℕ) (u : Tree) (ns : Members) → slice_cmp nat_cmp k l ≡ o → IsBelow k ms → IsBelow l ns
    → same (object ms) (object ns) ≡ walk ms ns → same (object (member k t ms)) (object (member l u ns)) ≡ walk (member k t ms) (member l u ns)
walk_step Less k t ms l u ns e b c more = rw (unequal k l e, find_below k ns (below_more k l ns e c))
walk_step Equal k t ms l u ns e b c more =
    let back : slice_cmp nat_cmp l k ≡ Equal = nat_list_cmp_total.antisymm l k ∙ ap ordering_reverse e in
    let equal : bytes_eq k l ≡ true = sym (is_eq-slice_cmp k l) ∙ ap is_eq e in
    let equal_back : bytes_eq l k ≡ true = sym (is_eq-slice_cmp l k) ∙ ap is_eq back in
    rw (equal, equal_back, same_members_below ms l u ns (below_alike k l ms e b), names_below k t ms ns (below_alike l k ns back c))
    (and_assoc (same t u) (same_members ms (pairs ns)) _ ∙ ap (λ b. same t u && b) more)
walk_step Greater k t ms l u ns e b c more =
    let less : slice_cmp nat_cmp l k ≡ Less = nat_list_cmp_total.antisymm l k ∙ ap ordering_reverse e in
    rw (unequal_above k l e, unequal l k less, find_below l ms (below_more l k ms less b)) (and-false _)

-- where names ascend, a walk side by side tells whether two objects are the same
pub walk_same : (ms ns : Members) → Ascends ms → Ascends ns → same (object ms) (object ns) ≡ walk ms ns
walk_same no_members no_members a b = refl
walk_same no_members (member l u ns) a b = refl
walk_same (member k t ms) no_members a b = refl
walk_same (member k t ms) (member l u ns) a b = walk_step (slice_cmp nat_cmp k l) k t ms l u ns refl a.0 b.0 (walk_same ms ns a.1 b.1)

below_entries : (k : String Global) (es : List Entry) → AllByRecursion (λ l. string_cmp k l ≡ Less) (keys_of es) → IsBelow (string_bytes k) (members es)
below_entries k [] h = tt
below_entries k (e ∷ es) h = (h.0, below_entries k es h.1)

ascends : (es : List Entry) → IsStrictlySortedBy string_cmp (keys_of es) → Ascends (members es)
unfolding IsStrictlySortedBy
ascends [] h = tt
ascends (e ∷ es) h = (below_entries e.0 es h.0, ascends es h.1)

abbrev pub EntriesToCompare : (xs ys left right : List Entry) → Type 0
EntriesToCompare xs ys = ToCompare (λ e. IsTrue (value_is_whole e.1)) (same (object (members xs)) (object (members ys))) (members_weight (members xs)) (λ l r. walk (members l) (members r)) (λ l. members_weight (members l))

pub entries_walk : (xs ys : List Entry) → IsStrictlySortedBy string_cmp (keys_of xs) → IsStrictlySortedBy string_cmp (keys_of ys) → same (object (members xs)) (object (members ys)) ≡ walk (members xs) (members ys)
entries_walk xs ys a b = walk_same (members xs) (members ys) (ascends xs a) (ascends ys b)

walk_length : (xs ys : List Entry) → length xs ≢ length ys → walk (members xs) (members ys) ≡ false
walk_length [] [] h = absurd (h refl)
walk_length [] (y ∷ ys) h = refl
walk_length (x ∷ xs) [] h = refl
walk_length (x ∷ xs) (y ∷ ys) h =
    let shorter : length xs ≢ length ys = λ e. h (omega (arith, e)) in
    rw (walk_length xs ys shorter, and-false (same (value_tree x.1) (value_tree y.1))) (and-false _)

-- objects with other numbers of members are not the same
pub other_count : (xs ys : List Entry) → IsStrictlySortedBy string_cmp (keys_of xs) → IsStrictlySortedBy string_cmp (keys_of ys) → length xs ≢ length ys → false ≡ same (object (members xs)) (object (members ys))
other_count xs ys a b h = sym (entries_walk xs ys a b ∙ walk_length xs ys h)

-- ---- answers of a test

pub not_true : (b : Bool) → true ≡ not b → b ≡ false
not_true true h = h
not_true false h = refl

pub not_false : (b : Bool) → false ≡ not b → b ≡ true
not_false true h = refl
not_false false h = h
