-- Marks that are put in order.
use Rattle.std.proofs.Common.{◌≡◌, ℕ, zero, suc, ◌+◌, ◌≤◌, ◌<◌, List, [], ◌∷◌, ◌++◌, map, length, take, drop, set, get_or, Bool, true, false, true≢false, ◌&&◌, ◌||◌, if◌then◌else◌, None, Ordering, Less, Equal, Greater, nat_cmp, string_cmp, String, Global, Vec, Result, Ok, Err, OnOk, ◌⊎◌, inl, inr, refl, sym, ap, ap₂, ◌∙◌, subst, rules, arith}
use Rattle.std.proofs.lemmas.Bool.{and_parts, and_from, cases_lt}
use Rattle.std.proofs.lemmas.Map.Keys.{sorted_from_all_adjacent}
use Rattle.std.proofs.lemmas.List.{drop_more, take_more_set, drop-set-lt}
use Rattle.std.proofs.lemmas.List.Folds.{list_all-append, list_all-map}
use Rattle.jsonpath_base.specs.Prelude.{AllByRecursion, distinct_count, in_order, index, is_among, is_key, is_lt, is_same_step, IsJoined, IsSameSet, IsStrictlySortedBy, keys_of, level_in_order, list_all, listed, listed_in, Location, lookup, marked, marked_in, LocationTrie, marks_count, marks_total, name, out-LocationTrie, Step, TestsSteps, the_lemmas, to_member}
use Rattle.std.specs.Cmp.{IsTotalOrder}
use Rattle.jsonpath_base.specs.inner.LocationTries.{keys_rise}
use Rattle.jsonpath_base.proofs.Marking.{in_here, in_step, in_append, parts, parts_here, parts_member, parts_element, rolled, listed_out, listed_rolled, count_out, count_rolled, are_keys, AreKeys}
use Rattle.jsonpath_base.proofs.Counting.{counts, level_count, parts_count}

-- ---- keys that rise

all_less : {K A : Type 0} (compare : K → K → Ordering) (k : K) (es : List (K × A)) → AllByRecursion (λ l. compare k l ≡ Less) (keys_of es) → list_all (λ x. is_lt (compare k x.0)) es ≡ true
all_less compare k [] h = refl
all_less compare k (e ∷ es) h = rw h.0 (all_less compare k es h.1)

rise_from : {K A : Type 0} (compare : K → K → Ordering) (es : List (K × A)) → IsStrictlySortedBy compare (keys_of es) → keys_rise compare es ≡ true
unfolding IsStrictlySortedBy
rise_from compare [] h = refl
rise_from compare (e ∷ es) h = and_from _ _ (all_less compare e.0 es h.0) (rise_from compare es h.1)

is_less : (o : Ordering) → is_lt o ≡ true → o ≡ Less
is_less Less h = refl
is_less Equal h = absurd (true≢false (sym h))
is_less Greater h = absurd (true≢false (sym h))

less_all : {K A : Type 0} (compare : K → K → Ordering) (k : K) (es : List (K × A)) → list_all (λ x. is_lt (compare k x.0)) es ≡ true → AllByRecursion (λ l. compare k l ≡ Less) (keys_of es)
less_all compare k [] h = tt
less_all compare k (e ∷ es) h = let both = and_parts (is_lt (compare k e.0)) (list_all (λ x. is_lt (compare k x.0)) es) h in (is_less (compare k e.0) both.0, less_all compare k es both.1)

pub rise_sorted : {K A : Type 0} (compare : K → K → Ordering) (es : List (K × A)) → keys_rise compare es ≡ true → IsStrictlySortedBy compare (keys_of es)
unfolding IsStrictlySortedBy
rise_sorted compare [] h = tt
rise_sorted compare (e ∷ es) h =
    let both = and_parts (list_all (λ x. is_lt (compare e.0 x.0)) es) (keys_rise compare es) h in
    (less_all compare e.0 es both.0, rise_sorted compare es both.1)

-- ---- marks by their levels

rise-map : {K A B : Type 0} (compare : K → K → Ordering) (f : A → B) (es : List (K × A)) → keys_rise compare (map (λ e. (e.0, f e.1)) es) ≡ keys_rise compare es
rise-map compare f [] = refl
rise-map compare f (e ∷ es) = ap₂ (λ a b. a && b) (list_all-map (λ x. is_lt (compare e.0 x.0)) (λ x. (x.0, f x.1)) es) (rise-map compare f es)

level-map : {K : Type 0} (compare : K → K → Ordering) (es : List (K × LocationTrie)) → (keys_rise compare (map (λ e. (e.0, in_order e.1)) es) && list_all (λ (p : K × Bool). p.1) (map (λ e. (e.0, in_order e.1)) es)) ≡ level_in_order compare es
level-map {K} compare es = ap₂ (λ a b. a && b) (rise-map compare in_order es) (list_all-map (λ (e : K × Bool). e.1) (λ e. (e.0, in_order e.1)) es)

order_further : (m : LocationTrie) → in_order m
    ≡ ((keys_rise string_cmp (map (λ e. (e.0, in_order e.1)) (out-LocationTrie m).names.items) && list_all (λ (p : String Global × Bool). p.1) (map (λ e. (e.0, in_order e.1)) (out-LocationTrie m).names.items))
    && (keys_rise nat_cmp (map (λ e. (e.0, in_order e.1)) (out-LocationTrie m).indexes.items) && list_all (λ (p : ℕ × Bool). p.1) (map (λ e. (e.0, in_order e.1)) (out-LocationTrie m).indexes.items)))
order_further m = search (rules, the_lemmas)

pub order_out : (m : LocationTrie) → in_order m ≡ (level_in_order string_cmp (out-LocationTrie m).names.items && level_in_order nat_cmp (out-LocationTrie m).indexes.items)
order_out m = order_further m ∙ ap₂ (λ a b. a && b) (level-map string_cmp (out-LocationTrie m).names.items) (level-map nat_cmp (out-LocationTrie m).indexes.items)

rolled_order : (b : Bool) (ns : Vec (String Global × LocationTrie) Global) (is : Vec (ℕ × LocationTrie) Global) → in_order (rolled b ns is)
    ≡ ((keys_rise string_cmp (map (λ e. (e.0, in_order e.1)) ns.items) && list_all (λ (p : String Global × Bool). p.1) (map (λ e. (e.0, in_order e.1)) ns.items))
    && (keys_rise nat_cmp (map (λ e. (e.0, in_order e.1)) is.items) && list_all (λ (p : ℕ × Bool). p.1) (map (λ e. (e.0, in_order e.1)) is.items)))
rolled_order b ns is = search (rules, the_lemmas)

pub order_rolled : (b : Bool) (ns : Vec (String Global × LocationTrie) Global) (is : Vec (ℕ × LocationTrie) Global) → level_in_order string_cmp ns.items ≡ true → level_in_order nat_cmp is.items ≡ true → in_order (rolled b ns is) ≡ true
order_rolled b ns is e f = rolled_order b ns is ∙ ap₂ (λ a b. a && b) (level-map string_cmp ns.items ∙ e) (level-map nat_cmp is.items ∙ f)

same_in : (b : Bool) (ns new_ns : List (String Global × LocationTrie)) (is new_is : List (ℕ × LocationTrie)) → IsSameSet (marked_in to_member ns) (marked_in to_member new_ns) → IsSameSet (marked_in index is) (marked_in index new_is)
    → (l : Location) → is_among (parts b new_ns new_is) l ≡ is_among (parts b ns is) l
same_in b ns new_ns is new_is f g [] = parts_here b new_ns new_is ∙ sym (parts_here b ns is)
same_in b ns new_ns is new_is f g (name k ∷ l) = parts_member b new_ns new_is k l ∙ f.each (name k ∷ l) ∙ sym (parts_member b ns is k l)
same_in b ns new_ns is new_is f g (index i ∷ l) = parts_element b new_ns new_is i l ∙ g.each (index i ∷ l) ∙ sym (parts_element b ns is i l)

pub same_rolled : (m : LocationTrie) (ns : Vec (String Global × LocationTrie) Global) (is : Vec (ℕ × LocationTrie) Global) → IsSameSet (marked_in to_member (out-LocationTrie m).names.items) (marked_in to_member ns.items) → IsSameSet (marked_in index (out-LocationTrie m).indexes.items) (marked_in index is.items)
    → IsSameSet (marked m) (marked (rolled (out-LocationTrie m).is_marked ns is))
same_rolled m ns is f g = record {
  each = λ l. ap (λ x. is_among x l) (listed_rolled (out-LocationTrie m).is_marked ns is)
      ∙ same_in (out-LocationTrie m).is_marked (out-LocationTrie m).names.items ns.items (out-LocationTrie m).indexes.items is.items f g l ∙ ap (λ x. is_among x l) (sym (listed_out m));
}

pub count_of_rolled : (b : Bool) (ns : Vec (String Global × LocationTrie) Global) (is : Vec (ℕ × LocationTrie) Global) (n h i j : ℕ) → n ≡ h + (i + j) → h ≡ (if b then 1 else 0) → i ≡ distinct_count (listed_in to_member ns.items) → j ≡ distinct_count (listed_in index is.items)
    → n ≡ distinct_count (listed (rolled b ns is))
count_of_rolled b ns is n h i j e f g k = e ∙ ap₂ (λ x y. x + y) f (ap₂ (λ x y. x + y) g k) ∙ sym (parts_count b ns.items is.items) ∙ ap distinct_count (sym (listed_rolled b ns is))

-- ---- joined marks

pub out_names : (b : Bool) (ns : Vec (String Global × LocationTrie) Global) (is : Vec (ℕ × LocationTrie) Global) → (out-LocationTrie (rolled b ns is)).names ≡ ns
out_names b ns is = search (rules, the_lemmas)

pub out_indexes : (b : Bool) (ns : Vec (String Global × LocationTrie) Global) (is : Vec (ℕ × LocationTrie) Global) → (out-LocationTrie (rolled b ns is)).indexes ≡ is
out_indexes b ns is = search (rules, the_lemmas)

pub out_here : (b : Bool) (ns : Vec (String Global × LocationTrie) Global) (is : Vec (ℕ × LocationTrie) Global) → (out-LocationTrie (rolled b ns is)).is_marked ≡ b
out_here b ns is = search (rules, the_lemmas)

four : (a b c d : Bool) → ((a || b) || (c || d)) ≡ ((a || c) || (b || d))
four true b c d = refl
four false true true d = refl
four false true false d = refl
four false false c d = refl

join_in : (a b : Bool) (ns ms : List (String Global × LocationTrie)) (is js : List (ℕ × LocationTrie)) (l : Location) → is_among (parts (a || b) (ns ++ ms) (is ++ js)) l ≡ (is_among (parts a ns is) l || is_among (parts b ms js) l)
join_in a b ns ms is js [] = parts_here (a || b) (ns ++ ms) (is ++ js) ∙ sym (ap₂ (λ x y. x || y) (parts_here a ns is) (parts_here b ms js))
join_in a b ns ms is js (name k ∷ l) = parts_member (a || b) (ns ++ ms) (is ++ js) k l ∙ in_append to_member ns ms (name k ∷ l) ∙ sym (ap₂ (λ x y. x || y) (parts_member a ns is k l) (parts_member b ms js k l))
join_in a b ns ms is js (index i ∷ l) = parts_element (a || b) (ns ++ ms) (is ++ js) i l ∙ in_append index is js (index i ∷ l) ∙ sym (ap₂ (λ x y. x || y) (parts_element a ns is i l) (parts_element b ms js i l))

pub joined_rolled : (m other : LocationTrie) (b : Bool) (ns : Vec (String Global × LocationTrie) Global) (is : Vec (ℕ × LocationTrie) Global) → b ≡ ((out-LocationTrie m).is_marked || (out-LocationTrie other).is_marked)
    → ns.items ≡ (out-LocationTrie m).names.items ++ (out-LocationTrie other).names.items → is.items ≡ (out-LocationTrie m).indexes.items ++ (out-LocationTrie other).indexes.items → IsJoined (marked m) (marked other) (marked (rolled b ns is))
joined_rolled m other b ns is e f g = record {
  each = λ l. ap (λ x. is_among x l) (listed_rolled b ns is) ∙ ap (λ x. is_among (parts x ns.items is.items) l) e ∙ ap₂ (λ x y. is_among (parts ((out-LocationTrie m).is_marked || (out-LocationTrie other).is_marked) x y) l) f g
      ∙ join_in (out-LocationTrie m).is_marked (out-LocationTrie other).is_marked (out-LocationTrie m).names.items (out-LocationTrie other).names.items (out-LocationTrie m).indexes.items (out-LocationTrie other).indexes.items l
      ∙ ap₂ (λ x y. is_among x l || is_among y l) (sym (listed_out m)) (sym (listed_out other));
}

pub total-append : {K : Type 0} (es fs : List (K × LocationTrie)) → marks_total (es ++ fs) ≡ marks_total es + marks_total fs
total-append [] fs = omega arith
total-append (e ∷ es) fs = omega (arith, total-append es fs)

pub fewer_rolled : (m other : LocationTrie) (b : Bool) (ns : Vec (String Global × LocationTrie) Global) (is : Vec (ℕ × LocationTrie) Global)
    → ns.items ≡ (out-LocationTrie m).names.items ++ (out-LocationTrie other).names.items → is.items ≡ (out-LocationTrie m).indexes.items ++ (out-LocationTrie other).indexes.items → marks_count (rolled b ns is) + 1 ≤ marks_count m + marks_count other
fewer_rolled m other b ns is f g =
    omega (arith, count_rolled b ns is, count_out m, count_out other, ap marks_total f, ap marks_total g, total-append (out-LocationTrie m).names.items (out-LocationTrie other).names.items, total-append (out-LocationTrie m).indexes.items (out-LocationTrie other).indexes.items)

-- ---- the entries of a level, one after the other

-- those in front are in order, and the others as they were
pub record Sofar {K : Type 0} (to : K → Step) (start now : List (K × LocationTrie)) (i count : ℕ) : Type 0 where
  pub keys : keys_of now ≡ keys_of start
  pub size : length now ≡ length start
  pub same : IsSameSet (marked_in to start) (marked_in to now)
  pub ordered : list_all (λ e. in_order e.1) (take i now) ≡ true
  pub counted : count ≡ counts (take i now)
  pub rest : drop i now ≡ drop i start

keys-set : {K : Type 0} (es : List (K × LocationTrie)) (i : ℕ) (e : K × LocationTrie) (w : LocationTrie) → e ≡ get_or es i e → keys_of (set es i (e.0, w)) ≡ keys_of es
keys-set [] i e w h = refl
keys-set (x ∷ es) zero e w h = ap (λ y. y.0 ∷ keys_of es) h
keys-set (x ∷ es) (suc i) e w h = ap (λ y. x.0 ∷ y) (keys-set es i e w h)

size-set : {K : Type 0} (es : List (K × LocationTrie)) (i : ℕ) (e : K × LocationTrie) → length (set es i e) ≡ length es
size-set [] i e = refl
size-set (x ∷ es) zero e = refl
size-set (x ∷ es) (suc i) e = ap suc (size-set es i e)

same-set : {K : Type 0} (to : K → Step) (es : List (K × LocationTrie)) (i : ℕ) (e : K × LocationTrie) (w : LocationTrie) → e ≡ get_or es i e → IsSameSet (marked e.1) (marked w) → (s : Step) (l : Location) → marked_in to (set es i (e.0, w)) (s ∷ l) ≡ marked_in to es (s ∷ l)
same-set to [] i e w h g s l = refl
same-set {K} to (x ∷ es) zero e w h g s l =
    in_step to (e.0, w) es s l ∙ ap (λ b. (is_same_step (to e.0) s && b) || marked_in to es (s ∷ l)) (g.each l) ∙ ap (λ (y : K × LocationTrie). (is_same_step (to y.0) s && marked y.1 l) || marked_in to es (s ∷ l)) h ∙ sym (in_step to x es s l)
same-set to (x ∷ es) (suc i) e w h g s l = in_step to x (set es i (e.0, w)) s l ∙ ap (λ b. (is_same_step (to x.0) s && marked x.1 l) || b) (same-set to es i e w h g s l) ∙ sym (in_step to x es s l)

same_each : {K : Type 0} (to : K → Step) (es : List (K × LocationTrie)) (i : ℕ) (e : K × LocationTrie) (w : LocationTrie) → e ≡ get_or es i e → IsSameSet (marked e.1) (marked w) → (l : Location) → marked_in to (set es i (e.0, w)) l ≡ marked_in to es l
same_each to es i e w h g [] = in_here to (set es i (e.0, w)) ∙ sym (in_here to es)
same_each to es i e w h g (s ∷ l) = same-set to es i e w h g s l

counts-append : {K : Type 0} (es fs : List (K × LocationTrie)) → counts (es ++ fs) ≡ counts es + counts fs
counts-append [] fs = omega arith
counts-append (e ∷ es) fs = omega (arith, counts-append es fs)

pub sofar_next : {K : Type 0} (to : K → Step) (start now : List (K × LocationTrie)) (i n m k : ℕ) (e : K × LocationTrie) (w : LocationTrie) → i < length now → e ≡ get_or now i e → IsSameSet (marked e.1) (marked w) → in_order w ≡ true → m ≡ distinct_count (listed w) → k ≡ n + m
    → Sofar to start now i n → Sofar to start (set now i (e.0, w)) (i + 1) k
sofar_next {K} to start now i n m k e w within read same order count sum h =
    let front : take (i + 1) (set now i (e.0, w)) ≡ take i now ++ (e.0, w) ∷ [] = take_more_set now i (e.0, w) within in
    record {
      keys = keys-set now i e w read ∙ h.keys;
      size = size-set now i (e.0, w) ∙ h.size;
      same = record { each = λ l. same_each to now i e w read same l ∙ h.same.each l };
      ordered = ap (list_all (λ x. in_order x.1)) front ∙ list_all-append (λ (x : K × LocationTrie). in_order x.1) (take i now) ((e.0, w) ∷ []) ∙ rw (h.ordered, order);
      counted = sum ∙ omega (arith, h.counted, count, ap counts front, counts-append (take i now) ((e.0, w) ∷ []));
      rest = drop-set-lt (i + 1) now i (e.0, w) (omega arith) ∙ later now start i within h.size h.rest;
    }
  where
    tail : (x y : K × LocationTrie) (xs ys : List (K × LocationTrie)) → x ∷ xs ≡ y ∷ ys → xs ≡ ys
    tail x y xs ys f = cc

    later : (xs ys : List (K × LocationTrie)) (j : ℕ) → j < length xs → length xs ≡ length ys → drop j xs ≡ drop j ys → drop (j + 1) xs ≡ drop (j + 1) ys
    later xs ys j lt len same = tail _ _ _ _ (sym (drop_more xs j e lt) ∙ same ∙ drop_more ys j e (omega (arith, lt, len)))

total-drop : {K : Type 0} (es : List (K × LocationTrie)) (i : ℕ) → marks_total (drop i es) ≤ marks_total es
total-drop [] zero = omega arith
total-drop [] (suc i) = omega arith
total-drop (e ∷ es) zero = omega arith
total-drop (e ∷ es) (suc i) = omega (arith, total-drop es i)

pub sofar_at : {K : Type 0} (to : K → Step) (start now : List (K × LocationTrie)) (i n : ℕ) (e : K × LocationTrie) → i < length now → e ≡ get_or now i e → Sofar to start now i n → marks_count e.1 ≤ marks_total start
sofar_at {K} to start now i n e within read h =
    let all : drop i start ≡ get_or now i e ∷ drop (i + 1) now = sym h.rest ∙ drop_more now i e within in
    let first : marks_count (get_or now i e).1 ≡ marks_count e.1 = ap (λ (x : K × LocationTrie). marks_count x.1) (sym read) in
    omega (arith, ap marks_total all, first, total-drop start i)

take_whole : {A : Type 0} (i : ℕ) (xs : List A) → length xs ≤ i → take i xs ≡ xs
take_whole zero [] h = refl
take_whole (suc i) [] h = refl
take_whole zero (x ∷ xs) h = absurd (omega (arith, h))
take_whole (suc i) (x ∷ xs) h = ap (λ ys. x ∷ ys) (take_whole i xs (omega (arith, h)))

pub sofar_ordered : {K : Type 0} (to : K → Step) (compare : K → K → Ordering) (start now : List (K × LocationTrie)) (i n : ℕ) → length now ≤ i → IsStrictlySortedBy compare (keys_of start) → Sofar to start now i n → level_in_order compare now ≡ true
sofar_ordered {K} to compare start now i n past sorted h =
    and_from _ _ (rise_from compare now (subst (IsStrictlySortedBy compare) (sym h.keys) sorted)) (ap (list_all (λ (e : K × LocationTrie). in_order e.1)) (sym (take_whole i now past)) ∙ h.ordered)

pub sofar_counted : {K : Type 0} (to : K → Step) (compare : K → K → Ordering) → TestsSteps to compare → (start now : List (K × LocationTrie)) (i n : ℕ) → length now ≤ i → IsStrictlySortedBy compare (keys_of start) → Sofar to start now i n → n ≡ distinct_count (listed_in to now)
sofar_counted to compare test start now i n past sorted h =
    h.counted ∙ ap counts (take_whole i now past) ∙ sym (level_count to now (are_keys to compare test now (subst (IsStrictlySortedBy compare) (sym h.keys) sorted)))

pub same_then : (a b c : Location → Bool) → IsSameSet a b → IsSameSet b c → IsSameSet a c
same_then a b c f g = record { each = λ l. g.each l ∙ f.each l }

pub rolled_as : (a b : Bool) (ns ms : Vec (String Global × LocationTrie) Global) (is : Vec (ℕ × LocationTrie) Global) → a ≡ b → ns ≡ ms → rolled a ns is ≡ rolled b ms is
rolled_as a b ns ms is e f = ap₂ (λ x y. rolled x y is) e f

pub ok_given : {A B X : Type 0} (r : Result A B) → X → OnOk r X
ok_given (Ok a) x = x
ok_given (Err e) x = tt

-- ---- whether keys rise

key_at : {K A : Type 0} (es : List (K × A)) (j : ℕ) (e : K × A) (d : K) → j < length es → get_or (keys_of es) j d ≡ (get_or es j e).0
key_at [] j e d h = absurd (omega (arith, h))
key_at (x ∷ es) zero e d h = refl
key_at (x ∷ es) (suc j) e d h = key_at es j e d (omega (arith, h))

pub rises_more : {K A : Type 0} (compare : K → K → Ordering) (es : List (K × A)) (i j : ℕ) (a b : K × A) → j + 1 ≡ i → i < length es → a ≡ get_or es j a → b ≡ get_or es i b → is_lt (compare a.0 b.0) ≡ true
    → ((d : K) (k : ℕ) → k + 1 < i → compare (get_or (keys_of es) k d) (get_or (keys_of es) (k + 1) d) ≡ Less) → (d : K) (k : ℕ) → k + 1 < i + 1 → compare (get_or (keys_of es) k d) (get_or (keys_of es) (k + 1) d) ≡ Less
rises_more {K} {A} compare es i j a b at within first second less h d k lt = pick (cases_lt (k + 1) i)
  where
    pick : (k + 1 < i) ⊎ (i ≤ k + 1) → compare (get_or (keys_of es) k d) (get_or (keys_of es) (k + 1) d) ≡ Less
    pick (inl l) = h d k l
    pick (inr l) =
        let here : k ≡ j = omega (arith, lt, l, at) in
        let next : k + 1 ≡ i = omega (arith, lt, l) in
        ap₂ compare (ap (λ n. get_or (keys_of es) n d) here ∙ key_at es j a d (omega (arith, at, within)) ∙ ap (λ (x : K × A). x.0) (sym first)) (ap (λ n. get_or (keys_of es) n d) next ∙ key_at es i b d within ∙ ap (λ (x : K × A). x.0) (sym second))
        ∙ is_less (compare a.0 b.0) less

keys-length : {K A : Type 0} (es : List (K × A)) → length (keys_of es) ≡ length es
keys-length [] = refl
keys-length (e ∷ es) = ap suc (keys-length es)

pub rises_all : {K A : Type 0} (compare : K → K → Ordering) → IsTotalOrder compare → (es : List (K × A)) (i : ℕ) → length es ≤ i
    → ((d : K) (k : ℕ) → k + 1 < i → compare (get_or (keys_of es) k d) (get_or (keys_of es) (k + 1) d) ≡ Less) → IsStrictlySortedBy compare (keys_of es)
unfolding IsStrictlySortedBy
rises_all compare order [] i past h = tt
rises_all compare order (e ∷ es) i past h = sorted_from_all_adjacent order (keys_of (e ∷ es)) e.0 (λ k lt. h e.0 k (omega (arith, lt, past, keys-length (e ∷ es))))

-- ---- a walk over a level

keys_drop : {K : Type 0} (to : K → Step) (i : ℕ) (es : List (K × LocationTrie)) → AreKeys to es → AreKeys to (drop i es)
keys_drop to zero [] h = tt
keys_drop to zero (e ∷ es) h = h
keys_drop to (suc i) [] h = tt
keys_drop to (suc i) (e ∷ es) h = keys_drop to i es h.1

ordered_at : {K : Type 0} (es : List (K × LocationTrie)) (i : ℕ) (e : K × LocationTrie) → i < length es → list_all (λ x. in_order x.1) es ≡ true → in_order (get_or es i e).1 ≡ true
ordered_at [] i e lt h = absurd (omega (arith, lt))
ordered_at {K} (x ∷ es) zero e lt h = (and_parts (in_order x.1) (list_all (λ (y : K × LocationTrie). in_order y.1) es) h).0
ordered_at {K} (x ∷ es) (suc i) e lt h = ordered_at es i e (omega (arith, lt)) (and_parts (in_order x.1) (list_all (λ (y : K × LocationTrie). in_order y.1) es) h).1

-- an entry of a level in order, and those behind it
pub record Turn {K : Type 0} (to : K → Step) (es : List (K × LocationTrie)) (i : ℕ) (e : K × LocationTrie) : Type 0 where
  pub all : drop i es ≡ e ∷ drop (i + 1) es
  pub once : lookup (is_key to (to e.0)) (drop (i + 1) es) ≡ None
  pub ordered : in_order e.1 ≡ true
  pub fewer : marks_count e.1 ≤ marks_total es

pub level_sorted : {K : Type 0} (compare : K → K → Ordering) (es : List (K × LocationTrie)) → level_in_order compare es ≡ true → IsStrictlySortedBy compare (keys_of es)
level_sorted {K} compare es h = rise_sorted compare es (and_parts (keys_rise compare es) (list_all (λ (e : K × LocationTrie). in_order e.1) es) h).0

pub turn : {K : Type 0} (to : K → Step) (compare : K → K → Ordering) → TestsSteps to compare → (es : List (K × LocationTrie)) (i : ℕ) (e : K × LocationTrie) → level_in_order compare es ≡ true → i < length es → e ≡ get_or es i e → Turn to es i e
turn {K} to compare test es i e h within read =
    let all : drop i es ≡ e ∷ drop (i + 1) es = drop_more es i e within ∙ ap (λ x. x ∷ drop (i + 1) es) (sym read) in
    let keys = subst (AreKeys to) all (keys_drop to i es (are_keys to compare test es (level_sorted compare es h))) in
    record {
      all = all;
      once = keys.0;
      ordered = ap (λ (x : K × LocationTrie). in_order x.1) read ∙ ordered_at es i e within (and_parts (keys_rise compare es) (list_all (λ (x : K × LocationTrie). in_order x.1) es) h).1;
      fewer = omega (arith, ap marks_total all, total-drop es i);
    }

sorted_drop : {K A : Type 0} (compare : K → K → Ordering) (i : ℕ) (es : List (K × A)) → IsStrictlySortedBy compare (keys_of es) → IsStrictlySortedBy compare (keys_of (drop i es))
unfolding IsStrictlySortedBy
sorted_drop compare zero [] h = tt
sorted_drop compare zero (e ∷ es) h = h
sorted_drop compare (suc i) [] h = tt
sorted_drop compare (suc i) (e ∷ es) h = sorted_drop compare i es h.1

pub turn_sorted : {K : Type 0} (compare : K → K → Ordering) (es : List (K × LocationTrie)) (i : ℕ) (e : K × LocationTrie) → level_in_order compare es ≡ true → drop i es ≡ e ∷ drop (i + 1) es → IsStrictlySortedBy compare (keys_of (e ∷ drop (i + 1) es))
turn_sorted compare es i e h all = subst (λ xs. IsStrictlySortedBy compare (keys_of xs)) all (sorted_drop compare i es (level_sorted compare es h))
