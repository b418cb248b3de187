-- Entries in the order of their keys, those of one key joined.
use Rattle.std.proofs.Common.{◌≡◌, ℕ, ◌+◌, ◌≤◌, ◌<◌, List, [], ◌∷◌, ◌++◌, length, take, drop, set, get_or, Bool, true, false, cond, ◌&&◌, ◌||◌, Ordering, is_eq, refl, sym, ap, ap₂, ◌∙◌, subst, append_assoc, append-nil, arith}
use Rattle.std.proofs.lemmas.List.{drop_all, drop_more, drop-set, drop-set-lt, drop-take, get_or-map, get_or-set_other, get_or_default, length-map, length-set, length-take, map-append, take-append-drop, take-set, take-set-le, take-take, take_more}
use Rattle.std.proofs.lemmas.List.Kept.{IsStrictlySortedBy-dedup}
use Rattle.std.proofs.lemmas.List.Sorted.{list_any-IsPermutation, sum_by-IsPermutation}
use Rattle.std.proofs.lemmas.List.Sums.{sum_by-cons}
use Rattle.std.specs.Cmp.{IsTotalOrder}
use Rattle.std.specs.List.{dedup, dedup_from, sum_by}
use Rattle.std.specs.List.Sorted.{IsPermutation, IsSorted, IsSortedBy}
use Rattle.jsonpath_base.specs.Prelude.{is_lt, IsJoined, is_same_step, IsStrictlySortedBy, keys_of, list_any, Location, marked, marked_in, LocationTrie, marks_count, marks_total, Step}
use Rattle.jsonpath_base.specs.inner.LocationTries.{HoldsSame}
use Rattle.jsonpath_base.proofs.InOrder.{total-append}
use Rattle.jsonpath_base.proofs.Marking.{same_step, in_here, in_step, in_append}

in_any : {K : Type 0} (to : K → Step) (es : List (K × LocationTrie)) (s : Step) (l : Location) → marked_in to es (s ∷ l) ≡ list_any (λ e. is_same_step (to e.0) s && marked e.1 l) es
in_any to [] s l = refl
in_any to (e ∷ es) s l = in_step to e es s l ∙ ap (λ b. (is_same_step (to e.0) s && marked e.1 l) || b) (in_any to es s l)

total-sum : {K : Type 0} (es : List (K × LocationTrie)) → marks_total es ≡ sum_by (λ e. marks_count e.1) es
total-sum [] = refl
total-sum {K} (e ∷ es) = ap (λ n. marks_count e.1 + n) (total-sum es) ∙ sym (sum_by-cons (λ (x : K × LocationTrie). marks_count x.1) e es)

-- in another order
moved_same : {K : Type 0} (to : K → Step) (es fs : List (K × LocationTrie)) → IsPermutation es fs → (l : Location) → marked_in to es l ≡ marked_in to fs l
moved_same to es fs h [] = in_here to es ∙ sym (in_here to fs)
moved_same {K} to es fs h (s ∷ l) = in_any to es s l ∙ list_any-IsPermutation (λ (e : K × LocationTrie). is_same_step (to e.0) s && marked e.1 l) es fs h ∙ sym (in_any to fs s l)

moved_total : {K : Type 0} (es fs : List (K × LocationTrie)) → IsPermutation es fs → marks_total fs ≡ marks_total es
moved_total {K} es fs h = total-sum fs ∙ sum_by-IsPermutation (λ (e : K × LocationTrie). marks_count e.1) es fs h ∙ sym (total-sum es)

-- ---- entries that are gathered

abbrev pub Falls : {K : Type 0} → (K → K → Ordering) → K × LocationTrie → K × LocationTrie → Bool
Falls compare x y = is_lt (compare x.0 y.0)

abbrev pub is_one : {K : Type 0} → (K → K → Ordering) → K → K → Bool
is_one compare k l = is_eq (compare k l)

-- Those in front are gathered. The first of the rest is the last gathered one, to which others may be joined yet.
pub record Gathered {K : Type 0} (compare : K → K → Ordering) (all front rest : List (K × LocationTrie)) : Type 0 where
  pub same : HoldsSame compare all (front ++ rest)
  pub fewer : marks_total (front ++ rest) ≤ marks_total all
  pub sorted : IsStrictlySortedBy compare (keys_of front ++ dedup (is_one compare) (keys_of rest))

keys_sorted : {K : Type 0} (compare : K → K → Ordering) (es : List (K × LocationTrie)) → IsSortedBy (Falls compare) es → IsSorted compare (keys_of es)
keys_sorted compare [] h k d low lt = absurd (omega (arith, lt))
keys_sorted {K} compare (e ∷ es) h k d low lt =
    let key : K × LocationTrie → K = λ x. x.0 in
    let within : k + 1 < length (e ∷ es) = omega (arith, lt, length-map (e ∷ es) key) in
    ap₂ (λ a b. is_lt (compare a b)) (get_or-map key (e ∷ es) (k + 1) e d within) (get_or-map key (e ∷ es) k e d (omega (arith, within))) ∙ h k e low within

gathered_start : {K : Type 0} (compare : K → K → Ordering) → IsTotalOrder compare → (all es : List (K × LocationTrie)) → IsPermutation all es → IsSortedBy (Falls compare) es → Gathered compare all [] es
gathered_start compare order all es moved h = record {
  same = record { each = λ to test l. sym (moved_same to all es moved l) };
  fewer = omega (arith, moved_total all es moved);
  sorted = IsStrictlySortedBy-dedup order (λ _ _. refl) (keys_of es) (keys_sorted compare es h);
}

-- an entry of another key than the last one
gathered_next : {K : Type 0} (compare : K → K → Ordering) (all front rest : List (K × LocationTrie)) (x y : K × LocationTrie) → is_eq (compare y.0 x.0) ≡ false → Gathered compare all front (x ∷ (y ∷ rest)) → Gathered compare all (front ++ x ∷ []) (y ∷ rest)
gathered_next {K} compare all front rest x y other h =
    let is : front ++ (x ∷ (y ∷ rest)) ≡ (front ++ x ∷ []) ++ (y ∷ rest) = sym (append_assoc front (x ∷ []) (y ∷ rest)) in
    let ks = keys_of rest in
    record {
      same = subst (HoldsSame compare all) is h.same;
      fewer = subst (λ es. marks_total es ≤ marks_total all) is h.fewer;
      sorted = subst (IsStrictlySortedBy compare)
          (ap (λ b. keys_of front ++ cond b (dedup_from (is_one compare) x.0 ks) (x.0 ∷ dedup_from (is_one compare) y.0 ks)) other
          ∙ sym (append_assoc (keys_of front) (x.0 ∷ []) (dedup_from (is_one compare) y.0 ks)) ∙ ap (λ fs. fs ++ dedup_from (is_one compare) y.0 ks) (sym (map-append (λ (e : K × LocationTrie). e.0) front (x ∷ [])))) h.sorted;
    }

either : (a b c d : Bool) → ((a && (b || c)) || d) ≡ ((a && b) || ((a && c) || d))
either true true c d = refl
either true false c d = refl
either false b c d = refl

joined_first : {K : Type 0} (to : K → Step) (x y : K × LocationTrie) (w : LocationTrie) (rest : List (K × LocationTrie)) → to y.0 ≡ to x.0 → IsJoined (marked x.1) (marked y.1) (marked w) → (l : Location) → marked_in to ((x.0, w) ∷ rest) l ≡ marked_in to (x ∷ (y ∷ rest)) l
joined_first to x y w rest same h [] = in_here to ((x.0, w) ∷ rest) ∙ sym (in_here to (x ∷ (y ∷ rest)))
joined_first to x y w rest same h (s ∷ l) =
    let more = marked_in to rest (s ∷ l) in
    in_step to (x.0, w) rest s l ∙ ap (λ b. (is_same_step (to x.0) s && b) || more) (h.each l) ∙ either (is_same_step (to x.0) s) (marked x.1 l) (marked y.1 l) more
    ∙ sym (in_step to x (y ∷ rest) s l ∙ ap (λ b. (is_same_step (to x.0) s && marked x.1 l) || b) (in_step to y rest s l ∙ ap (λ r. (is_same_step r s && marked y.1 l) || more) same))

-- one of its key
gathered_join : {K : Type 0} (compare : K → K → Ordering) (all front rest : List (K × LocationTrie)) (x y : K × LocationTrie) (w : LocationTrie) → is_eq (compare y.0 x.0) ≡ true → IsJoined (marked x.1) (marked y.1) (marked w) → marks_count w + 1 ≤ marks_count x.1 + marks_count y.1
    → Gathered compare all front (x ∷ (y ∷ rest)) → Gathered compare all front ((x.0, w) ∷ rest)
gathered_join compare all front rest x y w equal joined fewer h = record {
  same = record {
    each = λ to test l. in_append to front ((x.0, w) ∷ rest) l ∙ ap (λ b. marked_in to front l || b) (joined_first to x y w rest (same_step (to y.0) (to x.0) (sym (test y.0 x.0) ∙ equal)) joined l)
        ∙ sym (in_append to front (x ∷ (y ∷ rest)) l) ∙ h.same.each to test l;
  };
  fewer = omega (arith, fewer, h.fewer, total-append front (x ∷ (y ∷ rest)), total-append front ((x.0, w) ∷ rest));
  sorted = subst (λ b. IsStrictlySortedBy compare (keys_of front ++ cond b (dedup_from (is_one compare) x.0 (keys_of rest)) (x.0 ∷ dedup_from (is_one compare) y.0 (keys_of rest)))) equal h.sorted;
}

gathered_end : {K : Type 0} (compare : K → K → Ordering) (all front rest : List (K × LocationTrie)) → length rest ≤ 1 → Gathered compare all front rest → IsStrictlySortedBy compare (keys_of (front ++ rest))
gathered_end {K} compare all front [] one h = subst (IsStrictlySortedBy compare) (sym (map-append (λ (e : K × LocationTrie). e.0) front [])) h.sorted
gathered_end {K} compare all front (x ∷ []) one h = subst (IsStrictlySortedBy compare) (sym (map-append (λ (e : K × LocationTrie). e.0) front (x ∷ []))) h.sorted
gathered_end compare all front (x ∷ (y ∷ rest)) one h = absurd (omega (arith, one))

-- ---- in their own place

-- the last gathered entry, and those that are still to come
abbrev pub rest_at : {X : Type 0} → List X → ℕ → ℕ → List X
rest_at es kept i = take 1 (drop kept es) ++ drop i es

abbrev pub GatheredAt : {K : Type 0} → (K → K → Ordering) → List (K × LocationTrie) → List (K × LocationTrie) → ℕ → ℕ → Type 0
GatheredAt compare all es kept i = Gathered compare all (take kept es) (rest_at es kept i)

pub at_start : {K : Type 0} (compare : K → K → Ordering) → IsTotalOrder compare → (all es : List (K × LocationTrie)) → IsPermutation all es → IsSortedBy (Falls compare) es → GatheredAt compare all es 0 1
at_start compare order all [] moved h = gathered_start compare order all [] moved h
at_start compare order all (e ∷ es) moved h = gathered_start compare order all (e ∷ es) moved h

read_at : {X : Type 0} (es : List X) (kept i : ℕ) (x y : X) → kept < length es → i < length es → x ≡ get_or es kept x → y ≡ get_or es i y → rest_at es kept i ≡ x ∷ (y ∷ drop (i + 1) es)
read_at es kept i x y lt within first second =
    ap₂ (λ a b. take 1 a ++ b) (drop_more es kept x lt ∙ ap (λ a. a ∷ drop (kept + 1) es) (sym first)) (drop_more es i y within ∙ ap (λ a. a ∷ drop (i + 1) es) (sym second))

-- two entries are written, the first where nothing is read again
put_at : {K : Type 0} (compare : K → K → Ordering) (all es : List (K × LocationTrie)) (kept i : ℕ) (a b : K × LocationTrie) → kept ≤ i → i < length es → Gathered compare all (take kept es) (b ∷ drop (i + 1) es) → GatheredAt compare all (set (set es i a) kept b) kept (i + 1)
put_at {K} compare all es kept i a b le within h =
    let once = set es i a in
    subst (λ rest. Gathered compare all (take kept (set once kept b)) rest) (sym (ap₂ (λ x y. take 1 x ++ y) (drop-set once kept b (omega (arith, length-set es i a))) (drop-set-lt (i + 1) once kept b (omega arith) ∙ drop-set-lt (i + 1) es i a (omega arith))))
    (subst (λ front. Gathered compare all front (b ∷ drop (i + 1) es)) (sym (take-set once kept b ∙ take-set-le kept es i a le)) h)

same_read : {X : Type 0} (es : List X) (i : ℕ) (x y : X) → i < length es → x ≡ get_or es i x → y ≡ get_or es i y → x ≡ y
same_read es i x y within first second = first ∙ get_or_default es i x y within ∙ sym second

pub join_at : {K : Type 0} (compare : K → K → Ordering) (all es : List (K × LocationTrie)) (kept i : ℕ) (a b x y : K × LocationTrie) (n w : LocationTrie) → kept < i → i < length es → a ≡ get_or es i a → b ≡ get_or es kept b → is_eq (compare a.0 b.0) ≡ true
    → y ≡ get_or es i y → x ≡ get_or (set es i (y.0, n)) kept x → IsJoined (marked x.1) (marked y.1) (marked w) → marks_count w + 1 ≤ marks_count x.1 + marks_count y.1 → GatheredAt compare all es kept i → GatheredAt compare all (set (set es i (y.0, n)) kept (x.0, w)) kept (i + 1)
join_at {K} compare all es kept i a b x y n w lt within second first equal later last joined fewer h =
    let low : kept < length es = omega arith in
    let read = last ∙ get_or-set_other es i kept (y.0, n) x (λ e. omega (arith, e)) in
    let one = ap₂ (λ (u v : K × LocationTrie). is_eq (compare u.0 v.0)) (same_read es i y a within later second) (same_read es kept x b low read first) ∙ equal in
    put_at compare all es kept i (y.0, n) (x.0, w) (omega arith) within
    (gathered_join compare all (take kept es) (drop (i + 1) es) x y w one joined fewer (subst (Gathered compare all (take kept es)) (read_at es kept i x y low within read later) h))

pub next_at : {K : Type 0} (compare : K → K → Ordering) (all es new : List (K × LocationTrie)) (kept i : ℕ) (y x : K × LocationTrie) → kept < i → i < length es → y ≡ get_or es i y → x ≡ get_or es kept x → is_eq (compare y.0 x.0) ≡ false
    → new ≡ set (set es i (get_or es (kept + 1) y)) (kept + 1) (get_or es i y) → GatheredAt compare all es kept i → GatheredAt compare all new (kept + 1) (i + 1)
next_at {K} compare all es new kept i y x lt within second first other is h =
    let front : take kept es ++ x ∷ [] ≡ take (kept + 1) es = sym (take_more es kept x (omega arith) ∙ ap (λ a. take kept es ++ a ∷ []) (sym first)) in
    subst (λ xs. GatheredAt compare all xs (kept + 1) (i + 1)) (sym (is ∙ ap (set (set es i (get_or es (kept + 1) y)) (kept + 1)) (sym second)))
    (put_at compare all es (kept + 1) i (get_or es (kept + 1) y) y (omega arith) within
    (subst (λ xs. Gathered compare all xs (y ∷ drop (i + 1) es)) front
    (gathered_next compare all (take kept es) (drop (i + 1) es) x y other (subst (Gathered compare all (take kept es)) (read_at es kept i x y (omega arith) within first second) h))))

-- what is left of the rest is one entry at most
pub record AllGathered {K : Type 0} (compare : K → K → Ordering) (all new : List (K × LocationTrie)) : Type 0 where
  pub same : HoldsSame compare all new
  pub fewer : marks_total new ≤ marks_total all
  pub sorted : IsStrictlySortedBy compare (keys_of new)

pub at_end : {K : Type 0} (compare : K → K → Ordering) (all es new : List (K × LocationTrie)) (kept i : ℕ) → length es ≤ i → new ≡ take (kept + 1) es → GatheredAt compare all es kept i → AllGathered compare all new
at_end {K} compare all es new kept i past is h =
    let last = take 1 (drop kept es) in
    let none : rest_at es kept i ≡ last = ap (λ xs. last ++ xs) (drop_all i es past) ∙ append-nil last in
    let whole : take kept es ++ last ≡ new = ap₂ (λ a b. a ++ b) (sym (take-take kept (kept + 1) es (omega arith))) (sym (drop-take kept 1 es)) ∙ take-append-drop kept (take (kept + 1) es) ∙ sym is in
    let end = subst (Gathered compare all (take kept es)) none h in
    record {
      same = subst (HoldsSame compare all) whole end.same;
      fewer = subst (λ xs. marks_total xs ≤ marks_total all) whole end.fewer;
      sorted = subst (λ xs. IsStrictlySortedBy compare (keys_of xs)) whole (gathered_end compare all (take kept es) last (omega (arith, length-take 1 (drop kept es))) end);
    }
