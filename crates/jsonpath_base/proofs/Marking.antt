-- Marks beside the set of locations that they hold.
use Rattle.std.proofs.Common.{◌≡◌, ◌≤◌, ◌<◌, ℕ, suc, ◌+◌, List, [], ◌∷◌, ◌++◌, map, length, set, get_or, zero, append_assoc, ap₂, if◌then◌else◌, Vec, Bool, true, false, true≢false, cond, ◌&&◌, ◌||◌, Option, Some, None, Result, Ok, Err, OnOk, Ordering, Less, Equal, Greater, is_eq, nat_cmp, nat_eq, bytes_eq, String, Global, string_bytes, string_cmp, unwrap_or, refl, sym, ap, ◌∙◌, rules, arith, eqb-true, ne_eqb}
use Rattle.std.proofs.Math.Dec.{ltb}
use Rattle.std.proofs.lemmas.Bool.{ltb-true, ltb-false, and_right}
use Rattle.std.proofs.lemmas.List.Folds.{list_any-append}
use Rattle.std.proofs.lemmas.Cmp.{ranked}
use Rattle.std.proofs.lemmas.Map.Text.{is_eq-slice_cmp}
use Rattle.std.proofs.lemmas.Slice.Eq.{bytes_eq-Decides}
use Rattle.jsonpath_base.specs.Prelude.{AllByRecursion, HasAlso, index, insert_entry, is_among, is_key, is_location, is_same_step, IsStrictlySortedBy, keys_of, listed, listed_in, Location, lookup, marked, marked_below, marked_by, marked_in, LocationTrie, marks_count, marks_total, match_ordering, name, out-LocationTrie, Step, TestsSteps, the_lemmas, to_member, total}
use Rattle.std.specs.Cmp.{nat_eq_equiv, unsigned_tied}
use Rattle.jsonpath_base.specs.inner.LocationTries.{listed_of}
use Rattle.jsonpath_base.specs.declared.location_trie.LocationTrie.TheViews.{roll-LocationTrie}

-- ---- steps

pub same_step : (s r : Step) → is_same_step s r ≡ true → s ≡ r
same_step (name k) (name l) h = ap name ((bytes_eq-Decides k l).0 h)
same_step (name k) (index j) h = absurd (true≢false (sym h))
same_step (index i) (name l) h = absurd (true≢false (sym h))
same_step (index i) (index j) h = ap index (eqb-true i j h)

pub step_itself : (s : Step) → is_same_step s s ≡ true
step_itself (name k) = (bytes_eq-Decides k k).1 refl
step_itself (index i) = nat_eq_equiv.refl i

flipped : (t s : Step) → is_same_step s t ≡ false → is_same_step t s ≡ false
flipped (name k) (name l) h = differ (bytes_eq k l) refl
  where
    differ : (b : Bool) → bytes_eq k l ≡ b → b ≡ false
    differ true e = absurd (true≢false (sym ((bytes_eq-Decides l k).1 (sym ((bytes_eq-Decides k l).0 e))) ∙ h))
    differ false e = refl
flipped (name k) (index j) h = refl
flipped (index i) (name l) h = refl
flipped (index i) (index j) h = nat_eq_equiv.symm i j ∙ h

pub name_test : TestsSteps to_member string_cmp
name_test k l = is_eq-slice_cmp (string_bytes k) (string_bytes l)

pub index_test : TestsSteps index nat_cmp
index_test i j = unsigned_tied i j

-- ---- lists of locations

pub or_none : (b : Bool) → (b || false) ≡ b
or_none true = refl
or_none false = refl

pub among_append : (ms ns : List Location) (l : Location) → is_among (ms ++ ns) l ≡ (is_among ms l || is_among ns l)
among_append ms ns l = list_any-append (λ m. is_location m l) ms ns

pub among_here : (r : Step) (ms : List Location) → is_among (map (λ m. r ∷ m) ms) [] ≡ false
among_here r [] = refl
among_here r (m ∷ ms) = among_here r ms

pub among_under : (r s : Step) (ms : List Location) (l : Location) → is_among (map (λ m. r ∷ m) ms) (s ∷ l) ≡ (is_same_step r s && is_among ms l)
among_under r s [] l = sym (and_right (is_same_step r s) false refl)
among_under r s (m ∷ ms) l = pick (is_same_step r s) (is_location m l) (is_among (map (λ m. r ∷ m) ms) (s ∷ l)) (is_among ms l) (among_under r s ms l)
  where
    pick : (a b c d : Bool) → c ≡ (a && d) → ((a && b) || c) ≡ (a && (b || d))
    pick true b c d e = ap (λ x. b || x) e
    pick false b c d e = e

-- ---- one level

pub in_here : {K : Type 0} (to : K → Step) (es : List (K × LocationTrie)) → marked_in to es [] ≡ false
in_here to [] = refl
in_here to (e ∷ es) = among_append (map (λ l. to e.0 ∷ l) (listed e.1)) (listed_in to es) [] ∙ rw (among_here (to e.0) (listed e.1), in_here to es)

pub in_step : {K : Type 0} (to : K → Step) (e : K × LocationTrie) (es : List (K × LocationTrie)) (s : Step) (l : Location) → marked_in to (e ∷ es) (s ∷ l) ≡ ((is_same_step (to e.0) s && marked e.1 l) || marked_in to es (s ∷ l))
in_step to e es s l = among_append (map (λ l. to e.0 ∷ l) (listed e.1)) (listed_in to es) (s ∷ l) ∙ ap (λ b. b || marked_in to es (s ∷ l)) (among_under (to e.0) s (listed e.1) l)

listed-append : {K : Type 0} (to : K → Step) (es fs : List (K × LocationTrie)) → listed_in to (es ++ fs) ≡ listed_in to es ++ listed_in to fs
listed-append to [] fs = refl
listed-append to (e ∷ es) fs = ap (λ x. map (λ l. to e.0 ∷ l) (listed e.1) ++ x) (listed-append to es fs) ∙ sym (append_assoc (map (λ l. to e.0 ∷ l) (listed e.1)) (listed_in to es) (listed_in to fs))

pub in_append : {K : Type 0} (to : K → Step) (es fs : List (K × LocationTrie)) (l : Location) → marked_in to (es ++ fs) l ≡ (marked_in to es l || marked_in to fs l)
in_append to es fs l = ap (λ x. is_among x l) (listed-append to es fs) ∙ among_append (listed_in to es) (listed_in to fs) l

-- ---- marks

listed_of-map : {K : Type 0} (to : K → Step) (es : List (K × LocationTrie)) → listed_of to (map (λ e. (e.0, listed e.1)) es) ≡ listed_in to es
listed_of-map to [] = refl
listed_of-map to (e ∷ es) = ap (λ x. map (λ l. to e.0 ∷ l) (listed e.1) ++ x) (listed_of-map to es)

-- the locations of marks, by its fields
abbrev pub parts : Bool → List (String Global × LocationTrie) → List (ℕ × LocationTrie) → List Location
parts here names indexes = (if here then [] ∷ [] else []) ++ (listed_in to_member names ++ listed_in index indexes)

listed_further : (m : LocationTrie) → listed m
    ≡ (if (out-LocationTrie m).is_marked then [] ∷ [] else []) ++ (listed_of to_member (map (λ e. (e.0, listed e.1)) (out-LocationTrie m).names.items) ++ listed_of index (map (λ e. (e.0, listed e.1)) (out-LocationTrie m).indexes.items))
listed_further m = search (rules, the_lemmas)

pub listed_out : (m : LocationTrie) → listed m ≡ parts (out-LocationTrie m).is_marked (out-LocationTrie m).names.items (out-LocationTrie m).indexes.items
listed_out m = listed_further m ∙ rw (listed_of-map to_member (out-LocationTrie m).names.items, listed_of-map index (out-LocationTrie m).indexes.items)

abbrev pub rolled : Bool → Vec (String Global × LocationTrie) Global → Vec (ℕ × LocationTrie) Global → LocationTrie
rolled b names indexes = roll-LocationTrie (record { is_marked = b; names = names; indexes = indexes })

rolled_further : (b : Bool) (ns : Vec (String Global × LocationTrie) Global) (is : Vec (ℕ × LocationTrie) Global) → listed (rolled b ns is)
    ≡ (if b then [] ∷ [] else []) ++ (listed_of to_member (map (λ e. (e.0, listed e.1)) ns.items) ++ listed_of index (map (λ e. (e.0, listed e.1)) is.items))
rolled_further b ns is = search (rules, the_lemmas)

pub listed_rolled : (b : Bool) (ns : Vec (String Global × LocationTrie) Global) (is : Vec (ℕ × LocationTrie) Global) → listed (rolled b ns is) ≡ parts b ns.items is.items
listed_rolled b ns is = rolled_further b ns is ∙ rw (listed_of-map to_member ns.items, listed_of-map index is.items)

pub no_member : (es : List (ℕ × LocationTrie)) (k : List ℕ) (l : Location) → marked_in index es (name k ∷ l) ≡ false
no_member [] k l = refl
no_member (e ∷ es) k l = in_step index e es (name k) l ∙ no_member es k l

pub no_element : (es : List (String Global × LocationTrie)) (i : ℕ) (l : Location) → marked_in to_member es (index i ∷ l) ≡ false
no_element [] i l = refl
no_element (e ∷ es) i l = in_step to_member e es (index i) l ∙ no_element es i l

parts_split : (b : Bool) (ns : List (String Global × LocationTrie)) (is : List (ℕ × LocationTrie)) (l : Location) → is_among (parts b ns is) l ≡ (is_among (if b then [] ∷ [] else []) l || (marked_in to_member ns l || marked_in index is l))
parts_split b ns is l =
    among_append (if b then [] ∷ [] else []) (listed_in to_member ns ++ listed_in index is) l ∙ ap (λ x. is_among (if b then [] ∷ [] else []) l || x) (among_append (listed_in to_member ns) (listed_in index is) l)

here_here : (b : Bool) → is_among (if b then [] ∷ [] else []) [] ≡ b
here_here true = refl
here_here false = refl

here_further : (b : Bool) (s : Step) (l : Location) → is_among (if b then [] ∷ [] else []) (s ∷ l) ≡ false
here_further true s l = refl
here_further false s l = refl

pub parts_here : (b : Bool) (ns : List (String Global × LocationTrie)) (is : List (ℕ × LocationTrie)) → is_among (parts b ns is) [] ≡ b
parts_here b ns is = parts_split b ns is [] ∙ rw (here_here b, in_here to_member ns, in_here index is) (or_none b)

pub parts_member : (b : Bool) (ns : List (String Global × LocationTrie)) (is : List (ℕ × LocationTrie)) (k : List ℕ) (l : Location) → is_among (parts b ns is) (name k ∷ l) ≡ marked_in to_member ns (name k ∷ l)
parts_member b ns is k l = parts_split b ns is (name k ∷ l) ∙ rw (here_further b (name k) l, no_member is k l) (or_none (marked_in to_member ns (name k ∷ l)))

pub parts_element : (b : Bool) (ns : List (String Global × LocationTrie)) (is : List (ℕ × LocationTrie)) (i : ℕ) (l : Location) → is_among (parts b ns is) (index i ∷ l) ≡ marked_in index is (index i ∷ l)
parts_element b ns is i l = parts_split b ns is (index i ∷ l) ∙ rw (here_further b (index i) l, no_element ns i l)

pub marked_here : (m : LocationTrie) → marked m [] ≡ (out-LocationTrie m).is_marked
marked_here m = ap (λ x. is_among x []) (listed_out m) ∙ parts_here (out-LocationTrie m).is_marked (out-LocationTrie m).names.items (out-LocationTrie m).indexes.items

-- ---- how many

total-map : {K : Type 0} (es : List (K × LocationTrie)) → total (map (λ e. (e.0, marks_count e.1)) es) ≡ marks_total es
total-map [] = refl
total-map (e ∷ es) = ap (λ n. marks_count e.1 + n) (total-map es)

count_further : (m : LocationTrie) → marks_count m ≡ suc (total (map (λ e. (e.0, marks_count e.1)) (out-LocationTrie m).names.items) + total (map (λ e. (e.0, marks_count e.1)) (out-LocationTrie m).indexes.items))
count_further m = search (rules, the_lemmas)

pub count_out : (m : LocationTrie) → marks_count m ≡ suc (marks_total (out-LocationTrie m).names.items + marks_total (out-LocationTrie m).indexes.items)
count_out m = count_further m ∙ rw (total-map (out-LocationTrie m).names.items, total-map (out-LocationTrie m).indexes.items)

count_rolled_further : (b : Bool) (ns : Vec (String Global × LocationTrie) Global) (is : Vec (ℕ × LocationTrie) Global) → marks_count (rolled b ns is) ≡ suc (total (map (λ e. (e.0, marks_count e.1)) ns.items) + total (map (λ e. (e.0, marks_count e.1)) is.items))
count_rolled_further b ns is = search (rules, the_lemmas)

pub count_rolled : (b : Bool) (ns : Vec (String Global × LocationTrie) Global) (is : Vec (ℕ × LocationTrie) Global) → marks_count (rolled b ns is) ≡ suc (marks_total ns.items + marks_total is.items)
count_rolled b ns is = count_rolled_further b ns is ∙ rw (total-map ns.items, total-map is.items)

-- ---- another location

pub on_ok : {A B : Type 0} {X Y : Type 0} (r : Result A B) → (X → Y) → OnOk r X → OnOk r Y
on_ok (Ok a) f x = f x
on_ok (Err e) f x = x

also_here_in : (b : Bool) (ns : List (String Global × LocationTrie)) (is : List (ℕ × LocationTrie)) (l : Location) → is_among (parts true ns is) l ≡ (is_location [] l || is_among (parts b ns is) l)
also_here_in b ns is [] = parts_here true ns is
also_here_in b ns is (name k ∷ l) = parts_member true ns is k l ∙ sym (parts_member b ns is k l)
also_here_in b ns is (index i ∷ l) = parts_element true ns is i l ∙ sym (parts_element b ns is i l)

-- the location with no step
pub also_here : (m : LocationTrie) (at : Location) → at ≡ [] → HasAlso (marked m) at (marked (rolled true (out-LocationTrie m).names (out-LocationTrie m).indexes))
also_here m at e = record {
  each = λ l. ap (λ x. is_among x l) (listed_rolled true (out-LocationTrie m).names (out-LocationTrie m).indexes)
      ∙ also_here_in (out-LocationTrie m).is_marked (out-LocationTrie m).names.items (out-LocationTrie m).indexes.items l
      ∙ ap₂ (λ x y. is_location x l || y) (sym e) (ap (λ x. is_among x l) (sym (listed_out m)));
}

also_member_in : (b : Bool) (ns new : List (String Global × LocationTrie)) (is : List (ℕ × LocationTrie)) (k : List ℕ) (rest : Location) → HasAlso (marked_in to_member ns) (name k ∷ rest) (marked_in to_member new)
    → (l : Location) → is_among (parts b new is) l ≡ (is_location (name k ∷ rest) l || is_among (parts b ns is) l)
also_member_in b ns new is k rest h [] = parts_here b new is ∙ sym (parts_here b ns is)
also_member_in b ns new is k rest h (name n ∷ l) = parts_member b new is n l ∙ h.each (name n ∷ l) ∙ ap (λ x. is_location (name k ∷ rest) (name n ∷ l) || x) (sym (parts_member b ns is n l))
also_member_in b ns new is k rest h (index i ∷ l) = parts_element b new is i l ∙ sym (parts_element b ns is i l)

pub also_member : (m : LocationTrie) (ns : Vec (String Global × LocationTrie) Global) (k : List ℕ) (rest at : Location) → at ≡ name k ∷ rest → HasAlso (marked_in to_member (out-LocationTrie m).names.items) (name k ∷ rest) (marked_in to_member ns.items)
    → HasAlso (marked m) at (marked (rolled (out-LocationTrie m).is_marked ns (out-LocationTrie m).indexes))
also_member m ns k rest at e h = record {
  each = λ l. ap (λ x. is_among x l) (listed_rolled (out-LocationTrie m).is_marked ns (out-LocationTrie m).indexes)
      ∙ also_member_in (out-LocationTrie m).is_marked (out-LocationTrie m).names.items ns.items (out-LocationTrie m).indexes.items k rest h l
      ∙ ap₂ (λ x y. is_location x l || y) (sym e) (ap (λ x. is_among x l) (sym (listed_out m)));
}

also_element_in : (b : Bool) (ns : List (String Global × LocationTrie)) (is new : List (ℕ × LocationTrie)) (j : ℕ) (rest : Location) → HasAlso (marked_in index is) (index j ∷ rest) (marked_in index new)
    → (l : Location) → is_among (parts b ns new) l ≡ (is_location (index j ∷ rest) l || is_among (parts b ns is) l)
also_element_in b ns is new j rest h [] = parts_here b ns new ∙ sym (parts_here b ns is)
also_element_in b ns is new j rest h (name n ∷ l) = parts_member b ns new n l ∙ sym (parts_member b ns is n l)
also_element_in b ns is new j rest h (index i ∷ l) = parts_element b ns new i l ∙ h.each (index i ∷ l) ∙ ap (λ x. is_location (index j ∷ rest) (index i ∷ l) || x) (sym (parts_element b ns is i l))

pub also_element : (m : LocationTrie) (is : Vec (ℕ × LocationTrie) Global) (j : ℕ) (rest at : Location) → at ≡ index j ∷ rest → HasAlso (marked_in index (out-LocationTrie m).indexes.items) (index j ∷ rest) (marked_in index is.items)
    → HasAlso (marked m) at (marked (rolled (out-LocationTrie m).is_marked (out-LocationTrie m).names is))
also_element m is j rest at e h = record {
  each = λ l. ap (λ x. is_among x l) (listed_rolled (out-LocationTrie m).is_marked (out-LocationTrie m).names is)
      ∙ also_element_in (out-LocationTrie m).is_marked (out-LocationTrie m).names.items (out-LocationTrie m).indexes.items is.items j rest h l
      ∙ ap₂ (λ x y. is_location x l || y) (sym e) (ap (λ x. is_among x l) (sym (listed_out m)));
}

-- in the entry at a place
set_step : {K : Type 0} (to : K → Step) (es : List (K × LocationTrie)) (n : ℕ) (e : K × LocationTrie) (w : LocationTrie) (rest : Location) → n < length es → e ≡ get_or es n e → HasAlso (marked e.1) rest (marked w)
    → (s : Step) (l : Location) → marked_in to (set es n (e.0, w)) (s ∷ l) ≡ ((is_same_step (to e.0) s && is_location rest l) || marked_in to es (s ∷ l))
set_step to [] n e w rest within read h s l = absurd (omega (arith, within))
set_step {K = K} to (x ∷ es) zero e w rest within read h s l =
    in_step to (e.0, w) es s l ∙ pick (is_same_step (to e.0) s) (is_location rest l) (marked e.1 l) (marked w l) (marked_in to es (s ∷ l)) (h.each l)
    ∙ ap (λ (y : K × LocationTrie). (is_same_step (to e.0) s && is_location rest l) || ((is_same_step (to y.0) s && marked y.1 l) || marked_in to es (s ∷ l))) read
    ∙ ap (λ z. (is_same_step (to e.0) s && is_location rest l) || z) (sym (in_step to x es s l))
  where
    pick : (a b c d r : Bool) → d ≡ (b || c) → ((a && d) || r) ≡ ((a && b) || ((a && c) || r))
    pick true true c d r e = ap (λ z. z || r) e
    pick true false c d r e = ap (λ z. z || r) e
    pick false b c d r e = refl
set_step to (x ∷ es) (suc n) e w rest within read h s l =
    in_step to x (set es n (e.0, w)) s l ∙ pick (is_same_step (to x.0) s && marked x.1 l) (is_same_step (to e.0) s && is_location rest l) (marked_in to es (s ∷ l)) _ (set_step to es n e w rest (omega (arith, within)) read h s l)
    ∙ ap (λ z. (is_same_step (to e.0) s && is_location rest l) || z) (sym (in_step to x es s l))
  where
    pick : (a b c d : Bool) → d ≡ (b || c) → (a || d) ≡ (b || (a || c))
    pick true true c d e = refl
    pick true false c d e = refl
    pick false b c d e = e

pub also_set : {K : Type 0} (to : K → Step) (es : List (K × LocationTrie)) (n : ℕ) (e : K × LocationTrie) (w : LocationTrie) (s : Step) (rest : Location) → n < length es → e ≡ get_or es n e → to e.0 ≡ s → HasAlso (marked e.1) rest (marked w)
    → HasAlso (marked_in to es) (s ∷ rest) (marked_in to (set es n (e.0, w)))
also_set to es n e w s rest within read is h = record { each = each }
  where
    each : (l : Location) → marked_in to (set es n (e.0, w)) l ≡ (is_location (s ∷ rest) l || marked_in to es l)
    each [] = in_here to (set es n (e.0, w)) ∙ sym (in_here to es)
    each (t ∷ l) = set_step to es n e w rest within read h t l ∙ ap (λ r. (is_same_step r t && is_location rest l) || marked_in to es (t ∷ l)) is

-- in one entry more
pub also_push : {K : Type 0} (to : K → Step) (es fs : List (K × LocationTrie)) (k : K) (empty w : LocationTrie) (s : Step) (rest : Location) → fs ≡ es ++ (k, w) ∷ [] → listed empty ≡ [] → to k ≡ s → HasAlso (marked empty) rest (marked w)
    → HasAlso (marked_in to es) (s ∷ rest) (marked_in to fs)
also_push to es fs k empty w s rest now none is h = record { each = each }
  where
    only : (l : Location) → marked w l ≡ is_location rest l
    only l = h.each l ∙ ap (λ x. is_location rest l || is_among x l) none ∙ or_none (is_location rest l)

    swap : (a b : Bool) → (a || (b || false)) ≡ (b || a)
    swap true true = refl
    swap true false = refl
    swap false true = refl
    swap false false = refl

    each : (l : Location) → marked_in to fs l ≡ (is_location (s ∷ rest) l || marked_in to es l)
    each [] = in_here to fs ∙ sym (in_here to es)
    each (t ∷ l) =
        ap (λ x. marked_in to x (t ∷ l)) now ∙ in_append to es ((k, w) ∷ []) (t ∷ l) ∙ ap (λ z. marked_in to es (t ∷ l) || z) (in_step to (k, w) [] t l)
        ∙ ap₂ (λ r b. marked_in to es (t ∷ l) || ((is_same_step r t && b) || false)) is (only l) ∙ swap (marked_in to es (t ∷ l)) (is_same_step s t && is_location rest l)

-- ---- look-ups

pub lookup-alike : {K X : Type 0} (test query : K → Bool) → ((k : K) → test k ≡ query k) → (es : List (K × X)) → lookup test es ≡ lookup query es
lookup-alike test query h [] = refl
lookup-alike test query h (e ∷ es) = rw (h e.0, lookup-alike test query h es)

-- no step stands twice
abbrev pub AreKeys : {K : Type 0} → (K → Step) → List (K × LocationTrie) → Type 0
AreKeys to [] = Unit {0}
AreKeys to (e ∷ es) = (lookup (is_key to (to e.0)) es ≡ None) × AreKeys to es

none_above : {K : Type 0} (to : K → Step) (compare : K → K → Ordering) → TestsSteps to compare → (k : K) (es : List (K × LocationTrie)) → AllByRecursion (λ l. compare k l ≡ Less) (keys_of es) → lookup (is_key to (to k)) es ≡ None
none_above to compare test k [] h = refl
none_above to compare test k (e ∷ es) h = rw (← test k e.0, h.0) (none_above to compare test k es h.1)

pub are_keys : {K : Type 0} (to : K → Step) (compare : K → K → Ordering) → TestsSteps to compare → (es : List (K × LocationTrie)) → IsStrictlySortedBy compare (keys_of es) → AreKeys to es
unfolding IsStrictlySortedBy
are_keys to compare test [] h = tt
are_keys to compare test (e ∷ es) h = (none_above to compare test e.0 es h.0, are_keys to compare test es h.1)

-- where no step stands twice, the marks below a step are those of one entry
pub not_held : {K : Type 0} (to : K → Step) (es : List (K × LocationTrie)) (s : Step) (l : Location) → lookup (is_key to s) es ≡ None → marked_in to es (s ∷ l) ≡ false
not_held to [] s l h = refl
not_held to (e ∷ es) s l h = pick (is_key to s e.0) refl h (not_held to es s l)
  where
    pick : (b : Bool) → is_key to s e.0 ≡ b → cond b (Some e.1) (lookup (is_key to s) es) ≡ None → (lookup (is_key to s) es ≡ None → marked_in to es (s ∷ l) ≡ false) → marked_in to (e ∷ es) (s ∷ l) ≡ false
    pick true same none more = absurd cc
    pick false other none more = in_step to e es s l ∙ rw (flipped (to e.0) s other, more none)

pub held_once : {K : Type 0} (to : K → Step) (es : List (K × LocationTrie)) → AreKeys to es → (s : Step) (l : Location) → marked_in to es (s ∷ l) ≡ marked_below to es (s ∷ l)
held_once to [] keys s l = refl
held_once to (e ∷ es) keys s l = in_step to e es s l ∙ pick (is_key to s e.0) refl (held_once to es keys.1 s l)
  where
    pick : (b : Bool) → is_key to s e.0 ≡ b → marked_in to es (s ∷ l) ≡ marked_below to es (s ∷ l)
        → ((is_same_step (to e.0) s && marked e.1 l) || marked_in to es (s ∷ l)) ≡ marked_by (cond b (Some e.1) (lookup (is_key to s) es)) l
    pick true same more =
        let is : s ≡ to e.0 = same_step s (to e.0) same in
        let none : marked_in to es (s ∷ l) ≡ false = ap (λ r. marked_in to es (r ∷ l)) is ∙ not_held to es (to e.0) l keys.0 in
        let this : is_same_step (to e.0) s ≡ true = ap (is_same_step (to e.0)) is ∙ step_itself (to e.0) in
        rw (this, none) (or_none (marked e.1 l))
    pick false other more = rw (flipped (to e.0) s other) more

-- ---- after an insertion

key_apart : {K : Type 0} (to : K → Step) (s : Step) (test : K → Bool) → ((k : K) → test k ≡ is_key to s k) → (k : K) (t : Step) → is_same_step s t ≡ false → test k ≡ true → is_key to t k ≡ false
key_apart to s test same k t other e =
    let is : s ≡ to k = same_step s (to k) (sym (same k) ∙ e) in
    flipped t (to k) (ap (λ r. is_same_step r t) (sym is) ∙ other)

pub insert_found : {K : Type 0} (to : K → Step) (compare : K → K → Ordering) → TestsSteps to compare → (k : K) (es : List (K × LocationTrie)) (w : LocationTrie) → lookup (is_key to (to k)) (insert_entry compare es k w) ≡ Some w
insert_found to compare test k [] w = rw (step_itself (to k))
insert_found to compare test k (e ∷ es) w = pick (compare k e.0) refl (insert_found to compare test k es w)
  where
    pick : (o : Ordering) → compare k e.0 ≡ o → lookup (is_key to (to k)) (insert_entry compare es k w) ≡ Some w → lookup (is_key to (to k)) (match_ordering o ((k, w) ∷ e ∷ es) ((e.0, w) ∷ es) (e ∷ insert_entry compare es k w)) ≡ Some w
    pick Less o more = rw (step_itself (to k))
    pick Equal o more = let same : is_key to (to k) e.0 ≡ true = sym (test k e.0) ∙ ap is_eq o in rw same
    pick Greater o more = let other : is_key to (to k) e.0 ≡ false = sym (test k e.0) ∙ ap is_eq o in rw other more

pub insert_apart : {K : Type 0} (to : K → Step) (compare : K → K → Ordering) → TestsSteps to compare → (k : K) (t : Step) (es : List (K × LocationTrie)) (w : LocationTrie) → is_same_step (to k) t ≡ false → lookup (is_key to t) (insert_entry compare es k w) ≡ lookup (is_key to t) es
insert_apart to compare test k t [] w h = rw (flipped t (to k) h)
insert_apart to compare test k t (e ∷ es) w h = pick (compare k e.0) refl (insert_apart to compare test k t es w h)
  where
    pick : (o : Ordering) → compare k e.0 ≡ o → lookup (is_key to t) (insert_entry compare es k w) ≡ lookup (is_key to t) es → lookup (is_key to t) (match_ordering o ((k, w) ∷ e ∷ es) ((e.0, w) ∷ es) (e ∷ insert_entry compare es k w)) ≡ lookup (is_key to t) (e ∷ es)
    pick Less o more = rw (flipped t (to k) h)
    pick Equal o more = rw (key_apart to (to k) (λ l. is_eq (compare k l)) (test k) e.0 t h (ap is_eq o))
    pick Greater o more = ap (λ x. cond (is_key to t e.0) (Some e.1) x) more

pub marked_member : (m : LocationTrie) → AreKeys to_member (out-LocationTrie m).names.items → (k : List ℕ) (l : Location) → marked m (name k ∷ l) ≡ marked_below to_member (out-LocationTrie m).names.items (name k ∷ l)
marked_member m keys k l = ap (λ x. is_among x (name k ∷ l)) (listed_out m) ∙ parts_member (out-LocationTrie m).is_marked (out-LocationTrie m).names.items (out-LocationTrie m).indexes.items k l ∙ held_once to_member (out-LocationTrie m).names.items keys (name k) l

pub marked_element : (m : LocationTrie) → AreKeys index (out-LocationTrie m).indexes.items → (i : ℕ) (l : Location) → marked m (index i ∷ l) ≡ marked_below index (out-LocationTrie m).indexes.items (index i ∷ l)
marked_element m keys i l = ap (λ x. is_among x (index i ∷ l)) (listed_out m) ∙ parts_element (out-LocationTrie m).is_marked (out-LocationTrie m).names.items (out-LocationTrie m).indexes.items i l ∙ held_once index (out-LocationTrie m).indexes.items keys (index i) l

-- where none are there, empty ones stand for them
pub marked_or : (o : Option LocationTrie) (empty : LocationTrie) → listed empty ≡ [] → (l : Location) → marked (unwrap_or o empty) l ≡ marked_by o l
marked_or None empty none l = ap (λ x. is_among x l) none
marked_or (Some m) empty none l = refl

-- ---- the indexes in their order

later_key : (j n : ℕ) → nat_cmp j n ≡ Less → (i : ℕ) → i ≤ j → is_key index (index i) n ≡ false
later_key j n h i le = ne_eqb i n (λ e. omega (arith, e, le, less))
  where
    less : j < n
    less = ranked j n Less (sym h)

later_keys : (j : ℕ) (es : List (ℕ × LocationTrie)) → AllByRecursion (λ l. nat_cmp j l ≡ Less) (keys_of es) → (i : ℕ) → i ≤ j → lookup (is_key index (index i)) es ≡ None
later_keys j [] h i le = refl
later_keys j (e ∷ es) h i le = rw (later_key j e.0 h.0 i le) (later_keys j es h.1 i le)

-- no index below this one is a key
pub record IsFrom (es : List (ℕ × LocationTrie)) (next : ℕ) : Type 0 where
  pub each : (i : ℕ) → i < next → lookup (is_key index (index i)) es ≡ None

pub from_rest : (e : ℕ × LocationTrie) (es : List (ℕ × LocationTrie)) (next : ℕ) → IsFrom (e ∷ es) next → IsFrom es next
from_rest e es next h = record { each = λ i lt. later (is_key index (index i) e.0) (lookup (is_key index (index i)) es) (h.each i lt) }
  where
    later : (b : Bool) (o : Option LocationTrie) → cond b (Some e.1) o ≡ None → o ≡ None
    later true o h = absurd cc
    later false o h = h

pub from_after : (j : ℕ) (m : LocationTrie) (es : List (ℕ × LocationTrie)) → IsStrictlySortedBy nat_cmp (keys_of ((j, m) ∷ es)) → IsFrom es (j + 1)
unfolding IsStrictlySortedBy
from_after j m es h = record { each = λ i lt. later_keys j es h.0 i (omega (arith, lt)) }

pub from_at_most : (j : ℕ) (m : LocationTrie) (es : List (ℕ × LocationTrie)) (next : ℕ) → IsFrom ((j, m) ∷ es) next → next ≤ j
from_at_most j m es next h = pick (ltb j next) refl
  where
    pick : (b : Bool) → ltb j next ≡ b → next ≤ j
    pick true e =
        let test : nat_eq j j ≡ true = nat_eq_equiv.refl j in
        let none : Some m ≡ None = sym (rw test) ∙ h.each j (ltb-true j next e) in
        absurd cc
    pick false e = ltb-false j next e

-- the marks hold no index below this one
pub record HoldsNoneBelow (es : List (ℕ × LocationTrie)) (next : ℕ) : Type 0 where
  pub each : (i : ℕ) → i < next → marked_by (lookup (is_key index (index i)) es) [] ≡ false

pub none_held : (next : ℕ) → HoldsNoneBelow [] next
none_held next = record { each = λ i lt. refl }

pub none_before : (j : ℕ) (m : LocationTrie) (es : List (ℕ × LocationTrie)) → IsFrom es (j + 1) → HoldsNoneBelow ((j, m) ∷ es) j
none_before j m es h = record { each = each }
  where
    each : (i : ℕ) → i < j → marked_by (lookup (is_key index (index i)) ((j, m) ∷ es)) [] ≡ false
    each i lt =
        let other : nat_eq i j ≡ false = ne_eqb i j (λ e. omega (arith, lt, e)) in
        rw (other, h.each i (omega (arith, lt)))
