-- What each step of removal leaves of data.
use Rattle.std.proofs.Common.{◌≡◌, ℕ, zero, suc, ◌+◌, ◌<◌, ◌≤◌, List, [], ◌∷◌, ◌++◌, length, take, drop, set, get_or, Bool, true, false, Option, Some, None, nat_eq, bytes_eq, String, Global, string_bytes, string_cmp, nat_cmp, Less, is_eq, ◌⊎◌, inl, inr, eq-or-lt_of_le, eqb-true, eq-eqb, ne_eqb, add-one, swap, append_assoc, unwrap_or, ◌-◌, refl, sym, ap, ap₂, ◌∙◌, subst, arith}
use Rattle.std.proofs.lemmas.List.{take_more_set, take-set, take-set-le, drop-set-lt, drop_more, drop_all, length-set}
use Rattle.std.proofs.lemmas.Map.{NonePasses, none_passes_from_lookup}
use Rattle.std.proofs.lemmas.Map.Text.{is_eq-slice_cmp}
use Rattle.std.proofs.lemmas.Slice.Eq.{bytes_eq-Decides}
use Rattle.jsonpath_base.specs.Prelude.{AllByRecursion, array, as_array, as_object, boolean, Data, data_thinned, index, is_at, is_key, IsStrictlySortedBy, item, Items, items_thinned, items_view, keys_of, Location, lookup, marked, marked_below, LocationTrie, members_thinned, members_view, name, no_items, remove_entry, set_value, sieved, slice_cmp, Step, string, thinned_below, to_member, Value, view}
use Rattle.serde_json.specs.Data.{null, number, object, Members, no_members, member}
use Rattle.serde_json.proofs.Views.{Entry}
use Rattle.jsonpath_base.specs.inner.Thinning.{thinned_by}
use Rattle.jsonpath_base.proofs.Marking.{HoldsNoneBelow, IsFrom}

-- ---- sets that say the same

mutual
  pub data_alike : (f g : Location → Bool) → ((s : Step) (l : Location) → f (s ∷ l) ≡ g (s ∷ l)) → (d : Data) → data_thinned f d ≡ data_thinned g d
  data_alike f g h null = refl
  data_alike f g h (boolean b) = refl
  data_alike f g h (number n) = refl
  data_alike f g h (string s) = refl
  data_alike f g h (array ds) = ap array (items_alike f g (λ i l. h (index i) l) 0 ds)
  data_alike f g h (object ms) = ap object (members_alike f g (λ k l. h (name k) l) ms)

  pub items_alike : (f g : Location → Bool) → ((i : ℕ) (l : Location) → f (index i ∷ l) ≡ g (index i ∷ l)) → (i : ℕ) (ds : Items) → items_thinned f i ds ≡ items_thinned g i ds
  items_alike f g h i no_items = refl
  items_alike f g h i (item d ds) =
      rw (h i [], data_alike (λ l. f (index i ∷ l)) (λ l. g (index i ∷ l)) (λ s l. h i (s ∷ l)) d, items_alike f g h (suc i) ds)

  pub members_alike : (f g : Location → Bool) → ((k : List ℕ) (l : Location) → f (name k ∷ l) ≡ g (name k ∷ l)) → (ms : Members) → members_thinned f ms ≡ members_thinned g ms
  members_alike f g h no_members = refl
  members_alike f g h (member k d ms) =
      rw (h k [], data_alike (λ l. f (name k ∷ l)) (λ l. g (name k ∷ l)) (λ s l. h k (s ∷ l)) d, members_alike f g h ms)

-- the empty set
mutual
  pub data_kept : (d : Data) → data_thinned (λ l. false) d ≡ d
  data_kept null = refl
  data_kept (boolean b) = refl
  data_kept (number n) = refl
  data_kept (string s) = refl
  data_kept (array ds) = ap array (items_kept 0 ds)
  data_kept (object ms) = ap object (members_kept ms)

  items_kept : (i : ℕ) (ds : Items) → items_thinned (λ l. false) i ds ≡ ds
  items_kept i no_items = refl
  items_kept i (item d ds) = rw (data_kept d, items_kept (suc i) ds)

  members_kept : (ms : Members) → members_thinned (λ l. false) ms ≡ ms
  members_kept no_members = refl
  members_kept (member k d ms) = rw (data_kept d, members_kept ms)

-- ---- by kind

pub array_thinned : (f g : Location → Bool) (d : Data) (ds es : Items) → ((i : ℕ) (l : Location) → f (index i ∷ l) ≡ g (index i ∷ l)) → Some ds ≡ as_array d → es ≡ items_thinned f 0 ds → array es ≡ data_thinned g d
array_thinned f g null ds es h is e = absurd cc
array_thinned f g (boolean b) ds es h is e = absurd cc
array_thinned f g (number n) ds es h is e = absurd cc
array_thinned f g (string s) ds es h is e = absurd cc
array_thinned f g (array xs) ds es h is e =
    let same : ds ≡ xs = cc in
    ap array (e ∙ ap (items_thinned f 0) same ∙ items_alike f g h 0 xs)
array_thinned f g (object ms) ds es h is e = absurd cc

pub object_thinned : (f g : Location → Bool) (d : Data) (ms es : Members) → ((k : List ℕ) (l : Location) → f (name k ∷ l) ≡ g (name k ∷ l)) → Some ms ≡ as_object d → es ≡ members_thinned f ms → object es ≡ data_thinned g d
object_thinned f g null ms es h is e = absurd cc
object_thinned f g (boolean b) ms es h is e = absurd cc
object_thinned f g (number n) ms es h is e = absurd cc
object_thinned f g (string s) ms es h is e = absurd cc
object_thinned f g (array xs) ms es h is e = absurd cc
object_thinned f g (object xs) ms es h is e =
    let same : ms ≡ xs = cc in
    ap object (e ∙ ap (members_thinned f) same ∙ members_alike f g h xs)

-- ---- a list: first below the elements

none_below : (i : ℕ) (ds : Items) → thinned_below [] i ds ≡ ds
none_below i no_items = refl
none_below i (item d ds) = ap (item d) (none_below (suc i) ds)

-- an index that is not here changes nothing
past_below : (j : ℕ) (m : LocationTrie) (es : List (ℕ × LocationTrie)) (i : ℕ) (ds : Items) → j < i → thinned_below ((j, m) ∷ es) i ds ≡ thinned_below es i ds
past_below j m es i no_items h = refl
past_below j m es i (item d ds) h =
    let other : nat_eq i j ≡ false = ne_eqb i j (λ e. omega (arith, h, e)) in
    rw (other, past_below j m es (suc i) ds (omega (arith, h)))

-- one element more is as its marks say
pub write_below : (vs : List Value) (n i j : ℕ) (x w : Value) (m : LocationTrie) (es : List (ℕ × LocationTrie)) → j ≡ i + n → n < length vs → x ≡ get_or vs n x → lookup (is_key index (index j)) es ≡ None
    → marked m [] ≡ false → view w ≡ data_thinned (marked m) (view x) → thinned_below es i (items_view (set vs n w)) ≡ thinned_below ((j, m) ∷ es) i (items_view vs)
write_below [] n i j x w m es at within read none here made = absurd (omega (arith, within))
write_below (v ∷ vs) zero i j x w m es at within read none here made =
    let same : i ≡ j = omega (arith, at) in
    let test : nat_eq i j ≡ true = eq-eqb i j same in
    let none_here : lookup (is_key index (index i)) es ≡ None = ap (λ k. lookup (is_key index (index k)) es) same ∙ none in
    let is : view w ≡ data_thinned (marked m) (view v) = made ∙ ap (λ y. data_thinned (marked m) (view y)) read in
    rw (test, none_here, here, is, past_below j m es (suc i) (items_view vs) (omega (arith, same)))
write_below (v ∷ vs) (suc n) i j x w m es at within read none here made =
    let test : nat_eq i j ≡ false = ne_eqb i j (λ e. omega (arith, at, e)) in
    rw test (ap (item (thinned_by (lookup (is_key index (index i)) es) (view v))) (write_below vs n (suc i) j x w m es (omega (arith, at)) (omega (arith, within)) read none here made))

-- an index past the end
pub beyond_below : (vs : List Value) (i j : ℕ) (m : LocationTrie) (es : List (ℕ × LocationTrie)) → i + length vs ≤ j → thinned_below ((j, m) ∷ es) i (items_view vs) ≡ thinned_below es i (items_view vs)
beyond_below [] i j m es h = refl
beyond_below (v ∷ vs) i j m es h =
    let test : nat_eq i j ≡ false = ne_eqb i j (λ e. omega (arith, h, e)) in
    rw (test, beyond_below vs (suc i) j m es (omega (arith, h)))

-- an element that goes itself
pub here_below : (j : ℕ) (m : LocationTrie) (es : List (ℕ × LocationTrie)) → lookup (is_key index (index j)) es ≡ None → marked m [] ≡ true → (i : ℕ) (ds : Items) → thinned_below es i ds ≡ thinned_below ((j, m) ∷ es) i ds
here_below j m es none here i no_items = refl
here_below j m es none here i (item d ds) = pick (nat_eq i j) refl (here_below j m es none here (suc i) ds)
  where
    pick : (b : Bool) → nat_eq i j ≡ b → thinned_below es (suc i) ds ≡ thinned_below ((j, m) ∷ es) (suc i) ds → thinned_below es i (item d ds) ≡ thinned_below ((j, m) ∷ es) i (item d ds)
    pick true e more =
        let absent : lookup (is_key index (index i)) es ≡ None = ap (λ k. lookup (is_key index (index k)) es) (eqb-true i j e) ∙ none in
        rw (e, absent, here, more)
    pick false e more = rw (e, more)

-- then the elements
sieve_one : (o : Option LocationTrie) (d : Data) (es : List (ℕ × LocationTrie)) (i : ℕ) (ds : Items) → lookup (is_key index (index i)) es ≡ o → sieved es (suc i) (thinned_below es (suc i) ds) ≡ items_thinned (marked_below index es) (suc i) ds
    → sieved es i (thinned_below es i (item d ds)) ≡ items_thinned (marked_below index es) i (item d ds)
sieve_one None d es i ds e more = rw (e, more, data_kept d)
sieve_one (Some m) d es i ds e more = pick (marked m []) refl
  where
    pick : (b : Bool) → marked m [] ≡ b → sieved es i (thinned_below es i (item d ds)) ≡ items_thinned (marked_below index es) i (item d ds)
    pick true here = rw (e, here, more)
    pick false here = rw (e, here, more)

sieve_all : (es : List (ℕ × LocationTrie)) (i : ℕ) (ds : Items) → sieved es i (thinned_below es i ds) ≡ items_thinned (marked_below index es) i ds
sieve_all es i no_items = refl
sieve_all es i (item d ds) = sieve_one (lookup (is_key index (index i)) es) d es i ds refl (sieve_all es (suc i) ds)

pub items_end : (es : List (ℕ × LocationTrie)) (now old new : Items) → thinned_below [] 0 now ≡ thinned_below es 0 old → new ≡ sieved es 0 now → new ≡ items_thinned (marked_below index es) 0 old
items_end es now old new below is = is ∙ ap (sieved es 0) (sym (none_below 0 now) ∙ below) ∙ sieve_all es 0 old

-- ---- the loop that drops elements

abbrev pub joined : Items → Items → Items
joined no_items es = es
joined (item d ds) es = item d (joined ds es)

-- a run of elements that are not held stays
run_kept : (es : List (ℕ × LocationTrie)) (end : ℕ) → HoldsNoneBelow es end → (run rest : List Value) (i : ℕ) → i + length run ≡ end → joined (items_view run) (sieved es end (items_view rest)) ≡ sieved es i (items_view (run ++ rest))
run_kept es end none [] rest i is = let e : end ≡ i = omega (arith, is) in ap (λ k. sieved es k (items_view rest)) e
run_kept es end none (x ∷ run) rest i is =
    rw (none.each i (omega (arith, is))) (ap (item (view x)) (run_kept es end none run rest (suc i) (omega (arith, is))))

-- and where such a run is moved to those that were kept before
pub run_moved : (es : List (ℕ × LocationTrie)) (end : ℕ) → HoldsNoneBelow es end → (front rest kept later : List Value) (i : ℕ) → front ++ rest ≡ kept ++ later → i + length front ≡ end + length kept → i ≤ end
    → joined (items_view front) (sieved es end (items_view rest)) ≡ joined (items_view kept) (sieved es i (items_view later))
run_moved es end none front rest [] later i same is le = run_kept es end none front rest i (omega (arith, is)) ∙ ap (λ vs. sieved es i (items_view vs)) same
run_moved es end none [] rest (k ∷ kept) later i same is le = absurd (omega (arith, is, le))
run_moved es end none (f ∷ front) rest (k ∷ kept) later i same is le =
    let first : f ≡ k = cc in
    let more : front ++ rest ≡ kept ++ later = cc in
    ap₂ (λ v ds. item (view v) ds) first (run_moved es end none front rest kept later i more (omega (arith, is)) le)

joined_none : (ds : Items) → joined ds no_items ≡ ds
joined_none no_items = refl
joined_none (item d ds) = ap (item d) (joined_none ds)

take_swap : (xs : List Value) (d : Value) (kept i : ℕ) → kept ≤ i → i < length xs → take (kept + 1) (set (set xs kept (get_or xs i d)) i (get_or xs kept d)) ≡ take kept xs ++ get_or xs i d ∷ []
take_swap xs d kept i le within = pick (eq-or-lt_of_le le)
  where
    pick : (kept ≡ i) ⊎ (kept < i) → take (kept + 1) (set (set xs kept (get_or xs i d)) i (get_or xs kept d)) ≡ take kept xs ++ get_or xs i d ∷ []
    pick (inl e) =
        rw e (take_more_set (set xs i (get_or xs i d)) i (get_or xs i d) (omega (arith, within, length-set xs i (get_or xs i d))) ∙ ap (λ ys. ys ++ get_or xs i d ∷ []) (take-set xs i (get_or xs i d)))
    pick (inr l) = take-set-le (kept + 1) (set xs kept (get_or xs i d)) i (get_or xs kept d) (omega (arith, l)) ∙ take_more_set xs kept (get_or xs i d) (omega (arith, l, within))

drop_swap : (xs : List Value) (d : Value) (kept i : ℕ) → kept ≤ i → drop (i + 1) (set (set xs kept (get_or xs i d)) i (get_or xs kept d)) ≡ drop (i + 1) xs
drop_swap xs d kept i le = drop-set-lt (i + 1) (set xs kept (get_or xs i d)) i (get_or xs kept d) (omega arith) ∙ drop-set-lt (i + 1) xs kept (get_or xs i d) (omega (arith, le))

-- an element that moves down leaves those in front and those behind as they were
pub move_one : (xs ys : List Value) (kept i : ℕ) → kept ≤ i → i < length xs → ys ≡ swap xs kept i → take (kept + 1) ys ++ drop (i + 1) ys ≡ take kept xs ++ drop i xs
move_one [] ys kept i le within is = absurd (omega (arith, within))
move_one (d ∷ more) ys kept i le within is =
    let xs = d ∷ more in
    let swapped : ys ≡ set (set xs kept (get_or xs i d)) i (get_or xs kept d) = is in
    let front : take (kept + 1) ys ≡ take kept xs ++ get_or xs i d ∷ [] = ap (take (kept + 1)) swapped ∙ take_swap xs d kept i le within in
    let back : drop (i + 1) ys ≡ drop (i + 1) xs = ap (drop (i + 1)) swapped ∙ drop_swap xs d kept i le in
    ap₂ (λ a b. a ++ b) front back ∙ append_assoc (take kept xs) (get_or xs i d ∷ []) (drop (i + 1) xs) ∙ ap (λ vs. take kept xs ++ vs) (sym (drop_more xs i d within))

-- the marks before an element hold nothing from it on
past_sieved : (j : ℕ) (m : LocationTrie) (es : List (ℕ × LocationTrie)) (i : ℕ) (ds : Items) → j < i → sieved ((j, m) ∷ es) i ds ≡ sieved es i ds
past_sieved j m es i no_items h = refl
past_sieved j m es i (item d ds) h =
    let other : nat_eq i j ≡ false = ne_eqb i j (λ e. omega (arith, h, e)) in
    rw (other, past_sieved j m es (suc i) ds (omega (arith, h)))

-- an element that is held goes
pub one_gone : (j : ℕ) (m : LocationTrie) (es : List (ℕ × LocationTrie)) (xs : List Value) → marked m [] ≡ true → j < length xs
    → sieved es (j + 1) (items_view (drop (j + 1) xs)) ≡ sieved ((j, m) ∷ es) j (items_view (drop j xs))
one_gone j m es [] here within = absurd (omega (arith, within))
one_gone j m es (d ∷ more) here within =
    let xs = d ∷ more in
    let test : nat_eq j j ≡ true = eq-eqb j j refl in
    let next : sieved ((j, m) ∷ es) j (items_view (drop j xs)) ≡ sieved es (j + 1) (items_view (drop (j + 1) xs)) =
    ap (λ zs. sieved ((j, m) ∷ es) j (items_view zs)) (drop_more xs j d within) ∙ rw (test, here, add-one) (past_sieved j m es (suc j) (items_view (drop (suc j) xs)) (omega arith)) in
    sym next

-- an index past the end, or one that is not held
pub unheld_sieved : (j : ℕ) (m : LocationTrie) (es : List (ℕ × LocationTrie)) (end : ℕ) → (j < end → marked m [] ≡ false) → lookup (is_key index (index j)) es ≡ None
    → (vs : List Value) (i : ℕ) → i + length vs ≤ end → sieved ((j, m) ∷ es) i (items_view vs) ≡ sieved es i (items_view vs)
unheld_sieved j m es end none absent [] i le = refl
unheld_sieved j m es end none absent (v ∷ vs) i le = pick (nat_eq i j) refl (unheld_sieved j m es end none absent vs (suc i) (omega (arith, le)))
  where
    pick : (b : Bool) → nat_eq i j ≡ b → sieved ((j, m) ∷ es) (suc i) (items_view vs) ≡ sieved es (suc i) (items_view vs) → sieved ((j, m) ∷ es) i (items_view (v ∷ vs)) ≡ sieved es i (items_view (v ∷ vs))
    pick true e more =
        let same : i ≡ j = eqb-true i j e in
        let later : lookup (is_key index (index i)) es ≡ None = ap (λ k. lookup (is_key index (index k)) es) same ∙ absent in
        rw (e, later, none (omega (arith, le, same)), more)
    pick false e more = rw (e, more)

pub none_left : (es : List (ℕ × LocationTrie)) (xs : List Value) (kept i : ℕ) (all : Items) → length xs ≤ i → joined (items_view (take kept xs)) (sieved es i (items_view (drop i xs))) ≡ all → items_view (take kept xs) ≡ all
none_left es xs kept i all past h = sym (joined_none _) ∙ ap (λ ys. joined (items_view (take kept xs)) (sieved es i (items_view ys))) (sym (drop_all i xs past)) ∙ h

-- of so many marks those in front are gone through: what is kept so far stands in front, and what is not looked at yet, and is in no
-- mark before, where it did
abbrev pub DropsSoFar : List (ℕ × LocationTrie) → List Value → ℕ → List Value → ℕ → ℕ → Type 0
DropsSoFar marks start i now gone next =
    (joined (items_view (take (next - gone) now)) (sieved (drop i marks) next (items_view (drop next now))) ≡ sieved marks 0 (items_view start))
    × IsFrom (drop i marks) next × (gone ≤ next) × (next ≤ length now) × (length now ≡ length start)

pub drops_as : (marks : List (ℕ × LocationTrie)) (start : List Value) (i : ℕ) (now new : List Value) (gone next g n : ℕ) → new ≡ now → g ≡ gone → n ≡ next → DropsSoFar marks start i now gone next → DropsSoFar marks start i new g n
drops_as marks start i now new gone next g n e f h d = subst (λ xs. DropsSoFar marks start i xs g n) (sym e) (subst (λ k. DropsSoFar marks start i now k n) (sym f) (subst (DropsSoFar marks start i now gone) (sym h) d))

-- ---- objects

abbrev pub is_entry : List ℕ → String Global → Bool
is_entry k = is_at (λ l. slice_cmp nat_cmp k (string_bytes l))

pub same_name : (k : List ℕ) (l : String Global) → is_entry k l ≡ true → k ≡ string_bytes l
same_name k l h = (bytes_eq-Decides k (string_bytes l)).0 (sym (is_eq-slice_cmp k (string_bytes l)) ∙ h)

pub other_name : (k : List ℕ) (l : String Global) → is_entry k l ≡ false → bytes_eq (string_bytes l) k ≡ false
other_name k l h = pick (bytes_eq (string_bytes l) k) refl
  where
    pick : (b : Bool) → bytes_eq (string_bytes l) k ≡ b → b ≡ false
    pick true e =
        let back : bytes_eq k (string_bytes l) ≡ true = (bytes_eq-Decides k (string_bytes l)).1 (sym ((bytes_eq-Decides (string_bytes l) k).0 e)) in
        sym back ∙ sym (is_eq-slice_cmp k (string_bytes l)) ∙ h
    pick false e = refl

-- a member of another name
member_other : (k : String Global) (m : LocationTrie) (es : List (String Global × LocationTrie)) (l : String Global) → is_entry (string_bytes k) l ≡ false → (x : Location) → marked_below to_member ((k, m) ∷ es) (name (string_bytes l) ∷ x) ≡ marked_below to_member es (name (string_bytes l) ∷ x)
member_other k m es l h x = rw (other_name (string_bytes k) l h)

-- where no member has the name
others_thinned : (k : String Global) (m : LocationTrie) (es : List (String Global × LocationTrie)) (ms : List Entry) → NonePasses (is_entry (string_bytes k)) ms
    → members_thinned (marked_below to_member ((k, m) ∷ es)) (members_view ms) ≡ members_thinned (marked_below to_member es) (members_view ms)
others_thinned k m es [] h = refl
others_thinned k m es (e ∷ ms) h =
    let f = marked_below to_member ((k, m) ∷ es) in let g = marked_below to_member es in let n = name (string_bytes e.0) in
    let inside : data_thinned (λ x. f (n ∷ x)) (view e.1) ≡ data_thinned (λ x. g (n ∷ x)) (view e.1) = data_alike (λ x. f (n ∷ x)) (λ x. g (n ∷ x)) (λ s x. member_other k m es e.0 h.0 (s ∷ x)) (view e.1) in
    rw (member_other k m es e.0 h.0 [], inside, others_thinned k m es ms h.1)

-- a name that no member has changes nothing
pub absent_thinned : (k : String Global) (m : LocationTrie) (es : List (String Global × LocationTrie)) (ms : List Entry) → lookup (is_entry (string_bytes k)) ms ≡ None
    → members_thinned (marked_below to_member ((k, m) ∷ es)) (members_view ms) ≡ members_thinned (marked_below to_member es) (members_view ms)
absent_thinned k m es ms h = others_thinned k m es ms (none_passes_from_lookup (is_entry (string_bytes k)) ms h)

pub none_after : (k : List ℕ) (e : Entry) (ms : List Entry) → is_entry k e.0 ≡ true → AllByRecursion (λ l. string_cmp e.0 l ≡ Less) (keys_of ms) → NonePasses (is_entry k) ms
none_after k e [] same h = tt
none_after k e (f ∷ ms) same h = (ap (λ x. is_eq (slice_cmp nat_cmp x (string_bytes f.0))) (same_name k e.0 same) ∙ ap is_eq h.0, none_after k e ms same h.1)

-- the member goes
pub removed_thinned : (k : String Global) (m : LocationTrie) (es : List (String Global × LocationTrie)) (ms : List Entry) → lookup (is_entry (string_bytes k)) (remove_entry (is_entry (string_bytes k)) ms) ≡ None → marked m [] ≡ true
    → members_thinned (marked_below to_member es) (members_view (remove_entry (is_entry (string_bytes k)) ms)) ≡ members_thinned (marked_below to_member ((k, m) ∷ es)) (members_view ms)
removed_thinned k m es [] gone here = refl
removed_thinned k m es (e ∷ ms) gone here = pick (is_entry (string_bytes k) e.0) refl (λ later. removed_thinned k m es ms later here)
  where
    pick : (b : Bool) → is_entry (string_bytes k) e.0 ≡ b
        → (lookup (is_entry (string_bytes k)) (remove_entry (is_entry (string_bytes k)) ms) ≡ None → members_thinned (marked_below to_member es) (members_view (remove_entry (is_entry (string_bytes k)) ms)) ≡ members_thinned (marked_below to_member ((k, m) ∷ es)) (members_view ms))
        → members_thinned (marked_below to_member es) (members_view (remove_entry (is_entry (string_bytes k)) (e ∷ ms))) ≡ members_thinned (marked_below to_member ((k, m) ∷ es)) (members_view (e ∷ ms))
    pick true same more =
        let test : bytes_eq (string_bytes e.0) (string_bytes k) ≡ true = (bytes_eq-Decides (string_bytes e.0) (string_bytes k)).1 (sym (same_name (string_bytes k) e.0 same)) in
        let rest : remove_entry (is_entry (string_bytes k)) (e ∷ ms) ≡ ms = rw same in
        let none : lookup (is_entry (string_bytes k)) ms ≡ None = ap (lookup (is_entry (string_bytes k))) (sym rest) ∙ gone in
        rw (same, test, here) (sym (absent_thinned k m es ms none))
    pick false other more =
        let f = marked_below to_member ((k, m) ∷ es) in let g = marked_below to_member es in let n = name (string_bytes e.0) in
        let inside : data_thinned (λ x. f (n ∷ x)) (view e.1) ≡ data_thinned (λ x. g (n ∷ x)) (view e.1) = data_alike (λ x. f (n ∷ x)) (λ x. g (n ∷ x)) (λ s x. member_other k m es e.0 other (s ∷ x)) (view e.1) in
        let rest : remove_entry (is_entry (string_bytes k)) (e ∷ ms) ≡ e ∷ remove_entry (is_entry (string_bytes k)) ms = rw other in
        let later : lookup (is_entry (string_bytes k)) (remove_entry (is_entry (string_bytes k)) ms) ≡ None = sym (ap (lookup (is_entry (string_bytes k))) rest ∙ rw other) ∙ gone in
        rw (other, member_other k m es e.0 other [], inside, more later)

-- one member more is as its marks say
pub written_thinned : (k : String Global) (m : LocationTrie) (es : List (String Global × LocationTrie)) (ms : List Entry) (x w : Value) → IsStrictlySortedBy string_cmp (keys_of ms) → lookup (is_entry (string_bytes k)) ms ≡ Some x
    → lookup (is_key to_member (name (string_bytes k))) es ≡ None → marked m [] ≡ false → view w ≡ data_thinned (marked m) (view x)
    → members_thinned (marked_below to_member es) (members_view (set_value (is_entry (string_bytes k)) ms w)) ≡ members_thinned (marked_below to_member ((k, m) ∷ es)) (members_view ms)
unfolding IsStrictlySortedBy
written_thinned k m es [] x w ordered found none here made = refl
written_thinned k m es (e ∷ ms) x w ordered found none here made = pick (is_entry (string_bytes k) e.0) refl (λ later. written_thinned k m es ms x w ordered.1 later none here made)
  where
    pick : (b : Bool) → is_entry (string_bytes k) e.0 ≡ b
        → (lookup (is_entry (string_bytes k)) ms ≡ Some x → members_thinned (marked_below to_member es) (members_view (set_value (is_entry (string_bytes k)) ms w)) ≡ members_thinned (marked_below to_member ((k, m) ∷ es)) (members_view ms))
        → members_thinned (marked_below to_member es) (members_view (set_value (is_entry (string_bytes k)) (e ∷ ms) w)) ≡ members_thinned (marked_below to_member ((k, m) ∷ es)) (members_view (e ∷ ms))
    pick true same more =
        let test : bytes_eq (string_bytes e.0) (string_bytes k) ≡ true = (bytes_eq-Decides (string_bytes e.0) (string_bytes k)).1 (sym (same_name (string_bytes k) e.0 same)) in
        let none_here : lookup (is_key to_member (name (string_bytes e.0))) es ≡ None = ap (λ n. lookup (is_key to_member (name n)) es) (sym (same_name (string_bytes k) e.0 same)) ∙ none in
        let first : Some e.1 ≡ Some x = sym (rw same) ∙ found in
        let is : view w ≡ data_thinned (marked m) (view e.1) = made ∙ ap (λ o. data_thinned (marked m) (view (unwrap_or o x))) (sym first) in
        rw (same, test, none_here, here, data_kept (view w), is) (ap (member (string_bytes e.0) (data_thinned (marked m) (view e.1))) (sym (others_thinned k m es ms (none_after (string_bytes k) e ms same ordered.0))))
    pick false other more =
        let f = marked_below to_member ((k, m) ∷ es) in let g = marked_below to_member es in let n = name (string_bytes e.0) in
        let inside : data_thinned (λ x. f (n ∷ x)) (view e.1) ≡ data_thinned (λ x. g (n ∷ x)) (view e.1) = data_alike (λ x. f (n ∷ x)) (λ x. g (n ∷ x)) (λ s x. member_other k m es e.0 other (s ∷ x)) (view e.1) in
        let later : lookup (is_entry (string_bytes k)) ms ≡ Some x = sym (rw other) ∙ found in
        rw (other, member_other k m es e.0 other [], inside, more later)

pub members_end : (es : List (String Global × LocationTrie)) (now old : Members) → members_thinned (marked_below to_member []) now ≡ members_thinned (marked_below to_member es) old → now ≡ members_thinned (marked_below to_member es) old
members_end es now old h = sym (members_alike (marked_below to_member []) (λ l. false) (λ k l. refl) now ∙ members_kept now) ∙ h
