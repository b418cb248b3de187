-- What each step of a replacement leaves of data, and how many copies it takes.
use Rattle.std.proofs.Common.{◌≡◌, ℕ, zero, suc, ◌+◌, ◌<◌, ◌≤◌, List, [], ◌∷◌, map, length, drop, set, get_or, Bool, true, false, if◌then◌else◌, cond, Some, None, bytes_eq, String, Global, string_bytes, string_cmp, eq-eqb, ne_eqb, unwrap_or, refl, sym, ap, ap₂, ◌∙◌, rules, arith}
use Rattle.std.proofs.lemmas.List.{drop_more}
use Rattle.std.proofs.lemmas.Map.{NonePasses, none_passes_from_lookup}
use Rattle.std.proofs.lemmas.Slice.Eq.{bytes_eq-Decides}
use Rattle.jsonpath_base.specs.Prelude.{array, as_array, as_object, boolean, Data, data_below, data_overwritten, index, is_key, IsStrictlySortedBy, item, Items, items_overwritten, items_view, keys_of, Location, lookup, marked, marked_below, marked_by, LocationTrie, marks_count, marks_total, members_overwritten, members_view, name, no_items, out-LocationTrie, outermost_count, outermost_total, set_value, Step, string, the_lemmas, to_member, total, Value, view}
use Rattle.serde_json.specs.Data.{null, number, object, Members, no_members, member}
use Rattle.serde_json.proofs.Views.{Entry}
use Rattle.jsonpath_base.proofs.Marking.{marked_here}
use Rattle.jsonpath_base.proofs.PutWhole.{list_data, object_data}
use Rattle.jsonpath_base.proofs.Removing.{is_entry, same_name, other_name, none_after}

-- ---- sets that say the same

-- the elements from one on
items_alike : (f g : Location → Bool) (u : Data) (i : ℕ) (ds : Items) → ((k : ℕ) (l : Location) → i ≤ k → f (index k ∷ l) ≡ g (index k ∷ l)) → items_overwritten f u i ds ≡ items_overwritten g u i ds
items_alike f g u i no_items h = refl
items_alike f g u i (item d ds) h =
    let low : i ≤ i = omega arith in
    let same : (λ (l : Location). f (index i ∷ l)) ≡ (λ l. g (index i ∷ l)) = λ j l. h i l low j in
    ap₂ item (ap (λ s. data_overwritten s u d) same) (items_alike f g u (suc i) ds (λ k l le. h k l (omega (arith, le))))

members_alike : (f g : Location → Bool) (u : Data) → ((k : List ℕ) (l : Location) → f (name k ∷ l) ≡ g (name k ∷ l)) → (ms : Members) → members_overwritten f u ms ≡ members_overwritten g u ms
members_alike f g u h no_members = refl
members_alike f g u h (member k d ms) =
    let same : (λ (l : Location). f (name k ∷ l)) ≡ (λ l. g (name k ∷ l)) = λ j l. h k l j in
    ap₂ (member k) (ap (λ s. data_overwritten s u d) same) (members_alike f g u h ms)

-- the empty set
mutual
  data_kept : (u d : Data) → data_below (λ l. false) u d ≡ d
  data_kept u null = refl
  data_kept u (boolean b) = refl
  data_kept u (number n) = refl
  data_kept u (string s) = refl
  data_kept u (array ds) = ap array (items_kept u 0 ds)
  data_kept u (object ms) = ap object (members_kept u ms)

  items_kept : (u : Data) (i : ℕ) (ds : Items) → items_overwritten (λ l. false) u i ds ≡ ds
  items_kept u i no_items = refl
  items_kept u i (item d ds) = ap₂ item (data_kept u d) (items_kept u (suc i) ds)

  members_kept : (u : Data) (ms : Members) → members_overwritten (λ l. false) u ms ≡ ms
  members_kept u no_members = refl
  members_kept u (member k d ms) = ap₂ (member k) (data_kept u d) (members_kept u ms)

-- ---- a value

pub put_here : (m : LocationTrie) (u d : Data) → (out-LocationTrie m).is_marked ≡ true → u ≡ data_overwritten (marked m) u d
put_here m u d e = sym (ap (λ b. if b then u else data_below (marked m) u d) (marked_here m ∙ e))

pub gone_into : (m : LocationTrie) (u d : Data) → (out-LocationTrie m).is_marked ≡ false → data_below (marked m) u d ≡ data_overwritten (marked m) u d
gone_into m u d e = sym (ap (λ b. if b then u else data_below (marked m) u d) (marked_here m ∙ e))

pub array_filled : (f g : Location → Bool) (u d : Data) (ds es : Items) → ((i : ℕ) (l : Location) → f (index i ∷ l) ≡ g (index i ∷ l)) → Some ds ≡ as_array d → es ≡ items_overwritten f u 0 ds → array es ≡ data_below g u d
array_filled f g u d ds es h is e = ap array (e ∙ items_alike f g u 0 ds (λ k l le. h k l)) ∙ ap (data_below g u) (sym (list_data d ds is))

pub object_filled : (f g : Location → Bool) (u d : Data) (ms es : Members) → ((k : List ℕ) (l : Location) → f (name k ∷ l) ≡ g (name k ∷ l)) → Some ms ≡ as_object d → es ≡ members_overwritten f u ms → object es ≡ data_below g u d
object_filled f g u d ms es h is e = ap object (e ∙ members_alike f g u h ms) ∙ ap (data_below g u) (sym (object_data d ms is))

-- what is neither a list nor an object
pub scalar_filled : (f : Location → Bool) (u d : Data) → None ≡ as_array d → None ≡ as_object d → d ≡ data_below f u d
scalar_filled f u null a o = refl
scalar_filled f u (boolean b) a o = refl
scalar_filled f u (number n) a o = refl
scalar_filled f u (string s) a o = refl
scalar_filled f u (array ds) a o = absurd cc
scalar_filled f u (object ms) a o = absurd cc

-- ---- a child

-- one whose marks are these
child_filled : {K : Type 0} (to : K → Step) (s : Step) (k : K) (m : LocationTrie) (es : List (K × LocationTrie)) (u x w : Data) → is_key to s k ≡ true → lookup (is_key to s) es ≡ None → w ≡ data_overwritten (marked m) u x
    → data_overwritten (λ l. marked_below to es (s ∷ l)) u w ≡ data_overwritten (λ l. marked_below to ((k, m) ∷ es) (s ∷ l)) u x
child_filled to s k m es u x w here none made =
    ap (λ o. data_overwritten (marked_by o) u w) none ∙ data_kept u w ∙ made ∙ sym (ap (λ b. data_overwritten (marked_by (cond b (Some m) (lookup (is_key to s) es))) u x) here)

-- another one
child_apart : {K : Type 0} (to : K → Step) (s : Step) (k : K) (m : LocationTrie) (es : List (K × LocationTrie)) (u d : Data) → is_key to s k ≡ false
    → data_overwritten (λ l. marked_below to ((k, m) ∷ es) (s ∷ l)) u d ≡ data_overwritten (λ l. marked_below to es (s ∷ l)) u d
child_apart to s k m es u d other = ap (λ b. data_overwritten (marked_by (cond b (Some m) (lookup (is_key to s) es))) u d) other

-- ---- a list

-- an index that is not here changes nothing
past_filled : (u : Data) (j : ℕ) (m : LocationTrie) (es : List (ℕ × LocationTrie)) (i : ℕ) (ds : Items) → j < i → items_overwritten (marked_below index ((j, m) ∷ es)) u i ds ≡ items_overwritten (marked_below index es) u i ds
past_filled u j m es i no_items h = refl
past_filled u j m es i (item d ds) h = ap₂ item (child_apart index (index i) j m es u d (ne_eqb i j (λ e. omega (arith, h, e)))) (past_filled u j m es (suc i) ds (omega (arith, h)))

-- one element more is as its marks say
pub element_filled : (u : Data) (vs : List Value) (n i j : ℕ) (x w : Value) (m : LocationTrie) (es : List (ℕ × LocationTrie)) → j ≡ i + n → n < length vs → x ≡ get_or vs n x → lookup (is_key index (index j)) es ≡ None
    → view w ≡ data_overwritten (marked m) u (view x) → items_overwritten (marked_below index es) u i (items_view (set vs n w)) ≡ items_overwritten (marked_below index ((j, m) ∷ es)) u i (items_view vs)
element_filled u [] n i j x w m es at within read none made = absurd (omega (arith, within))
element_filled u (v ∷ vs) zero i j x w m es at within read none made =
    let same : i ≡ j = omega (arith, at) in
    let none_here : lookup (is_key index (index i)) es ≡ None = ap (λ k. lookup (is_key index (index k)) es) same ∙ none in
    let is : view w ≡ data_overwritten (marked m) u (view v) = made ∙ ap (λ y. data_overwritten (marked m) u (view y)) read in
    ap₂ item (child_filled index (index i) j m es u (view v) (view w) (eq-eqb i j same) none_here is) (sym (past_filled u j m es (suc i) (items_view vs) (omega (arith, same))))
element_filled u (v ∷ vs) (suc n) i j x w m es at within read none made =
    ap₂ item (sym (child_apart index (index i) j m es u (view v) (ne_eqb i j (λ e. omega (arith, at, e))))) (element_filled u vs n (suc i) j x w m es (omega (arith, at)) (omega (arith, within)) read none made)

-- an index past the end
pub beyond_filled : (u : Data) (vs : List Value) (i j : ℕ) (m : LocationTrie) (es : List (ℕ × LocationTrie)) → i + length vs ≤ j → items_overwritten (marked_below index ((j, m) ∷ es)) u i (items_view vs) ≡ items_overwritten (marked_below index es) u i (items_view vs)
beyond_filled u [] i j m es h = refl
beyond_filled u (v ∷ vs) i j m es h = ap₂ item (child_apart index (index i) j m es u (view v) (ne_eqb i j (λ e. omega (arith, h, e)))) (beyond_filled u vs (suc i) j m es (omega (arith, h)))

pub items_end : (u : Data) (es : List (ℕ × LocationTrie)) (now old : Items) → items_overwritten (marked_below index []) u 0 now ≡ items_overwritten (marked_below index es) u 0 old → now ≡ items_overwritten (marked_below index es) u 0 old
items_end u es now old h = sym (items_alike (marked_below index []) (λ l. false) u 0 now (λ k l le. refl) ∙ items_kept u 0 now) ∙ h

-- ---- an object

-- where no member has the name
others_filled : (u : Data) (k : String Global) (m : LocationTrie) (es : List (String Global × LocationTrie)) (ms : List Entry) → NonePasses (is_entry (string_bytes k)) ms
    → members_overwritten (marked_below to_member ((k, m) ∷ es)) u (members_view ms) ≡ members_overwritten (marked_below to_member es) u (members_view ms)
others_filled u k m es [] h = refl
others_filled u k m es (e ∷ ms) h =
    ap₂ (member (string_bytes e.0)) (child_apart to_member (name (string_bytes e.0)) k m es u (view e.1) (other_name (string_bytes k) e.0 h.0)) (others_filled u k m es ms h.1)

-- a name that no member has changes nothing
pub absent_filled : (u : Data) (k : String Global) (m : LocationTrie) (es : List (String Global × LocationTrie)) (ms : List Entry) → lookup (is_entry (string_bytes k)) ms ≡ None
    → members_overwritten (marked_below to_member ((k, m) ∷ es)) u (members_view ms) ≡ members_overwritten (marked_below to_member es) u (members_view ms)
absent_filled u k m es ms h = others_filled u k m es ms (none_passes_from_lookup (is_entry (string_bytes k)) ms h)

-- one member more is as its marks say
pub member_filled : (u : Data) (k : String Global) (m : LocationTrie) (es : List (String Global × LocationTrie)) (ms : List Entry) (x w : Value) → IsStrictlySortedBy string_cmp (keys_of ms) → lookup (is_entry (string_bytes k)) ms ≡ Some x
    → lookup (is_key to_member (name (string_bytes k))) es ≡ None → view w ≡ data_overwritten (marked m) u (view x)
    → members_overwritten (marked_below to_member es) u (members_view (set_value (is_entry (string_bytes k)) ms w)) ≡ members_overwritten (marked_below to_member ((k, m) ∷ es)) u (members_view ms)
unfolding IsStrictlySortedBy
member_filled u k m es [] x w ordered found none made = refl
member_filled u k m es (e ∷ ms) x w ordered found none made = pick (is_entry (string_bytes k) e.0) refl (λ later. member_filled u k m es ms x w ordered.1 later none made)
  where
    pick : (b : Bool) → is_entry (string_bytes k) e.0 ≡ b
        → (lookup (is_entry (string_bytes k)) ms ≡ Some x → members_overwritten (marked_below to_member es) u (members_view (set_value (is_entry (string_bytes k)) ms w)) ≡ members_overwritten (marked_below to_member ((k, m) ∷ es)) u (members_view ms))
        → members_overwritten (marked_below to_member es) u (members_view (set_value (is_entry (string_bytes k)) (e ∷ ms) w)) ≡ members_overwritten (marked_below to_member ((k, m) ∷ es)) u (members_view (e ∷ ms))
    pick true same more =
        let at : string_bytes k ≡ string_bytes e.0 = same_name (string_bytes k) e.0 same in
        let test : bytes_eq (string_bytes e.0) (string_bytes k) ≡ true = (bytes_eq-Decides (string_bytes e.0) (string_bytes k)).1 (sym at) in
        let none_here : lookup (is_key to_member (name (string_bytes e.0))) es ≡ None = ap (λ n. lookup (is_key to_member (name n)) es) (sym at) ∙ none in
        let first : Some e.1 ≡ Some x = sym (rw same) ∙ found in
        let is : view w ≡ data_overwritten (marked m) u (view e.1) = made ∙ ap (λ o. data_overwritten (marked m) u (view (unwrap_or o x))) (sym first) in
        rw same (ap₂ (member (string_bytes e.0)) (child_filled to_member (name (string_bytes e.0)) k m es u (view e.1) (view w) test none_here is) (sym (others_filled u k m es ms (none_after (string_bytes k) e ms same ordered.0))))
    pick false other more =
        let later : lookup (is_entry (string_bytes k)) ms ≡ Some x = sym (rw other) ∙ found in
        rw other (ap₂ (member (string_bytes e.0)) (sym (child_apart to_member (name (string_bytes e.0)) k m es u (view e.1) (other_name (string_bytes k) e.0 other))) (more later))

pub members_end : (u : Data) (es : List (String Global × LocationTrie)) (now old : Members) → members_overwritten (marked_below to_member []) u now ≡ members_overwritten (marked_below to_member es) u old → now ≡ members_overwritten (marked_below to_member es) u old
members_end u es now old h = sym (members_alike (marked_below to_member []) (λ l. false) u (λ k l. refl) now ∙ members_kept u now) ∙ h

-- ---- how many copies

total-map : {K : Type 0} (es : List (K × LocationTrie)) → total (map (λ e. (e.0, outermost_count e.1)) es) ≡ outermost_total es
total-map [] = refl
total-map (e ∷ es) = ap (λ n. outermost_count e.1 + n) (total-map es)

outermost_further : (m : LocationTrie) → outermost_count m
    ≡ (if (out-LocationTrie m).is_marked then 1 else total (map (λ e. (e.0, outermost_count e.1)) (out-LocationTrie m).names.items) + total (map (λ e. (e.0, outermost_count e.1)) (out-LocationTrie m).indexes.items))
outermost_further m = search (rules, the_lemmas)

outermost_out : (m : LocationTrie) → outermost_count m ≡ (if (out-LocationTrie m).is_marked then 1 else outermost_total (out-LocationTrie m).names.items + outermost_total (out-LocationTrie m).indexes.items)
outermost_out m = outermost_further m ∙ rw (total-map (out-LocationTrie m).names.items, total-map (out-LocationTrie m).indexes.items)

pub outermost_here : (m : LocationTrie) → (out-LocationTrie m).is_marked ≡ true → outermost_count m ≡ 1
outermost_here m e = outermost_out m ∙ ap (λ b. if b then 1 else outermost_total (out-LocationTrie m).names.items + outermost_total (out-LocationTrie m).indexes.items) e

pub outermost_inside : (m : LocationTrie) → (out-LocationTrie m).is_marked ≡ false → outermost_count m ≡ outermost_total (out-LocationTrie m).names.items + outermost_total (out-LocationTrie m).indexes.items
outermost_inside m e = outermost_out m ∙ ap (λ b. if b then 1 else outermost_total (out-LocationTrie m).names.items + outermost_total (out-LocationTrie m).indexes.items) e

pub outermost_next : {K : Type 0} (es : List (K × LocationTrie)) (i : ℕ) (e : K × LocationTrie) → i < length es → e ≡ get_or es i e → outermost_total (drop i es) ≡ outermost_count e.1 + outermost_total (drop (i + 1) es)
outermost_next {K} es i e within read = ap outermost_total (drop_more es i e within) ∙ ap (λ (x : K × LocationTrie). outermost_count x.1 + outermost_total (drop (i + 1) es)) (sym read)

pub marks_at : {K : Type 0} (es : List (K × LocationTrie)) (i : ℕ) (e : K × LocationTrie) → i < length es → e ≡ get_or es i e → marks_count e.1 ≤ marks_total es
marks_at [] i e within read = absurd (omega (arith, within))
marks_at {K} (x ∷ es) zero e within read = omega (arith, ap (λ (y : K × LocationTrie). marks_count y.1) read)
marks_at (x ∷ es) (suc i) e within read = omega (arith, marks_at es i e (omega (arith, within)) read)
