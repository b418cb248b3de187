-- The pointer of a location where something is means that location, and finds what is there.
use Rattle.std.proofs.Common.{◌≡◌, ◌≢◌, ℕ, zero, suc, ◌^◌, ◌<◌, List, [], ◌∷◌, ◌++◌, length, get_or, slice_get, flat_map, Bool, true, false, ◌||◌, ◌==◌, not, cond, decimal, String, Vec, BTreeMap, Global, Option, Some, None, IsSome, is_some, true≢false, option_map, option_and_then, refl, sym, ap, subst, ◌∙◌, append-nil, arith, lt-ltb, eq-eqb}
use Rattle.std.proofs.lemmas.Fmt.{decimal_is_IsNumeral, decimal_nonempty, first_decimal}
use Rattle.std.specs.Char.{digit_value}
use Rattle.std.specs.Prelude.{⊤}
use Rattle.jsonpath_base.specs.Prelude.{at, child, Data, escaped, index, index_digits, index_of, items_view, led, Location, lookup, members_view, name, pointer, PointerFindsItsPlace, PointerReadsBack, scan, Step, step_in, tokens, tokens_from, Tree, tree_of, unescape, Value, value_tree, view}
use Rattle.std.specs.Str.Parse.{AllDigits, digits_value}
use Rattle.fast_float.specs.Text.{Parts, digits_of, IsWellFormed}
use Rattle.fast_float.proofs.Writing.{scan-text_of}
use Rattle.serde_json.specs.Data as json
use Rattle.serde_json.specs.Find as json_find
use Rattle.serde_json.specs.View.{view_step}
use Rattle.serde_json.specs.declared.value.Value.{map-Value}
use Rattle.serde_json.specs.declared.value.Value.TheFolds.{fold_out-Value}
use Rattle.serde_json.specs.declared.value.Value.TheOpen.{Value-F}
use Rattle.serde_json.specs.declared.value.Value.TheViews.{out-Value}
use Rattle.serde_json.proofs.Views.{view-lookup}
use Rattle.jsonpath_base.specs.Pointer.{token}
use Rattle.jsonpath_base.proofs.PointerTexts.{Lacks}
use Rattle.jsonpath_base.proofs.PointerMeanings.{leads_as_found}
use Rattle.jsonpath_base.proofs.PointerWays.{unescape_head, mark_one, mark_zero, token_then, led_down}
use Rattle.jsonpath_parser.proofs.laws.words.Quoting.{decimal_index}
use Rattle.jsonpath_base.proofs.Placing.{item_at-trees_of}
use Rattle.jsonpath_base.proofs.Putting.{is_entry, no_list, no_object}
use Rattle.jsonpath_base.proofs.PutWhole.{list_data, object_data}
use Rattle.jsonpath_base.proofs.Views.{find-members_of}

-- ---- a name

abbrev Free : ℕ → List ℕ → Type 0
Free c [] = ⊤
Free c (x ∷ xs) = (x ≢ c) × Free c xs

free_lacks : (c : ℕ) (xs : List ℕ) → Free c xs → Lacks c xs
free_lacks c [] h i less = absurd (omega (arith, less))
free_lacks c (x ∷ xs) h zero less = h.0
free_lacks c (x ∷ xs) h (suc i) less = free_lacks c xs h.1 i (omega (arith, less))

by_char : (P : List ℕ → Type 0) (c : ℕ) → (c ≡ 126 → P (126 ∷ 48 ∷ [])) → (c ≡ 47 → P (126 ∷ 49 ∷ [])) → (c ≢ 126 → c ≢ 47 → P (c ∷ [])) → P (escaped c)
by_char P c tilde slash other = pick (c == 126) (c == 47) refl refl
  where
    pick : (s t : Bool) → (c == 126) ≡ s → (c == 47) ≡ t → P (cond s (126 ∷ 48 ∷ []) (cond t (126 ∷ 49 ∷ []) (c ∷ [])))
    pick true t e f = tilde (grind (arith, e))
    pick false true e f = slash (grind (arith, f))
    pick false false e f = other (grind (arith, e)) (grind (arith, f))

name_free : (k : List ℕ) → Free 47 (flat_map escaped k)
name_free [] = tt
name_free (c ∷ cs) =
    by_char (λ xs. Free 47 (xs ++ flat_map escaped cs)) c
    (λ e. (omega arith, (omega arith, name_free cs))) (λ e. (omega arith, (omega arith, name_free cs))) (λ tilde slash. (slash, name_free cs))

name_back : (k : List ℕ) → unescape (flat_map escaped k) ≡ k
unfolding unescape
name_back [] = refl
name_back (c ∷ cs) =
    by_char (λ xs. unescape (xs ++ flat_map escaped cs) ≡ c ∷ cs) c
    (λ e. mark_zero (48 ∷ flat_map escaped cs) (flat_map escaped cs) refl ∙ ap (λ l. 126 ∷ l) (name_back cs) ∙ ap (λ x. x ∷ cs) (sym e))
    (λ e. mark_one (49 ∷ flat_map escaped cs) (flat_map escaped cs) refl ∙ ap (λ l. 47 ∷ l) (name_back cs) ∙ ap (λ x. x ∷ cs) (sym e))
    (λ tilde slash. unescape_head c (flat_map escaped cs) tilde ∙ ap (λ l. c ∷ l) (name_back cs))

-- ---- an index

digits_free : (ds : List ℕ) → AllDigits 10 ds → Free 47 ds
digits_free [] h = tt
digits_free (d ∷ ds) h = (λ e. let digit : digit_value d < 10 = h.0 in grind arith, digits_free ds h.1)

abbrev parts_of : List ℕ → Parts
parts_of ds = record { whole = ds; point = false; fraction = []; exponent_negative = false; exponent = []; len = length (ds ++ []) }

scanned : (n : ℕ) → n < 2 ^ 64 → scan (decimal n) ≡ parts_of (decimal n)
scanned n h =
    let e = decimal_is_IsNumeral n h in
    let formed : IsWellFormed (parts_of (decimal n)) = record { whole_digits = e.0.1; fraction_digits = tt; exponent_digits = tt; no_point = λ _. refl; no_exponent = λ _. refl; len_is = refl } in
    ap scan (sym (append-nil (decimal n))) ∙ scan-text_of (parts_of (decimal n)) formed

or_true : (t : Bool) → (t || true) ≡ true
or_true true = refl
or_true false = refl

front_test : (a b : ℕ) → (a ≡ 48 → b ≡ 1) → ((b == 1) || not (a == 48)) ≡ true
front_test a b h = pick (a == 48) refl
  where
    pick : (t : Bool) → (a == 48) ≡ t → ((b == 1) || not t) ≡ true
    pick true e = rw (h (grind (arith, e))) refl
    pick false e = or_true (b == 1)

index_of_is : (s : List ℕ) (p : Parts) (n : ℕ) → scan s ≡ p → 0 < length p.whole → p.point ≡ false → length p.exponent ≡ 0 → p.len ≡ length s → digits_of p ≡ n → n < 2 ^ 64 → (get_or s 0 0 ≡ 48 → length s ≡ 1) → index_of s ≡ Some n
unfolding index_of
index_of_is s p n e some point none len value small front =
    rw (e, point, none, len, value, lt-ltb _ _ some, lt-ltb _ _ small, eq-eqb (length s) (length s) refl, front_test (get_or s 0 0) (length s) front) refl

first_digit : (n : ℕ) → n < 2 ^ 64 → get_or (decimal n) 0 0 ≡ 48 → length (decimal n) ≡ 1
first_digit zero h e = ap length (decimal_index zero h)
first_digit (suc n) h e = absurd (omega (arith, first_decimal (suc n) (omega arith) h, e))

decimal_back : (n : ℕ) → n < 2 ^ 64 → index_of (decimal n) ≡ Some n
decimal_back n h =
    let e = decimal_is_IsNumeral n h in
    index_of_is (decimal n) (parts_of (decimal n)) n (scanned n h) (decimal_nonempty n h) refl refl (ap length (append-nil (decimal n))) (ap (digits_value 10) (append-nil (decimal n)) ∙ e.1) h (first_digit n h)

index_back : (i : ℕ) → i < 2 ^ 64 → index_of (index_digits i) ≡ Some i
index_back i h = ap index_of (sym (decimal_index i h)) ∙ decimal_back i h

index_free : (i : ℕ) → i < 2 ^ 64 → Free 47 (index_digits i)
index_free i h = subst (Free 47) (decimal_index i h) (digits_free (decimal i) (decimal_is_IsNumeral i h).0.1)

-- ---- a child of a value is a value

list_value : (v : Value) (ds : json.Items) → view v ≡ json.array ds → (w : Vec Value Global) × (ds ≡ items_view w.items)
list_value v ds e = by (out-Value v) (sym (fold_out-Value Data view_step v) ∙ e)
  where
    by : (o : Value-F Value) → view_step (map-Value Value Data view o) ≡ json.array ds → (w : Vec Value Global) × (ds ≡ items_view w.items)
    by (Value-F.Array w) is = let same : items_view w.items ≡ ds = cc in (w, sym same)
    by Value-F.Null is = absurd cc
    by (Value-F.Bool b) is = absurd cc
    by (Value-F.Number x) is = absurd cc
    by (Value-F.String s) is = absurd cc
    by (Value-F.Object m) is = absurd cc

object_value : (v : Value) (ms : json.Members) → view v ≡ json.object ms → (m : BTreeMap (String Global) Value) × (ms ≡ members_view m.entries)
object_value v ms e = by (out-Value v) (sym (fold_out-Value Data view_step v) ∙ e)
  where
    by : (o : Value-F Value) → view_step (map-Value Value Data view o) ≡ json.object ms → (m : BTreeMap (String Global) Value) × (ms ≡ members_view m.entries)
    by (Value-F.Object m) is = let same : members_view m.entries ≡ ms = cc in (m, sym same)
    by Value-F.Null is = absurd cc
    by (Value-F.Bool b) is = absurd cc
    by (Value-F.Number x) is = absurd cc
    by (Value-F.String s) is = absurd cc
    by (Value-F.Array w) is = absurd cc

-- the token of the step means it there, and holds no slash
abbrev HasChild : Step → Value → Tree → Type 0
HasChild s v u = (x : Value) × (value_tree x ≡ u) × (step_in (token s) (value_tree v) ≡ Some s) × Free 47 (token s)

seen : (o : Option Value) (u : Tree) → option_map tree_of (option_map view o) ≡ Some u → (x : Value) × (o ≡ Some x) × (value_tree x ≡ u)
seen None u e = absurd cc
seen (Some x) u e = (x, refl, cc)

element_at : (vs : List Value) (i : ℕ) → option_map view (slice_get vs i) ≡ json_find.get_item i (items_view vs)
element_at [] i = refl
element_at (v ∷ vs) zero = refl
element_at (v ∷ vs) (suc i) = element_at vs i

element_within : (vs : List Value) (i : ℕ) (x : Value) → slice_get vs i ≡ Some x → i < length vs
element_within [] i x e = absurd cc
element_within (v ∷ vs) zero x e = omega arith
element_within (v ∷ vs) (suc i) x e = omega (arith, element_within vs i x e)

list_child : (v : Value) (i : ℕ) (u : Tree) (w : Vec Value Global) → view v ≡ json.array (items_view w.items) → child (index i) (value_tree v) ≡ Some u → HasChild (index i) v u
list_child v i u w is e =
    let there = seen (slice_get w.items i) u (ap (option_map tree_of) (element_at w.items i) ∙ sym (item_at-trees_of i (items_view w.items)) ∙ sym (ap (λ d. child (index i) (tree_of d)) is) ∙ e) in
    let small : i < 2 ^ 64 = omega (arith, element_within w.items i there.0 there.1, w.ok.0, w.ok.1, w.small) in (
      there.0,
      there.2,
      ap (λ d. step_in (index_digits i) (tree_of d)) is ∙ ap (option_map index) (index_back i small),
      index_free i small,
    )

object_child : (v : Value) (k : List ℕ) (u : Tree) (m : BTreeMap (String Global) Value) → view v ≡ json.object (members_view m.entries) → child (name k) (value_tree v) ≡ Some u → HasChild (name k) v u
object_child v k u m is e =
    let there = seen (lookup (is_entry k) m.entries) u (ap (option_map tree_of) (view-lookup k m.entries) ∙ sym (find-members_of k (members_view m.entries)) ∙ sym (ap (λ d. child (name k) (tree_of d)) is) ∙ e) in (
      there.0,
      there.2,
      ap (λ d. step_in (flat_map escaped k) (tree_of d)) is ∙ ap (λ n. Some (name n)) (name_back k),
      name_free k,
    )

child_of : (v : Value) (s : Step) (u : Tree) → child s (value_tree v) ≡ Some u → HasChild s v u
child_of v (index i) u e = by (json_find.as_array (view v)) refl
  where
    by : (o : Option json.Items) → o ≡ json_find.as_array (view v) → HasChild (index i) v u
    by None none = absurd (let no : None ≡ Some u = sym (no_list i (λ t. t) (view v) none).1 ∙ e in cc)
    by (Some ds) held =
        let is = list_data (view v) ds held in let w = list_value v ds is in
        list_child v i u w.0 (is ∙ ap json.array w.1) e
child_of v (name k) u e = by (json_find.as_object (view v)) refl
  where
    by : (o : Option json.Members) → o ≡ json_find.as_object (view v) → HasChild (name k) v u
    by None none = absurd (let no : None ≡ Some u = sym (no_object k (λ t. t) (view v) none).1 ∙ e in cc)
    by (Some ms) held =
        let is = object_data (view v) ms held in let m = object_value v ms is in
        object_child v k u m.0 (is ∙ ap json.object m.1) e

-- ---- the laws

behind : (read : List ℕ) (l : Location) (ps : List (List ℕ)) → tokens (pointer l) ≡ Some ps → tokens_from read (pointer l) ≡ read ∷ ps
behind read [] ps e = let same : [] ≡ ps = cc in ap (λ qs. read ∷ qs) same
behind read (s ∷ l) ps e = let same : tokens_from [] (token s ++ pointer l) ≡ ps = cc in ap (λ qs. read ∷ qs) same

first_there : (l : Location) (o : Option Tree) → IsSome (option_and_then (at l) o) → (c : Tree) × (o ≡ Some c) × IsSome (at l c)
first_there l None there = absurd (true≢false (sym there))
first_there l (Some c) there = (c, refl, there)

reads_back : (l : Location) (v : Value) → IsSome (at l (value_tree v)) → (ps : List (List ℕ)) × (tokens (pointer l) ≡ Some ps) × (led ps (value_tree v) ≡ Some l)
reads_back [] v there = ([], refl, refl)
reads_back (s ∷ l) v there =
    let first = first_there l (child s (value_tree v)) there in
    let below = child_of v s first.0 first.1 in
    let more = reads_back l below.0 (ap (λ t. is_some (at l t)) below.1 ∙ first.2) in (
      token s ∷ more.0,
      ap Some (token_then (token s) (pointer l) (free_lacks 47 (token s) below.3) ∙ behind (token s) l more.0 more.1),
      led_down (token s) more.0 s (value_tree v) first.0 below.2 first.1 ∙ ap (λ t. option_map (λ m. s ∷ m) (led more.0 t)) (sym below.1) ∙ ap (option_map (λ m. s ∷ m)) more.2,
    )

pub pointer_reads_back : PointerReadsBack
pointer_reads_back v l there = let back = reads_back l v there in ap (option_and_then (λ ps. led ps (value_tree v))) back.1 ∙ back.2

pub pointer_finds_its_place : PointerFindsItsPlace
pointer_finds_its_place v l u e = leads_as_found (pointer l) v ∙ ap (option_and_then (λ m. at m (value_tree v))) (pointer_reads_back v l (ap is_some e)) ∙ e
