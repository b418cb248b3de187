-- What removal leaves of a tree, from what it leaves of data.
use Rattle.std.proofs.Common.{◌≡◌, ℕ, suc, ℤ, List, [], ◌∷◌, ◌++◌, map, Bool, true, false, not, ◌||◌, if◌then◌else◌, Option, Some, None, bytes_eq, append_assoc, refl, sym, ap, ap₂, ◌∙◌, rules}
use Rattle.std.proofs.lemmas.Bool.{and_parts, and_from}
use Rattle.std.proofs.lemmas.List.{append-nil}
use Rattle.jsonpath_base.specs.Prelude.{are_distinct, as_i64, counted_with, Data, data_thinned, distinct_count, elements_thinned, has_distinct_names, has_whole_numbers, HasAlso, index, is_among, is_location, is_same_step, Items, items_thinned, items_whole, list, list_any, Location, member, Members, members_distinct, members_of, members_thinned, members_whole, name, no_members, no_trees, object, pairs, set_with, thinned, Tree, tree, tree_of, tree_of_number, Trees, trees_distinct, trees_of, value_tree, view}
use Rattle.serde_json.specs.Data as json
use Rattle.serde_json.specs.declared.value.Value.{Null, the_lemmas}
use Rattle.jsonpath_base.specs.Without as without
use Rattle.jsonpath_base.specs.Without.{also}
use Rattle.jsonpath_base.proofs.Views.{data_whole}
use Rattle.jsonpath_base.proofs.Marking.{same_step, step_itself}

-- ---- the tree

number_thinned : (gone : Location → Bool) (o : Option ℤ) → tree_of_number o ≡ thinned gone (tree_of_number o)
number_thinned gone None = refl
number_thinned gone (Some n) = refl

trees_if : (b : Bool) (d : Data) (t : Tree) (ds : Items) (ts : Trees) → tree_of d ≡ t → trees_of ds ≡ ts → trees_of (if b then ds else json.item d ds) ≡ (if b then ts else tree t ts)
trees_if true d t ds ts e f = f
trees_if false d t ds ts e f = ap₂ tree e f

members_if : (b : Bool) (k : List ℕ) (d : Data) (t : Tree) (ds : json.Members) (ts : Members) → tree_of d ≡ t → members_of ds ≡ ts → members_of (if b then ds else json.member k d ds) ≡ (if b then ts else member k t ts)
members_if true k d t ds ts e f = f
members_if false k d t ds ts e f = ap₂ (member k) e f

mutual
  pub tree_thinned : (gone : Location → Bool) (d : Data) → tree_of (data_thinned gone d) ≡ thinned gone (tree_of d)
  tree_thinned gone json.null = refl
  tree_thinned gone (json.boolean b) = refl
  tree_thinned gone (json.number n) = number_thinned gone (as_i64 n)
  tree_thinned gone (json.string s) = refl
  tree_thinned gone (json.array ds) = ap list (trees_thinned gone 0 ds)
  tree_thinned gone (json.object ms) = ap object (object_thinned gone ms)

  trees_thinned : (gone : Location → Bool) (i : ℕ) (ds : Items) → trees_of (items_thinned gone i ds) ≡ elements_thinned gone i (trees_of ds)
  trees_thinned gone i json.no_items = refl
  trees_thinned gone i (json.item d ds) = trees_if (gone (index i ∷ [])) _ _ _ _ (tree_thinned (λ l. gone (index i ∷ l)) d) (trees_thinned gone (suc i) ds)

  object_thinned : (gone : Location → Bool) (ms : json.Members) → members_of (members_thinned gone ms) ≡ without.members_thinned gone (members_of ms)
  object_thinned gone json.no_members = refl
  object_thinned gone (json.member k d ms) = members_if (gone (name k ∷ [])) k _ _ _ _ (tree_thinned (λ l. gone (name k ∷ l)) d) (object_thinned gone ms)

-- ---- numbers stay whole

items_if : (b : Bool) (d : Data) (ds : Items) → has_whole_numbers d ≡ true → items_whole ds ≡ true → items_whole (if b then ds else json.item d ds) ≡ true
items_if true d ds e f = f
items_if false d ds e f = and_from (has_whole_numbers d) (items_whole ds) e f

whole_if : (b : Bool) (k : List ℕ) (d : Data) (ms : json.Members) → has_whole_numbers d ≡ true → members_whole ms ≡ true → members_whole (if b then ms else json.member k d ms) ≡ true
whole_if true k d ms e f = f
whole_if false k d ms e f = and_from (has_whole_numbers d) (members_whole ms) e f

mutual
  numbers_thinned : (gone : Location → Bool) (d : Data) → has_whole_numbers d ≡ true → has_whole_numbers (data_thinned gone d) ≡ true
  numbers_thinned gone json.null h = h
  numbers_thinned gone (json.boolean b) h = h
  numbers_thinned gone (json.number n) h = h
  numbers_thinned gone (json.string s) h = h
  numbers_thinned gone (json.array ds) h = item_numbers gone 0 ds h
  numbers_thinned gone (json.object ms) h = member_numbers gone ms h

  item_numbers : (gone : Location → Bool) (i : ℕ) (ds : Items) → items_whole ds ≡ true → items_whole (items_thinned gone i ds) ≡ true
  item_numbers gone i json.no_items h = h
  item_numbers gone i (json.item d ds) h =
      let parts = and_parts (has_whole_numbers d) (items_whole ds) h in
      items_if (gone (index i ∷ [])) _ _ (numbers_thinned (λ l. gone (index i ∷ l)) d parts.0) (item_numbers gone (suc i) ds parts.1)

  member_numbers : (gone : Location → Bool) (ms : json.Members) → members_whole ms ≡ true → members_whole (members_thinned gone ms) ≡ true
  member_numbers gone json.no_members h = h
  member_numbers gone (json.member k d ms) h =
      let parts = and_parts (has_whole_numbers d) (members_whole ms) h in
      whole_if (gone (name k ∷ [])) k _ _ (numbers_thinned (λ l. gone (name k ∷ l)) d parts.0) (member_numbers gone ms parts.1)

-- ---- names stay distinct

abbrev names : Members → List (List ℕ)
names ms = map (λ m. m.0) (pairs ms)

or_parts : (a b : Bool) → (a || b) ≡ false → (a ≡ false) × (b ≡ false)
or_parts true b h = absurd cc
or_parts false b h = (refl, h)

none_if : (b : Bool) (k l : List ℕ) (t : Tree) (ms : Members) → bytes_eq k l ≡ false → list_any (bytes_eq k) (names ms) ≡ false → list_any (bytes_eq k) (names (if b then ms else member l t ms)) ≡ false
none_if true k l t ms e f = f
none_if false k l t ms e f = rw (e, f)

none_thinned : (k : List ℕ) (gone : Location → Bool) (ms : Members) → list_any (bytes_eq k) (names ms) ≡ false → list_any (bytes_eq k) (names (without.members_thinned gone ms)) ≡ false
none_thinned k gone no_members h = h
none_thinned k gone (member l t ms) h =
    let parts = or_parts (bytes_eq k l) (list_any (bytes_eq k) (names ms)) h in
    none_if (gone (name l ∷ [])) k l _ _ parts.0 (none_thinned k gone ms parts.1)

not_false : (b : Bool) → not b ≡ true → b ≡ false
not_false true h = sym h
not_false false h = refl

names_if : (b : Bool) (k : List ℕ) (t : Tree) (ms : Members) → list_any (bytes_eq k) (names ms) ≡ false → are_distinct (names ms) ≡ true → are_distinct (names (if b then ms else member k t ms)) ≡ true
names_if true k t ms e f = f
names_if false k t ms e f = rw (e, f)

names_thinned : (gone : Location → Bool) (ms : Members) → are_distinct (names ms) ≡ true → are_distinct (names (without.members_thinned gone ms)) ≡ true
names_thinned gone no_members h = h
names_thinned gone (member k t ms) h =
    let parts = and_parts (not (list_any (bytes_eq k) (names ms))) (are_distinct (names ms)) h in
    names_if (gone (name k ∷ [])) k _ _ (none_thinned k gone ms (not_false _ parts.0)) (names_thinned gone ms parts.1)

distinct_if : (b : Bool) (t : Tree) (ts : Trees) → has_distinct_names t ≡ true → trees_distinct ts ≡ true → trees_distinct (if b then ts else tree t ts) ≡ true
distinct_if true t ts e f = f
distinct_if false t ts e f = and_from (has_distinct_names t) (trees_distinct ts) e f

member_distinct_if : (b : Bool) (k : List ℕ) (t : Tree) (ms : Members) → has_distinct_names t ≡ true → members_distinct ms ≡ true → members_distinct (if b then ms else member k t ms) ≡ true
member_distinct_if true k t ms e f = f
member_distinct_if false k t ms e f = and_from (has_distinct_names t) (members_distinct ms) e f

mutual
  distinct_thinned : (gone : Location → Bool) (t : Tree) → has_distinct_names t ≡ true → has_distinct_names (thinned gone t) ≡ true
  distinct_thinned gone Tree.null h = h
  distinct_thinned gone (Tree.truth b) h = h
  distinct_thinned gone (Tree.number n) h = h
  distinct_thinned gone (Tree.text s) h = h
  distinct_thinned gone (list ts) h = elements_distinct gone 0 ts h
  distinct_thinned gone (object ms) h =
      let parts = and_parts (are_distinct (names ms)) (members_distinct ms) h in
      and_from _ _ (names_thinned gone ms parts.0) (below_distinct gone ms parts.1)

  elements_distinct : (gone : Location → Bool) (i : ℕ) (ts : Trees) → trees_distinct ts ≡ true → trees_distinct (elements_thinned gone i ts) ≡ true
  elements_distinct gone i no_trees h = h
  elements_distinct gone i (tree t ts) h =
      let parts = and_parts (has_distinct_names t) (trees_distinct ts) h in
      distinct_if (gone (index i ∷ [])) _ _ (distinct_thinned (λ l. gone (index i ∷ l)) t parts.0) (elements_distinct gone (suc i) ts parts.1)

  below_distinct : (gone : Location → Bool) (ms : Members) → members_distinct ms ≡ true → members_distinct (without.members_thinned gone ms) ≡ true
  below_distinct gone no_members h = h
  below_distinct gone (member k t ms) h =
      let parts = and_parts (has_distinct_names t) (members_distinct ms) h in
      member_distinct_if (gone (name k ∷ [])) k _ _ (distinct_thinned (λ l. gone (name k ∷ l)) t parts.0) (below_distinct gone ms parts.1)

pub whole_thinned : (gone : Location → Bool) (d : Data) → data_whole d ≡ true → data_whole (data_thinned gone d) ≡ true
whole_thinned gone d h =
    let parts = and_parts (has_whole_numbers d) (has_distinct_names (tree_of d)) h in
    and_from _ _ (numbers_thinned gone d parts.0) (ap has_distinct_names (tree_thinned gone d) ∙ distinct_thinned gone (tree_of d) parts.1)

-- ---- the marks

pub same_location : (l m : Location) → is_location l m ≡ true → l ≡ m
same_location [] [] h = refl
same_location [] (r ∷ m) h = absurd cc
same_location (s ∷ l) [] h = absurd cc
same_location (s ∷ l) (r ∷ m) h = let parts = and_parts (is_same_step s r) (is_location l m) h in ap₂ (λ a b. a ∷ b) (same_step s r parts.0) (same_location l m parts.1)

pub location_itself : (l : Location) → is_location l l ≡ true
location_itself [] = refl
location_itself (s ∷ l) = and_from (is_same_step s s) (is_location l l) (step_itself s) (location_itself l)

with_last : (ls : List Location) (l x : Location) → is_among (ls ++ l ∷ []) x ≡ also l (is_among ls) x
with_last [] l x = refl
with_last (m ∷ ls) l x = pick (is_location m x) (is_location l x) _ (is_among ls x) (with_last ls l x)
  where
    pick : (a b c d : Bool) → c ≡ (b || d) → (a || c) ≡ (b || (a || d))
    pick true true c d e = refl
    pick true false c d e = refl
    pick false b c d e = e

pub location_back : (l m : Location) (b : Bool) → is_location l m ≡ b → is_location m l ≡ b
location_back l m true e = ap (λ x. is_location x l) (sym (same_location l m e)) ∙ location_itself l
location_back l m false e = differ (is_location m l) refl
  where
    differ : (c : Bool) → is_location m l ≡ c → c ≡ false
    differ true f = sym (location_itself m) ∙ ap (λ x. is_location x m) (same_location m l f) ∙ e
    differ false f = refl

last_counted : (ls : List Location) (l : Location) → distinct_count (ls ++ l ∷ []) ≡ counted_with l (is_among ls) (distinct_count ls)
last_counted [] l = refl
last_counted (m ∷ ls) l = pick (is_location l m) refl (last_counted ls l)
  where
    both : (a b : Bool) (n : ℕ) → (if a then (if b then n else suc n) else suc (if b then n else suc n)) ≡ (if b then (if a then n else suc n) else suc (if a then n else suc n))
    both true true n = refl
    both true false n = refl
    both false true n = refl
    both false false n = refl

    pick : (b : Bool) → is_location l m ≡ b → distinct_count (ls ++ l ∷ []) ≡ counted_with l (is_among ls) (distinct_count ls) → distinct_count (m ∷ ls ++ l ∷ []) ≡ counted_with l (is_among (m ∷ ls)) (distinct_count (m ∷ ls))
    pick true e more =
        let same : is_among ls l ≡ is_among ls m = ap (is_among ls) (same_location l m e) in
        rw (with_last ls l m, e, location_back l m true e, more) (ap (λ c. if c then distinct_count ls else suc (distinct_count ls)) same)
    pick false e more = rw (with_last ls l m, e, location_back l m false e, more) (both (is_among ls m) (is_among ls l) (distinct_count ls))

set_from : (done ls : List Location) → set_with ls (is_among done) (distinct_count done) ≡ (is_among (done ++ ls), distinct_count (done ++ ls))
set_from done [] = rw (append-nil done)
set_from done (l ∷ ls) =
    let set : also l (is_among done) ≡ is_among (done ++ l ∷ []) = λ i x. sym (with_last done l x) i in
    ap₂ (λ f n. set_with ls f n) set (sym (last_counted done l)) ∙ set_from (done ++ l ∷ []) ls ∙ ap (λ m. (is_among m, distinct_count m)) (append_assoc done (l ∷ []) ls)

-- locations that are added one after the other are the set of their list, and so many as there are distinct ones
pub set_of_all : (ls : List Location) → set_with ls (λ l. false) 0 ≡ (is_among ls, distinct_count ls)
set_of_all ls = set_from [] ls

-- from the empty set on
pub set_begun : (marks : Location → Bool) (count : ℕ) (ls : List Location) → ((l : Location) → marks l ≡ false) → count ≡ 0 → set_with ls marks count ≡ (is_among ls, distinct_count ls)
set_begun marks count ls none is = let empty : marks ≡ (λ l. false) = λ i l. none l i in ap₂ (λ f n. set_with ls f n) empty is ∙ set_of_all ls

-- the marks of one location more
pub marks_next : (old new : Location → Bool) (count next : ℕ) (l : Location) (ls : List Location) → HasAlso old l new → next ≡ counted_with l old count → set_with ls new next ≡ set_with (l ∷ ls) old count
marks_next old new count next l ls h is = let set : new ≡ also l old = λ i x. h.each x i in ap₂ (λ f n. set_with ls f n) set is

pub without_alike : (marks gone : Location → Bool) → ((l : Location) → marks l ≡ gone l) → (t : Tree) → without.without marks t ≡ without.without gone t
without_alike marks gone h t = let same : marks ≡ gone = λ i l. h l i in ap (λ g. without.without g t) same

pub root_stays : (gone : Location → Bool) (d : Data) → gone [] ≡ false → tree_of (data_thinned gone d) ≡ without.without gone (tree_of d)
root_stays gone d h = tree_thinned gone d ∙ rw h

pub root_goes : (gone : Location → Bool) (t : Tree) → gone [] ≡ true → Tree.null ≡ without.without gone t
root_goes gone t h = rw h

pub null_tree : value_tree Null ≡ Tree.null
null_tree = ap tree_of view_null
  where
    view_null : view Null ≡ json.null
    view_null = search (rules, the_lemmas)
