-- On trees with distinct names `same` is an equivalence.
use Rattle.std.proofs.Common.{◌⊎◌, inl, inr, ◌≡◌, ℕ, List, [], ◌∷◌, map, Option, Some, None, Bool, true, false, not, cond, is_some, ◌||◌, bytes_eq, true≢false, refl, sym, ap, ◌∙◌, subst}
use Rattle.std.proofs.lemmas.Bool.{and_parts, and_from}
use Rattle.std.proofs.lemmas.Cmp.{nat_list_eq_equiv, int_eq_equiv}
use Rattle.std.proofs.lemmas.Slice.Eq.{bytes_eq-Decides}
use Rattle.std.proofs.lemmas.Bool.Decides.{Decides-int_eq}
use Rattle.jsonpath_base.specs.Prelude.{are_distinct, find, has_distinct_names, has_name, list, list_all, list_any, member, Members, members_distinct, no_members, no_trees, null, number, object, pairs, same, same_members, same_trees, SameIsAnEquivalence, text, Tree, tree, Trees, trees_distinct, truth}
use Rattle.std.specs.Option.{option_map_or}

-- a list of members, as `find` takes it
abbrev pub Named : Type 0
Named = List (List ℕ × Tree)

-- ---- what `find` finds

found_here : (b : Bool) (t : Tree) (rest : Option Tree) → b ≡ true → cond b (Some t) rest ≡ Some t
found_here b t rest e = rw e

found_later : (b : Bool) (t : Tree) (rest : Option Tree) → b ≡ false → cond b (Some t) rest ≡ rest
found_later b t rest e = rw e

-- each of the members is found under its name
abbrev Finds : Members → Named → Type 0
Finds no_members ns = Unit {0}
Finds (member k t ms) ns = (find k ns ≡ Some t) × Finds ms ns

either_false : (a b : Bool) → not (a || b) ≡ true → (a ≡ false) × (b ≡ false)
either_false true b h = absurd (true≢false (sym h))
either_false false true h = absurd (true≢false (sym h))
either_false false false h = (refl, refl)

negated : (b : Bool) → not b ≡ true → b ≡ false
negated true h = absurd (true≢false (sym h))
negated false h = refl

finds_more : (ms : Members) (ns : Named) (k : List ℕ) (t : Tree) → not (list_any (bytes_eq k) (map (λ m. m.0) (pairs ms))) ≡ true → Finds ms ns → Finds ms ((k, t) ∷ ns)
finds_more no_members ns k t h f = tt
finds_more (member l u ms) ns k t h f =
    let parts = either_false (bytes_eq k l) _ h in
    (found_later (bytes_eq l k) t (find l ns) (nat_list_eq_equiv.symm l k ∙ parts.0) ∙ f.0, finds_more ms ns k t (ap not parts.1) f.1)

finds_all : (ms : Members) → are_distinct (map (λ m. m.0) (pairs ms)) ≡ true → Finds ms (pairs ms)
finds_all no_members h = tt
finds_all (member k t ms) h =
    let parts = and_parts (not (list_any (bytes_eq k) (map (λ m. m.0) (pairs ms)))) _ h in
    (found_here (bytes_eq k k) t _ (nat_list_eq_equiv.refl k), finds_more ms (pairs ms) k t parts.0 (finds_all ms parts.1))

all_named : (ms : Members) (ns : Named) → Finds ms ns → list_all (λ n. has_name ns n.0) (pairs ms) ≡ true
all_named no_members ns f = refl
all_named (member k t ms) ns f = and_from (has_name ns k) _ (ap is_some f.0) (all_named ms ns f.1)

-- ---- each is the same as itself

mutual
  same_refl : (t : Tree) → has_distinct_names t ≡ true → same t t ≡ true
  same_refl null h = refl
  same_refl (truth true) h = refl
  same_refl (truth false) h = refl
  same_refl (number n) h = int_eq_equiv.refl n
  same_refl (text s) h = nat_list_eq_equiv.refl s
  same_refl (list ts) h = trees_refl ts h
  same_refl (object ms) h =
      let parts = and_parts (are_distinct (map (λ m. m.0) (pairs ms))) (members_distinct ms) h in
      let f = finds_all ms parts.0 in
      and_from (same_members ms (pairs ms)) _ (members_refl ms (pairs ms) parts.1 f) (all_named ms (pairs ms) f)

  trees_refl : (ts : Trees) → trees_distinct ts ≡ true → same_trees ts ts ≡ true
  trees_refl no_trees h = refl
  trees_refl (tree t ts) h =
      let parts = and_parts (has_distinct_names t) (trees_distinct ts) h in
      and_from (same t t) _ (same_refl t parts.0) (trees_refl ts parts.1)

  members_refl : (ms : Members) (ns : Named) → members_distinct ms ≡ true → Finds ms ns → same_members ms ns ≡ true
  members_refl no_members ns h f = refl
  members_refl (member k t ms) ns h f =
      let parts = and_parts (has_distinct_names t) (members_distinct ms) h in
      and_from (option_map_or (same t) (find k ns) false) _ (ap (λ o. option_map_or (same t) o false) f.0 ∙ same_refl t parts.0) (members_refl ms ns parts.1 f.1)

-- ---- what two members of one name have

-- the member of this name, and that its value passes a test
abbrev pub Holds : (Tree → Bool) → List ℕ → Named → Type 0
Holds test k ns = (u : Tree) × (find k ns ≡ Some u) × (test u ≡ true)

holds : (test : Tree → Bool) (k : List ℕ) (ns : Named) (o : Option Tree) → find k ns ≡ o → option_map_or test o false ≡ true → Holds test k ns
holds test k ns None e h = absurd (true≢false (sym h))
holds test k ns (Some u) e h = (u, e, h)

some_is : {A : Type 0} (x y : A) → Some x ≡ Some y → x ≡ y
some_is x y e = cc

-- the value of a name is that of the first member, or of one behind it
first_or_later : (b : Bool) (t : Tree) (rest : Option Tree) (u : Tree) → cond b (Some t) rest ≡ Some u → ((b ≡ true) × (t ≡ u)) ⊎ ((b ≡ false) × (rest ≡ Some u))
first_or_later true t rest u h = inl (refl, some_is _ _ h)
first_or_later false t rest u h = inr (refl, h)

found_same : (ms : Members) (ns : Named) → same_members ms ns ≡ true → (k : List ℕ) (t : Tree) → find k (pairs ms) ≡ Some t → Holds (same t) k ns
found_same no_members ns h k t f = cc
found_same (member l s ms) ns h k t f =
    let parts = and_parts (option_map_or (same s) (find l ns) false) (same_members ms ns) h in
    elim (first_or_later (bytes_eq k l) s (find k (pairs ms)) t f) [
      | inl p ↦ subst (λ x. Holds (same x) k ns) p.1 (subst (λ x. Holds (same s) x ns) (sym ((bytes_eq-Decides k l).0 p.0)) (holds (same s) l ns (find l ns) refl parts.0))
      | inr p ↦ found_same ms ns parts.1 k t p.1
    ]

found_distinct : (ms : Members) → members_distinct ms ≡ true → (k : List ℕ) (t : Tree) → find k (pairs ms) ≡ Some t → has_distinct_names t ≡ true
found_distinct no_members h k t f = cc
found_distinct (member l s ms) h k t f =
    let parts = and_parts (has_distinct_names s) (members_distinct ms) h in
    elim (first_or_later (bytes_eq k l) s (find k (pairs ms)) t f) [
      | inl p ↦ subst (λ x. has_distinct_names x ≡ true) p.1 parts.0
      | inr p ↦ found_distinct ms parts.1 k t p.1
    ]

-- ---- in either order

truth_symm : (a b : Bool) → cond a b (not b) ≡ true → cond b a (not a) ≡ true
truth_symm true true h = refl
truth_symm true false h = absurd (true≢false (sym h))
truth_symm false true h = absurd (true≢false (sym h))
truth_symm false false h = refl

-- each of the members has one of its name that is the same as it
abbrev Answered : Members → Named → Type 0
Answered no_members ns = Unit {0}
Answered (member k t ms) ns = Holds (λ u. same u t) k ns × Answered ms ns

found_answered : (ms : Members) (ns : Named) → Answered ms ns → (k : List ℕ) (t : Tree) → find k (pairs ms) ≡ Some t → Holds (λ u. same u t) k ns
found_answered no_members ns a k t f = cc
found_answered (member l s ms) ns a k t f =
    elim (first_or_later (bytes_eq k l) s (find k (pairs ms)) t f) [
      | inl p ↦ subst (λ x. Holds (λ u. same u x) k ns) p.1 (subst (λ x. Holds (λ u. same u s) x ns) (sym ((bytes_eq-Decides k l).0 p.0)) a.0)
      | inr p ↦ found_answered ms ns a.1 k t p.1
    ]

answered_names : (ms : Members) (ns : Named) → Answered ms ns → list_all (λ m. has_name ns m.0) (pairs ms) ≡ true
answered_names no_members ns a = refl
answered_names (member k t ms) ns a = and_from (has_name ns k) _ (ap is_some a.0.1) (answered_names ms ns a.1)

some_of : {A : Type 0} (o : Option A) → is_some o ≡ true → (x : A) × (o ≡ Some x)
some_of None h = absurd (true≢false (sym h))
some_of (Some x) h = (x, refl)

back : (ms : Members) (ns : Members) (all : Named) → Answered ms all → Finds ns all → list_all (λ n. has_name (pairs ms) n.0) (pairs ns) ≡ true → same_members ns (pairs ms) ≡ true
back ms no_members all a f h = refl
back ms (member l u ns) all a f h =
    let parts = and_parts (has_name (pairs ms) l) _ h in
    let s = some_of (find l (pairs ms)) parts.0 in
    let found = found_answered ms all a l s.0 s.1 in
    let value : found.0 ≡ u = some_is _ _ (sym found.1 ∙ f.0) in
    and_from (option_map_or (same u) (find l (pairs ms)) false) _
    (ap (λ o. option_map_or (same u) o false) s.1 ∙ subst (λ x. same x s.0 ≡ true) value found.2)
    (back ms ns all a f.1 parts.1)

mutual
  same_symm : (t u : Tree) → has_distinct_names t ≡ true → has_distinct_names u ≡ true → same t u ≡ true → same u t ≡ true
  same_symm null null d e h = refl
  same_symm (truth a) (truth b) d e h = truth_symm a b h
  same_symm (number m) (number n) d e h = int_eq_equiv.symm n m ∙ h
  same_symm (text s) (text t) d e h = nat_list_eq_equiv.symm t s ∙ h
  same_symm (list ts) (list us) d e h = trees_symm ts us d e h
  same_symm (object ms) (object ns) d e h =
      let ds = and_parts (are_distinct (map (λ m. m.0) (pairs ms))) (members_distinct ms) d in
      let es = and_parts (are_distinct (map (λ m. m.0) (pairs ns))) (members_distinct ns) e in
      let hs = and_parts (same_members ms (pairs ns)) _ h in
      let a = members_symm ms ns ds.1 es.1 hs.0 in
      and_from (same_members ns (pairs ms)) _ (back ms ns (pairs ns) a (finds_all ns es.0) hs.1) (answered_names ms (pairs ns) a)
  same_symm _ _ d e h = cc

  trees_symm : (ts us : Trees) → trees_distinct ts ≡ true → trees_distinct us ≡ true → same_trees ts us ≡ true → same_trees us ts ≡ true
  trees_symm no_trees no_trees d e h = refl
  trees_symm no_trees (tree u us) d e h = h
  trees_symm (tree t ts) no_trees d e h = h
  trees_symm (tree t ts) (tree u us) d e h =
      let ds = and_parts (has_distinct_names t) (trees_distinct ts) d in
      let es = and_parts (has_distinct_names u) (trees_distinct us) e in
      let hs = and_parts (same t u) (same_trees ts us) h in
      and_from (same u t) _ (same_symm t u ds.0 es.0 hs.0) (trees_symm ts us ds.1 es.1 hs.1)

  members_symm : (ms ns : Members) → members_distinct ms ≡ true → members_distinct ns ≡ true → same_members ms (pairs ns) ≡ true → Answered ms (pairs ns)
  members_symm no_members ns d e h = tt
  members_symm (member k t ms) ns d e h =
      let ds = and_parts (has_distinct_names t) (members_distinct ms) d in
      let hs = and_parts (option_map_or (same t) (find k (pairs ns)) false) (same_members ms (pairs ns)) h in
      let found = holds (same t) k (pairs ns) (find k (pairs ns)) refl hs.0 in
      ((found.0, found.1, same_symm t found.0 ds.0 (found_distinct ns e k found.0 found.1) found.2), members_symm ms ns ds.1 e hs.1)

-- ---- what is the same as a third

truth_trans : (a b c : Bool) → cond a b (not b) ≡ true → cond b c (not c) ≡ true → cond a c (not c) ≡ true
truth_trans true true c h i = i
truth_trans true false c h i = absurd (true≢false (sym h))
truth_trans false true c h i = absurd (true≢false (sym h))
truth_trans false false c h i = i

name_within_if : (ms : Named) (k l : List ℕ) (b : Bool) → bytes_eq k l ≡ b → has_name ms l ≡ true → (rest : Bool) → (rest ≡ true → has_name ms k ≡ true) → cond b true rest ≡ true → has_name ms k ≡ true
name_within_if ms k l true e h rest f g = subst (λ x. has_name ms x ≡ true) (sym ((bytes_eq-Decides k l).0 e)) h
name_within_if ms k l false e h rest f g = f g

is_some-cond : (b : Bool) (t : Tree) (rest : Option Tree) → is_some (cond b (Some t) rest) ≡ cond b true (is_some rest)
is_some-cond true t rest = refl
is_some-cond false t rest = refl

name_within : (ms : Members) (ns : Named) → list_all (λ n. has_name (pairs ms) n.0) ns ≡ true → (k : List ℕ) → has_name ns k ≡ true → has_name (pairs ms) k ≡ true
name_within ms [] h k g = absurd (true≢false (sym g))
name_within ms (n ∷ ns) h k g =
    let hs = and_parts (has_name (pairs ms) n.0) _ h in
    name_within_if (pairs ms) k n.0 (bytes_eq k n.0) refl hs.0 (has_name ns k) (name_within ms ns hs.1 k) (sym (is_some-cond (bytes_eq k n.0) n.1 (find k ns)) ∙ g)

named_within : (ms : Members) (ns os : Named) → list_all (λ n. has_name (pairs ms) n.0) ns ≡ true → list_all (λ o. has_name ns o.0) os ≡ true → list_all (λ o. has_name (pairs ms) o.0) os ≡ true
named_within ms ns [] h i = refl
named_within ms ns (o ∷ os) h i =
    let is = and_parts (has_name ns o.0) _ i in
    and_from (has_name (pairs ms) o.0) _ (name_within ms ns h o.0 is.0) (named_within ms ns os h is.1)

mutual
  same_trans : (t u v : Tree) → same t u ≡ true → same u v ≡ true → same t v ≡ true
  same_trans null null v h i = i
  same_trans (truth a) (truth b) (truth c) h i = truth_trans a b c h i
  same_trans (number m) (number n) v h i = subst (λ x. same (number x) v ≡ true) (sym ((Decides-int_eq m n).0 h)) i
  same_trans (text s) (text t) v h i = subst (λ x. same (text x) v ≡ true) (sym ((bytes_eq-Decides s t).0 h)) i
  same_trans (list ts) (list us) (list vs) h i = trees_trans ts us vs h i
  same_trans (object ms) (object ns) (object os) h i =
      let hs = and_parts (same_members ms (pairs ns)) _ h in
      let is = and_parts (same_members ns (pairs os)) _ i in
      and_from (same_members ms (pairs os)) _ (members_trans ms ns (pairs os) hs.0 is.0) (named_within ms (pairs ns) (pairs os) hs.1 is.1)
  same_trans _ _ _ h i = cc

  trees_trans : (ts us vs : Trees) → same_trees ts us ≡ true → same_trees us vs ≡ true → same_trees ts vs ≡ true
  trees_trans no_trees no_trees vs h i = i
  trees_trans (tree t ts) (tree u us) (tree v vs) h i =
      let hs = and_parts (same t u) (same_trees ts us) h in
      let is = and_parts (same u v) (same_trees us vs) i in
      and_from (same t v) _ (same_trans t u v hs.0 is.0) (trees_trans ts us vs hs.1 is.1)
  trees_trans _ _ _ h i = cc

  members_trans : (ms ns : Members) (os : Named) → same_members ms (pairs ns) ≡ true → same_members ns os ≡ true → same_members ms os ≡ true
  members_trans no_members ns os h i = refl
  members_trans (member k t ms) ns os h i =
      let hs = and_parts (option_map_or (same t) (find k (pairs ns)) false) (same_members ms (pairs ns)) h in
      let near = holds (same t) k (pairs ns) (find k (pairs ns)) refl hs.0 in
      let far = found_same ns os i k near.0 near.1 in
      and_from (option_map_or (same t) (find k os) false) _
      (ap (λ o. option_map_or (same t) o false) far.1 ∙ same_trans t near.0 far.0 near.2 far.2)
      (members_trans ms ns os hs.1 i)

pub same_is_an_equivalence : SameIsAnEquivalence
same_is_an_equivalence = (same_refl, same_symm, λ t u v d e f. same_trans t u v)
