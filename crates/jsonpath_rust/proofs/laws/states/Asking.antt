-- Which patterns are asked, and where: a part of a list of patterns asks no more than the list, and what is asked below a node of a state is
-- asked below the state.
use Rattle.std.proofs.Common.{◌≡◌, ℕ, zero, suc, ◌<◌, List, [], ◌∷◌, ◌++◌, length, get_or, map, cond, refl, sym, ◌∙◌, ap, subst, arith, Bool, true, false, Option, Some, None, option_and_then, Result, IfErr, IsTrue, inl, inr}
use Rattle.std.proofs.lemmas.List.{length-map}
use Rattle.std.proofs.lemmas.List.Elements.{Contains-append_left, Contains-append_right, All-head, All-tail}
use Rattle.jsonpath_base.specs.Prelude.Documents.{AllByRecursion, Argument, at, children, Contains, Document, has_distinct_names, IsErrAnd, IsPattern, Segment, Tree}
use Rattle.jsonpath_rust.specs.Prelude.Documents.{WalkError, Memory, Pattern, Spent}
use Rattle.jsonpath_rust.specs.Prelude.States.{argument_content, AsksPatternAt, Content, content_of, Data, DataIsWhole, found_from, HaltsBelow, has_parts, inside, IsAsked, IsBelow, mapped, Nothing, parents_from, parts_from, plain, Pointer, PointersAreWhole, Ref, ref, Refs, root_content, segment_content, Target, target_of, targets, tops, Value}
use Rattle.jsonpath_base.proofs.lemmas.documents.{at-append, contains_part, each_at, err_so, passed_on}
use Rattle.jsonpath_rust.proofs.laws.states.Lies.{LiesIn, Stays, IsDistinct, segment-stays, mapped-parents-stays, stays-children, stays-itself, lies-target}

-- ---- fewer patterns, or fewer states

asks_by : (xs ys : List (Bool × Argument)) (d : Document) (S : Content → Type 0) → ((p : Bool × Argument) → Contains xs p → Contains ys p) → AsksPatternAt xs d S → AsksPatternAt ys d S
asks_by xs ys d S k h = record { entire = h.entire; pattern = h.pattern; stands = k (h.entire, h.pattern) h.stands; state = h.state; at_state = h.at_state; read = h.read }

pub asks_left : {d : Document} {S : Content → Type 0} (xs ys : List (Bool × Argument)) → AsksPatternAt xs d S → AsksPatternAt (xs ++ ys) d S
asks_left {d} {S} xs ys h = asks_by xs (xs ++ ys) d S (λ p. Contains-append_left xs ys p) h

pub asks_right : {d : Document} {S : Content → Type 0} (xs ys : List (Bool × Argument)) → AsksPatternAt ys d S → AsksPatternAt (xs ++ ys) d S
asks_right {d} {S} xs ys h = asks_by ys (xs ++ ys) d S (λ p. Contains-append_right xs ys p) h

pub asks_rest : {d : Document} {S : Content → Type 0} (x : Bool × Argument) (xs : List (Bool × Argument)) → AsksPatternAt xs d S → AsksPatternAt (x ∷ xs) d S
asks_rest x xs h = asks_right (x ∷ []) xs h

-- the same patterns, or the same state, in other words
pub asks_same : {d : Document} {S : Content → Type 0} (xs ys : List (Bool × Argument)) → xs ≡ ys → AsksPatternAt xs d S → AsksPatternAt ys d S
asks_same {d} {S} xs ys e h = subst (λ ps. AsksPatternAt ps d S) e h

pub asks_below : {ps : List (Bool × Argument)} (d : Document) (b c : Content) → b ≡ c → AsksPatternAt ps d (IsBelow d b) → AsksPatternAt ps d (IsBelow d c)
asks_below {ps} d b c e h = subst (λ x. AsksPatternAt ps d (IsBelow d x)) e h

-- one of a list of parts
pub asks_at : {d : Document} {S : Content → Type 0} {X : Type 0} (f : X → List (Bool × Argument)) (all : List X → List (Bool × Argument)) → ((x : X) (xs : List X) → all (x ∷ xs) ≡ f x ++ all xs) → (xs : List X) (i : ℕ) (x : X) → i < length xs → x ≡ get_or xs i x → AsksPatternAt (f x) d S → AsksPatternAt (all xs) d S
asks_at {d} {S} f all more xs i x lt e h = asks_by (f x) (all xs) d S (contains_part f all more xs i x lt e) h

-- the first pattern, at this state
pub asks_here : {S : Content → Type 0} (d : Document) (entire : Bool) (pattern : Argument) (more : List (Bool × Argument)) (s : Content) (o : Option Tree) → S s → o ≡ plain (argument_content pattern d s) → IsPattern entire o → AsksPatternAt ((entire, pattern) ∷ more) d S
asks_here d entire pattern more s o here e k = record { entire = entire; pattern = pattern; stands = (0, omega arith, refl); state = s; at_state = here; read = subst (IsPattern entire) e k }

asks_so : (ps : List (Bool × Argument)) (d : Document) (S R : Content → Type 0) → ((s : Content) → S s → R s) → AsksPatternAt ps d S → AsksPatternAt ps d R
asks_so ps d S R k h = record { entire = h.entire; pattern = h.pattern; stands = h.stands; state = h.state; at_state = k h.state h.at_state; read = h.read }

-- no pattern asks nothing
asks_none : (d : Document) (S : Content → Type 0) → AsksPatternAt [] d S → ⊥
asks_none d S h = omega (arith, h.stands.1)

pub asks_nothing : {d : Document} {S R : Content → Type 0} (ps : List (Bool × Argument)) → AsksPatternAt [] d S → AsksPatternAt ps d R
asks_nothing {d} {S} ps h = absurd (asks_none d S h)

-- so memory alone ran out
alone_here : (d : Document) (c : Content) (h : WalkError) → HaltsBelow [] d c h → h ≡ Memory
alone_here d c Memory k = refl
alone_here d c Pattern k = absurd (asks_none d (IsBelow d c) (k (λ e. let both : Pattern ≡ Memory = e in cc)))
alone_here d c Spent k = absurd (asks_none d (IsBelow d c) (k (λ e. let both : Spent ≡ Memory = e in cc)))

pub memory_alone : {A : Type 0} (d : Document) (c : Content) (r : Result A WalkError) → IfErr r (HaltsBelow [] d c) → IfErr r (λ h. h ≡ Memory)
memory_alone d c r h = err_so r (HaltsBelow [] d c) (λ y. y ≡ Memory) (alone_here d c) h

-- ---- where: what is below targets that lie in a state is below the state

below-lies : (d : Document) (c s : Content) (t : Tree) → LiesIn (tops d c) t → s ≡ inside t → IsBelow d c s
below-lies d c s t h e = record { top = h.top; among = h.among; location = h.location; tree = t; there = h.there; alone = e }

below-top : (d : Document) (c b s : Content) (h : IsBelow d b s) → LiesIn (tops d c) h.top → IsBelow d c s
below-top d c b s h k = record { top = k.top; among = k.among; location = k.location ++ h.location; tree = h.tree; there = at-append k.location h.location k.top ∙ ap (option_and_then (at h.location)) k.there ∙ h.there; alone = h.alone }

lies-root : (d : Document) (c : Content) (t : Tree) → d.root ≡ t → LiesIn (tops d c) t
lies-root d c t e = record { top = d.root; among = (0, omega arith, refl); location = []; there = ap (λ u. Some u) e }

lies-top : (d : Document) (c b : Content) → AllByRecursion (Stays (tops d c)) (targets b) → (t : Tree) (i : ℕ) → i < length (tops d b) → get_or (tops d b) i t ≡ t → LiesIn (tops d c) t
lies-top d c b k t zero lt e = lies-root d c t e
lies-top d c b k t (suc i) lt e = lies-target (tops d c) (targets b) i t k (omega (arith, lt, length-map (targets b) (λ (p : Target). p.tree))) e

below-stays : (d : Document) (c b : Content) → AllByRecursion (Stays (tops d c)) (targets b) → (s : Content) → IsBelow d b s → IsBelow d c s
below-stays d c b k s h = below-top d c b s h (lies-top d c b k h.top h.among.0 h.among.1 h.among.2)

-- on an answer whose nodes lie in the state
pub asks_within : {ps : List (Bool × Argument)} (d : Document) (c b : Content) → AllByRecursion (Stays (tops d c)) (targets b) → AsksPatternAt ps d (IsBelow d b) → AsksPatternAt ps d (IsBelow d c)
asks_within {ps} d c b k h = asks_so ps d (IsBelow d b) (IsBelow d c) (below-stays d c b k) h

-- so the nodes of what a segment makes of it
pub stays_next : (g : Segment) (d : Document) (ts : List Tree) (b a : Content) → a ≡ segment_content g d b → AllByRecursion (Stays ts) (targets b) → AllByRecursion (Stays ts) (targets a)
stays_next g d ts b a e k = subst (λ x. AllByRecursion (Stays ts) (targets x)) (sym e) (segment-stays g d ts b k)

-- on the lists and objects there and below
pub asks_parents : {ps : List (Bool × Argument)} (d : Document) (c b : Content) → AllByRecursion IsDistinct (targets c) → b ≡ mapped parents_from c → AsksPatternAt ps d (IsBelow d b) → AsksPatternAt ps d (IsBelow d c)
asks_parents {ps} d c b distinct e h =
    let k = mapped-parents-stays (tops d c) c (stays-itself d c distinct) in
    asks_so ps d (IsBelow d (mapped parents_from c)) (IsBelow d c) (below-stays d c (mapped parents_from c) k) (subst (λ x. AsksPatternAt ps d (IsBelow d x)) e h)

-- on one node of a state
pub asks_target : {ps : List (Bool × Argument)} {X : Type 0} (seen : X → Target) (d : Document) (c : Content) (xs : List X) (i : ℕ) (x : X) → AllByRecursion IsDistinct (targets c) → targets c ≡ map seen xs → i < length xs → x ≡ get_or xs i x → AsksPatternAt ps d (IsBelow d (ref (seen x))) → AsksPatternAt ps d (IsBelow d c)
asks_target {ps} seen d c xs i x distinct same lt e h =
    let P : List Target → Type 0 = AllByRecursion (Stays (tops d c)) in
    asks_so ps d (IsBelow d (ref (seen x))) (IsBelow d c) (below-stays d c (ref (seen x)) (each_at (Stays (tops d c)) seen xs i x (subst P same (stays-itself d c distinct)) lt e, tt)) h

-- on a child of a node, by itself
asked-inside : (d : Document) (c : Content) (q : Target) → Stays (tops d c) q → (s : Content) → IsAsked d (inside q.tree) s → IsBelow d c s
asked-inside d c q k s (inl e) = below-lies d c s q.tree k.lies e
asked-inside d c q k s (inr h) = below-stays d c (inside q.tree) (record { lies = k.lies; distinct = k.distinct }, tt) s h

stays-some : (P : Target → Type 0) (b : Bool) (ps qs : List Target) → AllByRecursion P ps → Some qs ≡ cond b (Some ps) None → AllByRecursion P qs
stays-some P true ps qs h e =
    let same : ps ≡ qs = cc in
    subst (AllByRecursion P) same h
stays-some P false ps qs h e = cc

pub asks_child : {ps : List (Bool × Argument)} {X : Type 0} (seen : X → Target) (d : Document) (p : Target) (xs : List X) (i : ℕ) (x : X) (s : Content) → IsDistinct p → Some (map seen xs) ≡ parts_from p → i < length xs → x ≡ get_or xs i x → s ≡ inside (seen x).tree → AsksPatternAt ps d (IsAsked d s) → AsksPatternAt ps d (IsBelow d (ref p))
asks_child {ps} seen d p xs i x s distinct parts lt e alone h =
    let c = ref p in
    let each = stays-some (Stays (tops d c)) (has_parts p.tree) (found_from p children) (map seen xs) (stays-children (tops d c) p (stays-itself d c (distinct, tt)).0) parts in
    asks_so ps d (IsAsked d (inside (seen x).tree)) (IsBelow d c) (asked-inside d c (seen x) (each_at (Stays (tops d c)) seen xs i x each lt e)) (subst (λ z. AsksPatternAt ps d (IsAsked d z)) alone h)

-- from the root
lies-in_root : (d : Document) (c : Content) (t : Tree) (i : ℕ) → i < 2 → get_or (d.root ∷ d.root ∷ []) i t ≡ t → LiesIn (tops d c) t
lies-in_root d c t zero lt e = lies-root d c t e
lies-in_root d c t (suc zero) lt e = lies-root d c t e
lies-in_root d c t (suc (suc i)) lt e = absurd (omega (arith, lt))

below-root : (d : Document) (c s : Content) → IsBelow d (root_content d) s → IsBelow d c s
below-root d c s h = below-top d c (root_content d) s h (lies-in_root d c h.top h.among.0 h.among.1 h.among.2)

pub asks_root : {ps : List (Bool × Argument)} (d : Document) (c : Content) → AsksPatternAt ps d (IsBelow d (root_content d)) → AsksPatternAt ps d (IsAsked d c)
asks_root {ps} d c h = asks_so ps d (IsBelow d (root_content d)) (IsAsked d c) (λ s k. inr (below-root d c s k)) h

-- at the state or below
pub asks_too : {ps : List (Bool × Argument)} (d : Document) (c : Content) → AsksPatternAt ps d (IsBelow d c) → AsksPatternAt ps d (IsAsked d c)
asks_too {ps} d c h = asks_so ps d (IsBelow d c) (IsAsked d c) (λ s k. inr k) h

-- ---- whole data has distinct names

pointers-distinct : {A : Type 0} (tree : A → Tree) (whole : A → Bool) → ((x : A) → IsTrue (whole x) → IsTrue (has_distinct_names (tree x))) → (ps : List (Pointer A)) → PointersAreWhole whole ps → AllByRecursion IsDistinct (map (target_of tree) ps)
pointers-distinct tree whole k [] h = tt
pointers-distinct tree whole k (p ∷ ps) h = (k p.inner.now (All-head (λ q. IsTrue (whole q.inner.now)) p ps h), pointers-distinct tree whole k ps (All-tail (λ q. IsTrue (whole q.inner.now)) p ps h))

pub data-distinct : {A : Type 0} (tree : A → Tree) (whole : A → Bool) → ((x : A) → IsTrue (whole x) → IsTrue (has_distinct_names (tree x))) → (x : Data A) → DataIsWhole whole x → AllByRecursion IsDistinct (targets (content_of tree x))
data-distinct tree whole k (Ref p) h = (k p.inner.now h, tt)
data-distinct tree whole k (Refs ps) h = pointers-distinct tree whole k ps.items h
data-distinct tree whole k (Value x) h = tt
data-distinct tree whole k Nothing h = tt

-- ---- why an answer is refused, in other words

pub halts_as : {A X Y : Type 0} (r : Result A WalkError) → IfErr r (λ y. (y ≡ Memory → ⊥) → X) → (X → Y) → IfErr r (λ y. (y ≡ Memory → ⊥) → Y)
halts_as r h f = err_so r _ _ (λ y k m. f (k m)) h

-- of an error that a `?` passes on
pub halts_so : {A X Y : Type 0} (r : Result A WalkError) (h : WalkError) → IsErrAnd r (λ y. y ≡ h) → ((h ≡ Memory → ⊥) → X) → (X → Y) → IfErr r (λ y. (y ≡ Memory → ⊥) → Y)
halts_so r h is k f = passed_on r _ _ is (λ y same m. f (k (λ e. m (same ∙ e))))
