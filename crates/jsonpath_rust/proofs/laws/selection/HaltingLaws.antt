-- A pattern of a part of a query is one of the query, and a halt for it one of the query.
use Rattle.std.proofs.Common.{◌≡◌, ℕ, ◌<◌, List, [], ◌∷◌, ◌++◌, length, get_or, arith, refl, sym, subst, Bool, Option, Result, IfErr, inl, inr, ◌⊎◌}
use Rattle.std.proofs.lemmas.List.Elements.{Contains-append_left, Contains-append_right, Contains-append_cases}
use Rattle.jsonpath_base.specs.Prelude.Documents.{argued, Argument, as_value, AsksPattern, Contains, Document, IsPattern, IsStop, IsValueAt, JsonPathError, Node, OutOfMemory, Query, segments_patterns, Tree}
use Rattle.jsonpath_rust.specs.Prelude.Documents.{WalkError}
use Rattle.jsonpath_rust.specs.Prelude.Selection.{IsWalkError, WorkLimit}
use Rattle.jsonpath_base.proofs.lemmas.documents.{contains_part, err_so}

-- ---- more patterns

asked_by : {d : Document} (xs ys : List (Bool × Argument)) → ((p : Bool × Argument) → Contains xs p → Contains ys p) → AsksPattern xs d → AsksPattern ys d
asked_by xs ys k h = record { entire = h.entire; pattern = h.pattern; stands = k (h.entire, h.pattern) h.stands; node = h.node; at_node = h.at_node; read = h.read }

-- none stands in no part
pub asked_none : {d : Document} (ys : List (Bool × Argument)) → AsksPattern [] d → AsksPattern ys d
asked_none ys h = asked_by [] ys (λ p c. absurd (omega (arith, c.1))) h

-- the same part in other words
pub asked_as : {X : Type 0} {d : Document} (f : X → List (Bool × Argument)) (x y : X) → x ≡ y → AsksPattern (f y) d → AsksPattern (f x) d
asked_as {d = d} f x y e h = subst (λ z. AsksPattern (f z) d) (sym e) h

-- one of two parts
pub asked_left : {d : Document} (xs ys : List (Bool × Argument)) → AsksPattern xs d → AsksPattern (xs ++ ys) d
asked_left xs ys h = asked_by xs (xs ++ ys) (λ p. Contains-append_left xs ys p) h

pub asked_right : {d : Document} (xs ys : List (Bool × Argument)) → AsksPattern ys d → AsksPattern (xs ++ ys) d
asked_right xs ys h = asked_by ys (xs ++ ys) (λ p. Contains-append_right xs ys p) h

-- behind the first one
pub asked_rest : {d : Document} (x : Bool × Argument) (xs : List (Bool × Argument)) → AsksPattern xs d → AsksPattern (x ∷ xs) d
asked_rest x xs h = asked_right (x ∷ []) xs h

-- one of a list of parts
pub asked_at : {X : Type 0} {d : Document} (f : X → List (Bool × Argument)) (all : List X → List (Bool × Argument)) → ((x : X) (xs : List X) → all (x ∷ xs) ≡ f x ++ all xs) → (xs : List X) (i : ℕ) (x : X) → i < length xs → x ≡ get_or xs i x → AsksPattern (f x) d → AsksPattern (all xs) d
asked_at f all more xs i x lt e h = asked_by (f x) (all xs) (contains_part f all more xs i x lt e) h

-- the same, with others behind
beside : (xs ys zs : List (Bool × Argument)) (p : Bool × Argument) → (Contains xs p → Contains ys p) → Contains xs p ⊎ Contains zs p → Contains (ys ++ zs) p
beside xs ys zs p k (inl c) = Contains-append_left ys zs p (k c)
beside xs ys zs p k (inr c) = Contains-append_right ys zs p c

pub asked_at_or : {X : Type 0} {d : Document} (f : X → List (Bool × Argument)) (all : List X → List (Bool × Argument)) → ((x : X) (xs : List X) → all (x ∷ xs) ≡ f x ++ all xs) → (others : List (Bool × Argument)) (xs : List X) (i : ℕ) (x : X) → i < length xs → x ≡ get_or xs i x → AsksPattern (f x ++ others) d → AsksPattern (all xs ++ others) d
asked_at_or f all more others xs i x lt e h = asked_by (f x ++ others) (all xs ++ others) (λ p c. beside (f x) (all xs) others p (contains_part f all more xs i x lt e p) (Contains-append_cases (f x) others p c)) h

-- ---- halts

-- a halt of a part is one of the whole
pub halts_as : {A : Type 0} {xs ys : List (Bool × Argument)} {d : Document} (limit : WorkLimit) (r : Result A WalkError) → IfErr r (IsWalkError limit xs d) → (AsksPattern xs d → AsksPattern ys d) → IfErr r (IsWalkError limit ys d)
halts_as limit r h f = err_so r _ _ (λ e k memory spent. f (k memory spent)) h

-- ---- patterns

-- the first pattern is asked at a node
pub pattern_asked : (d : Document) (entire : Bool) (asked : Argument) (more : List (Bool × Argument)) (n : Node) (o : Option Tree) → IsValueAt d n.location n.tree → o ≡ as_value (argued asked d n) → IsPattern entire o → AsksPattern ((entire, asked) ∷ more) d
pattern_asked d entire asked more n o here e k = record { entire = entire; pattern = asked; stands = (0, omega arith, refl); node = n; at_node = here; read = subst (IsPattern entire) e k }

-- a query in which no pattern stands asks none
none_asked : (q : Query) (doc : Document) → segments_patterns q ≡ [] → AsksPattern (segments_patterns q) doc → ⊥
none_asked q doc none asks = by_patterns (segments_patterns q) none asks.stands
  where
    by_patterns : (ps : List (Bool × Argument)) → ps ≡ [] → Contains ps (asks.entire, asks.pattern) → ⊥
    by_patterns [] e c = omega (arith, c.1)
    by_patterns (p ∷ ps) e c = absurd cc

-- so it is refused by `OutOfMemory` alone
pub stop_is_memory : (q : Query) (doc : Document) (e : JsonPathError) → segments_patterns q ≡ [] → IsStop q doc e → e ≡ OutOfMemory
stop_is_memory q doc OutOfMemory none stop = refl
stop_is_memory q doc _ none stop = absurd (none_asked q doc none (stop (λ m. cc)).1)
