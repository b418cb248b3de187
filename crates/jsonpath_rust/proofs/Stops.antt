-- What a caller is told of a walk that halted, under whatever limit.
use Rattle.std.proofs.Common.{◌≡◌, [], ◌++◌, Bool, IsTrue, refl, ap, subst}
use Rattle.jsonpath_base.specs.Prelude.Documents.{absolute, and, call, compare, descendant, Document, Filter, filter, group, is_singular, no_segments, one, or, Query, relative, segment, segments_patterns, several, slice, test, wildcard}
use Rattle.jsonpath_rust.specs.Prelude.Documents.{WalkError}
use Rattle.jsonpath_rust.specs.Prelude.Selection.{filter_query, IsConditionStop, IsWalkError, IsStopOf, limit_of, WorkLimit, tests_singular}
use Rattle.jsonpath_parser.specs.tree.Syntax.{name, index}
use Rattle.jsonpath_base.specs.declared.documents.walk_error.WalkError.TheVariants as halt

-- ---- a call that is free asks no pattern

-- none of its segments has a pattern
singular_patterns : (q : Query) → IsTrue (is_singular q) → segments_patterns q ≡ []
singular_patterns no_segments h = refl
singular_patterns (segment (one (name k)) gs) h = singular_patterns gs h
singular_patterns (segment (one (index i)) gs) h = singular_patterns gs h
singular_patterns (segment (one wildcard) gs) h = absurd cc
singular_patterns (segment (one (slice start end step)) gs) h = absurd cc
singular_patterns (segment (one (filter f)) gs) h = absurd cc
singular_patterns (segment (several ss) gs) h = absurd cc
singular_patterns (segment (descendant g) gs) h = absurd cc

-- so none has a test of one (2.3.5.1)
pub singular_test_patterns : (f : Filter) → IsTrue (tests_singular f) → segments_patterns (filter_query f) ≡ []
singular_test_patterns (test t (relative gs)) h = ap (λ ps. ps ++ []) (singular_patterns gs h)
singular_test_patterns (test t (absolute gs)) h = ap (λ ps. ps ++ []) (singular_patterns gs h)
singular_test_patterns (test t (call f)) h = absurd cc
singular_test_patterns (or fs) h = absurd cc
singular_test_patterns (and fs) h = absurd cc
singular_test_patterns (group t f) h = absurd cc
singular_test_patterns (compare op a b) h = absurd cc

-- ---- so what a limit says of a halt holds of a query, and of a condition

-- what a limit says of a halt that it makes a stop
abbrev pub Says : {S : Type 0} → Bool → (Bool → Query → Document → S → Type 0) → WalkError → S → Type 0
Says counts stops cause stop =
    (free : Bool) (q : Query) (doc : Document) → (IsTrue free → segments_patterns q ≡ []) → IsWalkError (limit_of counts free) (segments_patterns q) doc cause → stops free q doc stop

pub query_stops : {S : Type 0} (counts : Bool) (stops : Bool → Query → Document → S → Type 0) (q : Query) (doc : Document) (limit : WorkLimit) (cause : WalkError) (stop : S) → Says counts stops cause stop
    → limit ≡ limit_of counts (is_singular q) → IsWalkError limit (segments_patterns q) doc cause → IsStopOf stops q doc stop
query_stops counts stops q doc limit cause stop says same h = says (is_singular q) q doc (singular_patterns q) (subst (λ l. IsWalkError l (segments_patterns q) doc cause) same h)

pub condition_stops : {S : Type 0} (counts : Bool) (stops : Bool → Query → Document → S → Type 0) (f : Filter) (doc : Document) (limit : WorkLimit) (cause : WalkError) (stop : S) → Says counts stops cause stop
    → limit ≡ limit_of counts (tests_singular f) → IsWalkError limit (segments_patterns (filter_query f)) doc cause → IsConditionStop stops f doc stop
condition_stops counts stops f doc limit cause stop says same h = says (tests_singular f) (filter_query f) doc (singular_test_patterns f) (subst (λ l. IsWalkError l (segments_patterns (filter_query f)) doc cause) same h)

-- of want of memory
pub memory_stops : {S : Type 0} (counts : Bool) (stops : Bool → Query → Document → S → Type 0) (q : Query) (doc : Document) (stop : S) → Says counts stops halt.Memory stop → IsStopOf stops q doc stop
memory_stops counts stops q doc stop says = query_stops counts stops q doc (limit_of counts (is_singular q)) halt.Memory stop says refl (λ other. absurd (other refl))
