-- What a call says of a query, said of the query's text, and what has the query that was read of a text.
use Rattle.std.proofs.Common.{◌≡◌, ◌≤◌, ℕ, List, Result, Ok, Err, IfOk, IfErr, MatchResult, inl, inr, ap, sym, ◌∙◌, subst}
use Rattle.jsonpath_base.specs.Prelude.Documents.{Derives, Document, HasIndexesInRange, IsNormal, IsRefusal, IsStop, JsonPathError, Location, OutOfMemory, Query, segments_patterns, steps_query}
use Rattle.jsonpath_rust.specs.Prelude.Calls.{ByText}
use Rattle.jsonpath_rust.proofs.laws.selection.{stop_is_memory}
use Rattle.jsonpath_rust.proofs.NormalPaths.{steps_patterns}

-- of the query that was read, which is the one that is asked
pub by_text : {X : Type 0} (limit : ℕ) (text : List ℕ) (p q : Query) (doc : Document) (Is : Document → Query → X → Type 0) (IsAt : Document → List ℕ → Location → X → Type 0) (r : Result X JsonPathError) → q ≡ p
    → Derives limit text p → ((t : Query) → Derives limit text t → p ≡ t) → ((l : Location) → IsNormal l text → HasIndexesInRange l → 1 ≤ limit → p ≡ steps_query l)
    → ((l : Location) (x : X) → IsNormal l text → q ≡ steps_query l → Is doc q x → IsAt doc text l x) → IfOk r (Is doc q) → IfErr r (IsStop q doc) → ByText limit text doc Is IsAt r
by_text limit text p q doc Is IsAt (Ok x) asked derived only normal there told refused = record {
  outcome = record { query = p; derived = derived; outcome = subst (λ s. Is doc s x) asked told };
  complete = λ t d. subst (λ s. Is doc s x) (asked ∙ only t d) told;
  normal = λ l is small deep. there l x is (asked ∙ normal l is small deep) told;
  refused = tt;
}
by_text limit text p q doc Is IsAt (Err e) asked derived only normal there told refused = record {
  outcome = tt;
  complete = λ t d. subst (λ s. IsStop s doc e) (asked ∙ only t d) refused;
  normal = λ l is small deep. stop_is_memory q doc e (ap segments_patterns (asked ∙ normal l is small deep) ∙ steps_patterns l) refused;
  refused = inr (p, derived, subst (λ s. IsStop s doc e) asked refused);
}

-- of a text that was refused
pub by_refusal : {X : Type 0} (limit : ℕ) (text : List ℕ) (doc : Document) (Is : Document → Query → X → Type 0) (IsAt : Document → List ℕ → Location → X → Type 0) (e : JsonPathError)
    → ((t : Query) → Derives limit text t → e ≡ OutOfMemory) → ((l : Location) → IsNormal l text → HasIndexesInRange l → 1 ≤ limit → e ≡ OutOfMemory) → IsRefusal limit text e → ByText limit text doc Is IsAt (Err e)
by_refusal limit text doc Is IsAt e only normal refused = record {
  outcome = tt;
  complete = λ t d other. absurd (other (only t d));
  normal = normal;
  refused = inl refused;
}

pub read_derives : {X : Type 0} (view : X → Query) (limit : ℕ) (text : List ℕ) (q : Query) (r : Result X JsonPathError) → Derives limit text q → IfOk r (λ x. view x ≡ q) → IfOk r (λ x. Derives limit text (view x))
read_derives view limit text q (Ok x) derived same = subst (λ s. Derives limit text s) (sym same) derived
read_derives view limit text q (Err e) derived same = tt

pub read_only : {X : Type 0} (view : X → Query) (q t : Query) (r : Result X JsonPathError) → q ≡ t → IfOk r (λ x. view x ≡ q) → IfErr r (λ e. e ≡ OutOfMemory) → MatchResult r (λ x. view x ≡ t) (λ e. e ≡ OutOfMemory)
read_only view q t (Ok x) e same memory = same ∙ e
read_only view q t (Err f) e same memory = memory

pub read_refused : {X : Type 0} (limit : ℕ) (text : List ℕ) (q : Query) (r : Result X JsonPathError) → Derives limit text q → IfErr r (λ e. e ≡ OutOfMemory) → IfErr r (IsRefusal limit text)
read_refused limit text q (Ok x) derived memory = tt
read_refused limit text q (Err e) derived memory = subst (IsRefusal limit text) (sym memory) derived.within
