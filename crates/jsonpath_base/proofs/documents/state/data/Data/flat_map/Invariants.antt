use Rattle.std.proofs.Common.{◌≡◌, Ok, Err, length}
use Rattle.jsonpath_base.specs.Prelude.Documents.{AllByRecursion, into_iter_items, into_iter_len, JsonPathError}
use Rattle.jsonpath_base.specs.Prelude.States.{Completes, SomeHas}
use Rattle.jsonpath_base.proofs.documents.state.data.Data.flat_map.Given as goal

abbrev pub invariant-loop-p : goal.invariant-loop-p
invariant-loop-p g l =
    let rest = into_iter_items l.p-iterator in
    let all = into_iter_items l.initial.p-iterator in
    record {
      len : into_iter_len l.p-iterator ≡ length rest;
      can : AllByRecursion (goal.F-pre g l.f) rest;
      made : Completes (λ p r. goal.F-post g l.f p (Ok r)) all rest l.all.items;
      refused : (e : JsonPathError) → SomeHas (λ p. goal.F-post g l.f p (Err e)) rest → SomeHas (λ p. goal.F-post g l.f p (Err e)) all;
    }
