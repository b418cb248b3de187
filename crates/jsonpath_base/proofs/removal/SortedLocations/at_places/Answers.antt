use Rattle.std.proofs.Common.{◌≡◌, ◌+◌, ◌∷◌, drop, map, Vec, Global, sym, ap, ◌∙◌}
use Rattle.std.proofs.lemmas.List.{drop_more, drop_all}
use Rattle.std.proofs.lemmas.Result.{IfOk-weaker}
use Rattle.jsonpath_base.specs.Prelude.{distinct_count, lent_location, listed, Location, location_view, marked, set_with}
use Rattle.jsonpath_base.specs.LocationSetViews.{sorted_set, sorted_count}
use Rattle.jsonpath_base.specs.declared.step.Step.{Step}
use Rattle.jsonpath_base.proofs.Removed.{set_begun, marks_next}
use Rattle.jsonpath_base.proofs.removal.SortedLocations.at_places.Goals as goal

abbrev place : Vec Step Global → Location
place p = location_view p.items

pub loop-place-init : goal.loop-place-init
loop-place-init c = set_begun (marked c.new-removal.result.marks) (distinct_count (listed c.new-removal.result.marks)) (map place c.args.places.now) c.new-removal.ensures.none c.new-removal.ensures.count

pub loop-place-preserved : goal.loop-place-preserved
loop-place-preserved c =
    let l = c.loop-place in let i = l.place-index in let p = c.place-item.result in let places = c.args.places.now in
    let old = l.removal.marks in let new = c.add.new.self.marks in
    let next : drop i places ≡ p ∷ drop (i + 1) places =
    drop_more places i p c.loop-place-test.true ∙ ap (λ x. x ∷ drop (i + 1) places) (sym c.place-item.is) in
    let at = ap lent_location c.deref-in-loop-place.ensures.value ∙ c.in_ok-steps.ensures.lent ∙ ap location_view c.deref.ensures.value in
    marks_next (marked old) (marked new) (distinct_count (listed old)) (distinct_count (listed new)) _ (map place (drop (i + 1) places)) c.in_ok-add.ensures.added c.in_ok-add.ensures.count
    ∙ ap (λ x. set_with (x ∷ map place (drop (i + 1) places)) (marked old) (distinct_count (listed old))) at
    ∙ ap (λ xs. set_with (map place xs) (marked old) (distinct_count (listed old))) (sym next)
    ∙ l.invariant

pub returns-clause-set : goal.returns-clause-set
returns-clause-set c =
    let l = c.loop-place in let places = c.args.places.now in let m = l.removal.marks in
    let all = ap (λ xs. set_with (map place xs) (marked m) (distinct_count (listed m))) (sym (drop_all l.place-index places c.loop-place-test.false)) ∙ l.invariant in
    IfOk-weaker c.ordered.result (λ r. sorted_set r ≡ marked m) _ (λ r e. e ∙ ap (λ s. s.0) all) c.ordered.ensures.set

pub returns-clause-count : goal.returns-clause-count
returns-clause-count c =
    let l = c.loop-place in let places = c.args.places.now in let m = l.removal.marks in
    let all = ap (λ xs. set_with (map place xs) (marked m) (distinct_count (listed m))) (sym (drop_all l.place-index places c.loop-place-test.false)) ∙ l.invariant in
    IfOk-weaker c.ordered.result (λ r. sorted_count r ≡ distinct_count (listed m)) _ (λ r e. e ∙ ap (λ s. s.1) all) c.ordered.ensures.count
