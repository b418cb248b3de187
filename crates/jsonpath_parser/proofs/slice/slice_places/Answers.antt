use Rattle.std.proofs.Common.{arith, rules, ◌≡◌, ◌∙◌, sym, ap, pos, ◌-◌, ◌<ℤ◌, suc, w64}
use mir.Val.{SFits}
use Rattle.jsonpath_parser.specs.Prelude.{places_left, slice_by, slice_of}
use Rattle.std.specs.Int.RustNames.{unsigned_abs}
use Rattle.std.proofs.lemmas.Int.{ints, to_z-of_z}
use Rattle.jsonpath_parser.proofs.SliceLemmas.{rising_slice, falling_slice, rising_none, slice_below}
use Rattle.jsonpath_parser.proofs.slice.slice_places.Goals as goal

pub returns-then-step-gt0-clause-value : goal.returns-then-step-gt0-clause-value
unfolding slice_of places_left
returns-then-step-gt0-clause-value c =
    let step = c.unwrap_or-step.result in
    let above : pos 0 <ℤ step = omega (arith, ints) in
    let fits : SFits w64 step = search rules in
    let size : c.saturating_sub-between.result ≡ unsigned_abs step - 1 = c.saturating_sub-between.ensures ∙ ap (λ n. n - 1) (c.unsigned_abs.ensures.value ∙ ap unsigned_abs (to_z-of_z w64 step fits)) in
    rising_slice c.args.start c.args.end step c.rising_start.result c.rising_end.result c.args.len c.saturating_sub-between.result above size
    c.rising_end.ensures.within c.rising_start.ensures c.rising_end.ensures.value
    ∙ ap (λ z. slice_by c.args.start c.args.end z c.args.len) c.unwrap_or-step.ensures

pub returns-then-step-gt0-clause-below : goal.returns-then-step-gt0-clause-below
returns-then-step-gt0-clause-below c = slice_below c.args.start c.args.end c.args.step c.args.len _ (returns-then-step-gt0-clause-value c)

pub returns-then-step-lt0-clause-value : goal.returns-then-step-lt0-clause-value
unfolding slice_of places_left
returns-then-step-lt0-clause-value c =
    let step = c.unwrap_or-step.result in
    let below : step <ℤ pos 0 = omega (arith, ints) in
    let fits : SFits w64 step = search rules in
    let size : c.saturating_sub-between.result ≡ unsigned_abs step - 1 = c.saturating_sub-between.ensures ∙ ap (λ n. n - 1) (c.unsigned_abs.ensures.value ∙ ap unsigned_abs (to_z-of_z w64 step fits)) in
    falling_slice c.args.start c.args.end step c.falling_end.result c.falling_start.result c.args.len c.saturating_sub-between.result below size
    c.falling_start.ensures.within c.falling_end.ensures c.falling_start.ensures.value
    ∙ ap (λ z. slice_by c.args.start c.args.end z c.args.len) c.unwrap_or-step.ensures

pub returns-then-step-lt0-clause-below : goal.returns-then-step-lt0-clause-below
returns-then-step-lt0-clause-below c = slice_below c.args.start c.args.end c.args.step c.args.len _ (returns-then-step-lt0-clause-value c)

pub returns-else-step-lt0-clause-value : goal.returns-else-step-lt0-clause-value
unfolding slice_of places_left
returns-else-step-lt0-clause-value c =
    let step = c.unwrap_or-step.result in
    let none : step ≡ pos 0 = omega (arith, ints) in
    rising_none 0 0 (suc c.saturating_sub-between.result) (omega arith) ∙ sym (ap (λ z. slice_by c.args.start c.args.end z c.args.len) (sym c.unwrap_or-step.ensures ∙ none))

pub returns-else-step-lt0-clause-below : goal.returns-else-step-lt0-clause-below
returns-else-step-lt0-clause-below c = slice_below c.args.start c.args.end c.args.step c.args.len _ (returns-else-step-lt0-clause-value c)
