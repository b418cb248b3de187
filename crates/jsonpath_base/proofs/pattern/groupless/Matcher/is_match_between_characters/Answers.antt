use Rattle.std.proofs.Common.{◌≡◌, None, Some, sym, ap, ◌∙◌, arith, is_some, option_map}
use Rattle.std.proofs.lemmas.Bool.{both_ways}
use Rattle.regex.specs.Patterns.{find, span}
use Rattle.regex_meta.specs.Programs.{pattern_of}
use Rattle.jsonpath_base.specs.inner.PatternParts.{matcher_pattern}
use Rattle.jsonpath_base.proofs.GroupLemmas.{nothing_between, found_between, further_between}
use Rattle.jsonpath_base.proofs.pattern.groupless.Matcher.is_match_between_characters.Goals as goal

pub returns-in_default-clause-found : goal.returns-in_default-clause-found
returns-in_default-clause-found c =
    let inv = c.places.invariant in
    let none : None ≡ option_map span (find (matcher_pattern c.args.self.now) c.args.text.now c.places.at) =
    rw (inv.2, inv.3) at c.in_default.ensures.found in
    nothing_between _ _ _ none ∙ sym (ap is_some inv.1)

pub returns-then-is_char_boundary-clause-found : goal.returns-then-is_char_boundary-clause-found
returns-then-is_char_boundary-clause-found c =
    let inv = c.places.invariant in
    let found : Some (c.in-Some.from, c.in-Some.field-0-1) ≡ option_map span (find (matcher_pattern c.args.self.now) c.args.text.now c.places.at) =
    rw (inv.2, inv.3) at c.in-Some.ensures.found in
    found_between _ _ _ _ _ found (c.is_char_boundary.ensures.test.0 c.if-is_char_boundary.true) ∙ sym (ap is_some inv.1)

pub overflow_add-at : goal.overflow_add-at
overflow_add-at c =
    let inv = c.places.invariant in
    let found : Some (c.in-Some.from, c.in-Some.field-0-1) ≡ option_map span (find (matcher_pattern c.args.self.now) c.args.text.now c.places.at) =
    rw (inv.2, inv.3) at c.in-Some.ensures.found in
    let on = further_between _ _ _ _ _ found (λ cut. both_ways _ c.if-is_char_boundary.false (c.is_char_boundary.ensures.test.1 cut)) in
    omega (arith, on.1)

pub places-smaller : goal.places-smaller
places-smaller c =
    let inv = c.places.invariant in
    let found : Some (c.in-Some.from, c.in-Some.field-0-1) ≡ option_map span (find (matcher_pattern c.args.self.now) c.args.text.now c.places.at) =
    rw (inv.2, inv.3) at c.in-Some.ensures.found in
    let on = further_between _ _ _ _ _ found (λ cut. both_ways _ c.if-is_char_boundary.false (c.is_char_boundary.ensures.test.1 cut)) in
    omega (arith, on.0, on.1)

pub places-preserved : goal.places-preserved
places-preserved c =
    let inv = c.places.invariant in
    let found : Some (c.in-Some.from, c.in-Some.field-0-1) ≡ option_map span (find (matcher_pattern c.args.self.now) c.args.text.now c.places.at) =
    rw (inv.2, inv.3) at c.in-Some.ensures.found in
    let on = further_between _ _ _ _ _ found (λ cut. both_ways _ c.if-is_char_boundary.false (c.is_char_boundary.ensures.test.1 cut)) in
    (omega (arith, on.1), inv.1 ∙ on.2, ap pattern_of c.in-Some.ensures.same ∙ inv.2, inv.3)
