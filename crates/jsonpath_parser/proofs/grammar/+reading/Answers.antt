use Rattle.std.proofs.Common.{◌≡◌, suc, ◌==◌, ◌-◌, ◌≤◌, true, false, map, length, drop, Some, le_refl, sym, ap, ◌∙◌, rules, arith}
use Rattle.std.proofs.lemmas.Grind.{common_steps}
use Rattle.jsonpath_parser.specs.Prelude.{argument, argument_at, argument_view, basic_at, conjunction_at, filter_then, filter_view, first, found_then, is_twice, no_arguments, no_selectors, number_reading, segment, segment_view, selector, selector_view, skip_blank, starts_segment}
use Rattle.jsonpath_parser.proofs.laws.words.Giving.{gives_err}
use Rattle.jsonpath_parser.proofs.Turns.{many_end, many_none, many_next, separated_none, separated_end, separated_next, operand_none, operand_other, operand_read, all_segments, argument_turn, found_none, found_push}
use Rattle.jsonpath_parser.proofs.grammar.+reading.Goals as goal

pub segments::segments-returns-then-not-starts_segment-clause-value : goal.segments::segments-returns-then-not-starts_segment-clause-value
segments::segments-returns-then-not-starts_segment-clause-value t c n h =
    let l = c.segments in
    let (m, room, loop) = l.invariant.2 n h in
    let stop : starts_segment (skip_blank l.rest.now) ≡ false = grind (arith, common_steps) in
    loop ∙ ap (found_then segment (map segment_view l.found.items)) (many_end _ _ _ _ m _ (omega arith) stop)

pub segments::segments-returns-in_err-one-clause-value : goal.segments::segments-returns-in_err-one-clause-value
segments::segments-returns-in_err-one-clause-value t c n h =
    let l = c.segments in
    let (m, room, loop) = l.invariant.2 n h in
    let start_is = c.skip_blank-start.ensures.rest in
    let go : starts_segment (skip_blank l.rest.now) ≡ true = grind (arith, common_steps) in
    let fits : length c.skip_blank-start.result.now ≤ n = omega (arith, l.invariant.1, c.skip_blank-start.ensures.within) in
    gives_err _ c.from_residual.result _ c.in_err-one.field-0.0 _ c.from_residual.ensures.1 (λ y p. p) λ refused.
    loop ∙ ap (found_then segment (map segment_view l.found.items)) (many_none _ _ _ _ m _ (omega arith) go (rw start_is at (c.in_err-one.ensures.value n fits refused)))

pub segments::segments-segments-preserved : goal.segments::segments-segments-preserved
segments::segments-segments-preserved t c =
    let l = c.segments in
    let start_is = c.skip_blank-start.ensures.rest in
    let within = c.skip_blank-start.ensures.within in
    let shorter = c.in_ok-one.ensures.shorter in
    let go : starts_segment (skip_blank l.rest.now) ≡ true = grind (arith, common_steps) in (
      search rules,
      omega (arith, l.invariant.1),
      λ n h.
          let (m, room, loop) = l.invariant.2 n h in
          let fits : length c.skip_blank-start.result.now ≤ n = omega (arith, l.invariant.1) in
          let one = rw start_is at (c.in_ok-one.ensures.value n fits) in
          (m - 1, omega arith, rw c.in_ok-push.ensures.items (loop ∙ ap (found_then segment (map segment_view l.found.items)) (many_next _ _ _ _ m _ _ _ (omega arith) go one) ∙ found_push segment_view segment l.found.items c.in_ok-one.one _)),
    )

pub segments::segments-segments-init : goal.segments::segments-segments-init
segments::segments-segments-init t c =
    (search rules, le_refl _, λ n h. (suc (length c.args.s.now), omega arith, rw c.new-found.ensures.items (all_segments _ _ _ ∙ sym (found_none segment _))))

pub selectors::selectors-selectors-init : goal.selectors::selectors-selectors-init
selectors::selectors-selectors-init t c =
    (search rules, le_refl _, λ n k h1 h2. (k, h2, rw c.new-found.ensures.items (sym (found_none selector _))))

pub selectors::selectors-returns-in_err-one-clause-value : goal.selectors::selectors-returns-in_err-one-clause-value
selectors::selectors-returns-in_err-one-clause-value t c n k h1 h2 =
    let l = c.selectors in
    let (m, room, loop) = l.invariant.2 n k h1 h2 in
    let fits : length l.rest.now ≤ n = omega (arith, l.invariant.1) in
    gives_err _ c.from_residual.result _ c.in_err-one.field-0.0 _ c.from_residual.ensures.1 (λ y p. p) λ refused.
    loop ∙ ap (found_then selector (map selector_view l.found.items)) (separated_none _ _ _ m _ (omega arith) (c.in_err-one.ensures.value n fits refused))

pub selectors::selectors-returns-then-first-ne44-clause-value : goal.selectors::selectors-returns-then-first-ne44-clause-value
selectors::selectors-returns-then-first-ne44-clause-value t c n k h1 h2 =
    let l = c.selectors in
    let (m, room, loop) = l.invariant.2 n k h1 h2 in
    let fits : length l.rest.now ≤ n = omega (arith, l.invariant.1) in
    let stop : (first (skip_blank c.in_ok-one.after.now) == 44) ≡ false = grind (arith, common_steps) in
    rw c.in_ok-push.ensures.items (loop ∙ ap (found_then selector (map selector_view l.found.items)) (separated_end _ _ _ m _ _ _ (omega arith) (c.in_ok-one.ensures.value n fits) stop) ∙ found_push selector_view selector l.found.items c.in_ok-one.one (Some (no_selectors, c.in_ok-one.after.now)))

pub selectors::selectors-selectors-preserved : goal.selectors::selectors-selectors-preserved
selectors::selectors-selectors-preserved t c =
    let l = c.selectors in
    let within = c.skip_blank-rest.ensures.within in
    let within_next = c.skip_blank-next.ensures.within in
    let shorter_skip = c.skip.ensures.shorter in
    let shorter = c.in_ok-one.ensures.shorter in
    let go : (first (skip_blank c.in_ok-one.after.now) == 44) ≡ true = grind (arith, common_steps) in (
      search rules,
      omega (arith, l.invariant.1),
      λ n k h1 h2.
          let (m, room, loop) = l.invariant.2 n k h1 h2 in
          let fits : length l.rest.now ≤ n = omega (arith, l.invariant.1) in
          (m - 1, omega arith, rw (c.skip_blank-rest.ensures.rest, c.skip.ensures.rest, c.skip_blank-next.ensures.rest, c.in_ok-push.ensures.items) (loop ∙ ap (found_then selector (map selector_view l.found.items)) (separated_next _ _ _ m _ _ _ (omega arith) (c.in_ok-one.ensures.value n fits) go) ∙ found_push selector_view selector l.found.items c.in_ok-one.one _)),
    )

pub calls::some_arguments-arguments-init : goal.calls::some_arguments-arguments-init
calls::some_arguments-arguments-init t c =
    (search rules, le_refl _, λ n k h1 h2. (k, h2, rw c.new-found.ensures.items (sym (found_none argument _))))

pub calls::some_arguments-returns-in_err-one-clause-value : goal.calls::some_arguments-returns-in_err-one-clause-value
calls::some_arguments-returns-in_err-one-clause-value t c n k h1 h2 =
    let l = c.arguments in
    let (m, room, loop) = l.invariant.2 n k h1 h2 in
    let fits : length l.rest.now ≤ n - 1 = omega (arith, l.invariant.1) in
    gives_err _ c.from_residual.result _ c.in_err-one.field-0.0 _ c.from_residual.ensures.1 (λ y p. p) λ refused.
    loop ∙ ap (found_then argument (map argument_view l.found.items)) (separated_none _ _ _ m _ (omega arith) (argument_turn _ n _ (omega arith) ∙ c.in_err-one.ensures.value (n - 1) fits refused))

pub calls::some_arguments-returns-then-first-ne44-clause-value : goal.calls::some_arguments-returns-then-first-ne44-clause-value
calls::some_arguments-returns-then-first-ne44-clause-value t c n k h1 h2 =
    let l = c.arguments in
    let (m, room, loop) = l.invariant.2 n k h1 h2 in
    let fits : length l.rest.now ≤ n - 1 = omega (arith, l.invariant.1) in
    let stop : (first (skip_blank c.in_ok-one.after.now) == 44) ≡ false = grind (arith, common_steps) in
    rw c.in_ok-push.ensures.items (loop ∙ ap (found_then argument (map argument_view l.found.items)) (separated_end _ _ _ m _ _ _ (omega arith) (argument_turn _ n _ (omega arith) ∙ c.in_ok-one.ensures.value (n - 1) fits) stop) ∙ found_push argument_view argument l.found.items c.in_ok-one.one (Some (no_arguments, c.in_ok-one.after.now)))

pub calls::some_arguments-arguments-preserved : goal.calls::some_arguments-arguments-preserved
calls::some_arguments-arguments-preserved t c =
    let l = c.arguments in
    let within = c.skip_blank-rest.ensures.within in
    let within_next = c.skip_blank-next.ensures.within in
    let shorter_skip = c.skip.ensures.shorter in
    let shorter = c.in_ok-one.ensures.shorter in
    let go : (first (skip_blank c.in_ok-one.after.now) == 44) ≡ true = grind (arith, common_steps) in (
      search rules,
      omega (arith, l.invariant.1),
      λ n k h1 h2.
          let (m, room, loop) = l.invariant.2 n k h1 h2 in
          let fits : length l.rest.now ≤ n - 1 = omega (arith, l.invariant.1) in
          (m - 1, omega arith, rw (c.skip_blank-rest.ensures.rest, c.skip.ensures.rest, c.skip_blank-next.ensures.rest, c.in_ok-push.ensures.items) (loop ∙ ap (found_then argument (map argument_view l.found.items)) (separated_next _ _ _ m _ _ _ (omega arith) (argument_turn _ n _ (omega arith) ∙ c.in_ok-one.ensures.value (n - 1) fits) go) ∙ found_push argument_view argument l.found.items c.in_ok-one.one _)),
    )

pub filters::ands-ands-init : goal.filters::ands-ands-init
filters::ands-ands-init t c =
    (search rules, le_refl _, λ n k h1 h2. (k, h2, rw (c.in_ok-push.ensures.items, c.new-found.ensures.items)))

pub filters::ands-returns-then-not-is_twice-clause-value : goal.filters::ands-returns-then-not-is_twice-clause-value
filters::ands-returns-then-not-is_twice-clause-value t c n k h1 h2 =
    let l = c.ands in
    let (m, room, loop) = l.invariant.2 n k h1 h2 in
    let stop : is_twice 38 (skip_blank l.rest.now) ≡ false = grind (arith, common_steps) in
    loop ∙ ap (found_then filter_then (map filter_view l.found.items)) (many_end _ _ _ _ m _ (omega arith) stop)

pub filters::ands-returns-in_err-one-clause-value : goal.filters::ands-returns-in_err-one-clause-value
filters::ands-returns-in_err-one-clause-value t c n k h1 h2 =
    let l = c.ands in
    let (m, room, loop) = l.invariant.2 n k h1 h2 in
    let go : is_twice 38 (skip_blank l.rest.now) ≡ true = grind (arith, common_steps) in
    let start_is : c.skip_blank.result.now ≡ skip_blank (drop 2 (skip_blank l.rest.now)) = rw (c.skip_blank.ensures.rest, c.skip.ensures.rest, c.skip_blank-next.ensures.rest) in
    let fits : length c.skip_blank.result.now ≤ n = omega (arith, l.invariant.1, c.skip_blank.ensures.within, c.skip.ensures.shorter, c.skip_blank-next.ensures.within) in
    gives_err _ c.from_residual-in_err-one.result _ c.in_err-one.field-0.0 _ c.from_residual-in_err-one.ensures.1 (λ y p. p) λ refused.
    loop ∙ ap (found_then filter_then (map filter_view l.found.items)) (many_none _ _ _ _ m _ (omega arith) go (operand_none (basic_at (number_reading c.args.numbers) (argument_at (number_reading c.args.numbers) n)) l.rest.now (rw start_is at (c.in_err-one.ensures.value n fits refused))))

pub filters::ands-returns-in_err-filter-clause-value : goal.filters::ands-returns-in_err-filter-clause-value
filters::ands-returns-in_err-filter-clause-value t c n k h1 h2 =
    let l = c.ands in
    let (m, room, loop) = l.invariant.2 n k h1 h2 in
    let go : is_twice 38 (skip_blank l.rest.now) ≡ true = grind (arith, common_steps) in
    let start_is : c.skip_blank.result.now ≡ skip_blank (drop 2 (skip_blank l.rest.now)) = rw (c.skip_blank.ensures.rest, c.skip.ensures.rest, c.skip_blank-next.ensures.rest) in
    let fits : length c.skip_blank.result.now ≤ n = omega (arith, l.invariant.1, c.skip_blank.ensures.within, c.skip.ensures.shorter, c.skip_blank-next.ensures.within) in
    let one = rw start_is at (c.in_ok-one.ensures.value n fits) in
    gives_err _ c.from_residual-in_err-filter.result _ c.in_err-filter.field-0.0 _ c.from_residual-in_err-filter.ensures.1 (λ y p. p) λ refused.
    loop ∙ ap (found_then filter_then (map filter_view l.found.items)) (many_none _ _ _ _ m _ (omega arith) go (operand_other (basic_at (number_reading c.args.numbers) (argument_at (number_reading c.args.numbers) n)) l.rest.now _ _ one (c.in_err-filter.ensures.value refused)))

pub filters::ands-ands-preserved : goal.filters::ands-ands-preserved
filters::ands-ands-preserved t c =
    let l = c.ands in
    let within = c.skip_blank.ensures.within in
    let within_next = c.skip_blank-next.ensures.within in
    let shorter_skip = c.skip.ensures.shorter in
    let shorter = c.in_ok-one.ensures.shorter in
    let go : is_twice 38 (skip_blank l.rest.now) ≡ true = grind (arith, common_steps) in
    let start_is : c.skip_blank.result.now ≡ skip_blank (drop 2 (skip_blank l.rest.now)) = rw (c.skip_blank.ensures.rest, c.skip.ensures.rest, c.skip_blank-next.ensures.rest) in (
      search rules,
      omega (arith, l.invariant.1),
      λ n k h1 h2.
          let (m, room, loop) = l.invariant.2 n k h1 h2 in
          let fits : length c.skip_blank.result.now ≤ n = omega (arith, l.invariant.1) in
          let one = rw start_is at (c.in_ok-one.ensures.value n fits) in
          (m - 1, omega arith, rw c.in_ok-push-2.ensures.items (loop ∙ ap (found_then filter_then (map filter_view l.found.items)) (many_next _ _ _ _ m _ _ _ (omega arith) go (operand_read (basic_at (number_reading c.args.numbers) (argument_at (number_reading c.args.numbers) n)) l.rest.now _ _ _ one c.in_ok-filter.ensures.value)) ∙ found_push filter_view filter_then l.found.items c.in_ok-filter.field-0 _)),
    )

pub filters::ors-ors-init : goal.filters::ors-ors-init
filters::ors-ors-init t c =
    (search rules, le_refl _, λ n k h1 h2. (k, h2, rw (c.in_ok-push.ensures.items, c.new-found.ensures.items)))

pub filters::ors-returns-then-not-is_twice-clause-value : goal.filters::ors-returns-then-not-is_twice-clause-value
filters::ors-returns-then-not-is_twice-clause-value t c n k h1 h2 =
    let l = c.ors in
    let (m, room, loop) = l.invariant.2 n k h1 h2 in
    let stop : is_twice 124 (skip_blank l.rest.now) ≡ false = grind (arith, common_steps) in
    loop ∙ ap (found_then filter_then (map filter_view l.found.items)) (many_end _ _ _ _ m _ (omega arith) stop)

pub filters::ors-returns-in_err-one-clause-value : goal.filters::ors-returns-in_err-one-clause-value
filters::ors-returns-in_err-one-clause-value t c n k h1 h2 =
    let l = c.ors in
    let (m, room, loop) = l.invariant.2 n k h1 h2 in
    let go : is_twice 124 (skip_blank l.rest.now) ≡ true = grind (arith, common_steps) in
    let start_is : c.skip_blank.result.now ≡ skip_blank (drop 2 (skip_blank l.rest.now)) = rw (c.skip_blank.ensures.rest, c.skip.ensures.rest, c.skip_blank-next.ensures.rest) in
    let fits : length c.skip_blank.result.now ≤ n = omega (arith, l.invariant.1, c.skip_blank.ensures.within, c.skip.ensures.shorter, c.skip_blank-next.ensures.within) in
    gives_err _ c.from_residual-in_err-one.result _ c.in_err-one.field-0.0 _ c.from_residual-in_err-one.ensures.1 (λ y p. p) λ refused.
    loop ∙ ap (found_then filter_then (map filter_view l.found.items)) (many_none _ _ _ _ m _ (omega arith) go (operand_none (conjunction_at (number_reading c.args.numbers) (argument_at (number_reading c.args.numbers) n)) l.rest.now (rw start_is at (c.in_err-one.ensures.value n fits refused))))

pub filters::ors-returns-in_err-filter-clause-value : goal.filters::ors-returns-in_err-filter-clause-value
filters::ors-returns-in_err-filter-clause-value t c n k h1 h2 =
    let l = c.ors in
    let (m, room, loop) = l.invariant.2 n k h1 h2 in
    let go : is_twice 124 (skip_blank l.rest.now) ≡ true = grind (arith, common_steps) in
    let start_is : c.skip_blank.result.now ≡ skip_blank (drop 2 (skip_blank l.rest.now)) = rw (c.skip_blank.ensures.rest, c.skip.ensures.rest, c.skip_blank-next.ensures.rest) in
    let fits : length c.skip_blank.result.now ≤ n = omega (arith, l.invariant.1, c.skip_blank.ensures.within, c.skip.ensures.shorter, c.skip_blank-next.ensures.within) in
    let one = rw start_is at (c.in_ok-one.ensures.value n fits) in
    gives_err _ c.from_residual-in_err-filter.result _ c.in_err-filter.field-0.0 _ c.from_residual-in_err-filter.ensures.1 (λ y p. p) λ refused.
    loop ∙ ap (found_then filter_then (map filter_view l.found.items)) (many_none _ _ _ _ m _ (omega arith) go (operand_other (conjunction_at (number_reading c.args.numbers) (argument_at (number_reading c.args.numbers) n)) l.rest.now _ _ one (c.in_err-filter.ensures.value refused)))

pub filters::ors-ors-preserved : goal.filters::ors-ors-preserved
filters::ors-ors-preserved t c =
    let l = c.ors in
    let within = c.skip_blank.ensures.within in
    let within_next = c.skip_blank-next.ensures.within in
    let shorter_skip = c.skip.ensures.shorter in
    let shorter = c.in_ok-one.ensures.shorter in
    let go : is_twice 124 (skip_blank l.rest.now) ≡ true = grind (arith, common_steps) in
    let start_is : c.skip_blank.result.now ≡ skip_blank (drop 2 (skip_blank l.rest.now)) = rw (c.skip_blank.ensures.rest, c.skip.ensures.rest, c.skip_blank-next.ensures.rest) in (
      search rules,
      omega (arith, l.invariant.1),
      λ n k h1 h2.
          let (m, room, loop) = l.invariant.2 n k h1 h2 in
          let fits : length c.skip_blank.result.now ≤ n = omega (arith, l.invariant.1) in
          let one = rw start_is at (c.in_ok-one.ensures.value n fits) in
          (m - 1, omega arith, rw c.in_ok-push-2.ensures.items (loop ∙ ap (found_then filter_then (map filter_view l.found.items)) (many_next _ _ _ _ m _ _ _ (omega arith) go (operand_read (conjunction_at (number_reading c.args.numbers) (argument_at (number_reading c.args.numbers) n)) l.rest.now _ _ _ one c.in_ok-filter.ensures.value)) ∙ found_push filter_view filter_then l.found.items c.in_ok-filter.field-0 _)),
    )
