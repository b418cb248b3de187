use Rattle.std.proofs.Common.{◌≡◌, ℕ, ◌+◌, ◌*◌, ◌<◌, ◌≤◌, [], ◌∷◌, map, length}
use denote.Text.{Utf8}
use denote.Shadow.{shadow}
use Rattle.jsonpath_parser.specs.Prelude.{all_segments_at, ands_at, argument, argument_at, argument_view, arguments_at, filter_then, filter_view, found_then, number_reading, ors_at, segment, segment_view, segments_at, selector, selector_view, selectors_at}
use Rattle.jsonpath_parser.proofs.grammar.+reading.Given as goal

abbrev pub decreases-calls::arguments : goal.decreases-calls::arguments
decreases-calls::arguments l = 16 * length l.s.now + 10

abbrev pub decreases-calls::called : goal.decreases-calls::called
decreases-calls::called l = 16 * length l.s.now + 11

abbrev pub decreases-calls::some_arguments : goal.decreases-calls::some_arguments
decreases-calls::some_arguments l = 16 * length l.s.now + 9

abbrev pub decreases-filters::ands : goal.decreases-filters::ands
decreases-filters::ands l = 16 * length l.s.now + 1

abbrev pub decreases-filters::argument : goal.decreases-filters::argument
decreases-filters::argument l = 16 * length l.s.now + 7

abbrev pub decreases-filters::basic : goal.decreases-filters::basic
decreases-filters::basic l = 16 * length l.s.now + 5

abbrev pub decreases-filters::compared : goal.decreases-filters::compared
decreases-filters::compared l = 16 * length l.s.now + 3

abbrev pub decreases-filters::conjunction : goal.decreases-filters::conjunction
decreases-filters::conjunction l = 16 * length l.s.now + 6

abbrev pub decreases-filters::group : goal.decreases-filters::group
decreases-filters::group l = 16 * length l.s.now + 3

abbrev pub decreases-filters::logical : goal.decreases-filters::logical
decreases-filters::logical l = 16 * length l.s.now + 8

abbrev pub decreases-filters::negated : goal.decreases-filters::negated
decreases-filters::negated l = 16 * length l.s.now + 4

abbrev pub decreases-filters::ors : goal.decreases-filters::ors
decreases-filters::ors l = 16 * length l.s.now + 1

abbrev pub decreases-filters::plain : goal.decreases-filters::plain
decreases-filters::plain l = 16 * length l.s.now + 3

abbrev pub decreases-operands::operand : goal.decreases-operands::operand
decreases-operands::operand l = 16 * length l.s.now + 2

abbrev pub decreases-operands::word_operand : goal.decreases-operands::word_operand
decreases-operands::word_operand l = 16 * length l.s.now + 1

abbrev pub decreases-segments::descendant : goal.decreases-segments::descendant
decreases-segments::descendant l = 16 * length l.s.now + 4

abbrev pub decreases-segments::segment : goal.decreases-segments::segment
decreases-segments::segment l = 16 * length l.s.now + 5

abbrev pub decreases-segments::segments : goal.decreases-segments::segments
decreases-segments::segments l = 16 * length l.s.now + 6

abbrev pub decreases-selectors::selection : goal.decreases-selectors::selection
decreases-selectors::selection l = 16 * length l.s.now + 3

abbrev pub decreases-selectors::selector : goal.decreases-selectors::selector
decreases-selectors::selector l = 16 * length l.s.now + 1

abbrev pub decreases-selectors::selectors : goal.decreases-selectors::selectors
decreases-selectors::selectors l = 16 * length l.s.now + 2

abbrev pub invariant-calls::some_arguments-arguments : goal.invariant-calls::some_arguments-arguments
invariant-calls::some_arguments-arguments l =
    shadow (Utf8 l.rest) × (length l.rest ≤ length l.fn.s)
    × ((n k : ℕ) → length l.fn.s < n → length l.fn.s < k → (m : ℕ) × (length l.rest < m)
    × (arguments_at (number_reading l.fn.numbers) (argument_at (number_reading l.fn.numbers) n) k l.fn.s ≡ found_then argument (map argument_view l.found.items) (arguments_at (number_reading l.fn.numbers) (argument_at (number_reading l.fn.numbers) n) m l.rest)))

abbrev pub decreases-calls::some_arguments-arguments : goal.decreases-calls::some_arguments-arguments
decreases-calls::some_arguments-arguments l = length l.rest

abbrev pub invariant-filters::ands-ands : goal.invariant-filters::ands-ands
invariant-filters::ands-ands l =
    shadow (Utf8 l.rest) × (length l.rest ≤ length l.fn.s)
    × ((n k : ℕ) → length l.fn.s ≤ n → length l.fn.s < k → (m : ℕ) × (length l.rest < m)
    × (found_then filter_then (filter_view l.fn.first_part ∷ []) (ands_at (number_reading l.fn.numbers) (argument_at (number_reading l.fn.numbers) n) k l.fn.s) ≡ found_then filter_then (map filter_view l.found.items) (ands_at (number_reading l.fn.numbers) (argument_at (number_reading l.fn.numbers) n) m l.rest)))

abbrev pub decreases-filters::ands-ands : goal.decreases-filters::ands-ands
decreases-filters::ands-ands l = length l.rest

abbrev pub invariant-filters::ors-ors : goal.invariant-filters::ors-ors
invariant-filters::ors-ors l =
    shadow (Utf8 l.rest) × (length l.rest ≤ length l.fn.s)
    × ((n k : ℕ) → length l.fn.s ≤ n → length l.fn.s < k → (m : ℕ) × (length l.rest < m)
    × (found_then filter_then (filter_view l.fn.first_part ∷ []) (ors_at (number_reading l.fn.numbers) (argument_at (number_reading l.fn.numbers) n) k l.fn.s) ≡ found_then filter_then (map filter_view l.found.items) (ors_at (number_reading l.fn.numbers) (argument_at (number_reading l.fn.numbers) n) m l.rest)))

abbrev pub decreases-filters::ors-ors : goal.decreases-filters::ors-ors
decreases-filters::ors-ors l = length l.rest

abbrev pub invariant-segments::segments-segments : goal.invariant-segments::segments-segments
invariant-segments::segments-segments l =
    shadow (Utf8 l.rest) × (length l.rest ≤ length l.fn.s)
    × ((n : ℕ) → length l.fn.s ≤ n → (m : ℕ) × (length l.rest < m)
    × (all_segments_at (number_reading l.fn.numbers) (argument_at (number_reading l.fn.numbers) n) l.fn.s ≡ found_then segment (map segment_view l.found.items) (segments_at (number_reading l.fn.numbers) (argument_at (number_reading l.fn.numbers) n) m l.rest)))

abbrev pub decreases-segments::segments-segments : goal.decreases-segments::segments-segments
decreases-segments::segments-segments l = length l.rest

abbrev pub invariant-selectors::selectors-selectors : goal.invariant-selectors::selectors-selectors
invariant-selectors::selectors-selectors l =
    shadow (Utf8 l.rest) × (length l.rest ≤ length l.fn.s)
    × ((n k : ℕ) → length l.fn.s ≤ n → length l.fn.s < k → (m : ℕ) × (length l.rest < m)
    × (selectors_at (number_reading l.fn.numbers) (argument_at (number_reading l.fn.numbers) n) k l.fn.s ≡ found_then selector (map selector_view l.found.items) (selectors_at (number_reading l.fn.numbers) (argument_at (number_reading l.fn.numbers) n) m l.rest)))

abbrev pub decreases-selectors::selectors-selectors : goal.decreases-selectors::selectors-selectors
decreases-selectors::selectors-selectors l = length l.rest
