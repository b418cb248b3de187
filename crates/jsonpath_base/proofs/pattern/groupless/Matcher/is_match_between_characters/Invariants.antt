use Rattle.std.proofs.Common.{◌≡◌, ◌-◌, ◌≤◌, length}
use Rattle.regex.specs.Patterns.{find_str}
use Rattle.jsonpath_base.specs.inner.PatternParts.{matcher_pattern}
use Rattle.jsonpath_base.proofs.pattern.groupless.Matcher.is_match_between_characters.Given as goal

abbrev pub invariant-places : goal.invariant-places
invariant-places l =
    let re = matcher_pattern l.fn.self in
    (l.at ≤ length l.text) × (find_str re l.text 0 ≡ find_str re l.text l.at) × (matcher_pattern l.self ≡ re) × (l.bytes ≡ l.text)

abbrev pub decreases-places : goal.decreases-places
decreases-places l = length l.text - l.at
