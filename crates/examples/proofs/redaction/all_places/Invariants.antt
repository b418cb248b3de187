use Rattle.std.proofs.Common.{◌≡◌, map, take}
use Rattle.jsonpath_rust.specs.base.Steps.{location_view}
use Rattle.jsonpath_rust.specs.Document.{value_document}
use Rattle.examples.specs.Redaction.{all_selected}
use Rattle.examples.proofs.redaction.all_places.Given as goal

-- the places of the queries so far
abbrev pub invariant-loop-query : goal.invariant-loop-query
invariant-loop-query l = map (λ p. location_view p.items) l.places.items ≡ all_selected (take l.query-index l.rules) (value_document l.document.value)
