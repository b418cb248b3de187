-- How the segments of a singular query are followed, for the contracts of `reference` alone: the definitions here are no part of what a query
-- means.
use Rattle.std.specs.Prelude.{ℤ, [], ◌∷◌, ◌++◌, length, Option, Some, None, option_map, option_and_then}
use Rattle.jsonpath_parser.specs.Location.{Step, name, index, Location}
use Rattle.jsonpath_parser.specs.tree.Syntax as syntax
use Rattle.jsonpath_parser.specs.tree.Syntax.{Selector, Segment, one, Segments, no_segments, segment}
use Rattle.jsonpath_base.specs.Places.{child}
use Rattle.jsonpath_base.specs.Steps.{owned_step, location_view}
use Rattle.jsonpath_base.specs.Tree.{Tree, as_list}
use Rattle.jsonpath_base.specs.Values.{value_tree}
use Rattle.jsonpath_base.specs.documents.Meaning.{element_of}
use Rattle.jsonpath_base.specs.declared.documents.reference.Reached.{Reached}
use Rattle.jsonpath_base.specs.declared.documents.reference.Referent.{Referent}

-- the step to a child, and the child, if there is one
abbrev pub step_to : Step → Tree → Option (Step × Tree)
step_to s t = option_map (λ u. (s, u)) (child s t)

abbrev pub element_step : ℤ → Tree → Option (Step × Tree)
element_step i t = option_and_then (λ k. step_to (index k) t) (option_and_then (λ ts. element_of i (length ts)) (as_list t))

abbrev pub selector_child : Selector → Tree → Option (Step × Tree)
selector_child (syntax.Selector.name k) t = step_to (name k) t
selector_child (syntax.Selector.index i) t = element_step i t
selector_child _ t = None

abbrev pub segment_child : Segment → Tree → Option (Step × Tree)
segment_child (one s) t = selector_child s t
segment_child _ t = None

-- where the segments lead from a location and the tree there
abbrev pub followed : Segments → Location → Tree → Option (Location × Tree)
followed no_segments l t = Some (l, t)
followed (segment g gs) l t = option_and_then (λ p. followed gs (l ++ p.0 ∷ []) p.1) (segment_child g t)

-- what the code returns, as a step and a tree
abbrev pub reached_view : Reached → Step × Tree
reached_view c = (owned_step c.step, value_tree c.value.now)

abbrev pub referent_view : Referent → Location × Tree
referent_view p = (location_view p.steps.items, value_tree p.value.now)
