-- Lists of the code's parts of a query, without their places in memory, for the contracts of what iterates over them alone.
use Rattle.std.specs.Prelude.{List, map}
use Rattle.jsonpath_parser.specs.tree.Syntax as syntax
use Rattle.jsonpath_parser.specs.tree.Syntax.{Segments}
use Rattle.jsonpath_parser.specs.tree.View.{segment_view, segments_of, selector_view, selectors_of, filter_view, filters_of, argument_view, arguments_of}
use Rattle.jsonpath_parser.specs.declared.tree.model.Segment.{Segment}
use Rattle.jsonpath_parser.specs.declared.tree.model.Selector.{Selector}
use Rattle.jsonpath_parser.specs.declared.tree.model.Filter.{Filter}
use Rattle.jsonpath_parser.specs.declared.tree.model.FnArg.{FnArg}

abbrev pub segments_in : List Segment → Segments
segments_in gs = segments_of (map segment_view gs)

abbrev pub selectors_in : List Selector → syntax.Selectors
selectors_in ss = selectors_of (map selector_view ss)

abbrev pub filters_in : List Filter → syntax.Filters
filters_in fs = filters_of (map filter_view fs)

abbrev pub arguments_in : List FnArg → syntax.Arguments
arguments_in args = arguments_of (map argument_view args)
