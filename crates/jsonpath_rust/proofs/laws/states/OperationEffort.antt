-- How much work a part of a path is.
use Rattle.std.specs.Prelude.{◌+◌, ℕ}
use Rattle.jsonpath_base.specs.Prelude.Documents.{filter_effort, filter_view, selectors_effort, selectors_in}
use Rattle.jsonpath_rust.specs.declared.states.evaluate.segments.NodeOperation.{NodeOperation}
use Rattle.jsonpath_rust.specs.declared.states.evaluate.segments.NodeOperation.TheVariants.{Name, Wildcard, Index, Slice, Parents, Kept, Joined}

abbrev pub operation_effort : NodeOperation → ℕ
operation_effort (Name s) = 1
operation_effort Wildcard = 1
operation_effort (Index i) = 1
operation_effort (Slice start end step) = 1
operation_effort Parents = 1
operation_effort (Kept f) = filter_effort 0 (filter_view f.now) + 1
operation_effort (Joined ss) = selectors_effort 0 (selectors_in ss.now) + 1
