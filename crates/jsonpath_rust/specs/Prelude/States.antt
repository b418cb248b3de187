-- The names of the evaluator of states and of `process`, for contracts and proofs. Nothing is declared here.
pub use Rattle.jsonpath_base.specs.declared.documents.state.data.Data.{Data}
pub use Rattle.jsonpath_base.specs.declared.documents.state.data.Data.TheVariants.{Nothing, Ref, Refs, Value}
pub use Rattle.jsonpath_base.specs.declared.documents.state.pointer.Pointer.{Pointer}
pub use Rattle.jsonpath_rust.specs.states.Asking.{AsksPatternAt, IsAsked, IsBelow, IsProcessStop, tops}
pub use Rattle.jsonpath_rust.specs.states.Process.{argument_content, arguments_trees, basic_content, call_content, content_trees, contents_compare, contents_equal, count_content, each_holds_at, has_target, holds_at, is_content_below, is_truth, joined_from, length_content, lists_same, lists_targets, optional, plain, segment_content, segments_content, selector_content, several_content, some_holds_at, test_content, test_truth, unless_none, value_content, values_same}
pub use Rattle.jsonpath_rust.specs.states.Processed.{processed, ProcessGivesTheNodelist}
pub use Rattle.jsonpath_base.specs.documents.State.{AreRefs, children_from, Content, content_of, contents_same, DataIsWhole, found_from, GivesWhole, has_parts, HasNothing, in_list, in_parts, indexed_from, inside, kept_from, Made, mapped, named_from, nothing, ok_refs, ok_value, only, parents_from, parents_in, pointers, PointersAreWhole, reduced, ref, refs, root_content, sliced_from, some, SomeHas, Target, target_of, targets, targets_of, targets_same, under, value}
pub use Rattle.jsonpath_rust.specs.states.inner.Evaluating.{content_at, document, HaltsAt, HaltsBelow, own_target, part_content, part_patterns, parts_from, target_at, targets_at}
pub use Rattle.jsonpath_base.specs.documents.inner.Completing.{Completes}
