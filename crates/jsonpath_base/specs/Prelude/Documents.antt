-- The names of the crates below and of documents, for contracts and proofs. Nothing is declared here.
pub use Rattle.std.specs.Bool.{beq}
pub use Rattle.std.specs.Borrow.{Bor, sem}
pub use Rattle.std.specs.Cmp.Lexicographic.{pointwise, slice_cmp}
pub use Rattle.std.specs.List.{AllByRecursion, AllZip, Contains, flat_map, list_all, list_any, slice_get}
pub use Rattle.std.specs.Option.{option_eq, option_map_or}
pub use Rattle.std.specs.Result.{IsErrAnd}
pub use Rattle.std.specs.Str.{bytes_eq, IsCharBoundary}
pub use Rattle.std.specs.Vec.Iter.{into_iter_items, into_iter_len}
pub use Rattle.serde_json.specs.View.{items_view, members_view, view}
pub use Rattle.serde_json.specs.declared.value.Value.{Array, Value}
pub use Rattle.jsonpath_parser.specs.Derives.{Derives, IsRefusal}
pub use Rattle.jsonpath_parser.specs.Location.{Begins, index, Location, name, Step}
pub use Rattle.jsonpath_parser.specs.Normal.{IsNormal, normal, step_text, steps_text}
pub use Rattle.jsonpath_parser.specs.declared.errors.JsonPathError.{JsonPathError}
pub use Rattle.jsonpath_parser.specs.declared.errors.JsonPathError.TheVariants.{OutOfMemory}
pub use Rattle.jsonpath_parser.specs.declared.tree.model.SingularQuerySegment.{SingularQuerySegment}
pub use Rattle.jsonpath_parser.specs.declared.tree.model.operator.Operator.{Operator}
pub use Rattle.jsonpath_parser.specs.tree.Making.{is_truth_call}
pub use Rattle.jsonpath_parser.specs.tree.Shown.{query_shown}
pub use Rattle.jsonpath_parser.specs.tree.Steps.{HasIndexesInRange, step_segment, steps_query}
pub use Rattle.jsonpath_parser.specs.tree.Syntax.{absolute, and, Argument, argument, Arguments, Call, call, compare, count_call, custom_call, descendant, equal, Filter, filter, filter_argument, filter_then, Filters, greater, greater_or_equal, group, length_call, less, less_or_equal, literal_argument, match_call, no_arguments, no_filters, no_segments, no_selectors, not_equal, one, or, Query, relative, search_call, Segment, segment, Segments, Selector, selector, Selectors, several, slice, Test, test, test_argument, value_call, wildcard}
pub use Rattle.jsonpath_parser.specs.tree.Typing.{are_typed_arguments, are_typed_filters, are_typed_selectors, gives_value, is_query_argument, is_singular, is_step, is_truth_test, is_typed, is_typed_argument, is_typed_call, is_typed_filter, is_typed_segment, is_typed_selector, is_typed_side, is_typed_test, is_value_argument, is_value_test, takes}
pub use Rattle.jsonpath_parser.specs.tree.View.{argument_view, arguments_of, atom_view, call_view, comparable_view, comparison_view, filter_view, filters_of, literal_view, operator_view, query_view, segment_view, segments_of, selector_view, selectors_of, singular_view, step_view, test_view}
pub use Rattle.jsonpath_base.specs.ConstantPrefix.{constant_prefix, fixed_step}
pub use Rattle.jsonpath_base.specs.Overwritten.{overwritten}
pub use Rattle.jsonpath_base.specs.Pattern.{is_entire, IsInvalid}
pub use Rattle.jsonpath_base.specs.Places.{at, child, item_at}
pub use Rattle.jsonpath_base.specs.Put.{put}
pub use Rattle.jsonpath_base.specs.LocationSetViews.{LastBegins, location_count, location_set}
pub use Rattle.jsonpath_base.specs.Same.{same}
pub use Rattle.jsonpath_parser.specs.Slice.{slice_of}
pub use Rattle.jsonpath_parser.specs.SliceSteps.{places_left}
pub use Rattle.jsonpath_base.specs.Steps.{lent_location, lent_step, location_view, owned_step}
pub use Rattle.jsonpath_base.specs.Tree.{are_distinct, as_bool, as_int, as_list, as_members, as_text, elements, find, get, has_distinct_names, list, member, Members, members_distinct, no_members, no_trees, null, number, object, pairs, text, Tree, tree, Trees, trees_distinct, truth}
pub use Rattle.jsonpath_base.specs.Values.{has_whole_numbers, items_whole, members_of, tree_of_number, trees_of, value_is_whole, value_tree}
pub use Rattle.jsonpath_base.specs.Without.{also, counted_with, distinct_count, is_among, without}
pub use Rattle.jsonpath_base.specs.declared.removal.LocationSet.{LocationSet}
pub use Rattle.jsonpath_base.specs.declared.step.StepRef.{StepRef}
pub use Rattle.jsonpath_base.specs.declared.step.StepRef.TheVariants.{Index, Name}
pub use Rattle.jsonpath_base.specs.declared.documents.walk_error.WalkError.{WalkError}
pub use Rattle.jsonpath_base.specs.declared.documents.walk_error.WalkError.TheVariants.{Memory, Pattern, Spent}
pub use Rattle.jsonpath_base.specs.declared.documents.queryable.Queryable.{Ghosts}
pub use Rattle.jsonpath_base.specs.documents.Answer.{AreLocations, AreNodes, ArePaths, AreValues, AsManyAreListed, IsNodeAt, IsNodeThere, IsPathAt, IsPathThere, IsValueAt, IsValueThere, node_there, paths_of, shown}
pub use Rattle.jsonpath_base.specs.documents.Comparing.{are_equal, compares, is_below}
pub use Rattle.jsonpath_base.specs.documents.Confining.{AgreeAt, LocalIsConfined, SelectedBeginsWithFixedPart, SingularSelectsOneAtMost}
pub use Rattle.jsonpath_base.specs.documents.Document.{Document, document_of, value_document}
pub use Rattle.jsonpath_base.specs.documents.Functions.{as_nodes, as_trees, as_truth, as_value, count_of, count_value, Evaluated, greatest_count, is_matched, is_true, length_of, of_nodes, of_value, only_value}
pub use Rattle.jsonpath_base.specs.documents.Lending.{LendsReferred, lent_in}
pub use Rattle.jsonpath_base.specs.documents.Locating.{IsLocationByPath, IsLocationOf, NormalizedPathDerivesItsSteps, SelectedIsThere, StepsSelectTheirLocation}
pub use Rattle.jsonpath_base.specs.documents.Masking.{AgreeBut, all_selected, are_no_filters, ends_in, has_no_filter, is_no_filter, MaskingAllTellsNothing, MaskingTellsNothing, named_anywhere, NamedBelow, NamedIsMasked, segment_has_no_filter}
pub use Rattle.jsonpath_base.specs.documents.Meaning.{all_applied, all_pick, all_trees, answer, argued, each_holds, element, element_of, holds, indexed, literal_tree, named, negated, nodelist, picks, replaced, selected, sliced, some_holds, tested}
pub use Rattle.jsonpath_base.specs.documents.Node.{below, children, children_at, element_nodes, has_node, member_nodes, member_subtrees, Node, root_node, subtree, subtree_at, subtrees_at}
pub use Rattle.jsonpath_base.specs.documents.Patterns.{argument_patterns, arguments_patterns, AsksPattern, call_patterns, filter_patterns, filters_patterns, IsPattern, IsQueryRefusal, IsStop, segment_patterns, segments_patterns, selector_patterns, selectors_patterns, test_patterns}
pub use Rattle.jsonpath_base.specs.documents.Referring.{IsPut, IsReference, IsReferred, IsReplaced, put_there, Refers, tree_there}
pub use Rattle.jsonpath_base.specs.documents.inner.Effort.{argument_effort, arguments_effort, call_effort, filter_effort, filters_effort, segment_effort, segments_effort, selector_effort, selectors_effort, test_effort}
pub use Rattle.jsonpath_base.specs.documents.inner.Following.{reached_view, element_step, followed, referent_view, segment_child, step_to}
pub use Rattle.jsonpath_base.specs.documents.inner.Parts.{arguments_in, filters_in, segments_in, selectors_in}
pub use Rattle.jsonpath_base.specs.documents.inner.Refusing.{MemoryAlone}
pub use Rattle.jsonpath_base.specs.documents.inner.Singular.{stepped, value_at, value_of}
pub use Rattle.jsonpath_base.specs.documents.inner.Size.{members_size, size, trees_size}
pub use Rattle.jsonpath_base.specs.documents.inner.Sought.{answer_of, LendsThere, place_in}
