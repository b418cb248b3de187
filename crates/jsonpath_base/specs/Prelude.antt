-- The names that contracts and proofs import, for one import a file. Nothing is declared here.
pub mod Documents
pub mod States
pub use Rattle.fast_float.specs.Text.{scan}
pub use Rattle.jsonpath_base.specs.Added.{added, AddedIndexMovesLater, AddedIsThere, AddedLeavesTheRest, AddedNameLeavesSiblings, takes, takes_at, with_new, with_new_element, with_new_member}
pub use Rattle.jsonpath_base.specs.declared.location_trie.LocationTrie.{LocationTrie, the_lemmas}
pub use Rattle.jsonpath_base.specs.declared.location_trie.LocationTrie.TheViews.{out-LocationTrie}
pub use Rattle.jsonpath_base.specs.declared.step.Step.TheVariants.{Index, Name}
pub use Rattle.jsonpath_base.specs.declared.step.StepRef.{StepRef}
pub use Rattle.jsonpath_base.specs.ConstantPrefix.{constant_prefix}
pub use Rattle.jsonpath_base.specs.inner.Adding.{Adds}
pub use Rattle.jsonpath_base.specs.inner.Lent.{has_index, index_in, is_entry, LendsMember, name_in, next, rest}
pub use Rattle.jsonpath_base.specs.inner.LocationTries.{AddsIn, EndsWith, in_order, is_key, IsJoined, IsSameSet, level_in_order, LevelEnds, listed, listed_in, marked, marked_below, marked_by, marked_in, marks_count, marks_total, set_with, TestsSteps, to_member, total}
pub use Rattle.jsonpath_base.specs.inner.Masking.{AreAll, data_below, data_overwritten, items_overwritten, members_overwritten, outermost_count, outermost_total}
pub use Rattle.jsonpath_parser.specs.inner.Picked.{picked_of}
pub use Rattle.jsonpath_base.specs.inner.Pointing.{GoesDown, tilde_escaped}
pub use Rattle.jsonpath_base.specs.inner.Thinning.{data_thinned, items_thinned, members_thinned, sieved, thinned_below}
pub use Rattle.jsonpath_base.specs.inner.CurrentPath.{IsSpelled}
pub use Rattle.jsonpath_base.specs.Overwritten.{elements_overwritten, overwritten, overwritten_below, OverwrittenAtOneIsPut, OverwrittenForgets, OverwrittenIsSeen, OverwrittenLeavesTheRest}
pub use Rattle.jsonpath_base.specs.Pattern.{IsPatternBuildError}
pub use Rattle.jsonpath_base.specs.Places.{at, child, item_at}
pub use Rattle.jsonpath_base.specs.Pointer.{escaped, led, location_in, pointer, PointerFindsItsPlace, PointerLeadsAsFound, PointerLeadsToWhatIs, PointerReadsBack, step_in, tokens, tokens_from}
pub use Rattle.jsonpath_base.specs.Put.{put, PutIsSeenAbove, PutIsThere, PutLeavesTheRest, PutNowhere, with_child, with_element, with_member}
pub use Rattle.jsonpath_base.specs.Remaining.{RemovedMemberIsGone, StayingKeepsIndexes, WithoutIsSeen, WithoutLeavesTheRest, WithoutNowhere}
pub use Rattle.jsonpath_base.specs.Same.{has_name, same, same_members, same_trees, SameIsAnEquivalence}
pub use Rattle.jsonpath_base.specs.SetFunctions.{is_in}
pub use Rattle.jsonpath_parser.specs.Slice.{clamped, normalized, slice_by}
unfoldable pub use Rattle.jsonpath_parser.specs.Slice.{slice_of}
unfoldable pub use Rattle.jsonpath_parser.specs.SliceSteps.{places_left}
pub use Rattle.jsonpath_base.specs.Steps.{lent_location, lent_step, location_view, owned_step}
pub use Rattle.jsonpath_parser.specs.Texts.{is_less}
pub use Rattle.jsonpath_base.specs.Tree.{are_distinct, as_list, elements, find, has_distinct_names, list, member, Members, members_distinct, no_members, no_trees, null, number, object, pairs, text, Tree, tree, Trees, trees_distinct, truth}
pub use Rattle.jsonpath_base.specs.Values.{has_whole_numbers, items_whole, members_of, members_whole, tree_of, tree_of_number, trees_of, value_is_whole, value_tree}
pub use Rattle.jsonpath_base.specs.Without.{AmongIsListed, counted_with, distinct_count, elements_thinned, HasAlso, is_among, is_location, is_same_step, thinned, without}
pub use Rattle.jsonpath_parser.specs.Location.{Begins, index, Location, name, Step}
pub use Rattle.jsonpath_parser.specs.Normal.{index_digits, step_text}
pub use Rattle.jsonpath_parser.specs.tree.View.{segment_view, segments_of}
pub use Rattle.regex.specs.Patterns.{Re}
pub use Rattle.serde_json.specs.Data.{array, boolean, Data, item, Items, no_items, string}
pub use Rattle.serde_json.specs.declared.value.Value.{Array, Object, Value}
pub use Rattle.serde_json.specs.Find.{as_array, as_i64, as_object}
unfoldable pub use Rattle.serde_json.specs.Find.{index_of, unescape}
pub use Rattle.serde_json.specs.View.{items_view, members_view, view}
pub use Rattle.std.specs.Borrow.{sem}
pub use Rattle.std.specs.BTreeMap.{insert_entry, is_at, IsOrdered}
pub use Rattle.std.specs.Cmp.Lexicographic.{slice_cmp}
pub use Rattle.std.specs.declared.alloc.AllocError.{AllocError}
pub use Rattle.std.specs.Int.RustNames.{unsigned_abs}
pub use Rattle.std.specs.List.{AllByRecursion, list_all, list_any}
unfoldable pub use Rattle.std.specs.List.Sorted.{IsStrictlySortedBy}
pub use Rattle.std.specs.Map.{keys_of, lookup, remove_entry, set_value}
pub use Rattle.std.specs.Ordering.{is_eq, is_lt, match_ordering, nat_cmp, ordering_reverse}
pub use Rattle.std.specs.Result.{result_ok}
pub use Rattle.std.specs.Slice.Iter.{iter_rest}
pub use Rattle.std.specs.Str.{bytes_eq, IsUtf8}
unfoldable pub use Rattle.std.specs.Str.{chars}
pub use Rattle.std.specs.String.Boundary.{IsSplitPoint}
pub use Rattle.std.specs.Vec.{with_item}
