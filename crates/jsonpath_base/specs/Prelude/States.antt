-- The names of states, for contracts and proofs. Nothing is declared here.
pub use Rattle.jsonpath_base.specs.declared.documents.state.data.Data.{Data}
pub use Rattle.jsonpath_base.specs.declared.documents.state.data.Data.TheVariants.{Nothing, Ref, Refs, Value}
pub use Rattle.jsonpath_base.specs.declared.documents.state.pointer.Pointer.{Pointer}
pub use Rattle.jsonpath_base.specs.documents.State.{AreRefs, children_from, Content, content_of, contents_same, DataIsWhole, found_from, GivesWhole, has_parts, HasNothing, in_list, in_parts, indexed_from, inside, kept_from, Made, mapped, named_from, nothing, ok_refs, ok_value, only, parents_from, parents_in, pointers, PointersAreWhole, reduced, ref, refs, root_content, sliced_from, some, SomeHas, Target, target_of, targets, targets_of, targets_same, under, value}
pub use Rattle.jsonpath_base.specs.documents.inner.Completing.{Completes}
