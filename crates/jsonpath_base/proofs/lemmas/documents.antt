pub mod Arguments
pub mod Confining
pub mod Following
pub mod LendingLaws
pub mod Locating
pub mod Made
pub mod MaskedNodes
pub mod Maps
pub mod Masking
pub mod MemberCounts
pub mod NamedBelow
pub mod NodesAt
pub mod NormalSteps
pub mod Parts
pub mod Singular
pub mod Trees
-- what other rooms and proofs of functions cite
pub use Rattle.jsonpath_base.proofs.lemmas.documents.Confining.{local_is_confined, selected_begins_with_fixed_part, singular_selects_one_at_most}
pub use Rattle.jsonpath_base.proofs.lemmas.documents.Following.{element_none, element_some, means_referent, member_none, member_some, stands_there}
pub use Rattle.jsonpath_base.proofs.lemmas.documents.LendingLaws.{Answer, answer_laws, Lent, lent_laws, lent_same, Means, no_place, referred_there, refused_so, tie_told, whole_there}
pub use Rattle.jsonpath_base.proofs.lemmas.documents.Locating.{no_location, normalized_path_derives_its_steps, only_location, own_location, selected_is_there, steps_select_their_location, whole_location}
pub use Rattle.jsonpath_base.proofs.lemmas.documents.Masking.{masking_all_tells_nothing, masking_tells_nothing}
pub use Rattle.jsonpath_base.proofs.lemmas.documents.NamedBelow.{named_below, named_is_masked}
pub use Rattle.jsonpath_base.proofs.lemmas.documents.NodesAt.{at-append, at-below, each-append, each-filter, each-flat_map, each_at, member_there, nodes_at, IsPositioned, stands-indexed, stands-picks, stands-subtree}
pub use Rattle.jsonpath_base.proofs.lemmas.documents.NormalSteps.{normal_answered, normal_put, normal_reference, selected-steps}
pub use Rattle.jsonpath_base.proofs.lemmas.documents.Parts.{all_more, contains_part, differs, each_failed, each_next, err_so, filter_more, fold_next, get_or-self, joined_end, joined_next, kept_false, kept_true, ok_through, pairs_apart, part_of, parts_end, passed_on, some_found, some_next}
pub use Rattle.jsonpath_base.proofs.lemmas.documents.Singular.{relative_value, singular_trees}
pub use Rattle.jsonpath_base.proofs.lemmas.documents.Trees.{all_at, child_there, children_at-none, element_at, element_size, indexed_some, member_size, named_none, pair_size, sizes_at, sliced-list, stepped-found, subtree-children, total}
pub use Rattle.jsonpath_base.proofs.lemmas.documents.Maps.{completes_end, completes_step, made_whole}
