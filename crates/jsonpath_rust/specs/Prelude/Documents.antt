-- The names of whole values inside the evaluators, and of the types of jsonpath_base, for contracts and proofs. Nothing is declared here.
pub use Rattle.jsonpath_rust.specs.declared.documents.whole.WholeRef.{WholeRef}
pub use Rattle.jsonpath_rust.specs.documents.inner.FilterValues.{arg_trees, filter_value_tree, scalar_tree, filter_ref_tree}
pub use Rattle.jsonpath_rust.specs.documents.Whole.{document_at, own_tree, tree_of}
pub use Rattle.jsonpath_base.specs.declared.removal.LocationSet.{LocationSet}
pub use Rattle.jsonpath_base.specs.declared.step.StepRef.{StepRef}
pub use Rattle.jsonpath_base.specs.declared.step.StepRef.TheVariants.{Index, Name}
pub use Rattle.jsonpath_base.specs.declared.documents.walk_error.WalkError.{WalkError}
pub use Rattle.jsonpath_base.specs.declared.documents.walk_error.WalkError.TheVariants.{Memory, Pattern, Spent}
pub use Rattle.jsonpath_base.specs.declared.documents.queryable.Queryable.{Ghosts}
