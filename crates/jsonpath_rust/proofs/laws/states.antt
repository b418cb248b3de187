pub mod Asking
pub mod Basic
pub mod Found
pub mod Lies
pub mod OperationEffort
pub mod ProcessedLaws
pub mod Steps
pub mod Finding
pub mod Contents
pub mod Parents
pub mod Meant
pub mod Agreeing
-- what other rooms and proofs of functions cite
pub use Rattle.jsonpath_rust.proofs.laws.states.Agreeing.{process_gives_the_nodelist, typed-nodes, typed-values}
pub use Rattle.jsonpath_rust.proofs.laws.states.Found.{are_trees-list, kept-parts, parents-some, part_size, targets-trees}
pub use Rattle.jsonpath_rust.proofs.laws.states.Lies.{Stays, stays-itself}
pub use Rattle.jsonpath_rust.proofs.laws.states.ProcessedLaws.{moved_all, moved_one, shown-targets, values-targets}
pub use Rattle.jsonpath_rust.proofs.laws.states.Steps.{steps_as}
