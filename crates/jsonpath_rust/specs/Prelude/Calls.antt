-- The names of the calls, for contracts and proofs. Nothing is declared here.
pub use Rattle.jsonpath_rust.specs.Calls.{ByText, OfText, Runs}
pub use Rattle.jsonpath_rust.specs.Deleting.{count_at, Deletes, Deletion, DeletionAt, IsDeletion, IsDeletionAt, NothingSelectedDeletesNothing}
pub use Rattle.jsonpath_rust.specs.Replacing.{IsReplacement, IsReplacementAt, Replacement, ReplacementAt}
