pub use Rattle.jsonpath_base.specs.documents.State
pub mod Process
pub mod Asking
pub mod Processed
pub mod inner
