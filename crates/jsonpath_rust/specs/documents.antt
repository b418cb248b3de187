-- What a document is and what a query means for it, as defined in jsonpath_base.
pub mod Whole
pub mod inner
pub use Rattle.jsonpath_base.specs.documents.Document
pub use Rattle.jsonpath_base.specs.documents.Node
pub use Rattle.jsonpath_base.specs.documents.Comparing
pub use Rattle.jsonpath_base.specs.documents.Functions
pub use Rattle.jsonpath_base.specs.documents.Meaning
pub use Rattle.jsonpath_base.specs.documents.Answer
pub use Rattle.jsonpath_base.specs.documents.Args
pub use Rattle.jsonpath_base.specs.documents.Patterns
pub use Rattle.jsonpath_base.specs.documents.Referring
pub use Rattle.jsonpath_base.specs.documents.Lending
pub use Rattle.jsonpath_base.specs.documents.Locating
pub use Rattle.jsonpath_base.specs.documents.Confining
pub use Rattle.jsonpath_base.specs.documents.Masking
