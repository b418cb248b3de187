pub mod Tree
pub mod Places
pub mod Steps
pub mod ConstantPrefix
pub mod Put
pub mod Added
pub mod Pointer
pub mod Lending
pub mod Without
pub mod Remaining
pub mod Overwritten
pub mod LocationSetViews
pub mod Values
pub mod Pattern
pub mod PatternViews
pub mod Engine
pub mod Same
pub mod SetFunctions
pub mod documents
pub mod Prelude
pub mod inner
-- What the public contracts of this crate cite of jsonpath_parser, so that a caller names it here and lists this crate alone.
pub use Rattle.jsonpath_parser.specs.Errors
pub use Rattle.jsonpath_parser.specs.Equality
pub use Rattle.jsonpath_parser.specs.Location
pub use Rattle.jsonpath_parser.specs.Normal
pub use Rattle.jsonpath_parser.specs.Slice
pub use Rattle.jsonpath_parser.specs.SliceSteps
pub use Rattle.jsonpath_parser.specs.Texts
pub use Rattle.jsonpath_parser.specs.declared.errors.JsonPathError
pub use Rattle.jsonpath_parser.specs.Derives
pub use Rattle.jsonpath_parser.specs.tree.Syntax
pub use Rattle.jsonpath_parser.specs.tree.View
pub use Rattle.jsonpath_parser.specs.tree.Typing
-- Files whose names are in both crates, by the crate.
pub use Rattle.jsonpath_parser.specs as parser
