-- What the public contracts of this crate cite of the crates below it, so that a caller names it here and lists this crate alone.
pub use Rattle.jsonpath_parser.specs.Errors
pub use Rattle.jsonpath_parser.specs.Equality
pub use Rattle.jsonpath_parser.specs.declared.errors.JsonPathError
pub use Rattle.jsonpath_parser.specs.tree.Syntax
pub use Rattle.jsonpath_parser.specs.tree.View
pub use Rattle.jsonpath_parser.specs.tree.Making
