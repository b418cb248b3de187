pub mod words
pub mod tree
