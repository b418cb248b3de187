pub mod Lexical
pub mod Strings
pub mod Numbers
pub mod Depth
pub mod inner
