pub mod DocTree
pub mod Turned
