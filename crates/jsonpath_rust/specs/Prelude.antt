-- The names that contracts and proofs import, one file for each part of the crate. Nothing is declared here.
pub mod Documents
pub mod Selection
pub mod States
pub mod Calls
