-- The definitions for the crate's own contracts and proofs. Nothing here is part of what a query means.
pub mod Following
pub mod Parts
pub mod Refusing
pub mod Singular
pub mod Size
pub mod Sought
pub mod Effort
pub mod Completing
pub mod WholeData
