-- The definitions for the crate's own contracts and proofs. Nothing here is part of what a query means.
pub mod FilterValues
